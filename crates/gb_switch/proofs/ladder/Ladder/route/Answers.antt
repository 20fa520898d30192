-- A route leads to an interface that has its device id.
use Rattle.std.proofs.Common.{rules, ◌≡◌, ◌≤◌, true, subst, sym, ap, ◌∙◌, option_and_then, Some, []}
use Rattle.gb_switch.specs.Levels.{PutsAt, raised_to}
use Rattle.gb_machine.specs.Host.{is_device}
use Rattle.gb_machine.specs.Ports.{device_of, level_of}
use Rattle.gb_machine.specs.SvcTable.{is_route}
use Rattle.gb_switch.proofs.Climbs.{a_route, climbed, risen}
use Rattle.gb_switch.proofs.Ladders.{device_is, level_is}
use Rattle.gb_switch.specs.declared.port.Level.TheVariants as level
use Rattle.gb_switch.specs.declared.port.Port.{Port}
use Rattle.gb_switch.proofs.ladder.Ladder.route.Goals as goal

pub returns-clause-step : goal.returns-clause-step
returns-clause-step c = λ ports s.
    let there = c.in_ok-port.ensures.0 in
    let high : 5 ≤ level_of c.args.intf ports =
    subst (λ m. 5 ≤ m) (sym (level_is c.args.self.now c.args.intf c.in_ok-port.port ports s there))
    c.in_ok-port.ensures.1 in
    let has : is_device c.args.device (device_of c.args.intf ports) ≡ true =
    ap (is_device c.args.device)
    (device_is c.args.self.now c.args.intf ports s
    ∙ ap (option_and_then (λ (p : Port). p.device)) there)
    ∙ search rules in
    let put : PutsAt c.args.self.now c.put.new.self c.args.intf
    (Some (raised_to level.Routed c.in_ok-port.port)) =
    subst (λ q. PutsAt c.args.self.now c.put.new.self c.args.intf (Some q)) c.raised.ensures
    c.put.ensures in
    climbed c.put.new.self (is_route 1 1 c.args.intf c.args.device ports) c.args.intf 6 [] ports
    (a_route c.args.intf c.args.device ports high has)
    (risen c.args.self.now c.put.new.self c.args.intf level.Named level.Routed ports s
    record { port = c.in_ok-port.port; there = there; enough = c.in_ok-port.ensures.1; put = put })
