-- A routed interface has a device id alone.
use Rattle.std.proofs.Common.{◌≡◌, rules, refl, sym}
use Rattle.std.proofs.lemmas.Bool.{eqb-true}
use Rattle.gb_switch.specs.Levels.{level_number}
use Rattle.gb_switch.proofs.Ladders.{unrouted_from}
use Rattle.gb_switch.proofs.ladder.Ladder.unroute.Goals as goal

pub returns-clause-step : goal.returns-clause-step
returns-clause-step c = λ ports s.
    let six : level_number c.in-Some.port.level ≡ 6 =
    eqb-true (level_number c.in-Some.port.level) 6 (search rules) in
    unrouted_from c.args.self.now c.put.new.self c.args.intf c.in-Some.port _ ports s
    (sym c.in-Some.ensures) six c.put.ensures refl refl
