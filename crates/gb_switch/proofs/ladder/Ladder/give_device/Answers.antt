-- A device id is refused for four reasons.
use Rattle.std.proofs.Common.{rules, ◌≡◌, ◌<◌, true, false, arith, subst, sym, ap, ◌∙◌, inl, inr}
use Rattle.std.proofs.Common.{eqb, ltb, length}
use Rattle.gb_switch.specs.Climbing.{HasOther}
use Rattle.std.proofs.lemmas.Bool.{le-ltb}
use Rattle.gb_machine.specs.Ports.{is_elsewhere, level_of}
use Rattle.gb_machine.specs.SvcTable.{is_no_device}
use Rattle.gb_switch.proofs.Climbs.{any_of_four, elsewhere_is, given, none_of_four, refused}
use Rattle.gb_switch.proofs.Ladders.{level_is}
use Rattle.gb_switch.proofs.Slots.{plugged_within}
use Rattle.gb_switch.proofs.ladder.Ladder.give_device.Goals as goal

pub returns-then-is_routed-clause-step : goal.returns-then-is_routed-clause-step
returns-then-is_routed-clause-step c = λ ports s.
    let i = c.args.intf in
    let d = c.args.device in
    let there = c.in_ok-port.ensures.0 in
    let no : is_no_device i d ports ≡ true =
    any_of_four (ltb d 2) (ltb 31 d) (is_elsewhere i d ports) (eqb (level_of i ports) 6)
    (elim c.then-is_routed.branch [
      | goal.then-is_routed-via-then-is_routed w ↦
          inr (inr (inr (ap (λ n. eqb n 6)
          (level_is c.args.self.now i c.in_ok-port.port ports s there)
          ∙ search rules)))
      | goal.then-is_routed-via-else-is_routed+then-is_elsewhere w ↦
          inr (inr (inl (elsewhere_is c.args.self.now i d true ports s
          (subst (HasOther c.args.self.now i d) w.if-is_elsewhere.true w.is_elsewhere.ensures))))
    ]) in
    refused c.args.self.now i d c.in_ok-port.port ports s there c.in_ok-port.ensures.1 no

pub put-requires : goal.put-requires
put-requires c =
    let within : c.args.intf < length c.args.self.now.ports =
    plugged_within c.args.self.now c.args.intf c.in_ok-port.port c.in_ok-port.ensures.0 in
    let slots : length c.args.self.now.ports ≡ 32 = search rules in
    omega (arith, within, slots)

pub returns-clause-step : goal.returns-clause-step
returns-clause-step c = λ ports s.
    let i = c.args.intf in
    let d = c.args.device in
    let there = c.in_ok-port.ensures.0 in
    let can : is_no_device i d ports ≡ false =
    none_of_four (ltb d 2) (ltb 31 d) (is_elsewhere i d ports) (eqb (level_of i ports) 6)
    (le-ltb d 2 c.if-device-lt-LEAST_DEVICE.false)
    (le-ltb 31 d c.if-device-gt-GREATEST_DEVICE.false)
    (elsewhere_is c.args.self.now i d false ports s
    (subst (HasOther c.args.self.now i d) c.if-is_elsewhere.false c.is_elsewhere.ensures))
    (ap (λ n. eqb n 6) (level_is c.args.self.now i c.in_ok-port.port ports s there)
    ∙ (sym c.is_routed.ensures ∙ c.if-is_routed.false)) in
    given c.args.self.now c.put.new.self i d c.in_ok-port.port ports s there c.in_ok-port.ensures.1
    can c.put.ensures
