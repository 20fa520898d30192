use Rattle.std.proofs.Common.{◌≡◌, Bool, List, Some, true, ap, arith, length, subst}
use Rattle.std.specs.Arc.{arc_value}
use Rattle.std.specs.List.{slice_get}
use Rattle.gb_base.specs.declared.parts.Asked.{Asked}
use Rattle.gb_share.proofs.Partings.{few_lines}
use Rattle.gb_share.proofs.requester.Requester.new.Goals as goal

pub invariant_of-result : goal.invariant_of-result
invariant_of-result c = record {
  short = (let few = few_lines c.args.who (arc_value c.args.script.now) in
      let is = ap (λ (l : List Asked). length l) c.in_ok-lines.ensures in
      omega (arith, few, is, c.requires.few));
  within = (let none = ap (λ (ms : List Bool). length ms) c.new.ensures in omega (arith, none));
  asking = λ n l at mark.
      absurd (let m = subst (λ (ms : List Bool). slice_get ms n ≡ Some true) c.new.ensures mark in
      cc);
}
