-- The slot of the number has one more name.
use Rattle.std.proofs.Common.{Some, ap, sym, ◌∙◌}
use Rattle.std.specs.Option.{option_copied_mut}
use Rattle.gb_bus.proofs.SlotKept.{IsThere, changed-kept, changed-moves}
use Rattle.gb_bus.proofs.slots.Slots.keep.Goals as goal
use Rattle.gb_bus.specs.Slots.{gets_name}

pub invariant_of-self-2 : goal.invariant_of-self-2
invariant_of-self-2 c =
    let there : IsThere c.self.inside.slots c.self.inside.places c.args.n c.in-Some.key
    c.in-Some-get_mut.slot.now = record {
      place = sym c.get.ensures ∙ c.in-Some.is;
      stands = sym c.get_mut.ensures.value ∙ ap option_copied_mut c.in-Some-get_mut.is;
    } in
    changed-kept c.self.inside.slots c.self.inside.places c.self.inside.deadlines
    c.self.inside.tally c.args.n c.in-Some.key c.in-Some-get_mut.slot.now _ c.self.invariant there
    (ap (λ x. x.number) c.add_name.ensures) (ap (λ x. x.deadline) c.add_name.ensures)
    (ap (λ x. x.outcome) c.add_name.ensures)
    (λ o a. ap (λ x. x.awaited) c.add_name.ensures ∙ a)

pub returns : goal.returns
returns c =
    let there : IsThere c.self.inside.slots c.self.inside.places c.args.n c.in-Some.key
    c.in-Some-get_mut.slot.now = record {
      place = sym c.get.ensures ∙ c.in-Some.is;
      stands = sym c.get_mut.ensures.value ∙ ap option_copied_mut c.in-Some-get_mut.is;
    } in
    changed-moves c.self.inside.slots c.self.inside.places c.self.inside.deadlines
    c.self.inside.tally c.args.n c.in-Some.key c.in-Some-get_mut.slot.now _ c.self.invariant there
    (ap (λ x. x.number) c.add_name.ensures) c.args.self.now c.self.inside.tally
    c.args.self.now.tally gets_name c.self.view_is (ap Some (sym c.add_name.ensures))
    (ap (λ x. x.tally) c.self.view_is)
