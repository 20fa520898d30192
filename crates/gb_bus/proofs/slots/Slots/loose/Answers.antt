-- The slot of the number has one name less.
use Rattle.std.proofs.Common.{◌≡◌, ◌-◌, None, Some, cond, false, rules, true, ap, refl, sym, ◌∙◌}
use Rattle.std.specs.Option.{option_copied_mut}
use Rattle.gb_bus.proofs.SlotKept.{IsThere, changed-kept, changed-moves, not-open}
use Rattle.gb_bus.proofs.slots.Slots.loose.Goals as goal
use Rattle.gb_bus.specs.Slots.{is_asked_for, loses_name, while_asked_for}
use Rattle.gb_bus.specs.declared.slots.Slot.{Slot}

pub invariant_of-self-then-not-is_asked_for : goal.invariant_of-self-then-not-is_asked_for
invariant_of-self-then-not-is_asked_for c =
    let there : IsThere c.self.inside.slots c.self.inside.places c.args.n c.in-Some.key
    c.in-Some-get_mut.slot.now = record {
      place = sym c.get.ensures ∙ c.in-Some.is;
      stands = sym c.get_mut.ensures.value ∙ ap option_copied_mut c.in-Some-get_mut.is;
    } in
    changed-kept c.self.inside.slots c.self.inside.places c.self.inside.deadlines
    c.self.inside.tally c.args.n c.in-Some.key c.in-Some-get_mut.slot.now _ c.self.invariant there
    refl refl refl (λ o a. a)

pub invariant_of-self-else-not-is_asked_for : goal.invariant_of-self-else-not-is_asked_for
invariant_of-self-else-not-is_asked_for c =
    let there : IsThere c.self.inside.slots c.self.inside.places c.args.n c.in-Some.key
    c.in-Some-get_mut.slot.now = record {
      place = sym c.get.ensures ∙ c.in-Some.is;
      stands = sym c.get_mut.ensures.value ∙ ap option_copied_mut c.in-Some-get_mut.is;
    } in
    changed-kept c.self.inside.slots c.self.inside.places c.self.inside.deadlines
    c.self.inside.tally c.args.n c.in-Some.key c.in-Some-get_mut.slot.now _ c.self.invariant there
    refl refl refl (λ o a. a)

pub let_go-requires-clause-over : goal.let_go-requires-clause-over
let_go-requires-clause-over c =
    let there : IsThere c.self.inside.slots c.self.inside.places c.args.n c.in-Some.key
    c.in-Some-get_mut.slot.now = record {
      place = sym c.get.ensures ∙ c.in-Some.is;
      stands = sym c.get_mut.ensures.value ∙ ap option_copied_mut c.in-Some-get_mut.is;
    } in
    let slot : Slot = record c.in-Some-get_mut.slot.now { names = c.saturating_sub-slot.result } in
    let unasked : is_asked_for slot ≡ false = search rules in
    not-open c.self.inside.slots c.self.inside.places c.self.inside.deadlines
    c.self.inside.tally c.args.n c.in-Some.key c.in-Some-get_mut.slot.now slot c.self.invariant
    there refl refl refl unasked

pub returns-else-not-is_asked_for : goal.returns-else-not-is_asked_for
returns-else-not-is_asked_for c =
    let there : IsThere c.self.inside.slots c.self.inside.places c.args.n c.in-Some.key
    c.in-Some-get_mut.slot.now = record {
      place = sym c.get.ensures ∙ c.in-Some.is;
      stands = sym c.get_mut.ensures.value ∙ ap option_copied_mut c.in-Some-get_mut.is;
    } in
    let slot : Slot = record c.in-Some-get_mut.slot.now { names = c.saturating_sub-slot.result } in
    let wanted : is_asked_for slot ≡ true = search rules in
    let less : c.in-Some-get_mut.slot.now.names - 1 ≡ c.saturating_sub-slot.result =
    sym c.saturating_sub-slot.ensures in
    changed-moves c.self.inside.slots c.self.inside.places c.self.inside.deadlines
    c.self.inside.tally c.args.n c.in-Some.key c.in-Some-get_mut.slot.now slot c.self.invariant
    there refl c.args.self.now c.self.inside.tally c.args.self.now.tally loses_name
    c.self.view_is
    (ap (λ m. while_asked_for (record slot { names = m })) less
    ∙ ap (λ b. cond b (Some slot) None) wanted)
    (ap (λ x. x.tally) c.self.view_is)
