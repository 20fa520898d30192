-- Only who awaits a slot changes, where its request has ended.
use Rattle.std.proofs.Common.{◌≢◌, None, Some, ap, cond, false, refl, sym, ◌∙◌}
use Rattle.std.specs.Option.{option_copied_mut}
use Rattle.gb_bus.proofs.SlotKept.{IsThere, changed-kept, changed-moves}
use Rattle.gb_bus.proofs.SlotOver.{none-by, some-where}
use Rattle.gb_bus.proofs.slots.Slots.free.Goals as goal
use Rattle.gb_bus.specs.Slots.{forgets, key_at, while_asked_for}
use Rattle.gb_bus.specs.declared.slots.Slot.{Slot}

pub invariant_of-self-then-is_none : goal.invariant_of-self-then-is_none
invariant_of-self-then-is_none c =
    let there : IsThere c.self.inside.slots c.self.inside.places c.args.n c.args.key
    c.in-Some.slot.now = record {
      place = ap (λ x. key_at x c.args.n) c.self.view_is ∙ c.requires;
      stands = sym c.get_mut.ensures.value ∙ ap option_copied_mut c.in-Some.is;
    } in
    changed-kept c.self.inside.slots c.self.inside.places c.self.inside.deadlines
    c.self.inside.tally c.args.n c.args.key c.in-Some.slot.now _ c.self.invariant there
    refl refl refl (λ o a. a)

pub invariant_of-self-then-not-is_asked_for : goal.invariant_of-self-then-not-is_asked_for
invariant_of-self-then-not-is_asked_for c =
    let there : IsThere c.self.inside.slots c.self.inside.places c.args.n c.args.key
    c.in-Some.slot.now = record {
      place = ap (λ x. key_at x c.args.n) c.self.view_is ∙ c.requires;
      stands = sym c.get_mut.ensures.value ∙ ap option_copied_mut c.in-Some.is;
    } in
    let ended : c.in-Some.slot.now.outcome ≢ None =
    some-where c.in-Some.slot.now.outcome c.is_none.result c.is_none.ensures c.if-is_none.false in
    changed-kept c.self.inside.slots c.self.inside.places c.self.inside.deadlines
    c.self.inside.tally c.args.n c.args.key c.in-Some.slot.now _ c.self.invariant there
    refl refl refl (λ o a. absurd (ended o))

pub invariant_of-self-else-not-is_asked_for : goal.invariant_of-self-else-not-is_asked_for
invariant_of-self-else-not-is_asked_for c =
    let there : IsThere c.self.inside.slots c.self.inside.places c.args.n c.args.key
    c.in-Some.slot.now = record {
      place = ap (λ x. key_at x c.args.n) c.self.view_is ∙ c.requires;
      stands = sym c.get_mut.ensures.value ∙ ap option_copied_mut c.in-Some.is;
    } in
    let ended : c.in-Some.slot.now.outcome ≢ None =
    some-where c.in-Some.slot.now.outcome c.is_none.result c.is_none.ensures c.if-is_none.false in
    changed-kept c.self.inside.slots c.self.inside.places c.self.inside.deadlines
    c.self.inside.tally c.args.n c.args.key c.in-Some.slot.now _ c.self.invariant there
    refl refl refl (λ o a. absurd (ended o))

pub returns-then-is_none : goal.returns-then-is_none
returns-then-is_none c =
    let there : IsThere c.self.inside.slots c.self.inside.places c.args.n c.args.key
    c.in-Some.slot.now = record {
      place = ap (λ x. key_at x c.args.n) c.self.view_is ∙ c.requires;
      stands = sym c.get_mut.ensures.value ∙ ap option_copied_mut c.in-Some.is;
    } in
    let slot = c.in-Some.slot.now in
    changed-moves c.self.inside.slots c.self.inside.places c.self.inside.deadlines
    c.self.inside.tally c.args.n c.args.key slot slot c.self.invariant there refl c.args.self.now
    c.self.inside.tally c.args.self.now.tally forgets c.self.view_is
    (ap (λ b. cond b (Some slot) (while_asked_for (record slot { awaited = false })))
    (none-by slot.outcome c.is_none.result c.is_none.ensures ∙ c.if-is_none.true))
    (ap (λ x. x.tally) c.self.view_is)

pub returns-else-not-is_asked_for : goal.returns-else-not-is_asked_for
returns-else-not-is_asked_for c =
    let there : IsThere c.self.inside.slots c.self.inside.places c.args.n c.args.key
    c.in-Some.slot.now = record {
      place = ap (λ x. key_at x c.args.n) c.self.view_is ∙ c.requires;
      stands = sym c.get_mut.ensures.value ∙ ap option_copied_mut c.in-Some.is;
    } in
    let slot = c.in-Some.slot.now in
    let slot2 : Slot = record slot { awaited = false } in
    changed-moves c.self.inside.slots c.self.inside.places c.self.inside.deadlines
    c.self.inside.tally c.args.n c.args.key slot slot2 c.self.invariant there refl c.args.self.now
    c.self.inside.tally c.args.self.now.tally forgets c.self.view_is
    (ap (λ b. cond b (Some slot) (while_asked_for slot2))
    (none-by slot.outcome c.is_none.result c.is_none.ensures ∙ c.if-is_none.false)
    ∙ ap (λ b. cond b (Some slot2) None)
    (sym c.is_asked_for.ensures ∙ c.if-not-is_asked_for.false))
    (ap (λ x. x.tally) c.self.view_is)
