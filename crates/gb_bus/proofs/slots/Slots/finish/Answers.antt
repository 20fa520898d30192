-- An open request ends, and its deadline is let go of.
use Rattle.std.proofs.Common.{◌≡◌, None, ap, refl, sym, ◌∙◌}
use Rattle.std.specs.Option.{option_copied_mut}
use Rattle.std.specs.Option.{is_none}
use Rattle.gb_bus.proofs.KeepingLive.{none-there}
use Rattle.gb_bus.proofs.SlotKept.{IsThere, changed-kept, ended-kept, some-open}
use Rattle.gb_bus.proofs.SlotOver.{moves-open, moves-over, none-where, open-there, over-nowhere}
use Rattle.gb_bus.proofs.SlotOver.{stays-over}
use Rattle.gb_bus.proofs.slots.Slots.finish.Goals as goal

pub returns-in_default-clause-was_open : goal.returns-in_default-clause-was_open
returns-in_default-clause-was_open c =
    sym (over-nowhere c.self.inside.slots c.self.inside.places c.self.inside.tally c.args.n
    c.args.self.now c.self.view_is
    (sym c.get.ensures ∙ c.in_default.is))

pub returns-in_default-clause-moves : goal.returns-in_default-clause-moves
returns-in_default-clause-moves c =
    stays-over c.args.n c.args.how c.args.self.now
    (over-nowhere c.self.inside.slots c.self.inside.places c.self.inside.tally c.args.n
    c.args.self.now c.self.view_is
    (sym c.get.ensures ∙ c.in_default.is))

pub invariant_of-self-then-is_some : goal.invariant_of-self-then-is_some
invariant_of-self-then-is_some c =
    let there : IsThere c.self.inside.slots c.self.inside.places c.args.n c.in-Some.key
    c.in-Some-get_mut.slot.now = record {
      place = sym c.get.ensures ∙ c.in-Some.is;
      stands = sym c.get_mut.ensures.value ∙ ap option_copied_mut c.in-Some-get_mut.is;
    } in
    changed-kept c.self.inside.slots c.self.inside.places c.self.inside.deadlines
    c.self.inside.tally c.args.n c.in-Some.key c.in-Some-get_mut.slot.now
    c.in-Some-get_mut.slot.now c.self.invariant there refl refl refl (λ o a. a)

pub returns-then-is_some-clause-was_open : goal.returns-then-is_some-clause-was_open
returns-then-is_some-clause-was_open c =
    let there : IsThere c.self.inside.slots c.self.inside.places c.args.n c.in-Some.key
    c.in-Some-get_mut.slot.now = record {
      place = sym c.get.ensures ∙ c.in-Some.is;
      stands = sym c.get_mut.ensures.value ∙ ap option_copied_mut c.in-Some-get_mut.is;
    } in
    sym (open-there c.self.inside.slots c.self.inside.places c.self.inside.tally c.args.n
    c.in-Some.key c.in-Some-get_mut.slot.now c.args.self.now c.self.view_is there
    ∙ none-where c.in-Some-get_mut.slot.now.outcome c.is_some.result c.is_some.ensures
    c.if-is_some.true)

pub returns-then-is_some-clause-moves : goal.returns-then-is_some-clause-moves
returns-then-is_some-clause-moves c =
    let there : IsThere c.self.inside.slots c.self.inside.places c.args.n c.in-Some.key
    c.in-Some-get_mut.slot.now = record {
      place = sym c.get.ensures ∙ c.in-Some.is;
      stands = sym c.get_mut.ensures.value ∙ ap option_copied_mut c.in-Some-get_mut.is;
    } in
    moves-over c.self.inside.slots c.self.inside.places c.self.inside.deadlines
    c.self.inside.tally c.args.n c.in-Some.key c.in-Some-get_mut.slot.now c.self.invariant there
    c.args.how c.args.self.now c.self.view_is
    (none-where c.in-Some-get_mut.slot.now.outcome c.is_some.result c.is_some.ensures
    c.if-is_some.true)

pub end-requires-clause-open : goal.end-requires-clause-open
end-requires-clause-open c =
    let there : IsThere c.self.inside.slots c.self.inside.places c.args.n c.in-Some.key
    c.in-Some-get_mut.slot.now = record {
      place = sym c.get.ensures ∙ c.in-Some.is;
      stands = sym c.get_mut.ensures.value ∙ ap option_copied_mut c.in-Some-get_mut.is;
    } in
    let unended : c.in-Some-get_mut.slot.now.outcome ≡ None =
    none-there c.in-Some-get_mut.slot.now.outcome c.is_some.result c.is_some.ensures
    c.if-is_some.false in
    some-open c.self.inside.slots c.self.inside.places c.self.inside.deadlines
    c.self.inside.tally c.args.n c.in-Some.key c.in-Some-get_mut.slot.now
    c.in-Some-get_mut.slot.now c.self.invariant there refl c.remove.new.self unended

pub invariant_of-self-2 : goal.invariant_of-self-2
invariant_of-self-2 c =
    let there : IsThere c.self.inside.slots c.self.inside.places c.args.n c.in-Some.key
    c.in-Some-get_mut.slot.now = record {
      place = sym c.get.ensures ∙ c.in-Some.is;
      stands = sym c.get_mut.ensures.value ∙ ap option_copied_mut c.in-Some-get_mut.is;
    } in
    let unended : c.in-Some-get_mut.slot.now.outcome ≡ None =
    none-there c.in-Some-get_mut.slot.now.outcome c.is_some.result c.is_some.ensures
    c.if-is_some.false in
    ended-kept c.self.inside.slots c.self.inside.places c.self.inside.deadlines
    c.self.inside.tally c.args.n c.in-Some.key c.in-Some-get_mut.slot.now _ c.self.invariant there
    (ap (λ x. x.number) c.give_up.ensures) c.remove.new.self unended c.args.how
    c.next_first-self-inside.result c.end.new.self (ap (λ x. x.outcome) c.give_up.ensures)
    c.remove.ensures c.next_first-self-inside.ensures c.end.ensures

pub returns-clause-was_open : goal.returns-clause-was_open
returns-clause-was_open c =
    let there : IsThere c.self.inside.slots c.self.inside.places c.args.n c.in-Some.key
    c.in-Some-get_mut.slot.now = record {
      place = sym c.get.ensures ∙ c.in-Some.is;
      stands = sym c.get_mut.ensures.value ∙ ap option_copied_mut c.in-Some-get_mut.is;
    } in
    let unended : c.in-Some-get_mut.slot.now.outcome ≡ None =
    none-there c.in-Some-get_mut.slot.now.outcome c.is_some.result c.is_some.ensures
    c.if-is_some.false in
    sym (open-there c.self.inside.slots c.self.inside.places c.self.inside.tally c.args.n
    c.in-Some.key c.in-Some-get_mut.slot.now c.args.self.now c.self.view_is there
    ∙ ap is_none unended)

pub returns-clause-moves : goal.returns-clause-moves
returns-clause-moves c =
    let there : IsThere c.self.inside.slots c.self.inside.places c.args.n c.in-Some.key
    c.in-Some-get_mut.slot.now = record {
      place = sym c.get.ensures ∙ c.in-Some.is;
      stands = sym c.get_mut.ensures.value ∙ ap option_copied_mut c.in-Some-get_mut.is;
    } in
    let unended : c.in-Some-get_mut.slot.now.outcome ≡ None =
    none-there c.in-Some-get_mut.slot.now.outcome c.is_some.result c.is_some.ensures
    c.if-is_some.false in
    moves-open c.self.inside.slots c.self.inside.places c.self.inside.deadlines
    c.self.inside.tally c.args.n c.in-Some.key c.in-Some-get_mut.slot.now c.self.invariant there
    c.args.how c.args.self.now c.self.view_is _ c.end.new.self unended c.give_up.ensures
    c.end.ensures
