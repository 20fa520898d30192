use Rattle.std.proofs.Common.{arith, refl, subst, sym, ◌∙◌, ◌≡◌, ◌∷◌}
use Rattle.atomic_table.specs.Table.{rest}
use Rattle.gb_desk.specs.Steps.{Knows}
use Rattle.gb_desk.proofs.Calling.{called, called_hand, free_after, give_in_hand}
use Rattle.gb_desk.proofs.Freeing.{free_met}
use Rattle.gb_desk.proofs.Turning.{take}
use Rattle.gb_desk.proofs.seat.enter.Goals as goal

pub compare_exchange-requires : goal.compare_exchange-requires
compare_exchange-requires c =
    (c.requires.own, (let many = c.requires.size.0 in omega arith), take _ _ _ _ c.requires.free)

pub returns-then-compare_exchange-ne0-clause-free :
    goal.returns-then-compare_exchange-ne0-clause-free
returns-then-compare_exchange-ne0-clause-free c =
    free_met _ _ _ c.requires.free
    (c.compare_exchange.ensures.2.1 c.if-compare_exchange-ne0.true)

pub slot_mut-requires : goal.slot_mut-requires
slot_mut-requires c =
    let took = c.compare_exchange.ensures.2.0 c.if-compare_exchange-ne0.false in (
      c.compare_exchange.ensures.0 ∙ c.requires.own,
      (
        took.shared,
        subst (λ (m : Knows). m.1 ≡ (0, took.shared) ∷ rest m.1) (sym took.me) refl,
      ),
    )

pub store-requires : goal.store-requires
store-requires c =
    let took = c.compare_exchange.ensures.2.0 c.if-compare_exchange-ne0.false in (
      c.compare_exchange.ensures.0 ∙ c.requires.own,
      (let many = c.requires.size.0 in omega arith),
      give_in_hand _ _ _ _ (called_hand c.args.seat.now.me.1 c.args.seat.now.me.0
          c.compare_exchange.new.seat.me _ _ c.args.by c.args.e.now c.turn-answer.result
          c.requires.free c.requires.valid c.requires.plain took c.slot_mut.ensures.value
          c.turn-answer.ensures.turn),
    )

pub returns-clause-free : goal.returns-clause-free
returns-clause-free c =
    let took = c.compare_exchange.ensures.2.0 c.if-compare_exchange-ne0.false in
    free_after c.args.seat.now.me.1 c.args.seat.now.me.0 c.compare_exchange.new.seat.me
    c.store.new.seat.me _ _ c.requires.free took c.slot_mut.ensures.value c.store.ensures.2

pub returns-clause-calls : goal.returns-clause-calls
returns-clause-calls c =
    let took = c.compare_exchange.ensures.2.0 c.if-compare_exchange-ne0.false in
    called c.args.seat.now.me.1 c.args.seat.now.me.0 c.compare_exchange.new.seat.me
    c.store.new.seat.me _ _ c.args.by c.args.e.now c.turn-answer.result c.requires.free
    c.requires.valid c.requires.plain took
    c.slot_mut.ensures.value c.turn-answer.ensures.turn c.store.ensures.2
