use Rattle.std.proofs.Common.{arith, refl, subst, sym, ◌∙◌, ◌≡◌, ◌∷◌}
use Rattle.atomic_table.specs.Table.{rest}
use Rattle.gb_desk.proofs.Freeing.{free_met}
use Rattle.gb_desk.proofs.Telling.{free_then, leave_held, tells}
use Rattle.gb_desk.proofs.Turning.{take}
use Rattle.gb_desk.specs.Steps.{Knows}
use Rattle.gb_desk.proofs.seat.ask.Goals as goal

pub compare_exchange-requires : goal.compare_exchange-requires
compare_exchange-requires c =
    (c.requires.own, (let many = c.requires.size.0 in omega arith), take _ _ _ _ c.requires.free)

pub returns-then-compare_exchange-ne0-clause-free :
    goal.returns-then-compare_exchange-ne0-clause-free
returns-then-compare_exchange-ne0-clause-free c =
    free_met _ _ _ c.requires.free
    (c.compare_exchange.ensures.2.1 c.if-compare_exchange-ne0.true)

pub slot_mut-requires : goal.slot_mut-requires
slot_mut-requires c =
    let took = c.compare_exchange.ensures.2.0 c.if-compare_exchange-ne0.false in (
      c.compare_exchange.ensures.0 ∙ c.requires.own,
      (
        took.shared,
        subst (λ (m : Knows). m.1 ≡ (0, took.shared) ∷ rest m.1) (sym took.me) refl,
      ),
    )

pub store-requires : goal.store-requires
store-requires c =
    let took = c.compare_exchange.ensures.2.0 c.if-compare_exchange-ne0.false in (
      c.compare_exchange.ensures.0 ∙ c.requires.own,
      (let many = c.requires.size.0 in omega arith),
      leave_held _ _ _ c.args.seat.now.me.0 c.compare_exchange.new.seat.me c.slot_mut.result.now
          c.requires.free.part took c.slot_mut.ensures.value,
    )

pub returns-clause-free : goal.returns-clause-free
returns-clause-free c =
    let took = c.compare_exchange.ensures.2.0 c.if-compare_exchange-ne0.false in
    free_then c.args.seat.now.me.1 c.args.seat.now.me.0 c.compare_exchange.new.seat.me
    c.store.new.seat.me c.slot_mut.result.now c.requires.free took c.slot_mut.ensures.value
    c.store.ensures.2

pub returns-clause-tells : goal.returns-clause-tells
returns-clause-tells c =
    let took = c.compare_exchange.ensures.2.0 c.if-compare_exchange-ne0.false in
    tells c.args.seat.now.me.1 c.args.seat.now.me.0 c.compare_exchange.new.seat.me
    c.store.new.seat.me c.slot_mut.result.now c.args.t.now c.told-told.result c.requires.free took
    c.slot_mut.ensures.value c.store.ensures.2 c.requires.held c.told-told.ensures
