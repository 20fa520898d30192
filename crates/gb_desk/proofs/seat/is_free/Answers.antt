use Rattle.std.proofs.Common.{◌≡◌, ◌∷◌, arith, refl, subst, sym}
use Rattle.atomic_table.specs.Table.{rest}
use Rattle.gb_desk.proofs.Looking.{look}
use Rattle.gb_desk.proofs.Searching.{looked_at, test_true}
use Rattle.gb_desk.proofs.seat.is_free.Goals as goal

pub slot_mut-requires : goal.slot_mut-requires
slot_mut-requires c =
    let t = c.requires.turn in
    (c.requires.own, (t.shared, subst (λ l. l ≡ (0, t.shared) ∷ rest l) (sym t.me) refl))

pub load-requires : goal.load-requires
load-requires c = (
  c.requires.own,
  (let many = c.requires.size.0 in let low = c.requires.slot in omega arith),
  look _ _ _ c.args.seat.now.me.0 _ c.args.at c.requires.turn.shared c.requires.turn.out
      c.requires.turn.clear c.requires.turn.part c.requires.slot,
)

pub returns-clause-free : goal.returns-clause-free
returns-clause-free c = λ y out.
    looked_at c.args.seat.now.me c.load.new.seat.me c.slot_mut.result.now y c.args.at c.load.result
    c.requires.turn c.slot_mut.ensures.value out
    (test_true _ _ _ c.is_ended-ended.ensures c.if-not-ended.false) c.load.ensures.2
