use Rattle.std.proofs.Common.{◌∙◌}
use Rattle.gb_desk.proofs.Searching.{found_by, has_turn_still, more_by}
use Rattle.gb_desk.proofs.seat.free_slot.Goals as goal

pub is_free-requires-clause-turn : goal.is_free-requires-clause-turn
is_free-requires-clause-turn c =
    let t = c.requires.turn in
    has_turn_still c.args.seat.now.me.0 t.shared c.loop-at.at c.loop-at.seat.me t.out t.part t.clear
    (c.loop-at.invariant.searched t.shared t.out)

pub returns-then-is_free-clause-found : goal.returns-then-is_free-clause-found
returns-then-is_free-clause-found c = λ x out.
    found_by c.args.seat.now.me.0 x c.loop-at.at c.is_free.result c.loop-at.seat.me
    c.is_free.new.seat.me c.loop-at-test.true out (c.loop-at.invariant.searched x out)
    c.is_free.ensures.free c.if-is_free.true

pub loop-at-preserved : goal.loop-at-preserved
loop-at-preserved c = record {
  own = c.is_free.ensures.own.0 ∙ c.loop-at.invariant.own;
  id = c.is_free.ensures.own.1 ∙ c.loop-at.invariant.id;
  searched = λ x out.
      more_by c.args.seat.now.me.0 x c.loop-at.at c.is_free.result c.loop-at.seat.me
      c.is_free.new.seat.me out (c.loop-at.invariant.searched x out) c.is_free.ensures.free
      c.if-is_free.false;
}
