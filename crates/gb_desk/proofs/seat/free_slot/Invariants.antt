use Rattle.std.proofs.Common.{◌≡◌, Some}
use Rattle.gb_desk.specs.InTurn.{Searched}
use Rattle.gb_desk.specs.declared.stored.Stored.{Stored}
use Rattle.gb_desk.proofs.seat.free_slot.Given as goal

-- the slots below this one were found taken
abbrev pub invariant-loop-at : goal.invariant-loop-at
invariant-loop-at l = record {
  own : l.seat.table_id ≡ l.fn.seat.table_id;
  id : l.seat.id ≡ l.fn.seat.id;
  searched : (x : Stored) → l.fn.seat.me.0.out ≡ Some x
      → Searched l.fn.seat.me.0 x l.at l.seat.me;
}
