-- Nothing is open at the number, and at each other number what was.
use Rattle.std.proofs.Common.{refl, sym, subst}
use Rattle.gb_ops.proofs.Maps.{covers_fewer, covers_none}
use Rattle.gb_ops.specs.Tables.{LeavesAs}
use Rattle.gb_ops.proofs.tables.Tables.leave.Goals as goal

pub returns-in_err-pending : goal.returns-in_err-pending
returns-in_err-pending c =
    subst (LeavesAs c.args.self.now _ c.args.n) (sym c.from_residual.ensures)
    (sym c.in_err-pending.ensures.request, c.in_err-pending.ensures.unchanged refl, refl, refl)

pub returns-then-is_empty : goal.returns-then-is_empty
returns-then-is_empty c = record {
  there = sym c.in_ok-pending.ensures.request;
  pending = c.in_ok-pending.ensures.removed;
  holders = refl;
  covered = λ k. covers_none c.remove.new.self _ (c.is_empty.ensures.empty c.if-is_empty.true);
}

pub returns-else-is_empty : goal.returns-else-is_empty
returns-else-is_empty c = record {
  there = sym c.in_ok-pending.ensures.request;
  pending = c.in_ok-pending.ensures.removed;
  holders = refl;
  covered =
      covers_fewer c.args.self.now.pending c.remove.new.self c.args.n _
      c.in_ok-pending.ensures.removed;
}
