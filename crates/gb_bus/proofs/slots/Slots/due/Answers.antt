-- None is due where none is open, and where no early one came they are in order.
use Rattle.std.proofs.Common.{IfOk, subst, sym}
use Rattle.gb_bus.proofs.SlotDeadlines.{none-due}
use Rattle.gb_bus.proofs.slots.Slots.due.Goals as goal
use Rattle.gb_bus.specs.Listing.{AreThose}
use Rattle.gb_bus.specs.Slots.{SlotsKept, is_due, slot_at}

pub returns-then-self-eq0 : goal.returns-then-self-eq0
returns-then-self-eq0 c =
    subst (AreThose (λ n. is_due c.args.now (slot_at c.args.self.now n))) (sym c.new.ensures)
    (none-due c.self.inside.slots c.self.inside.places c.self.inside.deadlines
    c.self.inside.tally c.args.now c.args.self.now c.self.invariant c.self.view_is
    c.if-self-eq0.true)

pub returns : goal.returns
returns c =
    subst (λ (x : SlotsKept).
    IfOk c.due_in_order.result (λ ns. AreThose (λ n. is_due c.args.now (slot_at x n)) ns))
    c.self.view_is c.due_in_order.ensures
