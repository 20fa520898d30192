-- Nothing is kept.
use Rattle.std.proofs.Common.{[], subst, sym}
use Rattle.gb_bus.proofs.SlotNew.{none-kept}
use Rattle.gb_bus.proofs.slots.Slots.new.Goals as goal
use Rattle.gb_bus.specs.Keeping.{IsKept, Places}
use Rattle.gb_bus.specs.declared.tally.Tally.{Tally}

pub invariant_of-result : goal.invariant_of-result
invariant_of-result c =
    subst (λ (p : Places). IsKept c.new.result p c.new-3.result c.none.result)
    (sym c.new-2.ensures)
    (subst (λ (t : Tally). IsKept c.new.result [] c.new-3.result t) (sym c.none.ensures)
    (none-kept c.new.result c.new-3.result c.new.ensures.empty c.new-3.ensures))
