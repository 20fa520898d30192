use Rattle.gb_desk.proofs.SlotLists.{kept_new}
use Rattle.gb_desk.proofs.slots.Slots.new.Goals as goal

pub invariant_of-result : goal.invariant_of-result
invariant_of-result c = kept_new
