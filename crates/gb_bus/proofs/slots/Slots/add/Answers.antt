-- A unidirectional request is counted.
use Rattle.gb_bus.proofs.SlotNew.{sent-kept}
use Rattle.gb_bus.proofs.slots.Slots.add.Goals as goal

pub invariant_of-self : goal.invariant_of-self
invariant_of-self c =
    sent-kept c.self.inside.slots c.self.inside.places c.self.inside.deadlines
    c.self.inside.tally c.add.new.self c.self.invariant c.add.ensures
