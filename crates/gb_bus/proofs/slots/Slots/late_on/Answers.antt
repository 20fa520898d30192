-- The numbers that are listed are those of the side.
use Rattle.std.proofs.Common.{refl, subst}
use Rattle.gb_bus.proofs.SlotLists.{slots-listed}
use Rattle.gb_bus.specs.Keeping.{kept_in}
use Rattle.gb_bus.specs.Listing.{AreThose}
use Rattle.gb_bus.specs.Slots.{SlotsKept, is_late_on, slot_at}
use Rattle.gb_bus.proofs.slots.Slots.late_on.Goals as goal

pub returns : goal.returns
returns c =
    let e = c.in_ok-numbers.ensures in
    subst (λ (x : SlotsKept).
    AreThose (λ n. is_late_on c.args.k c.args.side (slot_at x n)) c.in_ok-numbers.numbers)
    c.self.view_is
    (slots-listed (kept_in c.self.inside.slots c.self.inside.places c.self.inside.tally)
    (is_late_on c.args.k c.args.side) c.in_ok-numbers.numbers refl e.unique e.sorted e.numbers)
