-- The numbers found and the places not looked at give all.
use Rattle.std.proofs.Common.{◌≡◌, [], drop}
use Rattle.slab.specs.Slab.{get}
use Rattle.gb_bus.specs.Keeping.{numbers_where}
use Rattle.gb_bus.specs.Slots.{is_listed_on}
use Rattle.gb_bus.proofs.listing.listed_among.Given as goal

abbrev pub invariant-loop-number : goal.invariant-loop-number
invariant-loop-number l =
    numbers_where (λ key. is_listed_on l.which l.k l.side (get l.slots key)) l.found.keys
    (drop l.number-index l.number-items)
    ≡ numbers_where (λ key. is_listed_on l.which l.k l.side (get l.slots key)) [] l.places
