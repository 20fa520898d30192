-- The counts are those of the machine's requests.
use Rattle.std.proofs.Common.{subst, sym}
use Rattle.gb_bus.specs.Counting.{Tells}
use Rattle.gb_bus.proofs.bus.Bus.tally.Goals as goal

pub returns : goal.returns
returns c = λ around b s. subst (λ t. Tells t b) (sym c.tally.ensures) s.shows.tally
