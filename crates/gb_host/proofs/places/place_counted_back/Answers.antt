-- The connection at the place has the number.
use Rattle.std.proofs.Common.{rules}
use Rattle.gb_host.proofs.PlaceNumbers.{rises-at}
use Rattle.gb_host.proofs.places.place_counted_back.Goals as goal

pub returns-then-places-place-clause-first : goal.returns-then-places-place-clause-first
returns-then-places-place-clause-first c = λ rises.
    rises-at c.args.connection c.args.places.now c.saturating_sub-place.result _
    (search rules) c.if-places-place.true rises
