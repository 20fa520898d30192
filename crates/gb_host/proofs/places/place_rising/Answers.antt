-- No connection has a number below that of the first.
use Rattle.std.proofs.Common.{sym}
use Rattle.gb_host.proofs.PlaceNumbers.{below-first}
use Rattle.gb_host.proofs.places.place_rising.Goals as goal

pub returns-then-connection-places-clause-first : goal.returns-then-connection-places-clause-first
returns-then-connection-places-clause-first c = λ rises.
    sym (below-first c.args.connection c.args.places.now _ c.if-connection-places.true rises)
