-- The last number is no greater than the new one.
use Rattle.gb_host.proofs.PlaceNumbers.{rises-to}
use Rattle.gb_host.proofs.places.rises_to.Goals as goal

pub returns : goal.returns
returns c = λ there says rises.
    rises-to c.args.places.now (record { link = c.args.link; there = there }) _ says rises
