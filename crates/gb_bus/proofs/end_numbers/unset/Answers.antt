-- One end after the other loses its number.
use Rattle.gb_bus.proofs.KeepingLive.{loses}
use Rattle.gb_bus.proofs.end_numbers.unset.Goals as goal

pub returns : goal.returns
returns c =
    loses c.args.ends.now c.remove.new.self c.remove-2.new.self c.args.near c.args.far c.of.result
    c.of-2.result c.of.ensures c.of-2.ensures c.remove.ensures.updates.0
    c.remove-2.ensures.updates.0
