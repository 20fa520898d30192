-- One end after the other gets the number.
use Rattle.gb_bus.proofs.KeepingLive.{gets}
use Rattle.gb_bus.proofs.end_numbers.set.Goals as goal

pub returns-in-Ok-clause-set : goal.returns-in-Ok-clause-set
returns-in-Ok-clause-set c =
    gets c.args.ends.now c.insert.new.self c.insert-2.new.self c.args.near c.args.far
    c.of-one.result c.of-other.result c.args.number c.of-one.ensures c.of-other.ensures
    c.requires.near c.requires.far c.in_ok-insert.ensures.updates.0 c.in-Ok.ensures.updates.0
