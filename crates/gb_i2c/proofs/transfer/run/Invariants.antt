-- The ops that are left do the rest of what all do.
use Rattle.gb_i2c.proofs.Running.{Runs}
use Rattle.gb_i2c.proofs.transfer.run.Given as goal

abbrev pub invariant-loop : goal.invariant-loop
invariant-loop l =
    Runs l.count l.counter l.initial.memory l.initial.ops l.initial.bytes l.initial.answer l.memory
    l.ops l.bytes l.answer
