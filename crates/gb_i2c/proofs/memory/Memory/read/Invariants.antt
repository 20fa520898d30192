-- What is read so far and what the rest reads are what all reads.
use Rattle.gb_i2c.proofs.memory.Memory.read.Given as goal
use Rattle.gb_i2c.proofs.Places.{Midway}

abbrev pub invariant-loop : goal.invariant-loop
invariant-loop l =
    Midway l.count l.counter l.self-inside.bytes l.initial.place l.place l.initial.answer l.answer
