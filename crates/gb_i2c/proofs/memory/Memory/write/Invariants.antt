-- What the rest stores makes what all stores.
use Rattle.std.proofs.Common.{◌≡◌, drop}
use Rattle.gb_formats.specs.I2cDevice.{after_stored}
use Rattle.gb_i2c.proofs.memory.Memory.write.Given as goal

abbrev pub invariant-loop-byte : goal.invariant-loop-byte
invariant-loop-byte l =
    after_stored l.self (drop l.byte-index l.rest) ≡ after_stored l.initial.self l.rest
