-- Each byte so far holds its place.
use Rattle.std.proofs.Common.{◌≡◌, length, take}
use Rattle.gb_formats.specs.I2cDevice.{counted_from}
use Rattle.gb_i2c.proofs.memory.Memory.first.Given as goal

abbrev pub invariant-loop-place : goal.invariant-loop-place
invariant-loop-place l = record {
  size : length l.bytes ≡ 256;
  front : take l.place l.bytes ≡ counted_from 0 l.place;
}
