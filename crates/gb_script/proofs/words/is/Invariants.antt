-- The bytes before this one are the same.
use Rattle.std.proofs.Common.{◌≡◌, drop, length}
use Rattle.std.specs.Str.{bytes_eq}
use Rattle.gb_script.proofs.words.is.Given as goal

abbrev pub invariant-loop-i : goal.invariant-loop-i
invariant-loop-i l = record {
  even : length l.bytes ≡ length l.word;
  read : bytes_eq (drop l.i l.word) (drop l.i l.bytes) ≡ bytes_eq l.word l.bytes;
}
