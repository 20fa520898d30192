-- What has been read is the front of the number.
use Rattle.std.proofs.Common.{◌≡◌, ◌<◌, drop}
use Rattle.gb_formats.specs.SourceValues.{hex_after}
use Rattle.gb_mnfs.proofs.HexNumbers.{above}
use Rattle.gb_mnfs.proofs.number.four_digits.Given as goal

abbrev pub invariant-loop-d : goal.invariant-loop-d
invariant-loop-d l = record {
  read : hex_after l.number (drop l.d-index l.digits) ≡ hex_after 0 l.digits;
  bound : l.number < above l.d-index;
}
