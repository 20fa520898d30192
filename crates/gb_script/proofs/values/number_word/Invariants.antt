-- What has been read is the front of the number, of digits alone, and not above the greatest.
use Rattle.std.proofs.Common.{◌≡◌, ◌≤◌, drop}
use Rattle.std.specs.List.{list_all}
use Rattle.gb_formats.specs.WordValues.{is_digit, number_after, number_of}
use Rattle.gb_script.proofs.values.number_word.Given as goal

abbrev pub invariant-loop-b : goal.invariant-loop-b
invariant-loop-b l = record {
  read : number_after l.number (drop l.b-index l.word) ≡ number_of l.word;
  digits : list_all is_digit (drop l.b-index l.word) ≡ list_all is_digit l.word;
  small : l.number ≤ l.greatest;
}
