-- The text so far and that of the descriptors that are left are the dump.
use Rattle.std.proofs.Common.{◌≡◌, ◌++◌}
use Rattle.std.specs.String.{string_bytes}
use Rattle.gb_formats.specs.Dump.{descriptors_text, dump_text}
use Rattle.gb_report.proofs.dump.dump_of.Given as goal

abbrev pub invariant-loop-d : goal.invariant-loop-d
invariant-loop-d l = record {
  can : (goal.iterator-loop-d).can_next l.d-iterator;
  finite : (goal.iterator-loop-d).is_finite l.d-iterator;
  whole : string_bytes l.dump ++ descriptors_text l.d-iterator ≡ dump_text l.m;
}
