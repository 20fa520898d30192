-- The text so far and the sections that are left are the whole.
use Rattle.std.proofs.Common.{◌≡◌, ◌++◌}
use Rattle.std.specs.List.{flat_map}
use Rattle.std.specs.String.{string_bytes}
use Rattle.gb_formats.specs.SourceTexts.{bundle_in, bundle_lines, lines_text}
use Rattle.gb_mnfs.proofs.decompiling.put_bundles.Given as goal

abbrev pub invariant-loop-d : goal.invariant-loop-d
invariant-loop-d l = record {
  can : (goal.iterator-loop-d).can_next l.d-iterator;
  finite : (goal.iterator-loop-d).is_finite l.d-iterator;
  whole :
      string_bytes l.text ++ lines_text (flat_map bundle_lines (flat_map bundle_in l.d-iterator))
      ≡ string_bytes l.fn.text
      ++ lines_text (flat_map bundle_lines (flat_map bundle_in l.m.descriptors));
}
