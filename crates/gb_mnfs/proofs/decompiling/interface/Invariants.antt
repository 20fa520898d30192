-- The interface is among the descriptors that are left.
use Rattle.std.proofs.Common.{◌≡◌}
use Rattle.std.specs.List.{find}
use Rattle.gb_formats.specs.ManifestRules.{is_interface}
use Rattle.gb_mnfs.proofs.decompiling.interface.Given as goal

abbrev pub invariant-loop-d : goal.invariant-loop-d
invariant-loop-d l = record {
  can : (goal.iterator-loop-d).can_next l.d-iterator;
  finite : (goal.iterator-loop-d).is_finite l.d-iterator;
  left : find is_interface l.m.descriptors ≡ find is_interface l.d-iterator;
}
