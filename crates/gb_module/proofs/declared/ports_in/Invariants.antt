-- The CPorts so far and those of the descriptors that are left are all.
use Rattle.std.proofs.Common.{◌≡◌, ◌++◌}
use Rattle.gb_formats.specs.Module.{ports_in}
use Rattle.gb_module.proofs.declared.ports_in.Given as goal

abbrev pub invariant-loop-descriptor : goal.invariant-loop-descriptor
invariant-loop-descriptor l = record {
  can : (goal.iterator-loop-descriptor).can_next l.descriptor-iterator;
  finite : (goal.iterator-loop-descriptor).is_finite l.descriptor-iterator;
  whole : l.ports.items ++ ports_in l.descriptor-iterator ≡ ports_in l.fn.descriptors;
}
