-- There is room for the interfaces not known yet, and they are known after those that are.
use Rattle.std.proofs.Common.{◌≡◌, ◌+◌, ◌≤◌, drop, length}
use Rattle.std.specs.Vec.{vec_capacity, vec_len}
use Rattle.gb_host.specs.Changes.{with_module}
use Rattle.gb_host.proofs.interfaces.add_all.Given as goal

abbrev pub invariant-loop-intf : goal.invariant-loop-intf
invariant-loop-intf l = record {
  room : vec_len l.known + length (drop l.intf-index l.intfs) ≤ vec_capacity l.known;
  known : with_module l.primary (drop l.intf-index l.intfs) l.known.items
      ≡ with_module l.primary l.intfs l.fn.known.items;
}
