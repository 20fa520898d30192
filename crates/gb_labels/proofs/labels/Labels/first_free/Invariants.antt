-- All identifiers from the first one on up to where it looks next are in use.
use Rattle.std.proofs.Common.{◌≤◌, ◌+◌, ◌*◌, ◌<◌}
use Rattle.gb_labels.specs.Drawing.{AreUsed}
use Rattle.gb_base.specs.Marks.{is_marked}
use Rattle.gb_labels.proofs.labels.Labels.first_free.Given as goal

abbrev pub invariant-loop-i : goal.invariant-loop-i
invariant-loop-i l =
    (l.from < 64) × (l.start ≤ l.i * 64 + l.from)
    × AreUsed (is_marked l.self.words) l.start (l.i * 64 + l.from)
