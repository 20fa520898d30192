use Rattle.std.proofs.Common.{[], length}
use Rattle.gb_formats.specs.SpiDevice.{entries_run}
use Rattle.gb_spi.specs.Sizes.{entries_in}
use Rattle.gb_spi.proofs.Runs.{Running}
use Rattle.gb_spi.proofs.transfer.run.Given as goal

abbrev pub invariant-loop-entry : goal.invariant-loop-entry
invariant-loop-entry l =
    Running (entries_run l.fn.last l.bytes [] (entries_in l.entries)) l.progress.last l.later
    l.progress.read l.left

abbrev pub decreases-loop-entry : goal.decreases-loop-entry
decreases-loop-entry l = length l.left
