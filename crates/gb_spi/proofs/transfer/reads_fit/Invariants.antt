use Rattle.std.proofs.Common.{length}
use Rattle.gb_formats.specs.Results.{most_payload}
use Rattle.gb_formats.specs.SpiRecords.{entry_read_size}
use Rattle.gb_spi.specs.Sizes.{entries_in}
use Rattle.gb_spi.proofs.Weights.{Weighed}
use Rattle.gb_spi.proofs.transfer.reads_fit.Given as goal

abbrev pub invariant-loop-entry : goal.invariant-loop-entry
invariant-loop-entry l = Weighed entry_read_size most_payload l.room (entries_in l.entries) l.left

abbrev pub decreases-loop-entry : goal.decreases-loop-entry
decreases-loop-entry l = length l.left
