-- What is left of the entries has a strange one where all of them have.
use Rattle.std.proofs.Common.{◌≡◌, length}
use Rattle.std.specs.List.{list_any}
use Rattle.gb_formats.specs.SpiDevice.{is_strange}
use Rattle.gb_spi.specs.Sizes.{entries_in}
use Rattle.gb_spi.proofs.transfer.is_any_strange.Given as goal

abbrev pub invariant-loop-entry : goal.invariant-loop-entry
invariant-loop-entry l = list_any is_strange (entries_in l.entries) ≡ list_any is_strange l.left

abbrev pub decreases-loop-entry : goal.decreases-loop-entry
decreases-loop-entry l = length l.left
