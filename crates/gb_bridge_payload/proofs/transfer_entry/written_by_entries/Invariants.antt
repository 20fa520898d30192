-- What is written so far and what the rest writes are what all entries write.
use Rattle.gb_formats.specs.SpiRecords.{entry_size}
use Rattle.gb_bridge_payload.proofs.SpiLaws.{entries_weight}
use Rattle.gb_bridge_payload.proofs.Transfers.{Counted}
use Rattle.gb_bridge_payload.proofs.transfer_entry.written_by_entries.Given as goal

abbrev pub invariant-loop : goal.invariant-loop
invariant-loop l =
    Counted entry_size entries_weight 4294967295 l.count l.counter l.size l.entries l.rest
