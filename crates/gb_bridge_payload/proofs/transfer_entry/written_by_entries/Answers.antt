use Rattle.std.proofs.Common.{rules, ap, ◌∙◌}
use Rattle.gb_formats.specs.SpiRecords.{entry_size, entry_written_size}
use Rattle.gb_bridge_payload.proofs.SpiLaws.{are_entries, entry_weight, entries_weight}
use Rattle.gb_bridge_payload.proofs.Transfers.{counted_more}
use Rattle.gb_bridge_payload.proofs.transfer_entry.written_by_entries.Goals as goal

pub loop-preserved : goal.loop-preserved
loop-preserved c =
    counted_more entry_size entry_weight entries_weight 4294967295 c.args.count c.loop.counter
    c.loop.size c.written_size.result c.args.entries.now c.loop.rest.now _ are_entries
    (search rules) c.first.ensures.rest
    (c.written_size.ensures ∙ ap entry_written_size c.first.ensures.entry) (search rules)
    c.loop.invariant
