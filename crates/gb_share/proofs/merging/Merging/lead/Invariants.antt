-- Some requesters have no full line next.
use Rattle.std.proofs.Common.{◌≡◌, List}
use Rattle.gb_base.specs.declared.journal.JournalEntry.{JournalEntry}
use Rattle.gb_base.specs.declared.parts.Asked.{Asked}
use Rattle.gb_machine.specs.State.{State}
use Rattle.gb_share.specs.Placing.{HasOpened}
use Rattle.gb_share.proofs.Placings.{HasBegun}
use Rattle.gb_share.proofs.merging.Merging.lead.Given as goal

abbrev pub invariant-loop-who : goal.invariant-loop-who
invariant-loop-who l = record {
  hex : l.self.hex ≡ l.initial.self.hex;
  begun : (asked : List Asked) (entries : List JournalEntry) (last : State)
      → HasOpened asked l.initial.self entries last → HasBegun asked l.self entries last l.who;
}
