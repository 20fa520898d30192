-- Some full lines were placed.
use Rattle.std.proofs.Common.{◌≡◌, ◌≢◌, ℕ, List, length}
use Rattle.gb_base.specs.declared.journal.JournalEntry.{JournalEntry}
use Rattle.gb_base.specs.declared.parts.Asked.{Asked}
use Rattle.gb_machine.specs.State.{State}
use Rattle.gb_share.specs.Placing.{GrowsFull, Stands, left}
use Rattle.gb_share.proofs.merging.Merging.skip.Given as goal

abbrev pub invariant-loop-next : goal.invariant-loop-next
invariant-loop-next l = record {
  hex : l.self.hex ≡ l.initial.self.hex;
  stands : (asked : List Asked) (entries : List JournalEntry) (last : State)
      → Stands asked l.initial.self entries last → Stands asked l.self entries last;
  others : (r : ℕ) → r ≢ l.who → left l.self r ≡ left l.initial.self r;
  order : GrowsFull l.who l.initial.self.order.items l.self.order.items;
}

abbrev pub decreases-loop-next : goal.decreases-loop-next
decreases-loop-next l = length (left l.self l.who)
