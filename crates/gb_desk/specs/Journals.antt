-- An event of a history as a reader sees it.
use Rattle.gb_base.specs.declared.journal.JournalEntry.{JournalEntry}
use Rattle.gb_desk.specs.declared.journal.PastEvent.{PastEvent}

-- the event of a history that this is
abbrev pub past_of : PastEvent → JournalEntry
past_of e = record { by = e.by; event = e.event.now; entries = e.entries.now }
