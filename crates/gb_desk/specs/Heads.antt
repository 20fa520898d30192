-- A history, of which the entries of all events stand in one list.
use Rattle.std.specs.Prelude.{◌≡◌, ◌≤◌, ℕ, List, [], ◌∷◌, drop, length, take}
use Rattle.gb_base.specs.declared.entry.Entry.{Entry}
use Rattle.gb_base.specs.declared.journal.JournalEntry.{JournalEntry}
use Rattle.gb_desk.specs.declared.journal.Head.{Head}

-- each event with its own entries
abbrev pub cut : List Head → List Entry → List JournalEntry
cut [] es = []
cut (h ∷ hs) es =
    record { by = h.by; event = h.event; entries = take h.count es } ∷ cut hs (drop h.count es)

-- the events have these entries, and no others stand behind theirs
abbrev pub AreCut : List Head → List Entry → Type 0
AreCut [] es = es ≡ []
AreCut (h ∷ hs) es = (h.count ≤ length es) × AreCut hs (drop h.count es)
