-- Histories of a bus that several callers share.
use Rattle.std.specs.Prelude.{◌≡◌, List, [], ◌∷◌, map}
use Rattle.gb_base.specs.declared.event.Event.{Event}
use Rattle.gb_base.specs.declared.journal.JournalEntry.{JournalEntry}
use Rattle.gb_machine.specs.Events.{step}
use Rattle.gb_machine.specs.State.{State}

-- the events of a history
abbrev pub events_of : List JournalEntry → List Event
events_of entries = map (λ e. e.event) entries

-- the state to which events lead
abbrev pub after : State → List Event → State
after s [] = s
after s (e ∷ es) = after (step s e).state es

-- A history leads from one state to another: each of its events in turn was answered as the machine
-- steps it.
abbrev pub IsLegal : State → List JournalEntry → State → Type 0
IsLegal s [] t = s ≡ t
IsLegal s (e ∷ es) t =
    (e.entries ≡ (step s e.event).entries) × IsLegal (step s e.event).state es t
