-- What a call does with the system and its history, in its turn.
use Rattle.std.specs.Prelude.{◌≡◌, ℕ, ◌+◌, ◌<◌, ◌≤◌, Bool, true, false, List, [], ◌∷◌, ◌++◌}
use Rattle.std.specs.Prelude.{Result, Ok, Err, Option, Some, None, is_some, option_map}
use Rattle.std.specs.Prelude.{slice_set}
use Rattle.gb_base.specs.declared.entry.Entry.{Entry}
use Rattle.gb_base.specs.declared.errors.OutOfMemory.{OutOfMemory}
use Rattle.gb_base.specs.declared.event.Event.{Event}
use Rattle.gb_base.specs.declared.journal.JournalEntry.{JournalEntry}
use Rattle.gb_desk.specs.declared.desk_fault.DeskFault.{DeskFault}
use Rattle.gb_desk.specs.declared.desk_fault.DeskFault.TheVariants as fault
use Rattle.gb_desk.specs.declared.stored.Stored.{Stored}
use Rattle.gb_desk.specs.Slots.{all_noted, new_slot}
use Rattle.gb_desk.specs.Tickets.{ticket}
use Rattle.gb_desk.specs.declared.ticket.Opened.{Opened}
use Rattle.gb_laws.specs.Tickets.{asked_in}
use Rattle.gb_machine.specs.Events.{step}
use Rattle.gb_machine.specs.State.{State}
use Rattle.gb_system.specs.Stands.{Stands, taken_of}

-- an entry of the history
abbrev pub entry_of : ℕ → Event → List Entry → JournalEntry
entry_of by e entries = record { by = by; event = e; entries = entries }

-- The event was done as the machine does it, and stands at the end of the history. The slots know
-- what its entries tell.
pub record Done (x : Stored) (by : ℕ) (e : Event) (entries : List Entry) (y : Stored) : Type 0 where
  pub journal : y.journal ≡ x.journal ++ entry_of by e entries ∷ []
  pub slots : y.slots ≡ all_noted entries x.slots
  pub taken : taken_of y.system ≡ taken_of x.system + 1
  pub steps : (s : State) → Stands x.system s
      → (entries ≡ (step s e).entries) × Stands y.system (step s e).state

-- what is shared once a request, where there is one, got a slot
abbrev pub with_new : ℕ → Option ℕ → Stored → Stored
with_new at None x = x
with_new at (Some n) x = record x { slots = slice_set x.slots at (Some (new_slot n)) }

-- the event was done; or no memory was found, and the history and the slots are as before
abbrev pub AddsAs : Stored → ℕ → Event → Result (List Entry) OutOfMemory → Stored → Type 0
AddsAs x by e (Ok entries) y = Done x by e entries y
AddsAs x by e (Err refused) y = (y.journal ≡ x.journal) × (y.slots ≡ x.slots)

-- an event found no memory
abbrev pub is_broken : Stored → Bool
is_broken x = is_some x.broken

-- An event was done.
pub record Enters (x : Stored) (by : ℕ) (e : Event) (entries : List Entry) (y : Stored)
    : Type 0 where
  pub done : Done x by e entries y
  pub before : is_broken x ≡ false
  pub after : is_broken y ≡ false
  pub room : taken_of x.system < 4294967295

-- No memory was found, now or earlier. From then on what was refused is kept.
pub record Breaks (x : Stored) (refused : OutOfMemory) (y : Stored) : Type 0 where
  pub journal : y.journal ≡ x.journal
  pub slots : y.slots ≡ x.slots
  pub after : y.broken ≡ Some refused
  pub room : is_broken x ≡ false → taken_of x.system < 4294967295

-- what an event that may be done does
abbrev pub TriesAs : Stored → ℕ → Event → Result (List Entry) DeskFault → Stored → Type 0
TriesAs x by e (Ok entries) y = Enters x by e entries y
TriesAs x by e (Err (fault.Memory refused)) y = Breaks x refused y
TriesAs x by e (Err fault.Busy) y = ⊥
TriesAs x by e (Err fault.JournalSpent) y = ⊥
TriesAs x by e (Err fault.PassSpent) y = ⊥
TriesAs x by e (Err fault.Full) y = ⊥

-- The system takes no more events.
pub record IsSpent (x : Stored) : Type 0 where
  pub whole : is_broken x ≡ false
  pub taken : 4294967295 ≤ taken_of x.system

-- The system takes an event more, but the pass has no part left for a ticket.
pub record IsPassSpent (x : Stored) (none_left : Bool) : Type 0 where
  pub whole : is_broken x ≡ false
  pub room : taken_of x.system < 4294967295
  pub spent : none_left ≡ true

-- The system takes an event more.
pub record IsReady (x : Stored) (none_left : Bool) : Type 0 where
  pub whole : is_broken x ≡ false
  pub room : taken_of x.system < 4294967295
  pub unspent : none_left ≡ false

-- what keeps a pass from an event in its turn, None where nothing does
abbrev pub BarsAs : Stored → Bool → Option DeskFault → Type 0
BarsAs x spent None = IsReady x spent
BarsAs x spent (Some (fault.Memory refused)) = x.broken ≡ Some refused
BarsAs x spent (Some fault.JournalSpent) = IsSpent x
BarsAs x spent (Some fault.PassSpent) = IsPassSpent x spent
BarsAs x spent (Some fault.Busy) = ⊥
BarsAs x spent (Some fault.Full) = ⊥

-- what a call does in its turn, by its answer
abbrev pub TurnsAs : Stored → ℕ → Event → Result (List Entry) DeskFault → Stored → Type 0
TurnsAs x by e (Ok entries) y = Enters x by e entries y
TurnsAs x by e (Err fault.Busy) y = ⊥
TurnsAs x by e (Err fault.PassSpent) y = ⊥
TurnsAs x by e (Err fault.Full) y = ⊥
TurnsAs x by e (Err fault.JournalSpent) y = IsSpent x × (y ≡ x)
TurnsAs x by e (Err (fault.Memory refused)) y = Breaks x refused y

-- An event was done, and told a request, which got a slot and a ticket; or it told none.
pub record Asked (x : Stored) (at by : ℕ) (e : Event) (o : Opened) (y : Stored) : Type 0 where
  pub after : Stored
  pub enters : Enters x by e o.entries after
  pub ticket : o.ticket ≡ option_map (ticket at) (asked_in o.entries)
  pub left : y ≡ with_new at (asked_in o.entries) after

-- what an event that asks a request does in its turn, where a slot is free
abbrev pub AsksInTurn : Stored → ℕ → ℕ → Event → Result Opened DeskFault → Stored → Type 0
AsksInTurn x at by e (Ok o) y = Asked x at by e o y
AsksInTurn x at by e (Err (fault.Memory refused)) y = Breaks x refused y
AsksInTurn x at by e (Err fault.Busy) y = ⊥
AsksInTurn x at by e (Err fault.JournalSpent) y = ⊥
AsksInTurn x at by e (Err fault.PassSpent) y = ⊥
AsksInTurn x at by e (Err fault.Full) y = ⊥
