-- What a pass knows and holds in its turn.
use Rattle.std.specs.Prelude.{◌≡◌, ℕ, ◌<◌, ◌≤◌, ◌⊎◌, Bool, true, false, List, [], ◌∷◌, length}
use Rattle.std.specs.Prelude.{Option, Some, None, Result, Ok, Err}
use mathlib.Core.List.{IsPrefix}
use Rattle.gb_base.specs.declared.event.Event.{Event}
use Rattle.gb_desk.specs.Rules.{IsOfSlot, Sound, all_parts}
use Rattle.gb_desk.specs.Slots.{IsEnded, IsOpen, slot_at}
use Rattle.gb_desk.specs.Steps.{IsClear, IsHeld, Knows, opening, taking}
use Rattle.gb_desk.specs.Tickets.{HasTicket, held}
use Rattle.gb_base.specs.declared.errors.OutOfMemory.{OutOfMemory}
use Rattle.gb_desk.specs.Turns.{Asked, Breaks, IsPassSpent, IsReady, IsSpent, is_broken}
use Rattle.gb_desk.specs.declared.desk_fault.DeskFault.{DeskFault}
use Rattle.gb_desk.specs.declared.desk_fault.DeskFault.TheVariants as fault
use Rattle.gb_desk.specs.declared.slots.Slot.{Slot}
use Rattle.gb_desk.specs.declared.stored.Stored.{Stored}
use Rattle.gb_desk.specs.declared.ticket.Opened.{Opened}
use Rattle.gb_desk.specs.declared.ticket.Ticket.{Ticket}
use Rattle.gb_desk.specs.declared.view.View.{View}
use Rattle.gb_laws.specs.Tickets.{asked_in}
use Rattle.gb_machine.specs.Members.{IsIn}
use Rattle.gb_system.specs.declared.system.System.{System}

-- A pass holds the turn, and what it took.
pub record HasTurn (it : Knows) : Type 0 where
  pub shared : Stored
  pub out : it.0.out ≡ Some shared
  pub me : it.1 ≡ (0, shared) ∷ []
  pub part : 0 < it.0.parts
  pub clear : it.0.clear ≡ None

-- What a free pass knew as it took the turn, and what it took.
pub record Start (v : View) (x : Stored) (first : System) : Type 0 where
  pub out : v.out ≡ None
  pub clear : v.clear ≡ None
  pub beside : v.beside ≡ []
  pub part : 0 < v.parts
  pub enough : length v.tickets ≤ v.parts
  pub is_first : v.first ≡ Some first
  pub seen : IsPrefix v.seen x.journal
  pub told : v.told ≡ true → is_broken x ≡ true
  pub tickets : (t : Ticket) → IsIn t v.tickets → IsOfSlot x.slots t
  pub sound : Sound first x

-- A pass that was free has taken the turn.
pub record HasStarted (it : Knows) : Type 0 where
  pub view : View
  pub shared : Stored
  pub first : System
  pub start : Start view shared first
  pub me : it ≡ (taking view shared, (0, shared) ∷ [])

-- whether a slot is free: no ticket of it was found; or it is open, or tickets of it were found
abbrev pub FreeAs : Stored → ℕ → Knows → Bool → Knows → Type 0
FreeAs x i me true me' = IsEnded (slot_at i x.slots) × IsClear i me me'
FreeAs x i me false me' = (IsOpen (slot_at i x.slots) × (me' ≡ me)) ⊎ IsHeld i x me me'

-- A slot is taken: its request is open, or tickets of it were found.
pub record IsTaken (x : Stored) (used : List ℕ) (i : ℕ) : Type 0 where
  pub slot : Slot
  pub there : slot_at i x.slots ≡ Some slot
  pub why : (slot.told ≡ None) ⊎ IsIn slot.number used

-- The slots below the i-th were found taken.
pub record Searched (v : View) (x : Stored) (i : ℕ) (it : Knows) : Type 0 where
  pub used : List ℕ
  pub me : it ≡ (record v { used = used }, (0, x) ∷ [])
  pub taken : (j : ℕ) → j < i → IsTaken x used j
  pub own : v.parts ≡ all_parts → (n : ℕ) → IsIn n used → HasTicket v.tickets n

-- A slot was found free.
pub record Found (v : View) (x : Stored) (i : ℕ) (it : Knows) : Type 0 where
  pub used : List ℕ
  pub me : it ≡ (record v { used = used; clear = Some i }, (0, x) ∷ [])
  pub within : i < 256
  pub ended : IsEnded (slot_at i x.slots)
  pub none : held i v.tickets ≡ 0

-- the search for a free slot
abbrev pub FindsAs : View → Stored → Option ℕ → Knows → Type 0
FindsAs v x (Some i) me = Found v x i me
FindsAs v x None me = Searched v x 256 me

-- what a pass knows and holds once a request, where there is one, got its slot and ticket
abbrev pub with_request : ℕ → Option ℕ → View → Stored → Stored → Knows
with_request i None v x y = (v, (0, y) ∷ [])
with_request i (Some n) v x y = (opening i n v x y, (0, y) ∷ [])

-- An event was done, and the request that it told got a free slot, and a ticket.
pub record AskedInTurn (v : View) (x : Stored) (by : ℕ) (e : Event) (o : Opened) (it : Knows)
    : Type 0 where
  pub at : ℕ
  pub after : Stored
  pub search : Knows
  pub found : Found v x at search
  pub asked : Asked x at by e o after
  pub me : it ≡ with_request at (asked_in o.entries) search.0 x after

-- No memory was found.
pub record BreaksInTurn (v : View) (x : Stored) (refused : OutOfMemory) (it : Knows)
    : Type 0 where
  pub after : Stored
  pub breaks : Breaks x refused after
  pub used : List ℕ
  pub clear : Option ℕ
  pub me : it ≡ (record v { used = used; clear = clear }, (0, after) ∷ [])

-- what an event that asks a request does in its turn
abbrev pub OpensAs : View → Stored → Bool → ℕ → Event → Result Opened DeskFault → Knows → Type 0
OpensAs v x spent by e (Ok o) me = IsReady x spent × AskedInTurn v x by e o me
OpensAs v x spent by e (Err fault.Full) me = IsReady x spent × Searched v x 256 me
OpensAs v x spent by e (Err fault.JournalSpent) me = IsSpent x × (me ≡ (v, (0, x) ∷ []))
OpensAs v x spent by e (Err fault.PassSpent) me =
    IsPassSpent x spent × (me ≡ (v, (0, x) ∷ []))
OpensAs v x spent by e (Err (fault.Memory refused)) me = BreaksInTurn v x refused me
OpensAs v x spent by e (Err fault.Busy) me = ⊥
