-- What each call on a desk does to what its pass knows.
use Rattle.std.specs.Prelude.{◌≡◌, ◌≢◌, ℕ, ◌+◌, ◌<◌, ◌≤◌, ◌⊎◌, true, false, List, [], ◌∷◌}
use Rattle.std.specs.Prelude.{◌++◌, length, Option, Some, None, Result, Ok, Err}
use mathlib.Core.List.{IsPrefix}
use Rattle.gb_base.specs.declared.entry.Entry.{Entry}
use Rattle.gb_base.specs.declared.event.Event.{Event}
use Rattle.gb_base.specs.declared.journal.JournalEntry.{JournalEntry}
use Rattle.gb_base.specs.declared.refusal.Refusal.{Refusal}
use Rattle.gb_desk.specs.declared.desk_fault.Busy.{Busy}
use Rattle.gb_desk.specs.declared.desk_fault.DeskFault.{DeskFault}
use Rattle.gb_desk.specs.declared.desk_fault.DeskFault.TheVariants as fault
use Rattle.gb_desk.specs.declared.desk_fault.PassSpent.{PassSpent}
use Rattle.gb_desk.specs.declared.slots.Told.{Told}
use Rattle.gb_desk.specs.declared.ticket.Opened.{Opened}
use Rattle.gb_desk.specs.declared.ticket.Ticket.{Ticket}
use Rattle.gb_desk.specs.declared.view.View.{View}
use Rattle.gb_desk.specs.Rules.{all_parts, once_below}
use Rattle.gb_desk.specs.Slots.{requests_in, times, told_by}
use Rattle.gb_desk.specs.Tickets.{HasTicket}
use Rattle.gb_desk.specs.Steps.{ArePlaces, Knows, both, longer, met}
use Rattle.gb_desk.specs.Turns.{entry_of}
use Rattle.gb_machine.specs.Journal.{IsLegal, after, events_of}
use Rattle.gb_laws.specs.Tickets.{asked_in}
use Rattle.gb_machine.specs.Bus.{next_number, outcome_of}
use Rattle.gb_machine.specs.Members.{IsIn}
use Rattle.gb_machine.specs.Refusals.{refusal}
use Rattle.gb_machine.specs.State.{State}
use Rattle.gb_system.specs.Stands.{Stands, taken_of}
use Rattle.gb_system.specs.declared.system.System.{System}

-- what the first pass of a desk knows
abbrev pub first_view : System → View
first_view x = record {
  seen = [];
  beside = [];
  mine = [];
  parts = all_parts;
  met = 0;
  cuts = 0;
  told = false;
  tickets = [];
  used = [];
  clear = None;
  first = Some x;
  out = None;
}

-- A pass between calls holds no turn, and has a part. It holds no more tickets than it has parts.
pub record IsFree (me : Knows) : Type 0 where
  pub rests : me.1 ≡ []
  pub out : me.0.out ≡ None
  pub clear : me.0.clear ≡ None
  pub beside : me.0.beside ≡ []
  pub part : 0 < me.0.parts
  pub enough : length me.0.tickets ≤ me.0.parts
  pub within : (t : Ticket) → IsIn t me.0.tickets → t.slot < 256

-- the history is legal from each state that the first system stands for
abbrev pub IsLegalFrom : Option System → List JournalEntry → Type 0
IsLegalFrom first journal = (x : System) → first ≡ Some x → (s : State) → Stands x s
    → IsLegal s journal (after s (events_of journal))

-- what was seen is such a history
abbrev pub HasLegal : View → Type 0
HasLegal v = IsLegalFrom v.first v.seen

-- what holds of the number of events that the system took, those of the history with those before
abbrev pub OfTaken : (ℕ → Type 0) → View → Type 0
OfTaken holds v = (x : System) → v.first ≡ Some x → holds (taken_of x + length v.seen)

-- ---- events

-- The event stands at the end of one history, which begins with what the pass had seen. Its place
-- is a new one of the pass.
pub record Entered (v : View) (by : ℕ) (e : Event) (entries : List Entry) (w : View)
    : Type 0 where
  pub before : List JournalEntry
  pub begins : IsPrefix v.seen before
  pub seen : w.seen ≡ before ++ entry_of by e entries ∷ []
  pub mine : w.mine ≡ v.mine ++ length before ∷ []
  pub places : ArePlaces w
  pub legal : IsLegalFrom w.first w.seen
  pub taken : OfTaken (λ n. n ≤ 4294967295) w
  pub untold : v.told ≡ false
  pub rest : w ≡ record v {
    seen = w.seen;
    mine = w.mine;
    used = w.used;
    tickets = w.tickets;
  }

-- It was busy, which a pass with all parts never is. Nothing changed but the count of this.
pub record MetAnother (v : View) (w : View) : Type 0 where
  pub rest : w ≡ met v
  pub parts : v.parts ≢ all_parts

-- The history so far was seen, which is as long as it can get.
pub record SawSpent (v : View) (w : View) : Type 0 where
  pub seen : IsPrefix v.seen w.seen
  pub legal : IsLegalFrom w.first w.seen
  pub taken : OfTaken (λ n. 4294967295 ≤ n) w
  pub untold : v.told ≡ false
  pub rest : w ≡ record v { seen = w.seen; used = w.used }

-- The history so far was seen, and the pass knows of want of memory.
pub record WasTold (v : View) (w : View) : Type 0 where
  pub seen : IsPrefix v.seen w.seen
  pub legal : IsLegalFrom w.first w.seen
  pub taken : OfTaken (λ n. n < 4294967295) w
  pub rest : w ≡ record v { seen = w.seen; told = true; used = w.used }

-- what an event does to what its pass knows, by the answer
abbrev pub CallsAs : View → ℕ → Event → Result (List Entry) DeskFault → View → Type 0
CallsAs v by e (Ok entries) w = Entered v by e entries w × (w.tickets ≡ v.tickets)
CallsAs v by e (Err fault.Busy) w = MetAnother v w
CallsAs v by e (Err fault.JournalSpent) w = SawSpent v w
CallsAs v by e (Err fault.PassSpent) w = ⊥
CallsAs v by e (Err fault.Full) w = ⊥
CallsAs v by e (Err (fault.Memory refused)) w = WasTold v w

-- ---- requests

-- a fact of the state to which a history leads, from each state that the first system stands for
abbrev pub OfState : Option System → List JournalEntry → (State → Type 0) → Type 0
OfState first journal holds = (x : System) → first ≡ Some x → (s : State) → Stands x s
    → holds (after s (events_of journal))

-- The event was refused where there is no ticket; else the ticket is of the request that it made.
abbrev pub IsTicketOf : State → Event → List Entry → Option Ticket → Type 0
IsTicketOf t e entries None = (why : Refusal) × (refusal t e ≡ Some why)
IsTicketOf t e entries (Some k) = (refusal t e ≡ None) × (asked_in entries ≡ Some k.number)
    × (k.number ≡ next_number t.bus)

-- tickets with one more, where there is one
abbrev pub with_ticket : Option Ticket → List Ticket → List Ticket
with_ticket None ts = ts
with_ticket (Some t) ts = t ∷ ts

-- There are 256 requests of a history that are each open or so.
pub record AreTaken (t : State) (journal : List JournalEntry) (so : ℕ → Type 0) : Type 0 where
  pub numbers : List ℕ
  pub enough : 256 ≤ length numbers
  pub once : (n : ℕ) → times n numbers ≤ 1
  pub each : (n : ℕ) → IsIn n numbers
      → IsIn n (requests_in journal) × ((outcome_of n t.bus ≡ None) ⊎ so n)

-- The event stands at the end of one history. Its request, where it made one, got a ticket. To a
-- pass with all parts this comes only where no 256 requests are open or have a ticket.
pub record EnteredWith (v : View) (by : ℕ) (e : Event) (o : Opened) (w : View) : Type 0 where
  pub entered : Entered v by e o.entries w
  pub tickets : w.tickets ≡ with_ticket o.ticket v.tickets
  pub room : length v.tickets < v.parts
  pub ticket : OfState w.first entered.before (λ t. IsTicketOf t e o.entries o.ticket)
  pub free : v.parts ≡ all_parts
      → OfState w.first entered.before
      (λ t. AreTaken t entered.before (HasTicket v.tickets) → ⊥)

-- The pass holds as many tickets as it has parts.
pub record SawPassSpent (v : View) (w : View) : Type 0 where
  pub seen : IsPrefix v.seen w.seen
  pub legal : IsLegalFrom w.first w.seen
  pub taken : OfTaken (λ n. n < 4294967295) w
  pub untold : v.told ≡ false
  pub spent : length v.tickets ≡ v.parts
  pub rest : w ≡ record v { seen = w.seen; used = w.used }

-- There are 256 requests of which each is open, or is counted as found with a ticket. Those that a
-- pass with all parts counts have tickets of its own.
pub record SawFull (v : View) (w : View) : Type 0 where
  pub seen : IsPrefix v.seen w.seen
  pub legal : IsLegalFrom w.first w.seen
  pub taken : OfTaken (λ n. n < 4294967295) w
  pub untold : v.told ≡ false
  pub room : length v.tickets < v.parts
  pub full : OfState w.first w.seen (λ t. AreTaken t w.seen (λ n. IsIn n w.used))
  pub own : v.parts ≡ all_parts → (n : ℕ) → IsIn n w.used → HasTicket v.tickets n
  pub rest : w ≡ record v { seen = w.seen; used = w.used }

-- what an event that asks a request does to what its pass knows, by the answer
abbrev pub AsksAs : View → ℕ → Event → Result Opened DeskFault → View → Type 0
AsksAs v by e (Ok o) w = EnteredWith v by e o w
AsksAs v by e (Err fault.Busy) w = MetAnother v w
AsksAs v by e (Err fault.JournalSpent) w = SawSpent v w
AsksAs v by e (Err fault.PassSpent) w = SawPassSpent v w
AsksAs v by e (Err fault.Full) w = SawFull v w
AsksAs v by e (Err (fault.Memory refused)) w = WasTold v w

-- how many tickets come with an answer
abbrev pub tickets_given : Result Opened DeskFault → ℕ
tickets_given (Ok o) = length (with_ticket o.ticket [])
tickets_given (Err fault) = 0

-- ---- tickets

-- The history so far was seen, and the outcome of a request after it: there is none exactly where
-- it is open.
pub record WasAnswered (v : View) (n : ℕ) (told : Option Told) (w : View) : Type 0 where
  pub seen : IsPrefix v.seen w.seen
  pub legal : IsLegalFrom w.first w.seen
  pub told_is : OfState w.first w.seen (λ t. told_by (outcome_of n t.bus) ≡ told)
  pub open_is : OfState w.first w.seen (λ t. told ≡ None → outcome_of n t.bus ≡ None)
  pub rest : w ≡ record v { seen = w.seen; used = w.used }

-- what is told of a ticket's request, by the answer
abbrev pub TellsAs : View → ℕ → Result (Option Told) Busy → View → Type 0
TellsAs v n (Ok told) w = WasAnswered v n told w
TellsAs v n (Err refused) w = MetAnother v w

-- one more ticket of a request, unless the pass holds as many as it has parts
abbrev pub RetainsAs : View → Ticket → Result Ticket PassSpent → View → Type 0
RetainsAs v t (Ok u) w =
    (u ≡ t) × (w ≡ record v { tickets = t ∷ v.tickets }) × (length v.tickets < v.parts)
RetainsAs v t (Err refused) w = (w ≡ v) × (length v.tickets ≡ v.parts)

-- ---- passes

-- The longer of two beginnings of the history stays, and both are beginnings of it.
pub record JoinedTo (v : View) (w : View) (u : View) : Type 0 where
  pub this : IsPrefix v.seen u.seen
  pub that : IsPrefix w.seen u.seen
  pub rest : u ≡ record (both v w) { seen = longer v.seen w.seen; beside = [] }

-- ---- the end

-- The history is legal and begins with what the pass had seen. Each of its places is one that the
-- pass has as its own. Where no event found no memory the system stands for the state after it.
pub record Closes (v : View) (system : System) (journal : List JournalEntry) : Type 0 where
  pub seen : IsPrefix v.seen journal
  pub places : (n : ℕ) → times n v.mine ≡ once_below n (length journal)
  pub legal : IsLegalFrom v.first journal
  pub stands : v.told ≡ false → (x : System) → v.first ≡ Some x → (s : State) → Stands x s
      → Stands system (after s (events_of journal))
  pub taken : v.told ≡ false → (x : System) → v.first ≡ Some x
      → taken_of system ≡ taken_of x + length journal
