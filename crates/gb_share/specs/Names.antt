-- The names that a pass has for its tickets, and those of the machine.
use Rattle.std.specs.Prelude.{◌≡◌, ◌<◌, ℕ, suc, Bool, true, false, if◌then◌else◌, Option, Some}
use Rattle.std.specs.Prelude.{None, option_map, List, [], ◌∷◌, length, map, Result, Ok, Err}
use Rattle.gb_base.specs.declared.entry.Entry.{Entry}
use Rattle.gb_base.specs.declared.entry.Entry.TheVariants as entry
use Rattle.gb_base.specs.declared.event.Event.{Event}
use Rattle.gb_base.specs.declared.event.Event.TheVariants as event
use Rattle.gb_base.specs.declared.name.Name.{Name}
use Rattle.gb_desk.specs.Calls.{AreTaken, Entered, EnteredWith, OfState, SawFull}
use Rattle.gb_desk.specs.Rules.{all_parts}
use Rattle.gb_desk.specs.Tickets.{HasTicket}
use Rattle.gb_desk.specs.declared.desk_fault.DeskFault.{DeskFault}
use Rattle.gb_desk.specs.declared.desk_fault.DeskFault.TheVariants as fault
use Rattle.gb_desk.specs.declared.ticket.Ticket.{Ticket}
use Rattle.gb_desk.specs.declared.view.View.{View}
use Rattle.gb_machine.specs.AskingEvents.{asks}
use Rattle.gb_machine.specs.Events.{step}
use Rattle.gb_machine.specs.Names.{same_name}
use Rattle.gb_machine.specs.State.{State}
use Rattle.gb_share.specs.Tickets.{with_held}
use Rattle.gb_share.specs.declared.hand.Held.{Held}
use Rattle.gb_system.specs.NameOrder.{AreApart}

-- ---- the names of a pass

-- the place of a name
abbrev pub place_of : Name → List Held → Option ℕ
place_of name [] = None
place_of name (h ∷ hs) =
    if same_name h.name name then Some 0 else option_map suc (place_of name hs)

-- the ticket of a name
abbrev pub ticket_by : Name → List Held → Option Ticket
ticket_by name [] = None
ticket_by name (h ∷ hs) = if same_name h.name name then Some h.ticket else ticket_by name hs

-- names without one of them
abbrev pub without_name : Name → List Held → List Held
without_name name [] = []
without_name name (h ∷ hs) = if same_name h.name name then hs else h ∷ without_name name hs

-- the names with the requests of their tickets
abbrev pub names_of : List Held → List (Name × ℕ)
names_of hs = map (λ (h : Held). (h.name, h.ticket.number)) hs

-- No two names are one, and they have tickets of the requests that they name in a state.
pub record AreNames (t : State) (hs : List Held) : Type 0 where
  pub names : t.names ≡ names_of hs
  pub apart : AreApart t.names

-- ---- what becomes of them

-- an event that is done changes names: it is a send, a bridge line, a copy or a drop
abbrev pub changes_names : Event → Bool
changes_names (event.Send name to kind payload timeout) = true
changes_names (event.Bridge name i c what) = true
changes_names (event.Copy from to) = true
changes_names (event.Forget name) = true
changes_names _ = false

-- whether an event was done, by its entries
abbrev pub is_done : List Entry → Bool
is_done [] = false
is_done (entry.Done ∷ es) = true
is_done (_ ∷ es) = false

-- The event of a send or a bridge line stands at the end of one history, and its name has the
-- ticket of its request, where it made one.
pub record Opens (v : View) (hs : List Held) (by : ℕ) (e : Event) (name : Name)
    (entries : List Entry) (w : View) (ks : List Held) : Type 0 where
  pub ticket : Option Ticket
  pub entered : EnteredWith v by e (record { entries = entries; ticket = ticket }) w
  pub held : ks ≡ with_held name ticket hs

-- what it does with names, by the answer
abbrev pub OpensAs : View → List Held → ℕ → Event → Name → Result (List Entry) DeskFault → View
    → List Held → Type 0
OpensAs v hs by e name (Ok entries) w ks = Opens v hs by e name entries w ks
OpensAs v hs by e name (Err fault.Full) w ks = SawFull v w × (ks ≡ hs)
OpensAs v hs by e name (Err why) w ks = ks ≡ hs

-- The event stands at the end of one history, and where it was done the names changed.
pub record Renames (change : List Held → List Held) (v : View) (hs : List Held) (by : ℕ)
    (e : Event) (entries : List Entry) (w : View) (ks : List Held) : Type 0 where
  pub entered : Entered v by e entries w
  pub held : length v.tickets < v.parts → ks ≡ (if is_done entries then change hs else hs)

-- what it does with names, by the answer
abbrev pub RenamesAs : (List Held → List Held) → View → List Held → ℕ → Event
    → Result (List Entry) DeskFault → View → List Held → Type 0
RenamesAs change v hs by e (Ok entries) w ks = Renames change v hs by e entries w ks
RenamesAs change v hs by e (Err fault.Full) w ks = ⊥
RenamesAs change v hs by e (Err why) w ks = ks ≡ hs

-- names with one more, which has a ticket that another has
abbrev pub with_second : Name → Name → List Held → List Held
with_second from to hs = with_held to (ticket_by from hs) hs

-- ---- as the machine does it

-- The event stands at the end of one history. Where the names had tickets of the requests that they
-- named before it, and the pass had a part left for a ticket, they have them behind it. A request
-- is asked of a pass with all parts only where no 256 requests are open or have a ticket of it.
pub record Follows (v : View) (hs : List Held) (by : ℕ) (e : Event) (entries : List Entry)
    (w : View) (ks : List Held) : Type 0 where
  pub entered : Entered v by e entries w
  pub names : length v.tickets < v.parts → OfState w.first entered.before
      (λ t. AreNames t hs → AreNames (step t e).state ks)
  pub free : asks e ≡ true → v.parts ≡ all_parts → OfState w.first entered.before
      (λ t. AreTaken t entered.before (HasTicket v.tickets) → ⊥)

-- what an event does with names, by the answer
abbrev pub FollowsAs : View → List Held → ℕ → Event → Result (List Entry) DeskFault → View
    → List Held → Type 0
FollowsAs v hs by e (Ok entries) w ks = Follows v hs by e entries w ks
FollowsAs v hs by e (Err fault.Full) w ks = SawFull v w × (ks ≡ hs)
FollowsAs v hs by e (Err why) w ks = ks ≡ hs
