-- What a pass of a desk has done, by the tags of its events.
use Rattle.std.specs.Prelude.{◌≡◌, ◌≢◌, ℕ, ◌+◌, ◌==◌, ◌<◌, ◌≤◌, ◌||◌, ◌&&◌, Bool, true, false}
use Rattle.std.specs.Prelude.{if◌then◌else◌, List, [], ◌∷◌, ◌++◌, length, Option, Result, Ok}
use Rattle.std.specs.Prelude.{Err, ⊤}
use mathlib.Core.List.{IsPrefix}
use Rattle.gb_base.specs.declared.entry.Entry.{Entry}
use Rattle.gb_base.specs.declared.event.Event.{Event}
use Rattle.gb_base.specs.declared.journal.JournalEntry.{JournalEntry}
use Rattle.gb_desk.specs.Calls.{OfState, OfTaken}
use Rattle.gb_desk.specs.Rules.{all_parts}
use Rattle.gb_desk.specs.Slots.{requests_in}
use Rattle.gb_desk.specs.declared.desk_fault.DeskFault.{DeskFault}
use Rattle.gb_desk.specs.declared.desk_fault.DeskFault.TheVariants as fault
use Rattle.gb_desk.specs.declared.view.View.{View}
use Rattle.gb_machine.specs.AskingEvents.{asks}
use Rattle.gb_machine.specs.Shared.{most_requests}
use Rattle.gb_system.specs.declared.system.System.{System}

-- ---- places

-- whether a number stands in a list
abbrev pub stands_in : ℕ → List ℕ → Bool
stands_in n [] = false
stands_in n (m ∷ ms) = m == n || stands_in n ms

-- each place of the pass is one of the history that it has seen
abbrev pub IsWithin : View → Type 0
IsWithin v = (n : ℕ) → length v.seen ≤ n → stands_in n v.mine ≡ false

-- ---- events

-- one event or none
abbrev pub one_if : Bool → Event → List Event
one_if b e = if b then e ∷ [] else []

-- the events of the entries from the n-th place on that have this tag, and whose places are these
abbrev pub done_from : ℕ → List ℕ → ℕ → List JournalEntry → List Event
done_from r mine n [] = []
done_from r mine n (e ∷ es) =
    one_if (stands_in n mine && e.by == r) e.event ++ done_from r mine (n + 1) es

-- The events that a pass has done with a tag, in the order of the history.
abbrev pub done_by : ℕ → View → List Event
done_by r v = done_from r v.mine 0 v.seen

-- a pass has done nothing with a tag from one on
abbrev pub HasNone : View → Type 0
HasNone v = (r : ℕ) → 0 < r → done_by r v ≡ []

-- The events of a history that have this tag, in order.
abbrev pub events_by : ℕ → List JournalEntry → List Event
events_by r [] = []
events_by r (e ∷ es) = one_if (e.by == r) e.event ++ events_by r es

-- ---- what a call does

-- these events, all with one tag
abbrev pub tagged : ℕ → List Event → ℕ → List Event
tagged by es r = if by == r then es else []

-- A pass did more: with each tag these events, none of them at a place that it had seen.
pub record Adds (more : ℕ → List Event) (v w : View) : Type 0 where
  pub seen : IsPrefix v.seen w.seen
  pub low : (n : ℕ) → n < length v.seen → stands_in n w.mine ≡ stands_in n v.mine
  pub done : (r : ℕ) → done_by r w ≡ done_by r v ++ more r
  pub first : w.first ≡ v.first
  pub told : w.told ≡ v.told

-- A pass did nothing more.
abbrev pub Stays : View → View → Type 0
Stays v w = Adds (λ r. []) v w

-- A pass has the same in all but its tickets.
abbrev pub IsAlike : View → View → Type 0
IsAlike v w = w ≡ record v { tickets = w.tickets }

-- A pass took in another one. What it knows of tickets is told elsewhere.
pub record IsJoined (v u w : View) : Type 0 where
  pub this : IsPrefix v.seen w.seen
  pub that : IsPrefix u.seen w.seen
  pub mine : w.mine ≡ v.mine ++ u.mine
  pub first : w.first ≡ v.first
  pub told : w.told ≡ v.told || u.told

-- the sends and bridge lines of a history have asked as many requests as there is room for
abbrev pub HasAsked : List JournalEntry → Type 0
HasAsked es = most_requests ≤ length (requests_in es)

-- the same, where the history began in a state that a system stands for
abbrev pub HaveAsked : Option System → List JournalEntry → Type 0
HaveAsked first es = OfState first es (λ t. HasAsked es)

-- What one event does, by its answer. Where another caller had the turn, the pass hasn't all parts.
-- Only an event that asks a request finds no slot, and then that many requests were asked. A
-- history is spent that is as long as it can get, and a pass with as many tickets as parts.
abbrev pub DoesAs : View → ℕ → Event → Result (List Entry) DeskFault → View → Type 0
DoesAs v by e (Ok entries) w = Adds (tagged by (e ∷ [])) v w
DoesAs v by e (Err fault.Busy) w = Stays v w × (v.parts ≢ all_parts)
DoesAs v by e (Err fault.Full) w = Stays v w × (asks e ≡ true) × HaveAsked w.first w.seen
DoesAs v by e (Err fault.JournalSpent) w = OfTaken (λ n. 4294967295 ≤ n) w
DoesAs v by e (Err fault.PassSpent) w = length w.tickets ≡ w.parts
DoesAs v by e (Err (fault.Memory refused)) w = ⊤
