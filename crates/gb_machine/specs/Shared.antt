-- What `share` writes of a script with requesters.
use Rattle.std.specs.Prelude.{◌≡◌, ◌≤◌, ℕ, ◌==◌, nat_le, Bool, true, false, ◌&&◌, ◌||◌}
use Rattle.std.specs.Prelude.{is_none, if◌then◌else◌, List, [], ◌∷◌, ◌++◌, length}
use Rattle.std.specs.List.{list_any}
use Rattle.gb_base.specs.declared.entry.Entry.TheVariants as entry
use Rattle.gb_base.specs.declared.event.Event.{Event}
use Rattle.gb_base.specs.declared.name.Name.{Name}
use Rattle.gb_base.specs.declared.parts.Asked.{Asked}
use Rattle.gb_base.specs.declared.refusal.Refusal.TheVariants as why
use Rattle.gb_formats.specs.Orders.{IsFair, Merged, Place, is_by, merge}
use Rattle.gb_formats.specs.ShowTexts.{order_text, ticket_line}
use Rattle.gb_formats.specs.Texts.{ended, entries_text}
use Rattle.gb_machine.specs.Actions.{Told}
use Rattle.gb_machine.specs.AskingEvents.{asks}
use Rattle.gb_machine.specs.Bus.{Bus, next_number, outcome_of}
use Rattle.gb_machine.specs.Events.{step, trace}
use Rattle.gb_machine.specs.Journal.{after}
use Rattle.gb_machine.specs.Members.{times}
use Rattle.gb_machine.specs.Names.{names_in_order}
use Rattle.gb_machine.specs.Refusals.{refusal}
use Rattle.gb_machine.specs.Report.{event_reported}
use Rattle.gb_machine.specs.Runs.{AreValid}
use Rattle.gb_machine.specs.State.{State, first_state}

-- ---- the text

-- the events of lines that aren't full
abbrev pub done_in : List Merged → List Event
done_in [] = []
done_in ((a, true) ∷ ms) = done_in ms
done_in ((a, false) ∷ ms) = a.event ∷ done_in ms

-- the state after these lines
abbrev pub state_after : List Merged → State
state_after ms = after first_state (done_in ms)

-- What is reported of lines, from a state on: the entries of each, or that it was refused as full.
abbrev pub report_merged : Bool → State → List Merged → List ℕ
report_merged hex s [] = []
report_merged hex s ((a, true) ∷ ms) =
    entries_text a.line hex (entry.Refused why.Full ∷ []) ++ report_merged hex s ms
report_merged hex s ((a, false) ∷ ms) =
    event_reported a.line hex (step s a.event) (λ later. report_merged hex later ms)

-- the line of a name
abbrev pub ticket_text : Bus → Name × ℕ → List ℕ
ticket_text b p = ended (ticket_line p.0 p.1 (outcome_of p.1 b))

-- the lines of names
abbrev pub tickets_text : Bus → List (Name × ℕ) → List ℕ
tickets_text b [] = []
tickets_text b (p ∷ ps) = ticket_text b p ++ tickets_text b ps

-- the lines of the names that name requests in a state
abbrev pub tickets_of : State → List ℕ
tickets_of s = tickets_text s.bus (names_in_order s)

-- the order, the report of these lines, and the names that name requests after them
abbrev pub shared_lines : Bool → List Place → List Merged → List ℕ
shared_lines hex order ms =
    order_text order ++ (report_merged hex first_state ms ++ tickets_of (state_after ms))

-- What is written of a script's lines that are done in an order.
abbrev pub shared : Bool → List Asked → List Place → List ℕ
shared hex asked order = shared_lines hex order (merge asked order)

-- ---- which places are full

-- how many requests can be open or have names at once
abbrev pub most_requests : ℕ
most_requests = 256

-- a send or a bridge line that isn't refused asks the next request
abbrev pub request_by : State → Event → List ℕ
request_by s e = if asks e && is_none (refusal s e) then next_number s.bus ∷ [] else []

-- the requests that sends and bridge lines ask, from a state on
abbrev pub requests_from : State → List Event → List ℕ
requests_from s [] = []
requests_from s (e ∷ es) = request_by s e ++ requests_from (step s e).state es

-- the requests that sends and bridge lines ask
abbrev pub requests_in : List Merged → List ℕ
requests_in ms = requests_from first_state (done_in ms)

-- a request is open or has a name
abbrev pub is_in_use : State → ℕ → Bool
is_in_use s n = is_none (outcome_of n s.bus) || list_any (λ p. p.1 == n) s.names

-- after these lines there is no room for a further request
abbrev pub has_no_room : List Merged → Bool
has_no_room ms = nat_le most_requests (times (is_in_use (state_after ms)) (requests_in ms))

-- a requester has a full line among these
abbrev pub has_full : ℕ → List Merged → Bool
has_full who ms = list_any (λ m. is_by who m.0 && m.1) ms

-- sends and bridge lines ask 256 requests
abbrev pub AskEnough : List Merged → Type 0
AskEnough ms = most_requests ≤ length (requests_in ms)

-- Which lines are full. One of requester 0 exactly where it asks a request and there is no room for
-- that. Another only where it asks a request and 256 are asked in all; and where its requester goes
-- on with a line that isn't full, 256 are asked before that one.
pub record FullPlaces (ms : List Merged) : Type 0 where
  pub opening : (front back : List Merged) (a : Asked) (full : Bool)
      → ms ≡ front ++ (a, full) ∷ back → a.who ≡ 0 → full ≡ (asks a.event && has_no_room front)
  pub asking : (front back : List Merged) (a : Asked)
      → ms ≡ front ++ (a, true) ∷ back → (asks a.event ≡ true) × AskEnough ms
  pub going_on : (front back : List Merged) (a : Asked)
      → ms ≡ front ++ (a, false) ∷ back → has_full a.who front ≡ true → AskEnough front

-- ---- the promise

-- What is written of a script's lines: they are done in an order.
pub record IsTold (hex : Bool) (asked : List Asked) (written : List ℕ) : Type 0 where
  pub order : List Place
  pub fair : IsFair asked order
  pub full : FullPlaces (merge asked order)
  pub written_is : written ≡ shared hex asked order

-- ---- that it is of a run of events

-- the text of these lines: of each that isn't full what is told of its event
abbrev pub merged_text : Bool → List Merged → List Told → List ℕ
merged_text hex [] told = []
merged_text hex ((a, true) ∷ ms) told =
    entries_text a.line hex (entry.Refused why.Full ∷ []) ++ merged_text hex ms told
merged_text hex ((a, false) ∷ ms) [] = []
merged_text hex ((a, false) ∷ ms) (t ∷ ts) =
    entries_text a.line hex t.entries ++ merged_text hex ms ts

-- The report of lines is the text of the trace of the events that are done, which the machine may
-- be given.
pub record IsMergedTrace (hex : Bool) (ms : List Merged) : Type 0 where
  pub valid : AreValid (done_in ms)
  pub report_is : report_merged hex first_state ms ≡ merged_text hex ms (trace (done_in ms))
