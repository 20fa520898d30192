-- Which lines are full, while lines are placed in an order.
use Rattle.std.specs.Prelude.{◌≡◌, ◌≤◌, ℕ, Bool, true, false, ◌&&◌, List, ◌∷◌, ◌++◌, length}
use Rattle.std.specs.List.{AllByRecursion, filter}
use Rattle.gb_base.specs.declared.event.Event.{Event}
use Rattle.gb_base.specs.declared.journal.JournalEntry.{JournalEntry}
use Rattle.gb_base.specs.declared.parts.Asked.{Asked}
use Rattle.gb_formats.specs.Orders.{Merged, is_by}
use Rattle.gb_machine.specs.AskingEvents.{asks}
use Rattle.gb_machine.specs.Journal.{events_of}
use Rattle.gb_machine.specs.Shared.{AskEnough, done_in, has_full, has_no_room, most_requests}
use Rattle.gb_machine.specs.Shared.{requests_from}
use Rattle.gb_machine.specs.State.{first_state}
use Rattle.gb_share.specs.Doing.{events_by}

-- sends and bridge lines among events ask as many requests as there is room for
abbrev pub AskMost : List Event → Type 0
AskMost es = most_requests ≤ length (requests_from first_state es)

-- Only lines that ask requests are full, and where one is, all events ask that many.
abbrev pub DoAsk : List Event → List Merged → Type 0
DoAsk all ms =
    AllByRecursion (λ m. m.1 ≡ true → (asks m.0.event ≡ true) × AskMost all) ms

-- Each entry of a requester behind its first k ones comes once the lines that are placed, and the
-- entries in front of it, have asked that many requests.
abbrev pub ComeLate : ℕ → ℕ → List Merged → List JournalEntry → Type 0
ComeLate r k placed entries = (front back : List JournalEntry) (e : JournalEntry)
    → entries ≡ front ++ e ∷ back → e.by ≡ r → k ≤ length (events_by r front)
    → AskMost (done_in placed ++ events_of front)

-- Where a requester goes on behind a full line, that many requests are asked before.
abbrev pub GoOnLate : List Merged → Type 0
GoOnLate placed = (front back : List Merged) (a : Asked) → placed ≡ front ++ (a, false) ∷ back
    → has_full a.who front ≡ true → AskEnough front

-- Of these lines exactly those are full that ask a request where there is no room.
abbrev pub AreExact : List Merged → Type 0
AreExact ms = (front back : List Merged) (a : Asked) (full : Bool)
    → ms ≡ front ++ (a, full) ∷ back → full ≡ (asks a.event && has_no_room front)

-- the lines of a requester among these
abbrev pub own_lines : ℕ → List Merged → List Merged
own_lines r ms = filter (λ m. is_by r m.0) ms
