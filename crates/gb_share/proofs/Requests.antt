-- The requests of a history are those that the machine asks, and each stands among them once.
use Rattle.std.proofs.Common.{◌≡◌, ℕ, ◌+◌, ◌≤◌, inl, inr, Bool, true, false, Option, Some, None}
use Rattle.std.proofs.Common.{List, [], ◌∷◌, ◌++◌, length, refl, ap, ◌∙◌, subst, arith}
use Rattle.std.proofs.lemmas.Bool.Decides.{nat_tests}
use Rattle.std.specs.List.{filter}
use Rattle.std.specs.Prelude.{◌==◌, ◌&&◌, if◌then◌else◌, is_none}
use Rattle.gb_base.specs.declared.event.Event.{Event}
use Rattle.gb_base.specs.declared.journal.JournalEntry.{JournalEntry}
use Rattle.gb_base.specs.declared.refusal.Refusal.{Refusal}
use Rattle.gb_desk.proofs.SlotLists.{no_more}
use Rattle.gb_desk.specs.Calls.{AreTaken}
use Rattle.gb_desk.specs.Slots.{listed, request_in, requests_in}
use Rattle.gb_desk.specs.Slots as slots
use Rattle.gb_formats.specs.ValidEvents.{IsValid}
use Rattle.gb_laws.proofs.runs.Reached.{reached-step}
use Rattle.gb_laws.proofs.tickets.TicketLines.{lines-ask}
use Rattle.gb_laws.proofs.tickets.Tickets.{twoway-stays}
use Rattle.gb_laws.specs.Tickets.{IsTwoway, asked_in}
use Rattle.gb_machine.proofs.Lists.{nth-past}
use Rattle.gb_machine.proofs.Steps.{step-refused}
use Rattle.gb_machine.specs.Actions.{Told}
use Rattle.gb_machine.specs.AskingEvents.{asks}
use Rattle.gb_machine.specs.Bus.{next_number, request_of}
use Rattle.gb_machine.specs.Events.{step}
use Rattle.gb_machine.specs.Journal.{IsLegal, events_of}
use Rattle.gb_machine.specs.Members.{IsIn, times}
use Rattle.gb_machine.specs.Reached.{OfARun}
use Rattle.gb_machine.specs.Refusals.{refusal}
use Rattle.gb_machine.specs.Runs.{AreValid}
use Rattle.gb_machine.specs.Shared.{request_by, requests_from}
use Rattle.gb_machine.specs.State.{State, first_state}

-- ---- two ways to list them

-- one event
request_is : (s : State) (e : JournalEntry) → OfARun s → IsValid e.event
    → e.entries ≡ (step s e.event).entries → request_in e ≡ request_by s e.event
request_is s e run valid told = by (asks e.event) refl (refusal s e.event) refl
  where
    by : (b : Bool) → asks e.event ≡ b → (o : Option Refusal) → refusal s e.event ≡ o
        → (if b then listed (asked_in e.entries) else [])
        ≡ (if b && is_none o then next_number s.bus ∷ [] else [])
    by true asking None free =
        ap listed (ap asked_in told ∙ (lines-ask s e.event run valid asking free).told)
    by true asking (Some why) met =
        ap listed (ap asked_in (told ∙ ap (λ (t : Told). t.entries)
        (step-refused s e.event why met)))
    by false asking o is = refl

-- the events from a state on
pub requests_from_are : (s : State) (h : List JournalEntry) (t : State) → OfARun s
    → AreValid (events_of h) → IsLegal s h t → requests_in h ≡ requests_from s (events_of h)
requests_from_are s [] t run valid legal = refl
requests_from_are s (e ∷ es) t run valid legal =
    ap (λ ns. ns ++ requests_in es) (request_is s e run valid.0 legal.0)
    ∙ ap (λ ns. request_by s e.event ++ ns)
    (requests_from_are (step s e.event).state es t (reached-step s e.event valid.0 run) valid.1
    legal.1)

-- no event leads to the first state
pub first_reached : OfARun first_state
first_reached = record { events = []; valid = tt; is = refl }

-- The requests of a legal history of valid events are those that the machine asks at its events.
pub requests_are : (h : List JournalEntry) (t : State) → AreValid (events_of h)
    → IsLegal first_state h t → requests_in h ≡ requests_from first_state (events_of h)
requests_are h t valid legal = requests_from_are first_state h t first_reached valid legal

-- ---- how many there are

-- Where 256 requests are open or so, as many were asked.
pub enough_made : (t : State) (h : List JournalEntry) (so : ℕ → Type 0) → AreTaken t h so
    → 256 ≤ length (requests_in h)
enough_made t h so taken =
    let most = no_more taken.numbers (requests_in h) taken.once (λ n i. (taken.each n i).0) in
    let enough = taken.enough in omega arith

-- a member that passes is among those that pass
in_filter : (test : ℕ → Bool) (n : ℕ) (xs : List ℕ) → IsIn n xs → test n ≡ true
    → IsIn n (filter test xs)
in_filter test n [] i so = absurd i
in_filter test n (x ∷ xs) i so = by (test x) refl i (λ j. in_filter test n xs j so)
  where
    by : (b : Bool) → test x ≡ b → IsIn n (x ∷ xs) → (IsIn n xs → IsIn n (filter test xs))
        → IsIn n (if b then x ∷ filter test xs else filter test xs)
    by true is (inl e) rec = inl e
    by true is (inr j) rec = inr (rec j)
    by false is (inl e) rec = absurd (let also = ap test e in cc (is, so, also))
    by false is (inr j) rec = rec j

-- and the other way round
pub filter_in : (test : ℕ → Bool) (n : ℕ) (xs : List ℕ) → IsIn n (filter test xs)
    → IsIn n xs × (test n ≡ true)
filter_in test n [] i = absurd i
filter_in test n (x ∷ xs) i = by (test x) refl i (filter_in test n xs)
  where
    by : (b : Bool) → test x ≡ b → IsIn n (if b then x ∷ filter test xs else filter test xs)
        → (IsIn n (filter test xs) → IsIn n xs × (test n ≡ true))
        → IsIn n (x ∷ xs) × (test n ≡ true)
    by true is (inl e) rec = (inl e, ap test e ∙ is)
    by true is (inr j) rec = let r = rec j in (inr r.0, r.1)
    by false is j rec = let r = rec j in (inr r.0, r.1)

pub filter_long : (test : ℕ → Bool) (xs : List ℕ) → length (filter test xs) ≡ times test xs
filter_long test [] = refl
filter_long test (x ∷ xs) = by (test x) (filter_long test xs)
  where
    by : (b : Bool) → length (filter test xs) ≡ times test xs
        → length (if b then x ∷ filter test xs else filter test xs)
        ≡ (if b then times test xs + 1 else times test xs)
    by true is = omega arith
    by false is = is

pub filter_times : (test : ℕ → Bool) (n : ℕ) (xs : List ℕ)
    → slots.times n (filter test xs) ≤ slots.times n xs
filter_times test n [] = omega arith
filter_times test n (x ∷ xs) = by (test x) (filter_times test n xs)
  where
    by : (b : Bool) → slots.times n (filter test xs) ≤ slots.times n xs
        → slots.times n (if b then x ∷ filter test xs else filter test xs)
        ≤ slots.hit n x + slots.times n xs
    by true le = omega arith
    by false le = omega arith

-- Different numbers that are members of a list and pass a test are no more than pass there.
pub few_pass : (test : ℕ → Bool) (ns ms : List ℕ) → ((n : ℕ) → slots.times n ns ≤ 1)
    → ((n : ℕ) → IsIn n ns → IsIn n ms × (test n ≡ true)) → length ns ≤ times test ms
few_pass test ns ms once each =
    let long = filter_long test ms in
    let most = no_more ns (filter test ms) once
    (λ n i. (let e = each n i in in_filter test n ms e.0 e.1)) in
    omega arith

-- ---- each stands there once

-- what was made isn't made again
later_none : (s : State) (es : List Event) (n : ℕ) → OfARun s → AreValid es → IsTwoway n s.bus
    → slots.times n (requests_from s es) ≡ 0
later_none s [] n run valid made = refl
later_none s (e ∷ es) n run valid made =
    by (asks e && is_none (refusal s e))
    (later_none (step s e).state es n (reached-step s e valid.0 run) valid.1
    (twoway-stays s e run valid.0 n made))
  where
    apart : (next_number s.bus == n) ≡ true → ⊥
    apart same =
        let is : next_number s.bus ≡ n = grind (arith, nat_tests) in
        let none : request_of n s.bus ≡ None = nth-past n s.bus.requests (omega arith) in
        let some = made.made in cc (none, some)

    one_if : Bool → ℕ
    one_if b = if b then 1 else 0

    other : (b : Bool) → (next_number s.bus == n) ≡ b → one_if b ≡ 0
    other true same = absurd (apart same)
    other false same = refl

    by : (b : Bool) → slots.times n (requests_from (step s e).state es) ≡ 0
        → slots.times n ((if b then next_number s.bus ∷ [] else [])
        ++ requests_from (step s e).state es) ≡ 0
    by true none = let here = other (next_number s.bus == n) refl in omega arith
    by false none = none

-- Each request stands once among those that the machine asks.
pub requests_once : (s : State) (es : List Event) → OfARun s → AreValid es → (n : ℕ)
    → slots.times n (requests_from s es) ≤ 1
requests_once s [] run valid n = omega arith
requests_once s (e ∷ es) run valid n =
    by (asks e) refl (refusal s e) refl (requests_once (step s e).state es later valid.1 n)
  where
    later : OfARun (step s e).state
    later = reached-step s e valid.0 run

    here : asks e ≡ true → refusal s e ≡ None → (b : Bool) → (next_number s.bus == n) ≡ b
        → slots.times n (requests_from (step s e).state es) ≤ 1
        → (if b then 1 else 0) + slots.times n (requests_from (step s e).state es) ≤ 1
    here asking free true same rest =
        let is : next_number s.bus ≡ n = grind (arith, nat_tests) in
        let made = (lines-ask s e run valid.0 asking free).made in
        let none = later_none (step s e).state es n later valid.1
        (subst (λ m. IsTwoway m (step s e).state.bus) is made) in
        omega arith
    here asking free false same rest = omega arith

    by : (b : Bool) → asks e ≡ b → (o : Option Refusal) → refusal s e ≡ o
        → slots.times n (requests_from (step s e).state es) ≤ 1
        → slots.times n ((if b && is_none o then next_number s.bus ∷ [] else [])
        ++ requests_from (step s e).state es) ≤ 1
    by true asking None free rest =
        here asking free (next_number s.bus == n) refl rest
    by true asking (Some why) met rest = rest
    by false asking o is rest = rest
