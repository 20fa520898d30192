-- The least of the requests that are due times out.
use Rattle.std.proofs.Common.{◌≡◌, ℕ, Bool, true, false, ◌&&◌, ◌||◌, nat_lt, cond, Option, Some}
use Rattle.std.proofs.Common.{None, Result, Ok, Err, List, [], ◌∷◌, inl, inr, sym, ap, ◌∙◌, refl}
use Rattle.std.proofs.Common.{subst}
use Rattle.gb_base.specs.declared.outcome.Outcome.{Outcome}
use Rattle.gb_base.specs.declared.outcome.Outcome.TheVariants as outcome
use Rattle.gb_bus.proofs.Closing.{slot-of-made}
use Rattle.gb_bus.proofs.Listed.{above, those-are}
use Rattle.gb_bus.specs.Cancelling.{Expires, ExpiresAs, GivesUpAs}
use Rattle.gb_bus.specs.Listing.{AreThose, FindsLeast, IsLeast, Rises, count}
use Rattle.gb_bus.specs.Slots as slots
use Rattle.gb_bus.specs.Slots.{SlotsKept, slot_at}
use Rattle.gb_bus.specs.Stands.{Around, Stands, kept, kept_of, slot_of}
use Rattle.gb_bus.specs.declared.answers.AlreadyEnded.{AlreadyEnded}
use Rattle.gb_bus.specs.declared.bus.Bus.{Bus}
use Rattle.gb_invariants.proofs.Awaiting.{is-open, not-both}
use Rattle.gb_invariants.proofs.Outcomes.{in-open_requests, open_requests-in, open_requests-rise}
use Rattle.gb_machine.specs.Bus as machine
use Rattle.gb_machine.specs.Bus.{Request, is_open, outcome_of, request_of}
use Rattle.gb_machine.specs.LawsBus.{is_awaited}
use Rattle.gb_machine.specs.Lists.{first}
use Rattle.gb_machine.specs.Members.{IsIn}
use Rattle.gb_machine.specs.Requests.{is_due, is_given_up, open_requests}

-- ---- which slots are due

-- the slot of a request that is due is of one of those
due-is-in : (names : List ℕ) (b : machine.Bus) (now n : ℕ)
    → slots.is_due now (slot_of names n b) ≡ true → IsIn n (open_requests (is_due now) b)
due-is-in names b now n h = by (request_of n b) (λ i. request_of n b)
  where
    by-slot : (r : Request) → request_of n b ≡ Some r → (o : Option Outcome) → outcome_of n b ≡ o
        → (t : Bool)
        → slots.is_due now (cond t (Some (kept n (is_awaited n b) (count n names) o r)) None)
        ≡ true → IsIn n (open_requests (is_due now) b)
    by-slot r made None free true g =
        open_requests-in (is_due now) b n r made (left (is_due now r) g) free
      where
        left : (u : Bool) → u && true ≡ true → u ≡ true
        left true e = refl
        left false e = e
    by-slot r made (Some v) free true g = absurd (never (is_due now r) g)
      where
        never : (u : Bool) → u && false ≡ true → ⊥
        never true e = absurd cc
        never false e = absurd cc
    by-slot r made o free false g = absurd cc

    by : (o : Option Request) → request_of n b ≡ o → IsIn n (open_requests (is_due now) b)
    by None e =
        absurd (not-both (slots.is_due now (slot_of names n b)) h
        (ap (λ o. slots.is_due now
        (kept_of n (is_awaited n b) (count n names) (outcome_of n b) o)) e))
    by (Some r) e =
        by-slot r e (outcome_of n b) (λ i. outcome_of n b)
        (is_awaited n b || nat_lt 0 (count n names))
        (sym (slot-of-made names b n r (slots.is_due now) e) ∙ h)

in-is-due : (names : List ℕ) (b : machine.Bus) (now n : ℕ)
    → IsIn n (open_requests (is_due now) b) → slots.is_due now (slot_of names n b) ≡ true
in-is-due names b now n i =
    let q = in-open_requests (is_due now) b n i in
    slot-of-made names b n q.0 (slots.is_due now) q.1
    ∙ ap (λ a. slots.is_due now (kept_of n a (count n names) (outcome_of n b) (Some q.0)))
    (ap (λ t. t || is_given_up n b) (is-open n b q.0 q.1 q.3))
    ∙ ap (λ o. slots.is_due now (kept_of n true (count n names) o (Some q.0))) q.3
    ∙ ap (λ t. t && true) q.2

-- The numbers of the slots that are due are those of the machine's requests.
pub due-are : (x : SlotsKept) (names : List ℕ) (b : machine.Bus) (now : ℕ) (ns : List ℕ)
    → ((n : ℕ) → slot_at x n ≡ slot_of names n b)
    → AreThose (λ n. slots.is_due now (slot_at x n)) ns → ns ≡ open_requests (is_due now) b
due-are x names b now ns tell h =
    those-are (λ n. slots.is_due now (slot_at x n)) ns (open_requests (is_due now) b) h
    (open_requests-rise (is_due now) b)
    (λ n e. due-is-in names b now n (sym (ap (slots.is_due now) (tell n)) ∙ e))
    (λ n i. ap (slots.is_due now) (tell n) ∙ in-is-due names b now n i)

-- ---- the first of them

-- the least that is due is the first of those
first-is : (x : SlotsKept) (names : List ℕ) (b : machine.Bus) (now n : ℕ)
    → ((m : ℕ) → slot_at x m ≡ slot_of names m b)
    → IsLeast (λ m. slots.is_due now (slot_at x m)) n
    → first (open_requests (is_due now) b) ≡ Some n
first-is x names b now n tell h =
    by (open_requests (is_due now) b) (open_requests-rise (is_due now) b)
    (λ m i. ap (slots.is_due now) (tell m) ∙ in-is-due names b now m i)
    (due-is-in names b now n (sym (ap (slots.is_due now) (tell n)) ∙ h.passes))
  where
    by : (ms : List ℕ) → Rises ms
        → ((m : ℕ) → IsIn m ms → slots.is_due now (slot_at x m) ≡ true) → IsIn n ms
        → first ms ≡ Some n
    by [] r all i = absurd i
    by (m ∷ ms) r all (inl e) = ap Some (sym e)
    by (m ∷ ms) r all (inr i) =
        absurd (not-both (slots.is_due now (slot_at x m)) (all m (inl refl))
        (h.least m (above m n ms r.0 i)))

none-due : (ms : List ℕ) (test : ℕ → Bool) → ((m : ℕ) → IsIn m ms → test m ≡ true)
    → ((m : ℕ) → test m ≡ false) → ms ≡ []
none-due [] test all none = refl
none-due (m ∷ ms) test all none =
    absurd (not-both (test m) (all m (inl refl)) (none m))

-- what is answered where a request was found and given up
pub expires : (around : Around) (x y : Bus) (b : machine.Bus) (now n : ℕ)
    (result : Result Unit AlreadyEnded) → Stands around x b
    → IsLeast (λ m. slots.is_due now (slot_at x.slots m)) n
    → GivesUpAs around y outcome.Timeout n b result → Expires around y now n b
expires around x y b now n (Ok done) s found gives = record {
  least = first-is x.slots around.names b now n s.shows.slots found;
  stands = gives.stands;
}
expires around x y b now n (Err over) s found gives =
    let i = due-is-in around.names b now n
    (sym (ap (slots.is_due now) (s.shows.slots n)) ∙ found.passes) in
    let due = in-open_requests (is_due now) b n i in
    absurd (not-both (is_open n b) (is-open n b due.0 due.1 due.3) gives.over)

-- what is answered where none was found
pub expires-none : (around : Around) (x : Bus) (b : machine.Bus) (now : ℕ) (result : Option ℕ)
    → Stands around x b → FindsLeast (λ m. slots.is_due now (slot_at x.slots m)) None
    → result ≡ None → ExpiresAs around x now b result
expires-none around x b now result s found is =
    subst (ExpiresAs around x now b) (sym is) (record {
      none = none-due (open_requests (is_due now) b) (λ m. slots.is_due now (slot_at x.slots m))
          (λ m i. ap (slots.is_due now) (s.shows.slots m) ∙ in-is-due around.names b now m i)
          found;
      stands = s;
    })
