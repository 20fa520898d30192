-- Which requests are awaited after a change of the bus.
use Rattle.std.proofs.Common.{Bool, List, None, Option, Some, add-one, ap, arith, cond, false, inl}
use Rattle.std.proofs.Common.{inr, is_none, is_some, length, length-append, not, refl, sym, true, ℕ}
use Rattle.std.proofs.Common.{⊎_elim, [], ◌&&◌, ◌++◌, ◌<◌, ◌==◌, ◌||◌, ◌∙◌, ◌∷◌, ◌≡◌, ◌≤◌, ◌⊎◌}
use Rattle.std.proofs.lemmas.Bool.{cases_lt}
use Rattle.gb_base.specs.declared.end.Side.{Side}
use Rattle.gb_base.specs.declared.end.Side.TheVariants as side
use Rattle.gb_base.specs.declared.outcome.Outcome.{Outcome}
use Rattle.gb_base.specs.declared.outcome.Outcome.TheVariants as outcome
use Rattle.gb_machine.proofs.Lists.{nth-more, nth-past, nth-push, nth-push-below, nth-within}
use Rattle.gb_machine.specs.Bus.{Bus, Request, is_open, next_number, outcome_of, request_of}
use Rattle.gb_machine.specs.Requests.{gave_up, is_given_up, is_of, made_passes, open_on, passes}
use Rattle.gb_machine.specs.Requests.{same_side}
use Rattle.gb_machine.specs.Sending.{Draft, requested, sent, sent_at_once}
use Rattle.gb_machine.specs.{Delivery.ended, Delivery.forgotten, LawsBus.is_awaited, Lists.lookup}
use Rattle.gb_machine.specs.{Lists.nth, Members.IsIn, Wiring.side_ended}
use Rattle.gb_invariants.proofs.Lists.{filter-in, in-behind, in-filter, in-front, in-pushed}
use Rattle.gb_invariants.proofs.Lists.{in-without}
pub use Rattle.gb_invariants.proofs.Lists.{not-both}
use Rattle.gb_invariants.proofs.Outcomes.{any-in, both-true, in-any, in-open_requests, is-same}
use Rattle.gb_invariants.proofs.Outcomes.{lookup-past, lookup-past-all, missing-all, missing-before}
use Rattle.gb_invariants.proofs.Outcomes.{pair-there, same-number}
use Rattle.gb_invariants.specs.Facts.{OutcomesFit}

-- ---- what is awaited

-- A request is awaited: it was made and has no outcome, or it was given up.
pub data Awaits (n : ℕ) (b : Bus) : Type 0 where
  still : (r : Request) → request_of n b ≡ Some r → outcome_of n b ≡ None → Awaits n b
  late : IsIn n b.given_up → Awaits n b

some-is : {A : Type 0} (o : Option A) → is_some o ≡ true → (x : A) × (o ≡ Some x)
some-is None h = absurd cc
some-is (Some x) h = (x, refl)

none-is : {A : Type 0} (o : Option A) → is_none o ≡ true → o ≡ None
none-is None h = refl
none-is (Some x) h = absurd cc

either-true : (a b : Bool) → a || b ≡ true → (a ≡ true) ⊎ (b ≡ true)
either-true true b h = inl refl
either-true false b h = inr h

pub or-right : (a b : Bool) → b ≡ true → a || b ≡ true
or-right true b h = refl
or-right false b h = h

-- an open request was made and has no outcome
pub opened : (n : ℕ) (b : Bus) → is_open n b ≡ true
    → (r : Request) × (request_of n b ≡ Some r) × (outcome_of n b ≡ None)
opened n b h =
    let k = both-true (is_some (request_of n b)) (is_none (outcome_of n b)) h in
    let r = some-is (request_of n b) k.0 in
    (r.0, r.1, none-is (outcome_of n b) k.1)

-- a request that was made and has no outcome is open
pub is-open : (n : ℕ) (b : Bus) (r : Request) → request_of n b ≡ Some r → outcome_of n b ≡ None
    → is_open n b ≡ true
is-open n b r made free = ap (λ o. is_some o && is_none (outcome_of n b)) made ∙ ap is_none free

pub awaits : (n : ℕ) (b : Bus) → is_awaited n b ≡ true → Awaits n b
awaits n b h =
    ⊎_elim (λ o. let k = opened n b o in still k.0 k.1 k.2) (λ g. late (any-in n b.given_up g))
    (either-true (is_open n b) (is_given_up n b) h)

pub awaited : (n : ℕ) (b : Bus) → Awaits n b → is_awaited n b ≡ true
awaited n b (still r made free) = ap (λ a. a || is_given_up n b) (is-open n b r made free)
awaited n b (late i) = or-right (is_open n b) (is_given_up n b) (in-any n b.given_up i)

pub none-some : {A : Type 0} {x : A} → None ≡ Some x → ⊥
none-some e = absurd cc

pub same-some : {A : Type 0} (x y : A) → Some x ≡ Some y → x ≡ y
same-some x y e = cc

-- each request that is awaited now was awaited before, and requests are the same
pub record AwaitsFewer (b after : Bus) : Type 0 where
  pub same : after.requests ≡ b.requests
  pub before : (n : ℕ) → is_awaited n after ≡ true → is_awaited n b ≡ true

-- ---- a request ends

pub ended-before : (m : ℕ) (how : Outcome) (b : Bus) → AwaitsFewer b (ended m how b)
ended-before m how b = record {
  same = refl;
  before = λ n h. awaited n b (by n (awaits n (ended m how b) h));
}
  where
    by : (n : ℕ) → Awaits n (ended m how b) → Awaits n b
    by n (still r made free) = still r made (missing-before m n how b.outcomes free)
    by n (late i) = late i

pub ended-after : (m : ℕ) (how : Outcome) (b : Bus) (n : ℕ) → (m ≡ n → ⊥) → is_awaited n b ≡ true
    → is_awaited n (ended m how b) ≡ true
ended-after m how b n other h = awaited n (ended m how b) (by (awaits n b h))
  where
    by : Awaits n b → Awaits n (ended m how b)
    by (still r made free) = still r made (lookup-past m n how b.outcomes other ∙ free)
    by (late i) = late i

-- ---- a request is forgotten

pub forgotten-before : (m : ℕ) (b : Bus) → AwaitsFewer b (forgotten m b)
forgotten-before m b = record {
  same = refl;
  before = λ n h. awaited n b (by n (awaits n (forgotten m b) h));
}
  where
    by : (n : ℕ) → Awaits n (forgotten m b) → Awaits n b
    by n (still r made free) = still r made free
    by n (late i) = late (in-filter (λ k. not (k == m)) b.given_up n i).0

differs : (m n : ℕ) → (m ≡ n → ⊥) → not (n == m) ≡ true
differs m n other = by (n == m) refl
  where
    by : (b : Bool) → (n == m) ≡ b → not b ≡ true
    by true e = absurd (other (sym (same-number n m e)))
    by false e = refl

pub forgotten-after : (m : ℕ) (b : Bus) (n : ℕ) → (m ≡ n → ⊥) → is_awaited n b ≡ true
    → is_awaited n (forgotten m b) ≡ true
forgotten-after m b n other h = awaited n (forgotten m b) (by (awaits n b h))
  where
    by : Awaits n b → Awaits n (forgotten m b)
    by (still r made free) = still r made free
    by (late i) = late (filter-in (λ k. not (k == m)) b.given_up n i (differs m n other))

-- ---- a request is given up

pub gave_up-before : (m : ℕ) (how : Outcome) (b : Bus) → is_open m b ≡ true
    → AwaitsFewer b (gave_up m how b)
gave_up-before m how b unended = record {
  same = refl;
  before = λ n h. awaited n b (by n (awaits n (gave_up m how b) h));
}
  where
    by : (n : ℕ) → Awaits n (gave_up m how b) → Awaits n b
    by n (still r made free) = still r made (missing-before m n how b.outcomes free)
    by n (late i) =
        ⊎_elim (λ a. late a) (λ e. let k = opened m b unended in
        still k.0 (ap (λ j. request_of j b) e ∙ k.1) (ap (λ j. outcome_of j b) e ∙ k.2))
        (in-pushed n b.given_up m i)

pub gave_up-after : (m : ℕ) (how : Outcome) (b : Bus) (n : ℕ) → is_awaited n b ≡ true
    → is_awaited n (gave_up m how b) ≡ true
gave_up-after m how b n h = awaited n (gave_up m how b) (by (awaits n b h))
  where
    other : (t : Bool) → (m == n) ≡ t → (r : Request) → request_of n b ≡ Some r
        → outcome_of n b ≡ None → Awaits n (gave_up m how b)
    other true e r made free = late (in-behind n b.given_up (m ∷ [])
        (inl (sym (same-number m n e))))
    other false e r made free =
        still r made (ap (λ t. cond t (Some how) (lookup n b.outcomes)) e ∙ free)

    by : Awaits n b → Awaits n (gave_up m how b)
    by (still r made free) = other (m == n) refl r made free
    by (late i) = late (in-front n b.given_up (m ∷ []) i)

-- ---- a side ends

same_side-is : (at : Side) → same_side at at ≡ true
same_side-is side.Ap = refl
same_side-is side.Far = refl

pub side-is : (a b : Side) → same_side a b ≡ true → a ≡ b
side-is side.Ap side.Ap h = refl
side-is side.Far side.Far h = refl
side-is side.Ap side.Far h = absurd cc
side-is side.Far side.Ap h = absurd cc

-- a request is of a side of a connection
pub is_of-is : (k : ℕ) (at : Side) (r : Request) → is_of k at r ≡ true
    → (r.connection ≡ k) × (at ≡ r.side)
is_of-is k at r h =
    let p = both-true (r.connection == k) (same_side at r.side) h in
    (same-number r.connection k p.0, side-is at r.side p.1)

pub is-of : (r : Request) → is_of r.connection r.side r ≡ true
is-of r = ap (λ t. t && same_side r.side r.side) (is-same r.connection) ∙ same_side-is r.side

pub side_ended-before : (k : ℕ) (at : Side) (b : Bus) → AwaitsFewer b (side_ended k at b)
side_ended-before k at b = record {
  same = refl;
  before = λ n h. awaited n b (by n (awaits n (side_ended k at b) h));
}
  where
    by : (n : ℕ) → Awaits n (side_ended k at b) → Awaits n b
    by n (still r made free) = still r made (missing-all (open_on k at b) n outcome.Disconnected
        b.outcomes free)
    by n (late i) = late (in-without (passes (is_of k at) b) b.given_up n i).0

pub side_ended-after : (k : ℕ) (at : Side) (b : Bus) (n : ℕ) (r : Request) → request_of n b ≡ Some r
    → is_of k at r ≡ false → is_awaited n b ≡ true → is_awaited n (side_ended k at b) ≡ true
side_ended-after k at b n r made other h = awaited n (side_ended k at b) (by (awaits n b h))
  where
    out : IsIn n (open_on k at b) → ⊥
    out i =
        let q = in-open_requests (is_of k at) b n i in
        clash q.0 (same-some q.0 r (sym q.1 ∙ made)) q.2
      where
        clash : (p : Request) → p ≡ r → is_of k at p ≡ true → ⊥
        clash p e h = not-both (is_of k at r) (ap (is_of k at) (sym e) ∙ h) other

    stays : passes (is_of k at) b n ≡ false
    stays = ap (made_passes (is_of k at)) made ∙ other

    by : Awaits n b → Awaits n (side_ended k at b)
    by (still q made' free) = still q made' (lookup-past-all (open_on k at b) n outcome.Disconnected
        b.outcomes out ∙ free)
    by (late i) = late (filter-in (λ m. not (passes (is_of k at) b m)) b.given_up n i
        (ap not stays))

-- ---- a request is made

-- what is found of outcomes that were kept is what was found, but for the new number
sent-missing : (d : Draft) (m n : ℕ) (outs : List (ℕ × Outcome))
    → lookup n (sent_at_once d m outs) ≡ None → lookup n outs ≡ None
sent-missing d m n outs h = by d.oneway h
  where
    by : (t : Bool) → lookup n (cond t ((m, outcome.Sent) ∷ outs) outs) ≡ None
        → lookup n outs ≡ None
    by true h = missing-before m n outcome.Sent outs h
    by false h = h

-- the requests that were made before are the same
pub sent-request : (d : Draft) (label : ℕ) (b : Bus) (n : ℕ) (r : Request) → request_of n b ≡ Some r
    → request_of n (sent d label b) ≡ Some r
sent-request d label b n r made = nth-more n b.requests (requested d label) r made

-- the new request
pub sent-new : (d : Draft) (label : ℕ) (b : Bus)
    → request_of (next_number b) (sent d label b) ≡ Some (requested d label)
sent-new d label b =
    ap (λ n. nth n (b.requests ++ requested d label ∷ [])) (add-one (length b.requests)) ∙ nth-push
    b.requests (requested d label)

-- a request that was made then was made before, or is the new one
pub sent-made : (d : Draft) (label : ℕ) (b : Bus) (n : ℕ) (r : Request)
    → request_of n (sent d label b) ≡ Some r
    → (request_of n b ≡ Some r) ⊎ ((n ≡ next_number b) × (r ≡ requested d label))
sent-made d label b n r made = by (request_of n b) refl
  where
    past : (length b.requests < n) ⊎ (n ≤ length b.requests)
        → (request_of n b ≡ Some r) ⊎ ((n ≡ next_number b) × (r ≡ requested d label))
    past (inr low) = inl (sym (nth-push-below n b.requests (requested d label) low) ∙ made)
    past (inl high) =
        let within = nth-within n (b.requests ++ requested d label ∷ []) r made in
        let is : n ≡ next_number b = omega (
          arith,
          within,
          length-append b.requests
              (requested d label ∷ []),
        ) in
        inr (
          is,
          same-some r (requested d label)
              (sym made ∙ ap (λ m. request_of m (sent d label b)) is ∙ sent-new d label b),
        )

    by : (o : Option Request) → request_of n b ≡ o
        → (request_of n b ≡ Some r) ⊎ ((n ≡ next_number b) × (r ≡ requested d label))
    by (Some q) e = inl (e ∙ sym (sent-request d label b n q e) ∙ made)
    by None e = past (cases_lt (length b.requests) n)

-- what is awaited once a request is made: what was before, and the new one, unless
-- it is unidirectional
pub sent-before : (d : Draft) (label : ℕ) (b : Bus) (n : ℕ) → OutcomesFit b
    → is_awaited n (sent d label b) ≡ true
    → (is_awaited n b ≡ true) ⊎ ((n ≡ next_number b) × (d.oneway ≡ false))
sent-before d label b n fits h = by (awaits n (sent d label b) h)
  where
    oneway : n ≡ next_number b → outcome_of n (sent d label b) ≡ None → d.oneway ≡ false
    oneway is free = way d.oneway refl
      where
        way : (t : Bool) → d.oneway ≡ t → d.oneway ≡ false
        way false e = e
        way true e = absurd (none-some (sym free
            ∙ ap (λ m. lookup m (sent_at_once d (next_number b) b.outcomes)) is
            ∙ ap (λ t. lookup (next_number b) (cond t ((next_number b, outcome.Sent) ∷ b.outcomes)
            b.outcomes)) e ∙ pair-there (next_number b) outcome.Sent b.outcomes))

    by : Awaits n (sent d label b)
        → (is_awaited n b ≡ true) ⊎ ((n ≡ next_number b) × (d.oneway ≡ false))
    by (late i) = inl (awaited n b (late i))
    by (still r made free) =
        ⊎_elim (λ old. inl (awaited n b (still r old (sent-missing d (next_number b) n b.outcomes
        free)))) (λ new. inr (new.0, oneway new.0 free)) (sent-made d label b n r made)

-- and all that was awaited before is
pub sent-after : (d : Draft) (label : ℕ) (b : Bus) (n : ℕ) → is_awaited n b ≡ true
    → is_awaited n (sent d label b) ≡ true
sent-after d label b n h = awaited n (sent d label b) (by (awaits n b h))
  where
    kept : (r : Request) → request_of n b ≡ Some r → outcome_of n b ≡ None
        → (t : Bool) → lookup n (cond t ((next_number b, outcome.Sent) ∷ b.outcomes) b.outcomes)
        ≡ None
    kept r made free false = free
    kept r made free true =
        lookup-past (next_number b) n outcome.Sent b.outcomes
        (λ e. absurd (omega (arith, nth-within n b.requests r made, e))) ∙ free

    by : Awaits n b → Awaits n (sent d label b)
    by (still r made free) = still r (sent-request d label b n r made) (kept r made free d.oneway)
    by (late i) = late i

-- the next request has no outcome yet
pub unended : (b : Bus) → OutcomesFit b → outcome_of (next_number b) b ≡ None
unended b fits = by (outcome_of (next_number b) b) refl
  where
    none : request_of (next_number b) b ≡ None
    none = nth-past (next_number b) b.requests (omega arith)

    by : (o : Option Outcome) → outcome_of (next_number b) b ≡ o
        → outcome_of (next_number b) b ≡ None
    by None e = e
    by (Some how) e = absurd (not-both (is_some (request_of (next_number b) b))
        (fits.made (next_number b) (ap is_some e)) (ap is_some none))

-- the new request is awaited, unless it is unidirectional
pub sent-awaited : (d : Draft) (label : ℕ) (b : Bus) → OutcomesFit b → d.oneway ≡ false
    → is_awaited (next_number b) (sent d label b) ≡ true
sent-awaited d label b fits twoway =
    awaited (next_number b) (sent d label b) (still (requested d label) (sent-new d label b)
    (ap (λ t. lookup (next_number b) (cond t ((next_number b, outcome.Sent) ∷ b.outcomes)
    b.outcomes)) twoway ∙ unended b fits))

-- the next request isn't awaited yet
pub unasked : (b : Bus) → OutcomesFit b → is_awaited (next_number b) b ≡ false
unasked b fits = by (is_awaited (next_number b) b) refl
  where
    out : Awaits (next_number b) b → ⊥
    out (still r made free) = absurd (omega (arith, nth-within (next_number b) b.requests r made))
    out (late i) = not-both (is_some (outcome_of (next_number b) b))
        (fits.given (next_number b) (in-any (next_number b) b.given_up i))
        (ap is_some (unended b fits))

    by : (t : Bool) → is_awaited (next_number b) b ≡ t → is_awaited (next_number b) b ≡ false
    by false e = e
    by true e = absurd (out (awaits (next_number b) b e))
