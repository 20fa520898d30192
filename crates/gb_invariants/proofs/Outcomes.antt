-- What outcomes and the list of those that were given up say after a change.
use Rattle.std.proofs.Common.{Bool, List, None, Option, Some, ap, arith, cond, false, inl, inr}
use Rattle.std.proofs.Common.{is_none, is_some, one-add, refl, subst, suc, sym, true, zero, ℕ}
use Rattle.std.proofs.Common.{⊎_elim, [], ◌&&◌, ◌+◌, ◌<◌, ◌==◌, ◌||◌, ◌∙◌, ◌∷◌, ◌≡◌, ◌≤◌, ◌⊎◌}
use Rattle.std.proofs.lemmas.Bool.Decides.{nat_tests}
use Rattle.std.specs.List.{list_any, slice_get}
use Rattle.gb_base.specs.declared.outcome.Outcome.{Outcome}
use Rattle.gb_machine.specs.Bus.{Bus, Connection, Request, outcome_of, request_of}
use Rattle.gb_machine.specs.Members.{Each, EachTwo, IsIn, times}
use Rattle.gb_machine.specs.{LawsEnds.is_outcome_of, Lists.lookup, Lists.nth, Requests.open_from}
use Rattle.gb_machine.specs.{Requests.open_requests, Wiring.all_ended}

-- ---- tests

pub both-true : (a b : Bool) → a && b ≡ true → (a ≡ true) × (b ≡ true)
both-true true b h = (refl, h)
both-true false b h = absurd cc

pub same-number : (m n : ℕ) → (m == n) ≡ true → m ≡ n
same-number m n h = grind (arith, nat_tests)

pub is-same : (n : ℕ) → (n == n) ≡ true
is-same n = grind (arith, nat_tests)

-- a number is in a list where a test finds it
pub any-in : (n : ℕ) (xs : List ℕ) → list_any (λ m. m == n) xs ≡ true → IsIn n xs
any-in n [] h = absurd cc
any-in n (x ∷ xs) h = by (x == n) refl h (any-in n xs)
  where
    by : (b : Bool) → (x == n) ≡ b → b || list_any (λ m. m == n) xs ≡ true
        → (list_any (λ m. m == n) xs ≡ true → IsIn n xs) → IsIn n (x ∷ xs)
    by true e h rec = inl (sym (same-number x n e))
    by false e h rec = inr (rec h)

pub in-any : (n : ℕ) (xs : List ℕ) → IsIn n xs → list_any (λ m. m == n) xs ≡ true
in-any n [] i = absurd i
in-any n (x ∷ xs) (inl e) = ap (λ b. b || list_any (λ m. m == n) xs)
    (ap (λ m. m == n) (sym e) ∙ is-same n)
in-any n (x ∷ xs) (inr later) = or-later (x == n) (list_any (λ m. m == n) xs) (in-any n xs later)
  where
    or-later : (a b : Bool) → b ≡ true → a || b ≡ true
    or-later true b h = refl
    or-later false b h = h

-- ---- lookups

-- behind a new pair nothing is missing that was missing before
pub missing-before : (m n : ℕ) (how : Outcome) (outs : List (ℕ × Outcome))
    → lookup n ((m, how) ∷ outs) ≡ None → lookup n outs ≡ None
missing-before m n how outs h = by (m == n) h
  where
    by : (b : Bool) → cond b (Some how) (lookup n outs) ≡ None → lookup n outs ≡ None
    by true h = absurd cc
    by false h = h

-- what is there stays there
pub there-after : (m n : ℕ) (how : Outcome) (outs : List (ℕ × Outcome))
    → is_some (lookup n outs) ≡ true → is_some (lookup n ((m, how) ∷ outs)) ≡ true
there-after m n how outs h = by (m == n)
  where
    by : (b : Bool) → is_some (cond b (Some how) (lookup n outs)) ≡ true
    by true = refl
    by false = h

-- the pair is there
pub pair-there : (n : ℕ) (how : Outcome) (outs : List (ℕ × Outcome))
    → lookup n ((n, how) ∷ outs) ≡ Some how
pair-there n how outs = ap (λ b. cond b (Some how) (lookup n outs)) (is-same n)

-- another number's outcome stays
pub lookup-past : (m n : ℕ) (how : Outcome) (outs : List (ℕ × Outcome)) → (m ≡ n → ⊥)
    → lookup n ((m, how) ∷ outs) ≡ lookup n outs
lookup-past m n how outs other = by (m == n) refl
  where
    by : (b : Bool) → (m == n) ≡ b → cond b (Some how) (lookup n outs) ≡ lookup n outs
    by true e = absurd (other (same-number m n e))
    by false e = refl

-- ---- several ends

pub missing-all : (ns : List ℕ) (n : ℕ) (how : Outcome) (outs : List (ℕ × Outcome))
    → lookup n (all_ended ns how outs) ≡ None → lookup n outs ≡ None
missing-all [] n how outs h = h
missing-all (m ∷ ns) n how outs h = missing-before m n how outs
    (missing-all ns n how ((m, how) ∷ outs) h)

pub there-all : (ns : List ℕ) (n : ℕ) (how : Outcome) (outs : List (ℕ × Outcome))
    → is_some (lookup n outs) ≡ true → is_some (lookup n (all_ended ns how outs)) ≡ true
there-all [] n how outs h = h
there-all (m ∷ ns) n how outs h = there-all ns n how ((m, how) ∷ outs) (there-after m n how outs h)

pub lookup-past-all : (ns : List ℕ) (n : ℕ) (how : Outcome) (outs : List (ℕ × Outcome))
    → (IsIn n ns → ⊥) → lookup n (all_ended ns how outs) ≡ lookup n outs
lookup-past-all [] n how outs other = refl
lookup-past-all (m ∷ ns) n how outs other =
    lookup-past-all ns n how ((m, how) ∷ outs) (λ i. other (inr i))
    ∙ lookup-past m n how outs (λ e. other (inl (sym e)))

-- what has an outcome then had one before, or is one that ended
pub found-all : (ns : List ℕ) (n : ℕ) (how : Outcome) (outs : List (ℕ × Outcome))
    → is_some (lookup n (all_ended ns how outs)) ≡ true
    → (is_some (lookup n outs) ≡ true) ⊎ IsIn n ns
found-all [] n how outs h = inl h
found-all (m ∷ ns) n how outs h =
    ⊎_elim (λ a. by (m == n) refl a) (λ i. inr (inr i)) (found-all ns n how ((m, how) ∷ outs) h)
  where
    by : (b : Bool) → (m == n) ≡ b → is_some (cond b (Some how) (lookup n outs)) ≡ true
        → (is_some (lookup n outs) ≡ true) ⊎ IsIn n (m ∷ ns)
    by true e a = inr (inl (sym (same-number m n e)))
    by false e a = inl a

-- ---- each number once

-- each number has one outcome at most
abbrev pub AtMostOnce : List (ℕ × Outcome) → Type 0
AtMostOnce outs = (n : ℕ) → times (is_outcome_of n) outs ≤ 1

-- a number that has no outcome isn't counted
pub none-counted : (n : ℕ) (outs : List (ℕ × Outcome)) → lookup n outs ≡ None
    → times (is_outcome_of n) outs ≡ 0
none-counted n [] h = refl
none-counted n (p ∷ ps) h = by (p.0 == n) h (none-counted n ps)
  where
    by : (b : Bool) → cond b (Some p.1) (lookup n ps) ≡ None
        → (lookup n ps ≡ None → times (is_outcome_of n) ps ≡ 0)
        → cond b (times (is_outcome_of n) ps + 1) (times (is_outcome_of n) ps) ≡ 0
    by true h rec = absurd cc
    by false h rec = rec h

pub once-more : (m : ℕ) (how : Outcome) (outs : List (ℕ × Outcome)) → lookup m outs ≡ None
    → AtMostOnce outs → AtMostOnce ((m, how) ∷ outs)
once-more m how outs free h n = by (m == n) refl
  where
    by : (b : Bool) → (m == n) ≡ b
        → cond b (times (is_outcome_of n) outs + 1) (times (is_outcome_of n) outs) ≤ 1
    by true e =
        let zeroed : times (is_outcome_of n) outs ≡ 0 =
        subst (λ k. times (is_outcome_of k) outs ≡ 0) (same-number m n e) (none-counted m outs free)
        in
        omega arith
    by false e = h n

-- numbers that rise
abbrev pub Rise : List ℕ → Type 0
Rise ns = EachTwo (λ (m n : ℕ). m < n) ns

pub once-all : (ns : List ℕ) (how : Outcome) (outs : List (ℕ × Outcome)) → Rise ns
    → Each (λ n. lookup n outs ≡ None) ns → AtMostOnce outs → AtMostOnce (all_ended ns how outs)
once-all [] how outs rise free h = h
once-all (m ∷ ns) how outs rise free h =
    once-all ns how ((m, how) ∷ outs) rise.1 (later ns rise.0 free.1)
    (once-more m how outs free.0 h)
  where
    later : (ks : List ℕ) → Each (λ n. m < n) ks → Each (λ n. lookup n outs ≡ None) ks
        → Each (λ n. lookup n ((m, how) ∷ outs) ≡ None) ks
    later [] a b = tt
    later (k ∷ ks) a b =
        (lookup-past m k how outs (λ e. absurd (omega (arith, a.0, e))) ∙ b.0, later ks a.1 b.1)

-- ---- which requests are open

pub nth-at : {A : Type 0} (i : ℕ) (xs : List A) → nth (1 + i) xs ≡ slice_get xs i
nth-at i xs = ap (λ n. nth n xs) (one-add i)

-- what stands of a member of the list of those that pass a test and have no outcome
pub record IsOpenFrom (start : ℕ) (test : Request → Bool) (b : Bus) (rs : List Request) (n : ℕ) :
    Type 0 where
  pub place : ℕ
  pub request : Request
  pub is : n ≡ start + place
  pub at : slice_get rs place ≡ Some request
  pub passes : test request ≡ true
  pub missing : outcome_of n b ≡ None

none-is : {A : Type 0} (o : Option A) → is_none o ≡ true → o ≡ None
none-is None h = refl
none-is (Some x) h = absurd cc

in-open_from : (start : ℕ) (test : Request → Bool) (b : Bus) (rs : List Request) (n : ℕ)
    → IsIn n (open_from start test b rs) → IsOpenFrom start test b rs n
in-open_from start test b [] n i = absurd i
in-open_from start test b (r ∷ rs) n i =
    by (test r && is_none (outcome_of start b)) refl i (in-open_from (start + 1) test b rs n)
  where
    later : IsOpenFrom (start + 1) test b rs n → IsOpenFrom start test b (r ∷ rs) n
    later h = record {
      place = suc h.place;
      request = h.request;
      is = h.is ∙ (let e : start + 1 + h.place ≡ start + suc h.place = omega arith in e);
      at = h.at;
      passes = h.passes;
      missing = h.missing;
    }

    by : (t : Bool) → (test r && is_none (outcome_of start b)) ≡ t
        → IsIn n (cond t (start ∷ open_from (start + 1) test b rs)
        (open_from (start + 1) test b rs))
        → (IsIn n (open_from (start + 1) test b rs) → IsOpenFrom (start + 1) test b rs n)
        → IsOpenFrom start test b (r ∷ rs) n
    by true e (inl is) rec =
        let h = both-true (test r) (is_none (outcome_of start b)) e in
        record {
          place = 0;
          request = r;
          is = is ∙ (let z : start ≡ start + 0 = omega arith in z);
          at = refl;
          passes = h.0;
          missing = none-is (outcome_of n b) (ap (λ m. is_none (outcome_of m b)) is ∙ h.1);
        }
    by true e (inr i) rec = later (rec i)
    by false e i rec = later (rec i)

-- a number in the list of open requests is that of a request that passes and has no outcome
pub in-open_requests : (test : Request → Bool) (b : Bus) (n : ℕ) → IsIn n (open_requests test b)
    → (r : Request) × (request_of n b ≡ Some r) × (test r ≡ true) × (outcome_of n b ≡ None)
in-open_requests test b n i =
    let h = in-open_from 1 test b b.requests n i in (
      h.request,
      ap (λ m. request_of m b) h.is ∙ nth-at h.place b.requests ∙ h.at,
      h.passes,
      h.missing,
    )

open_from-in : (start : ℕ) (test : Request
    → Bool) (b : Bus) (rs : List Request) (i : ℕ) (r : Request)
    → slice_get rs i ≡ Some r → test r ≡ true → outcome_of (start + i) b ≡ None
    → IsIn (start + i) (open_from start test b rs)
open_from-in start test b [] i r at passes free = absurd cc
open_from-in start test b (q ∷ qs) zero r at passes free =
    let s : start + 0 ≡ start = omega arith in
    let same : q ≡ r = cc in
    first (test q && is_none (outcome_of start b))
    (both (test q) (is_none (outcome_of start b)) (ap test same ∙ passes)
    (ap is_none (ap (λ m. outcome_of m b) (sym s) ∙ free))) s
  where
    both : (x y : Bool) → x ≡ true → y ≡ true → x && y ≡ true
    both true y h k = k
    both false y h k = absurd cc

    first : (t : Bool) → t ≡ true → start + 0 ≡ start
        → IsIn (start + 0) (cond t (start ∷ open_from (start + 1) test b qs)
        (open_from (start + 1) test b qs))
    first true h s = inl s
    first false h s = absurd cc
open_from-in start test b (q ∷ qs) (suc i) r at passes free =
    let s : start + 1 + i ≡ start + suc i = omega arith in
    within (test q && is_none (outcome_of start b))
    (subst (λ m. IsIn m (open_from (start + 1) test b qs)) s
    (open_from-in (start + 1) test b qs i r at passes (ap (λ m. outcome_of m b) s ∙ free)))
  where
    within : (t : Bool) → IsIn (start + suc i) (open_from (start + 1) test b qs)
        → IsIn (start + suc i) (cond t (start ∷ open_from (start + 1) test b qs)
        (open_from (start + 1) test b qs))
    within true j = inr j
    within false j = j

-- a request that passes and has no outcome is in the list
pub open_requests-in : (test : Request → Bool) (b : Bus) (n : ℕ) (r : Request)
    → request_of n b ≡ Some r → test r ≡ true → outcome_of n b ≡ None
    → IsIn n (open_requests test b)
open_requests-in test b zero r made passes free = absurd cc
open_requests-in test b (suc i) r made passes free =
    subst (λ m. IsIn m (open_requests test b)) (one-add i)
    (open_from-in 1 test b b.requests i r made passes (ap (λ m. outcome_of m b) (one-add i) ∙ free))

above-start : (start : ℕ) (test : Request → Bool) (b : Bus) (rs : List Request)
    → Each (λ n. start ≤ n) (open_from start test b rs)
above-start start test b rs = all (open_from start test b rs)
    (λ n i. let h = in-open_from start test b rs n i in omega (arith, h.is))
  where
    all : (ns : List ℕ) → ((n : ℕ) → IsIn n ns → start ≤ n) → Each (λ n. start ≤ n) ns
    all [] f = tt
    all (n ∷ ns) f = (f n (inl refl), all ns (λ m i. f m (inr i)))

open_from-rise : (start : ℕ) (test : Request → Bool) (b : Bus) (rs : List Request)
    → Rise (open_from start test b rs)
open_from-rise start test b [] = tt
open_from-rise start test b (r ∷ rs) =
    by (test r && is_none (outcome_of start b)) (above (open_from (start + 1) test b rs)
    (above-start (start + 1) test b rs)) (open_from-rise (start + 1) test b rs)
  where
    above : (ns : List ℕ) → Each (λ n. start + 1 ≤ n) ns → Each (λ n. start < n) ns
    above [] h = tt
    above (n ∷ ns) h = (omega (arith, h.0), above ns h.1)

    by : (t : Bool) → Each (λ n. start < n) (open_from (start + 1) test b rs)
        → Rise (open_from (start + 1) test b rs)
        → Rise (cond t (start ∷ open_from (start + 1) test b rs) (open_from (start + 1) test b rs))
    by true h k = (h, k)
    by false h k = k

-- the open requests rise by number
pub open_requests-rise : (test : Request → Bool) (b : Bus) → Rise (open_requests test b)
open_requests-rise test b = open_from-rise 1 test b b.requests

open_from-same : (n : ℕ) (test : Request
    → Bool) (b : Bus) (cs : List Connection) (rs : List Request)
    → open_from n test (record b { connections = cs }) rs ≡ open_from n test b rs
open_from-same n test b cs [] = refl
open_from-same n test b cs (r ∷ rs) =
    ap (λ later. cond (test r && is_none (outcome_of n b)) (n ∷ later) later)
    (open_from-same (n + 1) test b cs rs)

-- which requests are open is no matter of connections
pub open_requests-same : (test : Request → Bool) (b : Bus) (cs : List Connection)
    → open_requests test (record b { connections = cs }) ≡ open_requests test b
open_requests-same test b cs = open_from-same 1 test b cs b.requests
