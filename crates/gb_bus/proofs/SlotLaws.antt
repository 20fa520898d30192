-- What the slots of requests go on to say.
use Rattle.std.proofs.Common.{◌≡◌, ◌≢◌, ◌<◌, ◌≤◌, ℕ, suc, ◌+◌, ◌-◌, Bool, true, false, cond, ◌||◌}
use Rattle.std.proofs.Common.{Option, Some, None, option_and_then, List, [], ◌∷◌, ◌++◌, length}
use Rattle.std.proofs.Common.{refl, sym, ap, ◌∙◌, ⊎_elim, arith, length-append, subst, eqb, nat_lt}
use Rattle.std.proofs.lemmas.Bool.{cases_eq, cases_lt}
use Rattle.std.proofs.lemmas.Bool.Decides.{nat_tests}
use Rattle.gb_base.specs.declared.outcome.Outcome.{Outcome}
use Rattle.gb_bus.specs.Slots.{ChangesAt, SlotsKept, ends_so, forgets, gets_name, gives_up_so}
use Rattle.gb_bus.specs.Slots.{loses_name, most_names, one_more, slot_at}
use Rattle.gb_bus.specs.Stands.{kept, kept_of}
use Rattle.gb_bus.specs.declared.slots.Slot.{Slot}
use Rattle.gb_invariants.proofs.Outcomes.{same-number}
use Rattle.gb_machine.proofs.Lists.{nth-past, nth-push, nth-push-below}
use Rattle.gb_machine.specs.Bus.{Request}
use Rattle.gb_machine.specs.Lists.{nth}
use Rattle.gb_bus.specs.Listing.{count}

-- The slots say what is asked for, and how it stands.
abbrev pub Tell : SlotsKept → List ℕ → List Request → (ℕ → Bool) → (ℕ → Option Outcome) → Type 0
Tell x names reqs awaited how =
    (n : ℕ) → slot_at x n ≡ kept_of n (awaited n) (count n names) (how n) (nth n reqs)

-- ---- one slot changes

-- what is said of one request changes as its slot does, and nothing of the others
pub record Moves (n : ℕ) (change : Slot → Option Slot) (names more : List ℕ)
    (reqs : List Request) (awaited later : ℕ → Bool) (how after : ℕ → Option Outcome) : Type 0 where
  pub here : (r : Request) → nth n reqs ≡ Some r
      → option_and_then change (kept_of n (awaited n) (count n names) (how n) (Some r))
      ≡ kept_of n (later n) (count n more) (after n) (Some r)
  pub awaits : (m : ℕ) → m ≢ n → later m ≡ awaited m
  pub counts : (m : ℕ) → m ≢ n → count m more ≡ count m names
  pub ends : (m : ℕ) → m ≢ n → after m ≡ how m

pub tell_moved : (old new : SlotsKept) (n : ℕ) (change : Slot → Option Slot) (names more : List ℕ)
    (reqs : List Request) (awaited later : ℕ → Bool) (how after : ℕ → Option Outcome)
    → Moves n change names more reqs awaited later how after → ChangesAt n change old new
    → Tell old names reqs awaited how → Tell new more reqs later after
tell_moved old new n change names more reqs awaited later how after moves changes tell m =
    changes m ∙ by (eqb m n) (λ i. eqb m n)
  where
    own : (o : Option Request) → nth n reqs ≡ o
        → option_and_then change (kept_of n (awaited n) (count n names) (how n) o)
        ≡ kept_of n (later n) (count n more) (after n) o
    own None e = refl
    own (Some r) e = moves.here r e

    at_n : option_and_then change (slot_at old n)
        ≡ kept_of n (later n) (count n more) (after n) (nth n reqs)
    at_n = ap (option_and_then change) (tell n) ∙ own (nth n reqs) (λ i. nth n reqs)

    by : (t : Bool) → eqb m n ≡ t
        → cond t (option_and_then change (slot_at old m)) (slot_at old m)
        ≡ kept_of m (later m) (count m more) (after m) (nth m reqs)
    by true e =
        subst (λ k. option_and_then change (slot_at old k)
        ≡ kept_of k (later k) (count k more) (after k) (nth k reqs)) (sym (same-number m n e)) at_n
    by false e =
        let other : m ≢ n = λ is. let t : eqb m n ≡ true = grind (arith, nat_tests) in
        absurd (both t e) in
        tell m
        ∙ sym (ap (λ a. kept_of m a (count m more) (after m) (nth m reqs)) (moves.awaits m other)
        ∙ ap (λ c. kept_of m (awaited m) c (after m) (nth m reqs)) (moves.counts m other)
        ∙ ap (λ o. kept_of m (awaited m) (count m names) o (nth m reqs)) (moves.ends m other))
      where
        both : eqb m n ≡ true → eqb m n ≡ false → ⊥
        both t f = absurd cc

-- ---- what becomes of the slot

-- an open request ends
pub here-ends : (n c : ℕ) (a b : Bool) (h g : Option Outcome) (how : Outcome) (r : Request)
    → a ≡ true → h ≡ None → b ≡ false → g ≡ Some how
    → option_and_then (ends_so how) (kept_of n a c h (Some r)) ≡ kept_of n b c g (Some r)
here-ends n c a b h g how r on free off ended =
    ap (λ x. option_and_then (ends_so how) (kept_of n x c h (Some r))) on
    ∙ ap (λ x. option_and_then (ends_so how) (kept_of n true c x (Some r))) free
    ∙ sym (ap (λ x. kept_of n x c g (Some r)) off ∙ ap (λ x. kept_of n false c x (Some r)) ended)

-- or is given up
pub here-gives_up : (n c : ℕ) (a b : Bool) (h g : Option Outcome) (how : Outcome) (r : Request)
    → a ≡ true → h ≡ None → b ≡ true → g ≡ Some how
    → option_and_then (gives_up_so how) (kept_of n a c h (Some r)) ≡ kept_of n b c g (Some r)
here-gives_up n c a b h g how r on free stays ended =
    ap (λ x. option_and_then (gives_up_so how) (kept_of n x c h (Some r))) on
    ∙ ap (λ x. option_and_then (gives_up_so how) (kept_of n true c x (Some r))) free
    ∙ sym (ap (λ x. kept_of n x c g (Some r)) stays ∙ ap (λ x. kept_of n true c x (Some r)) ended)

-- a request that has ended isn't awaited any more
pub here-forgets : (n c : ℕ) (a b : Bool) (h g : Option Outcome) (v : Outcome) (r : Request)
    → h ≡ Some v → b ≡ false → g ≡ h
    → option_and_then forgets (kept_of n a c h (Some r)) ≡ kept_of n b c g (Some r)
here-forgets n c a b h g v r over off same =
    ap (λ x. option_and_then forgets (kept_of n a c x (Some r))) over ∙ by a
    ∙ sym (ap (λ x. kept_of n x c g (Some r)) off
    ∙ ap (λ x. kept_of n false c x (Some r)) (same ∙ over))
  where
    named : (t : Bool) → nat_lt 0 c ≡ t
        → option_and_then forgets (cond t (Some (kept n false c (Some v) r)) None)
        ≡ cond t (Some (kept n false c (Some v) r)) None
    named true e = ap (λ t. cond t (Some (kept n false c (Some v) r)) None) e
    named false e = refl

    by : (x : Bool) → option_and_then forgets (kept_of n x c (Some v) (Some r))
        ≡ kept_of n false c (Some v) (Some r)
    by true = refl
    by false = named (nat_lt 0 c) (λ i. nat_lt 0 c)

-- a request that is asked for has one more name
pub here-named : (n c d : ℕ) (a : Bool) (h : Option Outcome) (r : Request)
    → a || nat_lt 0 c ≡ true → c < most_names → d ≡ c + 1
    → option_and_then gets_name (kept_of n a c h (Some r)) ≡ kept_of n a d h (Some r)
here-named n c d a h r asked room more =
    ap (λ t. option_and_then gets_name (cond t (Some (kept n a c h r)) None)) asked
    ∙ ap (λ k. Some (kept n a k h r)) (one ∙ sym more)
    ∙ sym (ap (λ t. cond t (Some (kept n a d h r)) None) still)
  where
    one : one_more c ≡ c + 1
    one = let t : eqb c most_names ≡ false = grind (arith, nat_tests) in
        ap (λ t. cond t c (c + 1)) t

    late : (x : Bool) → nat_lt 0 d ≡ true → x || nat_lt 0 d ≡ true
    late true e = refl
    late false e = e

    still : a || nat_lt 0 d ≡ true
    still = late a (let t : nat_lt 0 d ≡ true = grind (arith, nat_tests, more) in t)

-- a request has one name less
pub here-unnamed : (n c d : ℕ) (a : Bool) (h : Option Outcome) (r : Request) → d ≡ c - 1
    → option_and_then loses_name (kept_of n a c h (Some r)) ≡ kept_of n a d h (Some r)
here-unnamed n c d a h r less =
    by (a || nat_lt 0 c) (λ i. a || nat_lt 0 c) ∙ ap (λ k. kept_of n a k h (Some r)) (sym less)
  where
    none : (x : Bool) (k : ℕ) → x || nat_lt 0 k ≡ false
        → None ≡ cond (x || nat_lt 0 (k - 1)) (Some (kept n x (k - 1) h r)) None
    none true k e = absurd cc
    none false k e =
        let z : nat_lt 0 (k - 1) ≡ false = grind (arith, nat_tests, e) in
        sym (ap (λ t. cond t (Some (kept n false (k - 1) h r)) None) z)

    by : (t : Bool) → a || nat_lt 0 c ≡ t
        → option_and_then loses_name (cond t (Some (kept n a c h r)) None)
        ≡ kept_of n a (c - 1) h (Some r)
    by true e = refl
    by false e = none a c e

-- ---- one more request

-- what is said of the requests that were made before, and of those that weren't made
others-tell : (old : SlotsKept) (names : List ℕ) (reqs : List Request) (awaited later : ℕ → Bool)
    (how after : ℕ → Option Outcome) (r : Request)
    → ((m : ℕ) → m ≤ length reqs → later m ≡ awaited m)
    → ((m : ℕ) → m ≤ length reqs → after m ≡ how m)
    → Tell old names reqs awaited how → (m : ℕ) → m ≢ length reqs + 1
    → slot_at old m ≡ kept_of m (later m) (count m names) (after m) (nth m (reqs ++ r ∷ []))
others-tell old names reqs awaited later how after r awaits ends tell m other =
    ⊎_elim past below (cases_lt (length reqs) m)
  where
    Says : Type 0
    Says = slot_at old m ≡ kept_of m (later m) (count m names) (after m) (nth m (reqs ++ r ∷ []))

    past : length reqs < m → Says
    past h =
        let new_end : length (reqs ++ r ∷ []) < m =
        omega (arith, h, other, length-append reqs (r ∷ [])) in
        tell m ∙ ap (kept_of m (awaited m) (count m names) (how m)) (nth-past m reqs h)
        ∙ sym (ap (kept_of m (later m) (count m names) (after m))
        (nth-past m (reqs ++ r ∷ []) new_end))

    below : m ≤ length reqs → Says
    below h =
        tell m
        ∙ sym (ap (λ a. kept_of m a (count m names) (after m) (nth m (reqs ++ r ∷ [])))
        (awaits m h)
        ∙ ap (λ o. kept_of m (awaited m) (count m names) o (nth m (reqs ++ r ∷ []))) (ends m h)
        ∙ ap (kept_of m (awaited m) (count m names) (how m)) (nth-push-below m reqs r h))

-- a request that is open is kept
pub tell_more : (old new : SlotsKept) (slot : Slot) (names : List ℕ) (reqs : List Request)
    (awaited later : ℕ → Bool) (how after : ℕ → Option Outcome) (r : Request)
    → ((m : ℕ) → slot_at new m ≡ cond (eqb m slot.number) (Some slot) (slot_at old m))
    → slot ≡ kept (length reqs + 1) true 0 None r
    → ((m : ℕ) → m ≤ length reqs → later m ≡ awaited m)
    → ((m : ℕ) → m ≤ length reqs → after m ≡ how m)
    → later (length reqs + 1) ≡ true → after (length reqs + 1) ≡ None
    → count (length reqs + 1) names ≡ 0
    → Tell old names reqs awaited how → Tell new names (reqs ++ r ∷ []) later after
tell_more old new slot names reqs awaited later how after r puts is awaits ends on free unnamed tell
    m =
    puts m ∙ ap (λ (s : Slot). cond (eqb m s.number) (Some s) (slot_at old m)) is
    ∙ by (eqb m k) (λ i. eqb m k)
  where
    k : ℕ
    k = length reqs + 1

    newest : nth k (reqs ++ r ∷ []) ≡ Some r
    newest =
        let e : k ≡ suc (length reqs) = omega arith in
        ap (λ j. nth j (reqs ++ r ∷ [])) e ∙ nth-push reqs r

    at_k : Some (kept k true 0 None r)
        ≡ kept_of k (later k) (count k names) (after k) (nth k (reqs ++ r ∷ []))
    at_k =
        sym (ap (λ a. kept_of k a (count k names) (after k) (nth k (reqs ++ r ∷ []))) on
        ∙ ap (λ c. kept_of k true c (after k) (nth k (reqs ++ r ∷ []))) unnamed
        ∙ ap (λ o. kept_of k true 0 o (nth k (reqs ++ r ∷ []))) free
        ∙ ap (λ o. kept_of k true 0 None o) newest)

    by : (t : Bool) → eqb m k ≡ t
        → cond t (Some (kept k true 0 None r)) (slot_at old m)
        ≡ kept_of m (later m) (count m names) (after m) (nth m (reqs ++ r ∷ []))
    by true e =
        subst (λ j. Some (kept k true 0 None r)
        ≡ kept_of j (later j) (count j names) (after j) (nth j (reqs ++ r ∷ [])))
        (sym (same-number m k e)) at_k
    by false e =
        others-tell old names reqs awaited later how after r awaits ends tell m
        (let other : m ≢ k = grind (arith, nat_tests, e) in other)

-- of one that is unidirectional nothing is
pub tell_sent : (old new : SlotsKept) (names : List ℕ) (reqs : List Request)
    (awaited later : ℕ → Bool) (how after : ℕ → Option Outcome) (r : Request)
    → ((m : ℕ) → slot_at new m ≡ slot_at old m)
    → ((m : ℕ) → m ≤ length reqs → later m ≡ awaited m)
    → ((m : ℕ) → m ≤ length reqs → after m ≡ how m)
    → later (length reqs + 1) ≡ false → count (length reqs + 1) names ≡ 0
    → Tell old names reqs awaited how → Tell new names (reqs ++ r ∷ []) later after
tell_sent old new names reqs awaited later how after r same awaits ends off unnamed tell m =
    same m
    ∙ ⊎_elim newest (others-tell old names reqs awaited later how after r awaits ends tell m)
    (cases_eq m k)
  where
    k : ℕ
    k = length reqs + 1

    unkept : (o : Option Request) → None ≡ kept_of k false 0 (after k) o
    unkept None = refl
    unkept (Some q) = refl

    newest : m ≡ k
        → slot_at old m ≡ kept_of m (later m) (count m names) (after m) (nth m (reqs ++ r ∷ []))
    newest is =
        let end : length reqs < m = omega (arith, is) in
        tell m ∙ ap (kept_of m (awaited m) (count m names) (how m)) (nth-past m reqs end)
        ∙ subst (λ j. None
        ≡ kept_of j (later j) (count j names) (after j) (nth j (reqs ++ r ∷ [])))
        (sym is) (unkept (nth k (reqs ++ r ∷ []))
        ∙ sym (ap (λ a. kept_of k a (count k names) (after k) (nth k (reqs ++ r ∷ []))) off
        ∙ ap (λ c. kept_of k false c (after k) (nth k (reqs ++ r ∷ []))) unnamed))
