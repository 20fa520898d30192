-- Entries in order of their numbers.
use Rattle.std.proofs.Common.{◌≡◌, ◌≢◌, ◌<◌, ℕ, Bool, true, false, cond, not, ◌==◌, nat_le, nat_lt}
use Rattle.std.proofs.Common.{◌⊎◌, inl, inr, Option, Some, None, List, [], ◌∷◌, refl, sym, ap, ◌∙◌}
use Rattle.std.proofs.Common.{subst, arith}
use Rattle.std.proofs.lemmas.Bool.{cases_eq}
use Rattle.std.proofs.lemmas.Bool.Decides.{nat_tests}
use Rattle.std.proofs.lemmas.Map.{keys-set_value}
use Rattle.std.proofs.lemmas.Map.Keys.{IsDistinct-head, IsDistinct-tail}
use Rattle.std.specs.List.{AllByRecursion, IsDistinct}
use Rattle.std.specs.Map.{keys_of, lookup, set_value}
use Rattle.std.specs.Prelude.{nat_eq}
use Rattle.gb_bus.proofs.Entries.{other-number, same-number, same-some, set-here, set-others}
use Rattle.gb_bus.proofs.Entries.{some-none}
use Rattle.gb_bus.specs.Listing.{Rises}
use Rattle.gb_bus.specs.Seen.{by_number, number_before}
use Rattle.gb_invariants.proofs.Lists.{each-weaker}
use Rattle.gb_machine.specs.Lists.{in_order, without}
use Rattle.gb_machine.specs.Members.{Each}

-- ---- what is found there

-- an entry in its place is found as in front of all
lookup-in : {X : Type 0} (n : ℕ) (e : ℕ × X) (es : List (ℕ × X))
    → lookup (nat_eq n) (in_order number_before e es) ≡ lookup (nat_eq n) (e ∷ es)
lookup-in n e [] = refl
lookup-in {X} n e (f ∷ es) = by (nat_le e.0 f.0) refl (lookup-in n e es)
  where
    not-both : (a b : ℕ) → nat_le a b ≡ false → nat_eq n a ≡ true → nat_eq n b ≡ true → ⊥
    not-both a b low s t = grind (arith, nat_tests)

    turn : (o : Option X) (a : Bool) → nat_eq n e.0 ≡ a → (b : Bool) → nat_eq n f.0 ≡ b
        → nat_le e.0 f.0 ≡ false
        → cond b (Some f.1) (cond a (Some e.1) o) ≡ cond a (Some e.1) (cond b (Some f.1) o)
    turn o true s true t low = absurd (not-both e.0 f.0 low s t)
    turn o true s false t low = refl
    turn o false s b t low = refl

    by : (b : Bool) → nat_le e.0 f.0 ≡ b
        → lookup (nat_eq n) (in_order number_before e es) ≡ lookup (nat_eq n) (e ∷ es)
        → lookup (nat_eq n) (cond b (e ∷ f ∷ es) (f ∷ in_order number_before e es))
        ≡ lookup (nat_eq n) (e ∷ f ∷ es)
    by true low later = refl
    by false low later =
        ap (λ o. cond (nat_eq n f.0) (Some f.1) o) later
        ∙ turn (lookup (nat_eq n) es) (nat_eq n e.0) refl (nat_eq n f.0) refl low

pub lookup-sorted : {X : Type 0} (n : ℕ) (es : List (ℕ × X))
    → lookup (nat_eq n) (by_number es) ≡ lookup (nat_eq n) es
lookup-sorted n [] = refl
lookup-sorted n (e ∷ es) =
    lookup-in n e (by_number es)
    ∙ ap (λ o. cond (nat_eq n e.0) (Some e.1) o) (lookup-sorted n es)

-- ---- their numbers rise

each-more : {X : Type 0} (P : ℕ → Type 0) (e : ℕ × X) (es : List (ℕ × X)) → P e.0
    → Each P (keys_of es) → Each P (keys_of (in_order number_before e es))
each-more P e [] own h = (own, tt)
each-more P e (f ∷ es) own h = by (nat_le e.0 f.0) (each-more P e es own h.1)
  where
    by : (b : Bool) → Each P (keys_of (in_order number_before e es))
        → Each P (keys_of (cond b (e ∷ f ∷ es) (f ∷ in_order number_before e es)))
    by true later = (own, h)
    by false later = (h.0, later)

each-sorted : {X : Type 0} (P : ℕ → Type 0) (es : List (ℕ × X)) → Each P (keys_of es)
    → Each P (keys_of (by_number es))
each-sorted P [] h = tt
each-sorted P (e ∷ es) h = each-more P e (by_number es) h.0 (each-sorted P es h.1)

through-all : (k n : ℕ) (ms : List ℕ) → k < n → Each (λ m. n < m) ms → Each (λ m. k < m) ms
through-all k n ms low h = each-weaker (λ m. n < m) (λ m. k < m) ms (λ m far. more k n m low far) h
  where
    more : (k n m : ℕ) → k < n → n < m → k < m
    more k n m a b = omega (arith, a, b)

rises-in : {X : Type 0} (e : ℕ × X) (es : List (ℕ × X))
    → Each (λ k. nat_eq e.0 k ≡ false) (keys_of es) → Rises (keys_of es)
    → Rises (keys_of (in_order number_before e es))
rises-in e [] other h = (tt, tt)
rises-in e (f ∷ es) other h =
    by (nat_le e.0 f.0) refl (rises-in e es other.1 h.1)
  where
    below : (n m : ℕ) → nat_le n m ≡ true → nat_eq n m ≡ false → n < m
    below n m low ne = grind (arith, nat_tests)

    above : (n m : ℕ) → nat_le n m ≡ false → m < n
    above n m low = grind (arith, nat_tests)

    by : (b : Bool) → nat_le e.0 f.0 ≡ b → Rises (keys_of (in_order number_before e es))
        → Rises (keys_of (cond b (e ∷ f ∷ es) (f ∷ in_order number_before e es)))
    by true low later =
        let first = below e.0 f.0 low other.0 in
        ((first, through-all e.0 f.0 (keys_of es) first h.0), h)
    by false low later = (each-more (λ m. f.0 < m) e es (above e.0 f.0 low) h.0, later)

each-key : (P : ℕ → Type 0) (ks : List ℕ) → AllByRecursion P ks → Each P ks
each-key P [] h = tt
each-key P (k ∷ ks) h = (h.0, each-key P ks h.1)

pub rises-sorted : {X : Type 0} (es : List (ℕ × X)) → IsDistinct nat_eq (keys_of es)
    → Rises (keys_of (by_number es))
rises-sorted [] d = tt
rises-sorted (e ∷ es) d =
    rises-in e (by_number es)
    (each-sorted (λ k. nat_eq e.0 k ≡ false) es
    (each-key (λ k. nat_eq e.0 k ≡ false) (keys_of es) (IsDistinct-head nat_eq e.0 (keys_of es) d)))
    (rises-sorted es (IsDistinct-tail nat_eq e.0 (keys_of es) d))

-- numbers that rise differ
rises-distinct : (ks : List ℕ) → Rises ks → IsDistinct nat_eq ks
unfolding IsDistinct
rises-distinct [] h = tt
rises-distinct (k ∷ ks) h = (others k ks h.0, rises-distinct ks h.1)
  where
    differs : (n m : ℕ) → n < m → nat_eq n m ≡ false
    differs n m low = grind (arith, nat_tests)

    others : (n : ℕ) (ms : List ℕ) → Each (λ m. n < m) ms
        → AllByRecursion (λ m. nat_eq n m ≡ false) ms
    others n [] h = tt
    others n (m ∷ ms) h = (differs n m h.0, others n ms h.1)

pub unique-sorted : {X : Type 0} (es : List (ℕ × X)) → IsDistinct nat_eq (keys_of es)
    → IsDistinct nat_eq (keys_of (by_number es))
unique-sorted es d = rises-distinct (keys_of (by_number es)) (rises-sorted es d)

-- ---- two lists that rise and have the same

-- a number that is below all is none of them
below-all : {X : Type 0} (n : ℕ) (es : List (ℕ × X)) → Each (λ k. n < k) (keys_of es)
    → lookup (nat_eq n) es ≡ None
below-all n [] h = refl
below-all n (e ∷ es) h =
    ap (λ b. cond b (Some e.1) (lookup (nat_eq n) es)) (other-number n e.0 (differs n e.0 h.0))
    ∙ below-all n es h.1
  where
    differs : (a b : ℕ) → a < b → a ≢ b
    differs a b low same = absurd (omega (arith, low, same))

at-head : {X : Type 0} (n : ℕ) (e : ℕ × X) (es : List (ℕ × X)) → n ≡ e.0
    → lookup (nat_eq n) (e ∷ es) ≡ Some e.1
at-head n e es same =
    ap (λ b. cond b (Some e.1) (lookup (nat_eq n) es)) (same-number n e.0 same)

past-head : {X : Type 0} (n : ℕ) (e : ℕ × X) (es : List (ℕ × X)) → n ≢ e.0
    → lookup (nat_eq n) (e ∷ es) ≡ lookup (nat_eq n) es
past-head n e es ne =
    ap (λ b. cond b (Some e.1) (lookup (nat_eq n) es)) (other-number n e.0 ne)

-- Entries whose numbers rise are the same where the same is found at each number.
same-entries : {X : Type 0} (es fs : List (ℕ × X)) → Rises (keys_of es) → Rises (keys_of fs)
    → ((n : ℕ) → lookup (nat_eq n) es ≡ lookup (nat_eq n) fs) → es ≡ fs
same-entries [] [] r s same = refl
same-entries [] (f ∷ fs) r s same =
    absurd (some-none f.1 (sym (at-head f.0 f fs refl) ∙ sym (same f.0)))
same-entries (e ∷ es) [] r s same =
    absurd (some-none e.1 (sym (at-head e.0 e es refl) ∙ same e.0))
same-entries {X} (e ∷ es) (f ∷ fs) r s same =
    by (nat_lt e.0 f.0) refl (nat_lt f.0 e.0) refl (λ same. same-entries es fs r.1 s.1 same)
  where
    is-below : (n m : ℕ) → nat_lt n m ≡ true → n < m
    is-below n m low = grind (arith, nat_tests)

    is-one : (n m : ℕ) → nat_lt n m ≡ false → nat_lt m n ≡ false → n ≡ m
    is-one n m low high = grind (arith, nat_tests)

    Behind : Type 0
    Behind = ((n : ℕ) → lookup (nat_eq n) es ≡ lookup (nat_eq n) fs) → es ≡ fs

    by : (a : Bool) → nat_lt e.0 f.0 ≡ a → (b : Bool) → nat_lt f.0 e.0 ≡ b → Behind
        → e ∷ es ≡ f ∷ fs
    by true low b high later =
        let first = is-below e.0 f.0 low in
        absurd (some-none e.1 (sym (at-head e.0 e es refl) ∙ same e.0
        ∙ below-all e.0 (f ∷ fs) (first, through-all e.0 f.0 (keys_of fs) first s.0)))
    by false low true high later =
        let first = is-below f.0 e.0 high in
        absurd (some-none f.1 (sym (at-head f.0 f fs refl) ∙ sym (same f.0)
        ∙ below-all f.0 (e ∷ es) (first, through-all f.0 e.0 (keys_of es) first r.0)))
    by false low false high later =
        let one = is-one e.0 f.0 low high in
        let value : e.1 ≡ f.1 = same-some e.1 f.1
        (sym (at-head e.0 e es refl) ∙ same e.0 ∙ at-head e.0 f fs one) in
        ap (λ k. (k, e.1) ∷ es) one ∙ ap (λ v. (f.0, v) ∷ es) value
        ∙ ap (λ gs. f ∷ gs)
        (later (λ n. behind n one (cases_eq n e.0)))
      where
        behind : (n : ℕ) → e.0 ≡ f.0 → (n ≡ e.0) ⊎ (n ≢ e.0)
            → lookup (nat_eq n) es ≡ lookup (nat_eq n) fs
        behind n one (inl is) =
            below-all n es (subst (λ k. Each (λ m. k < m) (keys_of es)) (sym is) r.0)
            ∙ sym (below-all n fs
            (subst (λ k. Each (λ m. k < m) (keys_of fs)) (sym (is ∙ one)) s.0))
        behind n one (inr ne) =
            sym (past-head n e es ne) ∙ same n ∙ past-head n f fs (λ is. ne (is ∙ sym one))

-- ---- changes

-- the entry with a number changes
pub set-sorted : {X : Type 0} (k : ℕ) (es : List (ℕ × X)) (x y : X) → IsDistinct nat_eq (keys_of es)
    → lookup (nat_eq k) es ≡ Some x
    → by_number (set_value (nat_eq k) es y) ≡ set_value (nat_eq k) (by_number es) y
set-sorted k es x y d there =
    same-entries (by_number (set_value (nat_eq k) es y)) (set_value (nat_eq k) (by_number es) y)
    (rises-sorted (set_value (nat_eq k) es y)
    (subst (IsDistinct nat_eq) (sym (keys-set_value (nat_eq k) es y)) d))
    (subst Rises (sym (keys-set_value (nat_eq k) (by_number es) y)) (rises-sorted es d))
    (λ n. lookup-sorted n (set_value (nat_eq k) es y) ∙ by n (cases_eq n k))
  where
    by : (n : ℕ) → (n ≡ k) ⊎ (n ≢ k)
        → lookup (nat_eq n) (set_value (nat_eq k) es y)
        ≡ lookup (nat_eq n) (set_value (nat_eq k) (by_number es) y)
    by n (inl is) =
        ap (λ m. lookup (nat_eq m) (set_value (nat_eq k) es y)) is
        ∙ set-here k es x y there
        ∙ sym (set-here k (by_number es) x y (lookup-sorted k es ∙ there))
        ∙ ap (λ m. lookup (nat_eq m) (set_value (nat_eq k) (by_number es) y)) (sym is)
    by n (inr ne) =
        set-others k n es y ne
        ∙ sym (lookup-sorted n es)
        ∙ sym (set-others k n (by_number es) y ne)

same-turned : (n k : ℕ) → nat_eq n k ≡ nat_eq k n
same-turned n k = grind (arith, nat_tests)

none-apart : {X : Type 0} (n : ℕ) (es : List (ℕ × X)) → lookup (nat_eq n) es ≡ None
    → Each (λ k. nat_eq n k ≡ false) (keys_of es)
none-apart n [] none = tt
none-apart {X} n (e ∷ es) none = by (nat_eq n e.0) refl none (none-apart n es)
  where
    by : (b : Bool) → nat_eq n e.0 ≡ b → cond b (Some e.1) (lookup (nat_eq n) es) ≡ None
        → (lookup (nat_eq n) es ≡ None → Each (λ k. nat_eq n k ≡ false) (keys_of es))
        → Each (λ k. nat_eq n k ≡ false) (keys_of (e ∷ es))
    by true t found later = absurd (some-none e.1 found)
    by false t gone later = (t, later gone)

-- an entry is there whose number none had
pub more-sorted : {X : Type 0} (k : ℕ) (x : X) (es fs : List (ℕ × X))
    → IsDistinct nat_eq (keys_of es) → IsDistinct nat_eq (keys_of fs)
    → lookup (nat_eq k) es ≡ None
    → ((n : ℕ) → lookup (nat_eq n) fs ≡ cond (nat_eq k n) (Some x) (lookup (nat_eq n) es))
    → by_number fs ≡ in_order number_before (k, x) (by_number es)
more-sorted k x es fs d c none more =
    same-entries (by_number fs) (in_order number_before (k, x) (by_number es)) (rises-sorted fs c)
    (rises-in (k, x) (by_number es)
    (none-apart k (by_number es) (lookup-sorted k es ∙ none)) (rises-sorted es d))
    (λ n. lookup-sorted n fs ∙ more n
    ∙ ap (λ b. cond b (Some x) (lookup (nat_eq n) es)) (same-turned k n)
    ∙ ap (λ o. cond (nat_eq n k) (Some x) o) (sym (lookup-sorted n es))
    ∙ sym (lookup-in n (k, x) (by_number es)))

-- an entry has the number
abbrev pub keyed : {X : Type 0} → ℕ → ℕ × X → Bool
keyed k e = e.0 == k

lookup-without : {X : Type 0} (k n : ℕ) (es : List (ℕ × X))
    → lookup (nat_eq n) (without (keyed k) es) ≡ cond (nat_eq k n) None (lookup (nat_eq n) es)
lookup-without k n [] = by (nat_eq k n)
  where
    by : {A : Type 0} (b : Bool) → None ≡ cond b (let o : Option A = None in o) None
    by true = refl
    by false = refl
lookup-without {X} k n (e ∷ es) = by (e.0 == k) refl (nat_eq n e.0) refl (lookup-without k n es)
  where
    by : (a : Bool) → (e.0 == k) ≡ a → (b : Bool) → nat_eq n e.0 ≡ b
        → lookup (nat_eq n) (without (keyed k) es) ≡ cond (nat_eq k n) None (lookup (nat_eq n) es)
        → lookup (nat_eq n) (cond (not a) (e ∷ without (keyed k) es) (without (keyed k) es))
        ≡ cond (nat_eq k n) None (cond b (Some e.1) (lookup (nat_eq n) es))
    by true s true t later = later ∙ here (lookup (nat_eq n) es) (nat_eq k n) (is-key (e.0) s t)
      where
        is-key : (m : ℕ) → (m == k) ≡ true → nat_eq n m ≡ true → nat_eq k n ≡ true
        is-key m s t = grind (arith, nat_tests)

        here : (o : Option X) (b : Bool) → b ≡ true → cond b None o ≡ cond b None (Some e.1)
        here o true is = refl
        here o false is = absurd cc
    by true s false t later = later
    by false s true t later =
        ap (λ b. cond b (Some e.1) (lookup (nat_eq n) (without (keyed k) es))) t
        ∙ sym (ap (λ b. cond b None (Some e.1)) (other-key e.0 s t))
      where
        other-key : (m : ℕ) → (m == k) ≡ false → nat_eq n m ≡ true → nat_eq k n ≡ false
        other-key m s t = grind (arith, nat_tests)
    by false s false t later =
        ap (λ b. cond b (Some e.1) (lookup (nat_eq n) (without (keyed k) es))) t ∙ later

rises-without : {X : Type 0} (k : ℕ) (es : List (ℕ × X)) → Rises (keys_of es)
    → Rises (keys_of (without (keyed k) es))
rises-without k [] h = tt
rises-without {X} k (e ∷ es) h = by (e.0 == k) (rises-without k es h.1)
  where
    each : (P : ℕ → Type 0) (fs : List (ℕ × X)) → Each P (keys_of fs)
        → Each P (keys_of (without (keyed k) fs))
    each P [] all = tt
    each P (f ∷ fs) all = over (f.0 == k) (each P fs all.1)
      where
        over : (b : Bool) → Each P (keys_of (without (keyed k) fs))
            → Each P (keys_of (cond (not b) (f ∷ without (keyed k) fs) (without (keyed k) fs)))
        over true later = later
        over false later = (all.0, later)

    by : (b : Bool) → Rises (keys_of (without (keyed k) es))
        → Rises (keys_of (cond (not b) (e ∷ without (keyed k) es) (without (keyed k) es)))
    by true later = later
    by false later = (each (λ m. e.0 < m) es h.0, later)

-- the entry with a number is there no more
pub without-sorted : {X : Type 0} (k : ℕ) (es fs : List (ℕ × X))
    → IsDistinct nat_eq (keys_of es) → IsDistinct nat_eq (keys_of fs)
    → ((n : ℕ) → lookup (nat_eq n) fs ≡ cond (nat_eq k n) None (lookup (nat_eq n) es))
    → by_number fs ≡ without (keyed k) (by_number es)
without-sorted k es fs d c gone =
    same-entries (by_number fs) (without (keyed k) (by_number es)) (rises-sorted fs c)
    (rises-without k (by_number es) (rises-sorted es d))
    (λ n. lookup-sorted n fs ∙ gone n
    ∙ ap (λ o. cond (nat_eq k n) None o) (sym (lookup-sorted n es))
    ∙ sym (lookup-without k n (by_number es)))
