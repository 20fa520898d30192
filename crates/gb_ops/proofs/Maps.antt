-- Changes at one number in lists of requests.
use Rattle.std.proofs.Common.{◌≡◌, ◌≢◌, ◌<◌, ◌≤◌, ℕ, min, true, false, cond, ◌⊎◌, inl, inr, Option}
use Rattle.std.proofs.Common.{Some, None, List, [], ◌∷◌, refl, sym, ap, ◌∙◌, arith, unwrap_or, Less}
use Rattle.std.proofs.lemmas.Bool.{cases_eq}
use Rattle.std.proofs.lemmas.Bool.Decides.{nat_tests}
use Rattle.std.proofs.lemmas.Map.Keys.{sorted_head, sorted_tail}
use Rattle.std.specs.List.{AllByRecursion}
use Rattle.std.specs.List.Sorted.{IsStrictlySortedBy}
use Rattle.std.specs.Map.{keys_of}
use Rattle.std.specs.Ordering.{is_eq, nat_cmp}
use Rattle.std.specs.Prelude.{nat_eq}
use Rattle.gb_table.specs.Table.{Puts, item_at}
use Rattle.gb_ops.specs.Places.{pending_among as at}
use Rattle.gb_ops.specs.declared.entries.Holder.{Holder}
use Rattle.gb_ops.specs.declared.entries.Pending.{Pending}

pub same_some : {A : Type 0} (x y : A) → Some x ≡ Some y → x ≡ y
same_some x y e = ap (λ o. unwrap_or o x) e

pub key_same : (a b : ℕ) → a ≡ b → is_eq (nat_cmp a b) ≡ true
key_same a b e = grind (arith, nat_tests)

number_same : (a : ℕ) → nat_eq a a ≡ true
number_same a = grind (arith, nat_tests)

pub key_other : (a b : ℕ) → a ≢ b → is_eq (nat_cmp a b) ≡ false
key_other a b e = grind (arith, nat_tests)

-- an entry is found at its number, and behind it what the others have
pub first-found : (n : ℕ) (e : ℕ × Pending) (es : List (ℕ × Pending)) → n ≡ e.0
    → at (e ∷ es) n ≡ Some e.1
first-found n e es is = ap (λ t. cond t (Some e.1) (at es n)) (key_same n e.0 is)

pub later-found : (n : ℕ) (e : ℕ × Pending) (es : List (ℕ × Pending)) → n ≢ e.0
    → at (e ∷ es) n ≡ at es n
later-found n e es ne = ap (λ t. cond t (Some e.1) (at es n)) (key_other n e.0 ne)

-- ---- in order of number

pub less : (a b : ℕ) → nat_cmp a b ≡ Less → a < b
less a b e = grind (arith, nat_tests)

-- nothing is found that isn't above what all numbers are above
pub not-above : (k m : ℕ) (es : List (ℕ × Pending)) → m ≤ k
    → AllByRecursion (λ y. nat_cmp k y ≡ Less) (keys_of es) → at es m ≡ None
not-above k m [] le all = refl
not-above k m (e ∷ es) le all =
    let low = less k e.0 all.0 in
    later-found m e es (λ is. absurd (omega (arith, low, le, is))) ∙ not-above k m es le all.1

-- the first number isn't below the other
not-below : (e f : ℕ × Pending) (es fs : List (ℕ × Pending))
    → AllByRecursion (λ y. nat_cmp f.0 y ≡ Less) (keys_of fs)
    → at (e ∷ es) e.0 ≡ at (f ∷ fs) e.0 → e.0 < f.0 → ⊥
not-below e f es fs above same low =
    absurd (cc (
      first-found e.0 e es refl,
      same,
      later-found e.0 f fs (λ is. absurd (omega (arith, low, is))),
      not-above f.0 e.0 fs (omega (arith, low)) above,
    ))

-- lists in order that have the same at each number are one
same-lists : (es fs : List (ℕ × Pending)) → IsStrictlySortedBy nat_cmp (keys_of es)
    → IsStrictlySortedBy nat_cmp (keys_of fs) → ((q : ℕ) → at es q ≡ at fs q) → es ≡ fs
same-lists [] [] s t h = refl
same-lists [] (f ∷ fs) s t h = absurd (cc (h f.0, first-found f.0 f fs refl))
same-lists (e ∷ es) [] s t h = absurd (cc (h e.0, first-found e.0 e es refl))
same-lists (e ∷ es) (f ∷ fs) s t h =
    together (same-lists es fs (sorted_tail nat_cmp e.0 (keys_of es) s)
    (sorted_tail nat_cmp f.0 (keys_of fs) t) (λ q. behind q (cases_eq q e.0)))
  where
    over : AllByRecursion (λ y. nat_cmp e.0 y ≡ Less) (keys_of es)
    over = sorted_head nat_cmp e.0 (keys_of es) s

    above : AllByRecursion (λ y. nat_cmp f.0 y ≡ Less) (keys_of fs)
    above = sorted_head nat_cmp f.0 (keys_of fs) t

    one : (a b : ℕ) → (a < b → ⊥) → (b < a → ⊥) → a ≡ b
    one a b x y = grind (arith, nat_tests)

    number : e.0 ≡ f.0
    number = one e.0 f.0 (not-below e f es fs above (h e.0))
        (not-below f e fs es over (sym (h f.0)))

    request : e.1 ≡ f.1
    request = same_some e.1 f.1
        (sym (first-found e.0 e es refl) ∙ h e.0 ∙ first-found e.0 f fs number)

    behind : (q : ℕ) → (q ≡ e.0) ⊎ (q ≡ e.0 → ⊥) → at es q ≡ at fs q
    behind q (inl is) =
        not-above e.0 q es (omega (arith, is)) over
        ∙ sym (not-above f.0 q fs (omega (arith, is, number)) above)
    behind q (inr ne) =
        sym (later-found q e es ne) ∙ h q ∙ later-found q f fs (λ is. ne (is ∙ sym number))

    together : es ≡ fs → e ∷ es ≡ f ∷ fs
    together rest = λ i. (number i, request i) ∷ rest i

-- something else was put at a number, and what stood there again
pub restored : (m between n : List (ℕ × Pending)) (k : ℕ) (w was : Option Pending)
    → at m k ≡ was → Puts (at m) (at between) k w → Puts (at between) (at n) k was
    → IsStrictlySortedBy nat_cmp (keys_of m) → IsStrictlySortedBy nat_cmp (keys_of n) → n ≡ m
restored m between n k w was before u v s t = same-lists n m t s (λ q. same q (cases_eq q k))
  where
    same : (q : ℕ) → (q ≡ k) ⊎ (q ≡ k → ⊥) → at n q ≡ at m q
    same q (inl e) = ap (at n) e ∙ v.here ∙ sym before ∙ ap (at m) (sym e)
    same q (inr ne) = v.others q ne ∙ u.others q ne

-- ---- nothing stands in a map

-- no request is open, so the map is empty
pub none-open : (es : List (ℕ × Pending)) → ((n : ℕ) → at es n ≡ None) → es ≡ []
none-open [] none = refl
none-open (e ∷ es) none =
    let here = ap (λ t. cond t (Some e.1) (at es e.0)) (key_same e.0 e.0 refl) in
    absurd (cc (here, none e.0))

-- no identifier is in use, so the map is empty
pub none-held : (es : List (ℕ × Holder)) → ((n : ℕ) → item_at es n ≡ None) → es ≡ []
none-held [] none = refl
none-held (e ∷ es) none =
    let here = ap (λ t. cond t (Some e.1) (item_at es e.0)) (number_same e.0) in
    absurd (cc (here, none e.0))

-- ---- deadlines

-- no deadline of an open request is before the soonest
abbrev pub Covers : ℕ → List (ℕ × Pending) → Type 0
Covers soonest es = (n : ℕ) (p : Pending) → at es n ≡ Some p → soonest ≤ p.deadline

pub covers_more : (es fs : List (ℕ × Pending)) (n old new : ℕ) (p : Pending)
    → Puts (at es) (at fs) n (Some p) → new ≡ min old p.deadline → Covers old es → Covers new fs
covers_more es fs n old new p w is k m q h = by (cases_eq m n)
  where
    by : (m ≡ n) ⊎ (m ≡ n → ⊥) → new ≤ q.deadline
    by (inl here) =
        let same = ap (λ x. x.deadline) (same_some p q (sym w.here ∙ ap (at fs) (sym here) ∙ h)) in
        omega (arith, same, is)
    by (inr ne) = let before = k m q (sym (w.others m ne) ∙ h) in omega (arith, before, is)

pub covers_fewer : (es fs : List (ℕ × Pending)) (n soonest : ℕ)
    → Puts (at es) (at fs) n None → Covers soonest es → Covers soonest fs
covers_fewer es fs n soonest w k m q h = by (cases_eq m n)
  where
    by : (m ≡ n) ⊎ (m ≡ n → ⊥) → soonest ≤ q.deadline
    by (inl here) = absurd (cc (w.here, ap (at fs) (sym here) ∙ h))
    by (inr ne) = k m q (sym (w.others m ne) ∙ h)

pub covers_none : (es : List (ℕ × Pending)) (soonest : ℕ) → es ≡ [] → Covers soonest es
covers_none es soonest empty m q h =
    absurd (cc (h, ap (λ fs. at fs m) empty))
