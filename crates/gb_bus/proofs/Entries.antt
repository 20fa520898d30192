-- The entries of a map by their numbers, and what is seen of them.
use Rattle.std.proofs.Common.{◌≡◌, ◌≢◌, ℕ, Bool, true, false, cond, ◌⊎◌, inl, inr, Some}
use Rattle.std.proofs.Common.{None, option_map, List, [], ◌∷◌, ◌++◌, refl, sym, ap, ◌∙◌, subst}
use Rattle.std.proofs.Common.{arith}
use Rattle.std.proofs.lemmas.Bool.{cases_eq, eq-eqb, ne_eqb}
use Rattle.std.proofs.lemmas.Bool.Decides.{nat_tests}
use Rattle.std.proofs.lemmas.Map.Keys.{IsDistinct-head, IsDistinct-tail}
use Rattle.std.specs.List.{AllByRecursion, IsDistinct, find}
use Rattle.std.specs.Map.{keys_of, lookup, set_value}
use Rattle.std.specs.Prelude.{nat_eq}
use Rattle.gb_bus.specs.Connection.{Connection}
use Rattle.gb_bus.specs.Parts.{numbered}
use Rattle.gb_bus.specs.Seen.{all_seen, seen}
use Rattle.gb_bus.specs.declared.connection.Connection as code
pub use Rattle.gb_invariants.proofs.Awaiting.{same-some}
use Rattle.gb_machine.specs.Lists.{at_first}

-- ---- entries by their numbers

pub same-number : (k n : ℕ) → k ≡ n → nat_eq k n ≡ true
same-number k n e = grind (arith, nat_tests)

pub other-number : (k n : ℕ) → k ≢ n → nat_eq k n ≡ false
other-number k n e = grind (arith, nat_tests)

different : (n k : ℕ) → nat_eq n k ≡ false → k ≢ n
different n k f = λ e. let same = same-number n k (sym e) in absurd (cc (same, f))

pub some-none : {A : Type 0} (x : A) → Some x ≡ None → ⊥
some-none x e = absurd cc

-- each entry is such
abbrev pub EachEntry : {X : Type 0} → (ℕ → X → Type 0) → List (ℕ × X) → Type 0
EachEntry P [] = Unit {0}
EachEntry P (e ∷ es) = P e.0 e.1 × EachEntry P es

pub weaker : {X : Type 0} (P Q : ℕ → X → Type 0) (es : List (ℕ × X))
    → ((k : ℕ) (x : X) → P k x → Q k x) → EachEntry P es → EachEntry Q es
weaker P Q [] f h = tt
weaker P Q (e ∷ es) f h = (f e.0 e.1 h.0, weaker P Q es f h.1)

pub both : {X : Type 0} (P Q : ℕ → X → Type 0) (es : List (ℕ × X))
    → EachEntry P es → EachEntry (λ k x. P k x → Q k x) es → EachEntry Q es
both P Q [] h f = tt
both P Q (e ∷ es) h f = (f.0 h.0, both P Q es h.1 f.1)

pub each-front : {X : Type 0} (P : ℕ → X → Type 0) (xs ys : List (ℕ × X))
    → EachEntry P (xs ++ ys) → EachEntry P xs
each-front P [] ys h = tt
each-front P (e ∷ xs) ys h = (h.0, each-front P xs ys h.1)

pub each-back : {X : Type 0} (P : ℕ → X → Type 0) (xs ys : List (ℕ × X))
    → EachEntry P (xs ++ ys) → EachEntry P ys
each-back P [] ys h = h
each-back P (e ∷ xs) ys h = each-back P xs ys h.1

-- none has the number
abbrev pub NoKey : {X : Type 0} → ℕ → List (ℕ × X) → Type 0
NoKey n es = EachEntry (λ k x. k ≢ n) es

-- the numbers behind are others
pub others-behind : {X : Type 0} (n : ℕ) (es : List (ℕ × X))
    → AllByRecursion (λ k. nat_eq n k ≡ false) (keys_of es) → NoKey n es
others-behind n [] h = tt
others-behind n (e ∷ es) h = (different n e.0 h.0, others-behind n es h.1)

pub lookup-nowhere : {X : Type 0} (n : ℕ) (es : List (ℕ × X)) → NoKey n es
    → lookup (nat_eq n) es ≡ None
lookup-nowhere n [] h = refl
lookup-nowhere n (e ∷ es) h =
    ap (λ b. cond b (Some e.1) (lookup (nat_eq n) es)) (other-number n e.0 (λ q. h.0 (sym q)))
    ∙ lookup-nowhere n es h.1

pub nowhere : {X : Type 0} (n : ℕ) (es : List (ℕ × X)) → lookup (nat_eq n) es ≡ None → NoKey n es
nowhere n [] h = tt
nowhere n (e ∷ es) h = by (cases_eq n e.0) (nowhere n es)
  where
    by : (n ≡ e.0) ⊎ (n ≢ e.0) → (lookup (nat_eq n) es ≡ None → NoKey n es) → NoKey n (e ∷ es)
    by (inl same) later =
        absurd (some-none e.1
        (sym (ap (λ b. cond b (Some e.1) (lookup (nat_eq n) es)) (same-number n e.0 same)) ∙ h))
    by (inr ne) later = (
      λ q. ne (sym q),
      later (sym (ap (λ b. cond b (Some e.1) (lookup (nat_eq n) es)) (other-number n e.0 ne)) ∙ h),
    )

-- what is so of all that is found is so of each
pub each-entry : {X : Type 0} (P : ℕ → X → Type 0) (es : List (ℕ × X))
    → IsDistinct nat_eq (keys_of es)
    → ((k : ℕ) (x : X) → lookup (nat_eq k) es ≡ Some x → P k x) → EachEntry P es
each-entry P [] s h = tt
each-entry {X} P (e ∷ es) s h = (
  h e.0 e.1 (ap (λ b. cond b (Some e.1) (lookup (nat_eq e.0) es)) (same-number e.0 e.0 refl)),
  each-entry P es (IsDistinct-tail nat_eq e.0 (keys_of es) s) (λ k x l. h k x (behind k x l)),
)
  where
    behind : (k : ℕ) (x : X) → lookup (nat_eq k) es ≡ Some x → lookup (nat_eq k) (e ∷ es) ≡ Some x
    behind k x l =
        ap (λ b. cond b (Some e.1) (lookup (nat_eq k) es))
        (other-number k e.0 (λ same. some-none x (sym l ∙ ap (λ j. lookup (nat_eq j) es) same
        ∙ lookup-nowhere e.0 es
        (others-behind e.0 es (IsDistinct-head nat_eq e.0 (keys_of es) s)))))
        ∙ l

-- the entries in front of the one with a number, and those behind it
pub record Split {X : Type 0} (es : List (ℕ × X)) (n : ℕ) (x : X) : Type 0 where
  pub front : List (ℕ × X)
  pub back : List (ℕ × X)
  pub is : es ≡ front ++ (n, x) ∷ back
  pub before : NoKey n front
  pub behind : NoKey n back

pub split : {X : Type 0} (es : List (ℕ × X)) (n : ℕ) (x : X)
    → IsDistinct nat_eq (keys_of es) → lookup (nat_eq n) es ≡ Some x → Split es n x
split [] n x s l = absurd (some-none x (sym l))
split {X} (e ∷ es) n x s l =
    by (cases_eq n e.0) (split es n x (IsDistinct-tail nat_eq e.0 (keys_of es) s))
  where
    by : (n ≡ e.0) ⊎ (n ≢ e.0) → (lookup (nat_eq n) es ≡ Some x → Split es n x)
        → Split (e ∷ es) n x
    by (inl same) later =
        let value : e.1 ≡ x = same-some e.1 x
        (sym (ap (λ b. cond b (Some e.1) (lookup (nat_eq n) es)) (same-number n e.0 same)) ∙ l) in
        record {
          front = [];
          back = es;
          is = ap (λ k. (k, e.1) ∷ es) (sym same) ∙ ap (λ v. (n, v) ∷ es) value;
          before = tt;
          behind = subst (λ k. NoKey k es) (sym same)
              (others-behind e.0 es (IsDistinct-head nat_eq e.0 (keys_of es) s));
        }
    by (inr ne) later =
        let r = later (sym (ap (λ b. cond b (Some e.1) (lookup (nat_eq n) es))
        (other-number n e.0 ne)) ∙ l) in
        record {
          front = e ∷ r.front;
          back = r.back;
          is = ap (λ ys. e ∷ ys) r.is;
          before = (λ q. ne (sym q), r.before);
          behind = r.behind;
        }

-- ---- changes of entries

pub set-split : {X : Type 0} (front back : List (ℕ × X)) (n : ℕ) (x y : X) → NoKey n front
    → set_value (nat_eq n) (front ++ (n, x) ∷ back) y ≡ front ++ (n, y) ∷ back
set-split [] back n x y h =
    ap (λ b. cond b ((n, y) ∷ back) ((n, x) ∷ set_value (nat_eq n) back y)) (same-number n n refl)
set-split (e ∷ front) back n x y h =
    ap (λ b. cond b ((e.0, y) ∷ front ++ (n, x) ∷ back)
    (e ∷ set_value (nat_eq n) (front ++ (n, x) ∷ back) y)) (other-number n e.0 (λ q. h.0 (sym q)))
    ∙ ap (λ ys. e ∷ ys) (set-split front back n x y h.1)

pub set-here : {X : Type 0} (n : ℕ) (es : List (ℕ × X)) (x y : X) → lookup (nat_eq n) es ≡ Some x
    → lookup (nat_eq n) (set_value (nat_eq n) es y) ≡ Some y
set-here n [] x y l = absurd (some-none x (sym l))
set-here n (e ∷ es) x y l = by (nat_eq n e.0) refl l (set-here n es x y)
  where
    by : (b : Bool) → nat_eq n e.0 ≡ b → cond b (Some e.1) (lookup (nat_eq n) es) ≡ Some x
        → (lookup (nat_eq n) es ≡ Some x → lookup (nat_eq n) (set_value (nat_eq n) es y) ≡ Some y)
        → lookup (nat_eq n) (cond b ((e.0, y) ∷ es) (e ∷ set_value (nat_eq n) es y)) ≡ Some y
    by true t m later = ap (λ b. cond b (Some y) (lookup (nat_eq n) es)) t
    by false t m later =
        ap (λ b. cond b (Some e.1) (lookup (nat_eq n) (set_value (nat_eq n) es y))) t ∙ later m

pub set-others : {X : Type 0} (n k : ℕ) (es : List (ℕ × X)) (y : X) → k ≢ n
    → lookup (nat_eq k) (set_value (nat_eq n) es y) ≡ lookup (nat_eq k) es
set-others n k [] y ne = refl
set-others n k (e ∷ es) y ne = by (cases_eq n e.0) (set-others n k es y ne)
  where
    by : (n ≡ e.0) ⊎ (n ≢ e.0)
        → lookup (nat_eq k) (set_value (nat_eq n) es y) ≡ lookup (nat_eq k) es
        → lookup (nat_eq k) (set_value (nat_eq n) (e ∷ es) y) ≡ lookup (nat_eq k) (e ∷ es)
    by (inl same) later =
        let skip : nat_eq k e.0 ≡ false = other-number k e.0 (λ q. ne (q ∙ sym same)) in
        ap (λ b. lookup (nat_eq k) (cond b ((e.0, y) ∷ es) (e ∷ set_value (nat_eq n) es y)))
        (same-number n e.0 same)
        ∙ ap (λ b. cond b (Some y) (lookup (nat_eq k) es)) skip
        ∙ sym (ap (λ b. cond b (Some e.1) (lookup (nat_eq k) es)) skip)
    by (inr other) later =
        ap (λ b. lookup (nat_eq k) (cond b ((e.0, y) ∷ es) (e ∷ set_value (nat_eq n) es y)))
        (other-number n e.0 other)
        ∙ ap (λ o. cond (nat_eq k e.0) (Some e.1) o) later

-- a value is set again
pub set-again : {X : Type 0} (n : ℕ) (es : List (ℕ × X)) (x y : X) (fs gs : List (ℕ × X))
    → fs ≡ set_value (nat_eq n) es x → gs ≡ set_value (nat_eq n) es y
    → gs ≡ set_value (nat_eq n) fs y
set-again {X} n es x y fs gs one other =
    other ∙ sym (twice es) ∙ ap (λ l. set_value (nat_eq n) l y) (sym one)
  where
    twice : (es : List (ℕ × X)) → set_value (nat_eq n) (set_value (nat_eq n) es x) y
        ≡ set_value (nat_eq n) es y
    twice [] = refl
    twice (e ∷ es) = by (nat_eq n e.0) refl (twice es)
      where
        by : (b : Bool) → nat_eq n e.0 ≡ b
            → set_value (nat_eq n) (set_value (nat_eq n) es x) y ≡ set_value (nat_eq n) es y
            → set_value (nat_eq n) (cond b ((e.0, x) ∷ es) (e ∷ set_value (nat_eq n) es x)) y
            ≡ cond b ((e.0, y) ∷ es) (e ∷ set_value (nat_eq n) es y)
        by true t later =
            ap (λ b. cond b ((e.0, y) ∷ es) ((e.0, x) ∷ set_value (nat_eq n) es y)) t
        by false t later =
            ap (λ b. cond b ((e.0, y) ∷ set_value (nat_eq n) es x)
            (e ∷ set_value (nat_eq n) (set_value (nat_eq n) es x) y)) t
            ∙ ap (λ l. e ∷ l) later

-- ---- what is seen

pub seen-append : (xs ys : List (ℕ × code.Connection))
    → all_seen (xs ++ ys) ≡ all_seen xs ++ all_seen ys
seen-append [] ys = refl
seen-append (e ∷ xs) ys = ap (λ cs. seen e.0 e.1 ∷ cs) (seen-append xs ys)

pub first-split : (front : List (ℕ × code.Connection)) (n : ℕ)
    (f : Connection → Connection) (c : Connection) (cs : List Connection)
    → NoKey n front → c.number ≡ n
    → at_first (numbered n) f (all_seen front ++ c ∷ cs) ≡ all_seen front ++ f c ∷ cs
first-split [] n f c cs h is =
    ap (λ b. cond b (f c ∷ cs) (c ∷ at_first (numbered n) f cs)) (eq-eqb c.number n is)
first-split (e ∷ front) n f c cs h is =
    ap (λ b. cond b (f (seen e.0 e.1) ∷ all_seen front ++ c ∷ cs)
    (seen e.0 e.1 ∷ at_first (numbered n) f (all_seen front ++ c ∷ cs))) (ne_eqb e.0 n h.0)
    ∙ ap (λ ys. seen e.0 e.1 ∷ ys) (first-split front n f c cs h.1 is)

pub first-nowhere : (es : List (ℕ × code.Connection)) (n : ℕ)
    (f : Connection → Connection) → NoKey n es
    → at_first (numbered n) f (all_seen es) ≡ all_seen es
first-nowhere [] n f h = refl
first-nowhere (e ∷ es) n f h =
    ap (λ b. cond b (f (seen e.0 e.1) ∷ all_seen es)
    (seen e.0 e.1 ∷ at_first (numbered n) f (all_seen es))) (ne_eqb e.0 n h.0)
    ∙ ap (λ ys. seen e.0 e.1 ∷ ys) (first-nowhere es n f h.1)

-- the connection with a number
pub find-seen : (es : List (ℕ × code.Connection)) (n : ℕ)
    → find (numbered n) (all_seen es) ≡ option_map (seen n) (lookup (nat_eq n) es)
find-seen [] n = refl
find-seen (e ∷ es) n = by (cases_eq n e.0) (find-seen es n)
  where
    by : (n ≡ e.0) ⊎ (n ≢ e.0)
        → find (numbered n) (all_seen es) ≡ option_map (seen n) (lookup (nat_eq n) es)
        → find (numbered n) (all_seen (e ∷ es))
        ≡ option_map (seen n) (lookup (nat_eq n) (e ∷ es))
    by (inl same) later =
        ap (λ b. cond b (Some (seen e.0 e.1)) (find (numbered n) (all_seen es)))
        (eq-eqb e.0 n (sym same))
        ∙ ap (λ k. Some (seen k e.1)) (sym same)
        ∙ sym (ap (λ b. option_map (seen n) (cond b (Some e.1) (lookup (nat_eq n) es)))
        (same-number n e.0 same))
    by (inr ne) later =
        ap (λ b. cond b (Some (seen e.0 e.1)) (find (numbered n) (all_seen es)))
        (ne_eqb e.0 n (λ q. ne (sym q)))
        ∙ later
        ∙ sym (ap (λ b. option_map (seen n) (cond b (Some e.1) (lookup (nat_eq n) es)))
        (other-number n e.0 ne))

-- a test that none passes but the one with a number
pub find-none : (test : Connection → Bool)
    (es : List (ℕ × code.Connection)) → EachEntry (λ k x. test (seen k x) ≡ false) es
    → find test (all_seen es) ≡ None
find-none test [] h = refl
find-none test (e ∷ es) h =
    ap (λ b. cond b (Some (seen e.0 e.1)) (find test (all_seen es))) h.0
    ∙ find-none test es h.1

pub find-split : (test : Connection → Bool)
    (front back : List (ℕ × code.Connection)) (n : ℕ) (x : code.Connection)
    → EachEntry (λ k z. test (seen k z) ≡ false) front
    → EachEntry (λ k z. test (seen k z) ≡ false) back
    → find test (all_seen (front ++ (n, x) ∷ back))
    ≡ cond (test (seen n x)) (Some (seen n x)) None
find-split test [] back n x h b =
    ap (λ o. cond (test (seen n x)) (Some (seen n x)) o) (find-none test back b)
find-split test (e ∷ front) back n x h b =
    ap (λ t. cond t (Some (seen e.0 e.1)) (find test (all_seen (front ++ (n, x) ∷ back)))) h.0
    ∙ find-split test front back n x h.1 b

-- ---- one changes

-- The connection with a number changes.
pub changes : (es fs : List (ℕ × code.Connection)) (n : ℕ) (x y : code.Connection)
    (f : Connection → Connection) → IsDistinct nat_eq (keys_of es)
    → lookup (nat_eq n) es ≡ Some x → fs ≡ set_value (nat_eq n) es y → seen n y ≡ f (seen n x)
    → all_seen fs ≡ at_first (numbered n) f (all_seen es)
changes es fs n x y f s l set one =
    let p = split es n x s l in
    ap all_seen
    (set ∙ ap (λ l. set_value (nat_eq n) l y) p.is ∙ set-split p.front p.back n x y p.before)
    ∙ seen-append p.front ((n, y) ∷ p.back)
    ∙ ap (λ c. all_seen p.front ++ c ∷ all_seen p.back) one
    ∙ sym (first-split p.front n f (seen n x) (all_seen p.back) p.before refl)
    ∙ sym (ap (at_first (numbered n) f) (ap all_seen p.is ∙ seen-append p.front ((n, x) ∷ p.back)))
