-- Hold marks: an ordered set of them, and the machine's list.
use Rattle.std.proofs.Common.{◌≡◌, ◌≢◌, ℕ, ◌==◌, Bool, true, false, cond, not, ◌||◌, ◌⊎◌, inl, inr}
use Rattle.std.proofs.Common.{List, [], ◌∷◌, ◌++◌, refl, sym, ap, ◌∙◌, arith}
use Rattle.std.proofs.lemmas.Bool.{cases_eq}
use Rattle.std.proofs.lemmas.Bool.Decides.{nat_tests}
use Rattle.std.specs.BTreeMap.{is_at}
use Rattle.std.specs.List.{list_any}
use Rattle.std.specs.Ordering.{is_eq, nat_cmp}
use Rattle.gb_machine.specs.Holding.{marked}
use Rattle.gb_machine.specs.Lists.{without}
use Rattle.gb_system.specs.Held.{MarksAs, is_marked}

key_same : (a b : ℕ) → is_eq (nat_cmp a b) ≡ (b == a)
key_same a b = grind (arith, nat_tests)

-- the set has the numbers of its keys
has-key : (k : ℕ) (marks : List ℕ) → list_any (is_at (nat_cmp k)) marks ≡ is_marked k marks
has-key k [] = refl
has-key k (j ∷ js) =
    ap (λ t. t || list_any (is_at (nat_cmp k)) js) (key_same k j)
    ∙ ap (λ t. (j == k) || t) (has-key k js)

key_other : (k j : ℕ) → j ≢ k → is_eq (nat_cmp k j) ≡ false
key_other k j other = grind (arith, nat_tests)

-- one mark of the set changes
pub marks : (old new : List ℕ) (k : ℕ) (mark : Bool) → list_any (is_at (nat_cmp k)) new ≡ mark
    → ((j : ℕ) → is_at (nat_cmp k) j ≡ false
    → list_any (is_at (nat_cmp j)) new ≡ list_any (is_at (nat_cmp j)) old)
    → MarksAs old new k mark
marks old new k mark here others = record {
  here = sym (has-key k new) ∙ here;
  others = λ j other. sym (has-key j new) ∙ others j (key_other k j other) ∙ has-key j old;
}

self_same : (k : ℕ) → (k == k) ≡ true
self_same k = grind (arith, nat_tests)

not_same : (k j : ℕ) → j ≢ k → (k == j) ≡ false
not_same k j other = grind (arith, nat_tests)

-- a mark behind others
marked-behind : (j k : ℕ) (hs : List ℕ) → is_marked j (hs ++ k ∷ []) ≡ (is_marked j hs || k == j)
marked-behind j k [] = by (k == j)
  where
    by : (t : Bool) → t || false ≡ t
    by true = refl
    by false = refl
marked-behind j k (h ∷ hs) = ap (λ t. (h == j) || t) (marked-behind j k hs) ∙ by (h == j)
  where
    by : (t : Bool) → t || (is_marked j hs || k == j) ≡ ((t || is_marked j hs) || k == j)
    by true = refl
    by false = refl

-- a connection gets the mark
machine-marks : (k : ℕ) (hs : List ℕ) → MarksAs hs (marked k hs) k true
machine-marks k hs = by (is_marked k hs) refl
  where
    either : (a b : Bool) → b ≡ true → a || b ≡ true
    either true b is = refl
    either false b is = is

    neither : (a b : Bool) → b ≡ false → a || b ≡ a
    neither true b is = refl
    neither false b is = is

    by : (t : Bool) → is_marked k hs ≡ t → MarksAs hs (cond t hs (hs ++ k ∷ [])) k true
    by true is = record { here = is; others = λ j other. refl }
    by false is = record {
      here = marked-behind k k hs ∙ either (is_marked k hs) (k == k) (self_same k);
      others = λ j other.
          marked-behind j k hs ∙ neither (is_marked j hs) (k == j) (not_same k j other);
    }

-- a connection has no mark any more
machine-unmarks : (k : ℕ) (hs : List ℕ) → MarksAs hs (without (λ j. j == k) hs) k false
machine-unmarks k [] = record { here = refl; others = λ j other. refl }
machine-unmarks k (h ∷ hs) = by (cases_eq h k) (machine-unmarks k hs)
  where
    left : List ℕ
    left = without (λ j. j == k) hs

    by_test : (t : Bool) → (h == k) ≡ t → MarksAs (h ∷ hs) (cond (not t) (h ∷ left) left) k false
        → MarksAs (h ∷ hs) (without (λ j. j == k) (h ∷ hs)) k false
    by_test t is m = record {
      here = ap (λ s. is_marked k (cond (not s) (h ∷ left) left)) is ∙ m.here;
      others = λ j other.
          ap (λ s. is_marked j (cond (not s) (h ∷ left) left)) is ∙ m.others j other;
    }

    is_same : h ≡ k → (h == k) ≡ true
    is_same is = grind (arith, nat_tests)

    by : (h ≡ k) ⊎ (h ≡ k → ⊥) → MarksAs hs left k false
        → MarksAs (h ∷ hs) (without (λ j. j == k) (h ∷ hs)) k false
    by (inl is) rec = by_test true (is_same is) (record {
      here = rec.here;
      others = λ j other.
          rec.others j other
          ∙ sym (ap (λ t. t || is_marked j hs)
          (not_same h j (λ e. other (e ∙ is))));
    })
    by (inr ne) rec =
        let apart : (h == k) ≡ false = not_same h k (λ e. ne (sym e)) in
        by_test false apart (record {
          here = ap (λ t. t || is_marked k left) apart ∙ rec.here;
          others = λ j other. ap (λ t. (h == j) || t) (rec.others j other);
        })

-- the marks are those of the machine still
alike : {xs ys hs gs : List ℕ} (k : ℕ) (mark : Bool) → MarksAs xs ys k mark → MarksAs hs gs k mark
    → ((j : ℕ) → is_marked j hs ≡ is_marked j xs) → (j : ℕ) → is_marked j gs ≡ is_marked j ys
alike {xs} {ys} {hs} {gs} k mark code machine same j = by (cases_eq j k)
  where
    by : (j ≡ k) ⊎ (j ≡ k → ⊥) → is_marked j gs ≡ is_marked j ys
    by (inl is) =
        ap (λ n. is_marked n gs) is ∙ machine.here ∙ sym code.here
        ∙ ap (λ n. is_marked n ys) (sym is)
    by (inr ne) = machine.others j ne ∙ same j ∙ sym (code.others j ne)

pub marked-alike : (xs ys hs : List ℕ) (k : ℕ) → MarksAs xs ys k true
    → ((j : ℕ) → is_marked j hs ≡ is_marked j xs)
    → (j : ℕ) → is_marked j (marked k hs) ≡ is_marked j ys
marked-alike xs ys hs k code same = alike k true code (machine-marks k hs) same

pub unmarked-alike : (xs ys hs : List ℕ) (k : ℕ) → MarksAs xs ys k false
    → ((j : ℕ) → is_marked j hs ≡ is_marked j xs)
    → (j : ℕ) → is_marked j (without (λ i. i == k) hs) ≡ is_marked j ys
unmarked-alike xs ys hs k code same = alike k false code (machine-unmarks k hs) same
