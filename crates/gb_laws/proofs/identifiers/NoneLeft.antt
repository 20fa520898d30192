-- Where no identifier comes next, all of the cycle are in use.
use Rattle.std.proofs.Common.{Bool, None, Some, ap, arith, cond, false, option_and_then, refl}
use Rattle.std.proofs.Common.{suc, sym, true, zero, ℕ, ⊎_elim, ◌+◌, ◌-◌, ◌<◌, ◌∙◌, ◌≡◌, ◌≤◌}
use Rattle.std.proofs.lemmas.Bool.{cases_lt}
use Rattle.gb_machine.proofs.Labels.{label_after-less, label_after-within}
use Rattle.gb_machine.specs.Labels.{cyclic_label, free_label, greatest_label, label_after}
use Rattle.gb_machine.specs.Labels.{last_label, next_label}
use Rattle.gb_machine.specs.Requests.{is_used}
use Rattle.gb_laws.specs.NoneLeft.{NoneLeftMeansAllInUse}

-- the identifier so many places behind another in the cycle
unfoldable label_behind : ℕ → ℕ → ℕ
label_behind zero label = label
label_behind (suc n) label = label_behind n (label_after label)

-- each that was tried is in use
all-tried : (used : ℕ → Bool) (tries start : ℕ) → free_label used tries start ≡ None
    → (i : ℕ) → i < tries → used (label_behind i start) ≡ true
unfolding free_label label_behind
all-tried used zero start none i less = absurd (omega (arith, less))
all-tried used (suc tries) start none i less =
    by (used start) refl none i less (all-tried used tries (label_after start))
  where
    by : (t : Bool) → used start ≡ t
        → cond t (free_label used tries (label_after start)) (Some start) ≡ None
        → (i : ℕ) → i < suc tries → (free_label used tries (label_after start) ≡ None
        → (j : ℕ) → j < tries → used (label_behind j (label_after start)) ≡ true)
        → used (label_behind i start) ≡ true
    by false e h i less later = absurd cc
    by true e h zero less later = e
    by true e h (suc j) less later = later h j (omega (arith, less))

-- up to the greatest they rise by one
rises : (n start : ℕ) → start + n ≤ greatest_label → label_behind n start ≡ start + n
unfolding label_behind
rises zero start h = omega arith
rises (suc n) start h =
    ap (label_behind n) (label_after-less start (omega (arith, h)))
    ∙ rises n (start + 1) (omega (arith, h)) ∙ omega arith

behind-sum : (m n start : ℕ) → label_behind (m + n) start ≡ label_behind n (label_behind m start)
unfolding label_behind
behind-sum zero n start =
    let none : 0 + n ≡ n = omega arith in ap (λ i. label_behind i start) none
behind-sum (suc m) n start =
    let one : suc m + n ≡ suc (m + n) = omega arith in
    ap (λ i. label_behind i start) one ∙ behind-sum m n (label_after start)

-- an identifier stands behind each other one in the cycle, within one round
record Stands (start label : ℕ) : Type 0 where
  places : ℕ
  within : places < greatest_label
  is : label_behind places start ≡ label

-- behind the greatest they begin at 1 again
around : (start label : ℕ) → start ≤ greatest_label → 1 ≤ label → label ≤ greatest_label
    → label_behind (greatest_label - start + label) start ≡ label
unfolding label_behind
around start label high low least =
    ap (λ i. label_behind i start) split
    ∙ behind-sum (greatest_label - start) (suc (label - 1)) start
    ∙ ap (label_behind (suc (label - 1))) (rises (greatest_label - start) start up ∙ last) ∙ first
  where
    split : greatest_label - start + label ≡ greatest_label - start + suc (label - 1)
    split = omega (arith, low)

    up : start + (greatest_label - start) ≤ greatest_label
    up = omega (arith, high)

    last : start + (greatest_label - start) ≡ greatest_label
    last = omega (arith, high)

    first : label_behind (suc (label - 1)) greatest_label ≡ label
    first = rises (label - 1) 1 (omega (arith, low, least)) ∙ omega (arith, low)

stands : {start : ℕ} (label : ℕ) → 1 ≤ start → start ≤ greatest_label → 1 ≤ label → label ≤
    greatest_label → Stands start label
stands {start} label low high least greatest = ⊎_elim below above (cases_lt label start)
  where
    above : start ≤ label → Stands start label
    above h = record {
      places = label - start;
      within = omega (arith, low, greatest, h);
      is = rises (label - start) start (omega (arith, h, greatest)) ∙ omega (arith, h);
    }

    below : label < start → Stands start label
    below h = record {
      places = greatest_label - start + label;
      within = omega (arith, h, high);
      is = around start label high least greatest;
    }

pub none-left : NoneLeftMeansAllInUse
none-left b k at c live none label low high = by none
  where
    start : ℕ
    start = label_after (last_label at c)

    by : next_label k at b ≡ None → is_used k at b label ≡ true
    by h =
        let n = label_after-within (last_label at c) in
        let s = stands label n.0 n.1 low high in
        ap (is_used k at b) (sym s.is)
        ∙ all-tried (is_used k at b) greatest_label (label_after (last_label at c))
        (ap (option_and_then (cyclic_label k at b)) (sym live) ∙ h) s.places s.within
