-- The cyclic rule, and the least identifier from one on that isn't in use.
use Rattle.std.proofs.Common.{◌≡◌, ◌<◌, ◌≤◌, ℕ, zero, suc, ◌+◌, ◌-◌, Bool, true, false, cond, ◌⊎◌}
use Rattle.std.proofs.Common.{inl, inr, leb, Some, None, refl, sym, ap, ◌∙◌, arith}
use Rattle.std.proofs.lemmas.Bool.Decides.{leb_tells}
use Rattle.gb_labels.specs.Drawing.{AllInUse, AreUsed, IsFirstFree, IsNext, IsSpent}
use Rattle.gb_labels.specs.LabelSet.{LabelSet, is_in_use}
use Rattle.gb_machine.proofs.Labels.{label_after-less, label_after-within}
use Rattle.gb_machine.specs.Labels.{free_label, greatest_label, label_after}

-- one that is in use is passed over
passed : (used : ℕ → Bool) (tries label : ℕ) → used label ≡ true
    → free_label used (suc tries) label ≡ free_label used tries (label_after label)
unfolding free_label
passed used tries label h =
    ap (λ t. cond t (free_label used tries (label_after label)) (Some label)) h

met : (used : ℕ → Bool) (tries label : ℕ) → used label ≡ false
    → free_label used (suc tries) label ≡ Some label
unfolding free_label
met used tries label h = ap (λ t. cond t (free_label used tries (label_after label)) (Some label)) h

-- so many in use are passed over
over : (used : ℕ → Bool) (n tries label : ℕ) → label + n ≤ greatest_label
    → AreUsed used label (label + n)
    → free_label used (n + tries) label ≡ free_label used tries (label + n)
over used zero tries label h u =
    ap (λ t. free_label used t label) (omega arith) ∙ ap (free_label used tries) (omega arith)
over used (suc n) tries label h u =
    ap (λ t. free_label used t label) (omega arith)
    ∙ passed used (n + tries) label (u label (omega arith) (omega arith))
    ∙ ap (free_label used (n + tries)) (label_after-less label (omega arith))
    ∙ over used n tries (label + 1) (omega arith) (λ j low high. u j (omega arith) (omega arith))
    ∙ ap (free_label used tries) (omega arith)

-- all that are tried are in use
none : (used : ℕ → Bool) (tries label : ℕ) → 1 ≤ label → label ≤ greatest_label
    → AreUsed used 1 (suc greatest_label) → free_label used tries label ≡ None
unfolding free_label
none used zero label low high u = refl
none used (suc tries) label low high u =
    let next = label_after-within label in
    passed used tries label (u label low (omega arith))
    ∙ none used tries (label_after label) next.0 next.1 u

-- the first from an identifier on is met within so many tries
met_within : (used : ℕ → Bool) (tries start label : ℕ) → label < start + tries
    → IsFirstFree used start label
    → free_label used tries start ≡ Some label
met_within used tries start label h f =
    let n = label - start in
    let left = tries - n - 1 in
    let split : tries ≡ n + suc left = omega (arith, f.behind, h) in
    let at : start + n ≡ label = omega (arith, f.behind) in
    ap (λ t. free_label used t start) split
    ∙ over used n (suc left) start (omega (arith, f.within, at))
    (λ j a b. f.before j a (omega arith))
    ∙ ap (free_label used (suc left)) at
    ∙ met used left label f.unused

-- The first from an identifier on is what the rule gives there.
ahead : (used : ℕ → Bool) (start label : ℕ) → 1 ≤ start → IsFirstFree used start label
    → free_label used greatest_label start ≡ Some label
ahead used start label low f =
    met_within used greatest_label start label (omega (arith, f.within)) f

-- Where all from an identifier to the greatest are in use, the rule goes on with the least.
around : (used : ℕ → Bool) (start : ℕ) → 1 ≤ start → start ≤ greatest_label
    → AreUsed used start (suc greatest_label)
    → free_label used greatest_label start ≡ free_label used (start - 1) 1
around used start low high u =
    let n = greatest_label - start in
    let split : greatest_label ≡ n + suc (start - 1) = omega arith in
    let at : start + n ≡ greatest_label = omega arith in
    ap (λ t. free_label used t start) split
    ∙ over used n (suc (start - 1)) start (omega arith) (λ j a b. u j a (omega arith))
    ∙ ap (free_label used (suc (start - 1))) at
    ∙ passed used (start - 1) greatest_label (u greatest_label high (omega arith))

-- one that isn't in use is before all that are
earlier : (used : ℕ → Bool) (start label : ℕ) → AreUsed used start (suc greatest_label)
    → label ≤ greatest_label
    → used label ≡ false → label < start
earlier used start label u high free = by (leb_tells start label)
  where
    by : ((leb start label ≡ true) × (start ≤ label)) ⊎
        ((leb start label ≡ false) × (label < start)) → label < start
    by (inl p) = absurd (cc (u label p.1 (omega (arith, high)), free))
    by (inr p) = p.1

-- The first of all is what the rule gives where all from its start on are in use.
wrapped : (used : ℕ → Bool) (start label : ℕ) → 1 ≤ start → start ≤ greatest_label
    → AreUsed used start (suc greatest_label) → IsFirstFree used 1 label
    → free_label used greatest_label start ≡ Some label
wrapped used start label low high u f =
    let less = earlier used start label u f.within f.unused in
    around used start low high u ∙ met_within used (start - 1) 1 label (omega (arith, less, low)) f

-- where the search begins
abbrev Begins : LabelSet → ℕ → Type 0
Begins set start = start ≡ label_after set.last

-- what comes next: the first from behind the last one on
pub next_ahead : (set : LabelSet) (start label : ℕ) → Begins set start
    → IsFirstFree (is_in_use set) start label
    → IsNext set label
next_ahead set start label at f =
    let low : 1 ≤ start = omega (arith, at, label_after-within set.last) in record {
      next = ap (free_label (is_in_use set) greatest_label) (sym at)
          ∙ ahead (is_in_use set) start label low f;
      least = omega (arith, low, f.behind);
      greatest = f.within;
      unused = f.unused;
    }

-- or the first of all, where all from there on are in use
pub next_wrapped : (set : LabelSet) (start label : ℕ) → Begins set start
    → AreUsed (is_in_use set) start (suc greatest_label) → IsFirstFree (is_in_use set) 1 label
    → IsNext set label
next_wrapped set start label at u f =
    let within = label_after-within set.last in record {
      next =
          ap (free_label (is_in_use set) greatest_label) (sym at)
          ∙ wrapped (is_in_use set) start label (omega (arith, at, within))
          (omega (arith, at, within)) u f;
      least = f.behind;
      greatest = f.within;
      unused = f.unused;
    }

-- or none
pub next_none : (set : LabelSet) → AllInUse set → IsSpent set
next_none set u =
    let start = label_after-within set.last in record {
      next = none (is_in_use set) greatest_label (label_after set.last) start.0 start.1 u;
      used = u;
    }
