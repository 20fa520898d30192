-- One list of groups in place of another.
use Rattle.std.proofs.Common.{◌≡◌, ◌≢◌, ◌<◌, ℕ, ◌⊎◌, inl, inr, List, [], get_or, length, map}
use Rattle.std.proofs.Common.{nat_cmp, set, refl, sym, ap, subst, ◌∙◌, arith, Err, Ok, OnErr}
use Rattle.std.proofs.Common.{Result}
use Rattle.std.proofs.lemmas.Bool.{cases_eq}
use Rattle.std.proofs.lemmas.List.{get_or-map, get_or-set_other, get_or-set_same, length-map}
use Rattle.std.proofs.lemmas.List.{length-set, map-set, set-get_or}
use Rattle.std.specs.Global.{Vec}
use Rattle.std.specs.List.Sorted.{IsStrictlySortedBy}
use Rattle.gb_groups.specs.Groups.{AreRising, Regroups, numbers_in, numbers_of}

-- the numbers of one list
abbrev items_of : Vec ℕ → List ℕ
items_of v = v.items

-- These lists have the numbers of the groups, and there is one at a place.
pub record Place (lists : List (Vec ℕ)) (groups : List (List ℕ)) (i : ℕ) : Type 0 where
  pub is : numbers_of lists ≡ groups
  pub rising : AreRising groups
  pub inside : i < length lists

-- there is one at each value of a byte
pub place-of : (lists : List (Vec ℕ)) {groups : List (List ℕ)} {i : ℕ}
    → numbers_of lists ≡ groups → AreRising (numbers_of lists) → i < 256
    → Place lists groups i
place-of lists is rising less = record {
  is = is;
  rising = subst AreRising is rising;
  inside =
      let long = sym (length-map lists items_of) ∙ rising.all in
      omega (arith, less, long);
}

module _ {lists : List (Vec ℕ)} {groups : List (List ℕ)} {i : ℕ} (p : Place lists groups i) where
  -- the list at the place
  pub found-is : (v : Vec ℕ) → v ≡ get_or lists i v → v.items ≡ numbers_in groups i
  found-is v found =
      ap items_of found ∙ sym (get_or-map items_of lists i v [] p.inside)
      ∙ ap (λ l. get_or l i []) p.is

  -- it rises
  pub found-rises : (v : Vec ℕ) → v ≡ get_or lists i v → IsStrictlySortedBy nat_cmp v.items
  found-rises v found =
      subst (IsStrictlySortedBy nat_cmp) (sym (found-is v found)) (p.rising.rise i)

  -- another list there is that of the group from now on
  pub regroups : (w : Vec ℕ) (ns : List ℕ) (g : ℕ) → i ≡ g → w.items ≡ ns
      → Regroups groups (numbers_of (set lists i w)) g ns
  regroups w ns g same new =
      subst (λ k. Regroups groups (numbers_of (set lists i w)) k ns) same (record {
        here = ap (λ l. get_or l i []) (map-set items_of lists i w)
            ∙ get_or-set_same (map items_of lists) i w.items []
            (omega (arith, p.inside, length-map lists items_of))
            ∙ new;
        others = λ j ne. ap (λ l. get_or l j []) (map-set items_of lists i w)
            ∙ get_or-set_other (map items_of lists) i j w.items [] ne
            ∙ ap (λ l. get_or l j []) p.is;
      })

  -- where it rises all groups still do
  pub still-rising : (w : Vec ℕ) → IsStrictlySortedBy nat_cmp w.items
      → AreRising (numbers_of (set lists i w))
  still-rising w rises = record {
    all = length-map (set lists i w) items_of ∙ length-set lists i w
        ∙ sym (length-map lists items_of) ∙ ap length p.is ∙ p.rising.all;
    rise = λ j. by j (cases_eq j i);
  }
    where
      r : Regroups groups (numbers_of (set lists i w)) i w.items
      r = regroups w w.items i refl refl

      by : (j : ℕ) → (j ≡ i) ⊎ (j ≢ i)
          → IsStrictlySortedBy nat_cmp (numbers_in (numbers_of (set lists i w)) j)
      by j (inl e) =
          subst (IsStrictlySortedBy nat_cmp)
          (sym (ap (λ k. numbers_in (numbers_of (set lists i w)) k) e ∙ r.here)) rises
      by j (inr ne) = subst (IsStrictlySortedBy nat_cmp) (sym (r.others j ne)) (p.rising.rise j)

  -- a list with the same numbers changes nothing
  pub same-numbers : (v w : Vec ℕ) → v ≡ get_or lists i v → w.items ≡ v.items
      → numbers_of (set lists i w) ≡ groups
  same-numbers v w found e =
      map-set items_of lists i w
      ∙ ap (set (map items_of lists) i)
      (e ∙ ap items_of found ∙ sym (get_or-map items_of lists i v [] p.inside))
      ∙ set-get_or (map items_of lists) i []
      ∙ p.is

-- a clause on refusals is met by what always holds
pub on-err : {A E P : Type 0} (r : Result A E) → P → OnErr r P
on-err (Ok x) h = tt
on-err (Err e) h = h

-- ---- no numbers at first

-- groups without a number rise
pub none-rise : (lists : List (Vec ℕ)) → length lists ≡ 256
    → ((g : ℕ) → numbers_in (numbers_of lists) g ≡ []) → AreRising (numbers_of lists)
unfolding IsStrictlySortedBy
none-rise lists all none = record {
  all = length-map lists items_of ∙ all;
  rise = λ g. subst (IsStrictlySortedBy nat_cmp) (sym (none g)) tt;
}
