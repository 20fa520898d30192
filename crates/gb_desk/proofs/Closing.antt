-- What a desk leaves at its end.
use Rattle.std.proofs.Common.{◌≡◌, ℕ, false, List, [], ◌∷◌, refl, sym, ap}
use Rattle.std.proofs.Common.{◌∙◌}
use Rattle.std.proofs.Common.{subst, arith, length, ◌+◌, None, Some}
use Rattle.std.specs.Prelude.{slice_index}
use mathlib.Core.Option as core
use lib.ListN.{get_elem?}
use Rattle.atomic_table.specs.Table.{Final, Seen, State}
use Rattle.gb_desk.proofs.Totals.{total_alone}
use Rattle.gb_desk.proofs.Turning.{not_told}
use Rattle.gb_desk.specs.Calls.{Closes}
use Rattle.gb_desk.specs.Rules.{Kept, all_parts, home_of, one_at, one_if, times_in, told_in}
use Rattle.gb_desk.specs.Rules.{turns_of}
use Rattle.gb_desk.specs.declared.stored.Stored.{Stored}
use Rattle.gb_desk.specs.declared.view.View.{View}
use Rattle.gb_system.specs.Stands.{Stands, taken_of}
use Rattle.gb_system.specs.declared.system.System.{System}
use Rattle.gb_desk.specs.Turns.{is_broken}

-- what is left is what is shared
left_is : (first : System) (s : State Stored View) (id : ℕ) (v : View) (xs : List Stored)
    (z : Stored) (k : Kept first s) → get_elem? s.views id ≡ core.some v → v.parts ≡ all_parts
    → v.out ≡ None
    → ((i : ℕ) (y : Stored) → get_elem? s.homes i ≡ core.some (core.some y)
    → get_elem? xs i ≡ core.some y)
    → get_elem? xs 0 ≡ core.some z → k.current ≡ z
left_is first s id v xs z k at all out left is =
    let none = ap one_at out in
    let turns = total_alone turns_of s.views id v refl at (k.parts ∙ sym all)
    (λ j u there. (k.each j u there).idle) in
    let free : slice_index s.words 0 ≡ 0 = (let was = k.turns in omega arith) in
    let home : s.homes ≡ core.some k.current ∷ [] =
    k.home ∙ ap (λ n. home_of n k.current ∷ []) free in
    let there = left 0 k.current (ap (λ hs. get_elem? hs 0) home) in
    core.some-injective k.current z (sym there ∙ is)

-- where the one pass wasn't told of want of memory, there was none
not_broken : (first : System) (s : State Stored View) (id : ℕ) (v : View) (k : Kept first s)
    → get_elem? s.views id ≡ core.some v → v.parts ≡ all_parts → v.told ≡ false
    → is_broken k.current ≡ false
not_broken first s id v k at all untold =
    let sum = total_alone told_in s.views id v refl at (k.parts ∙ sym all)
    (λ j u there. (k.each j u there).idle) in
    let none : told_in v ≡ 0 = ap one_if untold in
    not_told (is_broken k.current) (λ broken. (let some_one = k.told broken in omega arith))

closes_at : (first : System) (s : State Stored View) (id : ℕ) (v : View) (k : Kept first s)
    → get_elem? s.views id ≡ core.some v → v.parts ≡ all_parts
    → Closes v k.current.system k.current.journal
closes_at first s id v k at all =
    let f = k.each id v at in
    let is : v.first ≡ Some first = f.first (omega arith) in
    record {
      seen = f.seen;
      places = λ n. (
          let sum = total_alone (times_in n) s.views id v refl at (k.parts ∙ sym all)
          (λ j u there. (k.each j u there).idle) in
          sym sum ∙ k.places n);
      legal = λ x is_x t stands. (
          let same : first ≡ x = cc (is, is_x) in
          (k.sound.follows t (subst (λ y. Stands y t) (sym same) stands)).legal);
      stands = λ untold x is_x t stands. (
          let same : first ≡ x = cc (is, is_x) in
          (k.sound.follows t (subst (λ y. Stands y t) (sym same) stands)).stands
          (not_broken first s id v k at all untold));
      taken = λ untold x is_x. (
          let same : first ≡ x = cc (is, is_x) in
          subst (λ y. taken_of k.current.system ≡ taken_of y + length k.current.journal) same
          (k.sound.taken (not_broken first s id v k at all untold)));
    }

pub closes : (first : System) (id : ℕ) (v : View) (ws : List ℕ) (xs : List Stored) (z : Stored)
    → Final (Seen (Kept first) id v) ws xs → v.parts ≡ all_parts → v.out ≡ None
    → get_elem? xs 0 ≡ core.some z → Closes v z.system z.journal
closes first id v ws xs z f all out is =
    let s = f.0 in
    let k = f.1.0 in
    let at = f.1.1 in
    let left = left_is first s id v xs z k at all out f.4 is in
    subst (λ y. Closes v y.system y.journal) left (closes_at first s id v k at all)
