-- The lines of a script by their requesters.
use Rattle.std.proofs.Common.{◌≡◌, ◌⊎◌, ℕ, zero, suc, ◌+◌, ◌<◌, ◌≤◌, inl, inr, ⊎_elim, Bool, true}
use Rattle.std.proofs.Common.{false, Some, List, [], ◌∷◌, ◌++◌, length, refl, sym, ap, ◌∙◌, arith}
use Rattle.std.proofs.Common.{◌*◌, add-one, subst}
use Rattle.std.proofs.lemmas.List.{length-append}
use Rattle.std.specs.List.{slice_get}
use Rattle.std.specs.Prelude.{if◌then◌else◌}
use Rattle.gb_base.specs.declared.parts.Asked.{Asked}
use Rattle.gb_formats.specs.Orders.{is_by}
use Rattle.gb_formats.specs.ValidEvents.{IsValid}
use Rattle.gb_share.specs.Lines.{AreValid}
use Rattle.gb_share.specs.Parting.{AreFirst, AreReadyToRun, AreRequesters}
use Rattle.gb_share.specs.Picks.{lines_by}
use Rattle.gb_share.specs.Requesters.{AllValid, AreFresh, AreNumbered, parts_for}
use Rattle.gb_share.specs.declared.requester.Requester.{Requester}

pub few_lines : (r : ℕ) (asked : List Asked) → length (lines_by r asked) ≤ length asked
few_lines r [] = omega arith
few_lines r (x ∷ xs) = go (is_by r x) (few_lines r xs)
  where
    go : (b : Bool) → length (lines_by r xs) ≤ length xs
        → length (if b then x ∷ lines_by r xs else lines_by r xs) ≤ suc (length xs)
    go true later = omega arith
    go false later = omega arith

end_get : {A : Type 0} (xs : List A) (x y : A) (n : ℕ) → slice_get (xs ++ x ∷ []) n ≡ Some y
    → (slice_get xs n ≡ Some y) ⊎ ((n ≡ length xs) × (x ≡ y))
end_get [] x y zero at = inr (refl, cc)
end_get [] x y (suc n) at = absurd cc
end_get (z ∷ zs) x y zero at = inl at
end_get (z ∷ zs) x y (suc n) at =
    ⊎_elim (λ early. inl early) (λ last. inr (ap suc last.0, last.1)) (end_get zs x y n at)

pub first_more : (asked : List Asked) (xs ys : List Requester) (x : Requester) (who : ℕ)
    → AreFirst asked xs → length xs ≡ who → ys ≡ xs ++ x ∷ [] → x.who ≡ who
    → x.lines ≡ lines_by who asked → x.full ≡ [] → AreFirst asked ys
first_more asked xs ys x who first long is whose lines full n y at =
    ⊎_elim (λ early. first n y early)
    (λ last.
    (let place : n ≡ who = last.0 ∙ long in
    let same : x ≡ y = last.1 in
    subst (λ (z : Requester). (z.who ≡ n) × (z.lines ≡ lines_by n asked) × (z.full ≡ [])) same
    (subst (λ k. (x.who ≡ k) × (x.lines ≡ lines_by k asked) × (x.full ≡ [])) (sym place)
    (whose, lines, full))))
    (end_get xs x y n (subst (λ (zs : List Requester). slice_get zs n ≡ Some y) is at))

pub long_more : (xs ys : List Requester) (x : Requester) (who : ℕ) → length xs ≡ who
    → ys ≡ xs ++ x ∷ [] → length ys ≡ who + 1
long_more xs ys x who long is =
    let all = ap (λ (l : List Requester). length l) is in
    omega (arith, length-append xs (x ∷ []))

pub are_requesters : (asked : List Asked) (xs : List Requester) (greatest : ℕ)
    → AreFirst asked xs → length xs ≡ greatest + 1 → greatest < 256
    → ((r : ℕ) → greatest < r → lines_by r asked ≡ []) → AreRequesters asked xs
are_requesters asked xs greatest first long low none = record {
  first = first;
  none = λ r high. none r (omega arith);
  some = omega arith;
  few = omega arith;
}

-- ---- requesters that can be run

valid_lines : (r : ℕ) (asked : List Asked) → AreValid asked → AreValid (lines_by r asked)
valid_lines r [] valid n l at = absurd cc
valid_lines r (x ∷ xs) valid n l at =
    go (is_by r x) n at (valid_lines r xs (λ m k there. valid (suc m) k there))
  where
    go : (b : Bool) (m : ℕ)
        → slice_get (if b then x ∷ lines_by r xs else lines_by r xs) m ≡ Some l
        → AreValid (lines_by r xs) → IsValid l.event
    go true zero there rest = valid zero l there
    go true (suc m) there rest = rest m l there
    go false m there rest = rest m l there

low_parts : (xs : List Requester)
    → ((n : ℕ) (x : Requester) → slice_get xs n ≡ Some x → length x.lines ≤ 1048577)
    → parts_for xs ≤ length xs * 1048578
low_parts [] low = omega arith
low_parts (x ∷ xs) low =
    let first = low zero x refl in
    let later = low_parts xs (λ n y at. low (suc n) y at) in omega arith

pub ready : (asked : List Asked) (xs : List Requester) → AreRequesters asked xs → AreValid asked
    → length asked ≤ 1048577 → AreReadyToRun xs
ready asked xs are valid few = record {
  some = are.some;
  who = λ n x at. (are.first n x at).0;
  fresh = λ n x at. (are.first n x at).2;
  valid = λ n x at.
      subst (λ (ls : List Asked). AreValid ls) (sym (are.first n x at).1)
      (valid_lines n asked valid);
  few = (let most = are.few in
      let parts = low_parts xs (λ n x at.
      (let own = few_lines n asked in
      let is = ap (λ (ls : List Asked). length ls) (are.first n x at).1 in omega arith)) in
      omega arith);
}

pub first_ready : (xs ys : List Requester) (x : Requester) → xs ≡ x ∷ ys → AreReadyToRun xs
    → (x.who ≡ 0) × (x.full ≡ [])
first_ready xs ys x is r =
    let at = ap (λ (zs : List Requester). slice_get zs 0) is in (r.who 0 x at, r.fresh 0 x at)

later_at : (xs ys : List Requester) (x : Requester) → xs ≡ x ∷ ys → (n : ℕ) (y : Requester)
    → slice_get ys n ≡ Some y → slice_get xs (suc n) ≡ Some y
later_at xs ys x is n y at = ap (λ (zs : List Requester). slice_get zs (suc n)) is ∙ at

pub others_ready : (xs ys : List Requester) (x : Requester) → xs ≡ x ∷ ys → AreReadyToRun xs
    → AreNumbered ys × AreFresh ys
others_ready xs ys x is r = (
  (λ n y at. r.who (suc n) y (later_at xs ys x is n y at) ∙ sym (add-one n)),
  (λ n y at. r.fresh (suc n) y (later_at xs ys x is n y at)),
)

pub valid_ready : (xs ys : List Requester) (x : Requester) → xs ≡ x ∷ ys → AreReadyToRun xs
    → AreValid x.lines × AllValid ys
valid_ready xs ys x is r = (
  r.valid 0 x (ap (λ (zs : List Requester). slice_get zs 0) is),
  (λ n y at. r.valid (suc n) y (later_at xs ys x is n y at)),
)
