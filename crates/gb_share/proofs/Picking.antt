-- Lines of a script by their places.
use Rattle.std.proofs.Common.{◌≡◌, ℕ, zero, suc, ◌<◌, ◌≤◌, ◌+◌, true, false, Some}
use Rattle.std.proofs.Common.{List, [], ◌∷◌, ◌++◌, length, drop, refl, sym, ap, ◌∙◌, subst, arith}
use Rattle.std.proofs.Common.{add-one, append_assoc, append-nil}
use Rattle.std.proofs.Math.ListN.{get_or}
use Rattle.std.proofs.lemmas.Option.{slice_get_read}
use Rattle.std.specs.List.{slice_get}
use Rattle.std.specs.Prelude.{◌==◌}
use Rattle.gb_base.specs.declared.parts.Asked.{Asked}
use Rattle.gb_share.specs.Picks.{AreBelow, lines_by, one_of, picked}

-- a line that is there
pub line_at : (all : List Asked) (p : ℕ) → p < length all
    → (a : Asked) × (slice_get all p ≡ Some a)
line_at [] p low = absurd (omega arith)
line_at (a ∷ all) zero low = (a, refl)
line_at (a ∷ all) (suc p) low = line_at all p (omega arith)

pub picked_length : (all : List Asked) (ps : List ℕ) → AreBelow (length all) ps
    → length (picked all ps) ≡ length ps
picked_length all [] low = refl
picked_length all (p ∷ ps) low =
    let here = line_at all p low.0 in
    ap (λ o. length (one_of o ++ picked all ps)) here.1 ∙ ap suc (picked_length all ps low.1)

pub picked_get : (all : List Asked) (ps : List ℕ) (at p : ℕ) → AreBelow (length all) ps
    → slice_get ps at ≡ Some p → slice_get (picked all ps) at ≡ slice_get all p
picked_get all [] at p low is = absurd cc
picked_get all (q ∷ ps) zero p low is =
    let here = line_at all q low.0 in
    let same : q ≡ p = cc in
    ap (λ o. slice_get (one_of o ++ picked all ps) 0) here.1
    ∙ sym here.1 ∙ ap (λ n. slice_get all n) same
picked_get all (q ∷ ps) (suc at) p low is =
    let here = line_at all q low.0 in
    ap (λ o. slice_get (one_of o ++ picked all ps) (suc at)) here.1
    ∙ picked_get all ps at p low.1 is

pub below_get : (n : ℕ) (ps : List ℕ) (at p : ℕ) → AreBelow n ps → slice_get ps at ≡ Some p
    → p < n
below_get n [] at p low is = absurd cc
below_get n (q ∷ ps) zero p low is = subst (λ k. k < n) (let same : q ≡ p = cc in same) low.0
below_get n (q ∷ ps) (suc at) p low is = below_get n ps at p low.1 is

-- one place more
pub picked_more : (all : List Asked) (ps : List ℕ) (p : ℕ)
    → picked all (ps ++ p ∷ []) ≡ picked all ps ++ one_of (slice_get all p)
picked_more all [] p = append-nil (one_of (slice_get all p))
picked_more all (q ∷ ps) p =
    ap (λ l. one_of (slice_get all q) ++ l) (picked_more all ps p)
    ∙ sym (append_assoc (one_of (slice_get all q)) (picked all ps) (one_of (slice_get all p)))

pub below_more : (n : ℕ) (ps : List ℕ) (p : ℕ) → AreBelow n ps → p < n
    → AreBelow n (ps ++ p ∷ [])
below_more n [] p low is = (is, tt)
below_more n (q ∷ ps) p low is = (low.0, below_more n ps p low.1 is)

-- the next line of the script is one of the requester's, or another's
own_line : (who : ℕ) (all : List Asked) (p : ℕ) (a : Asked) → slice_get all p ≡ Some a
    → (a.who == who) ≡ true → lines_by who (drop p all) ≡ a ∷ lines_by who (drop (suc p) all)
own_line who [] p a at own = absurd cc
own_line who (b ∷ all) zero a at own =
    let same : b ≡ a = cc in
    subst (λ (x : Asked). lines_by who (x ∷ all) ≡ a ∷ lines_by who all) (sym same)
    (rw own refl)
own_line who (b ∷ all) (suc p) a at own = own_line who all p a at own

other_line : (who : ℕ) (all : List Asked) (p : ℕ) (a : Asked) → slice_get all p ≡ Some a
    → (a.who == who) ≡ false → lines_by who (drop p all) ≡ lines_by who (drop (suc p) all)
other_line who [] p a at own = absurd cc
other_line who (b ∷ all) zero a at other =
    let same : b ≡ a = cc in
    subst (λ (x : Asked). lines_by who (x ∷ all) ≡ lines_by who all) (sym same)
    (rw other refl)
other_line who (b ∷ all) (suc p) a at other = other_line who all p a at other

pub own_more : (who : ℕ) (all : List Asked) (ps : List ℕ) (p : ℕ) (a : Asked) (whole : List Asked)
    → p < length all → a ≡ get_or all p a → (a.who == who) ≡ true
    → picked all ps ++ lines_by who (drop p all) ≡ whole
    → picked all (ps ++ p ∷ []) ++ lines_by who (drop (p + 1) all) ≡ whole
own_more who all ps p a whole low is own before =
    let at : slice_get all p ≡ Some a = slice_get_read all (length all) p a refl low is in
    ap (λ l. l ++ lines_by who (drop (p + 1) all))
    (picked_more all ps p ∙ ap (λ o. picked all ps ++ one_of o) at)
    ∙ append_assoc (picked all ps) (a ∷ []) (lines_by who (drop (p + 1) all))
    ∙ ap (λ k. picked all ps ++ a ∷ lines_by who (drop k all)) (add-one p)
    ∙ sym (ap (λ l. picked all ps ++ l) (own_line who all p a at own)) ∙ before

pub other_more : (who : ℕ) (all : List Asked) (ps : List ℕ) (p : ℕ) (a : Asked)
    (whole : List Asked) → p < length all → a ≡ get_or all p a → (a.who == who) ≡ false
    → picked all ps ++ lines_by who (drop p all) ≡ whole
    → picked all ps ++ lines_by who (drop (p + 1) all) ≡ whole
other_more who all ps p a whole low is other before =
    let at : slice_get all p ≡ Some a = slice_get_read all (length all) p a refl low is in
    ap (λ k. picked all ps ++ lines_by who (drop k all)) (add-one p)
    ∙ sym (ap (λ l. picked all ps ++ l) (other_line who all p a at other)) ∙ before

-- ---- one of the lines

place_of : (ps qs : List ℕ) (at p : ℕ) → qs ≡ ps → at < length qs → p ≡ get_or qs at p
    → slice_get ps at ≡ Some p
place_of ps qs at p same within is =
    subst (λ (l : List ℕ). slice_get l at ≡ Some p) same
    (slice_get_read qs (length qs) at p refl within is)

pub none_picked : (all : List Asked) (ps qs : List ℕ) (lines : List Asked) (at : ℕ)
    → picked all ps ≡ lines → AreBelow (length all) ps → qs ≡ ps → length qs ≤ at
    → length lines ≤ at
none_picked all ps qs lines at view low same past =
    let long = picked_length all ps low in
    let is = ap (λ (l : List Asked). length l) view in
    let too = ap (λ (l : List ℕ). length l) same in omega arith

pub place_low : (all : List Asked) (ps qs : List ℕ) (at p : ℕ) → AreBelow (length all) ps
    → qs ≡ ps → at < length qs → p ≡ get_or qs at p → p < length all
place_low all ps qs at p low same within is =
    below_get (length all) ps at p low (place_of ps qs at p same within is)

pub is_picked : (all : List Asked) (ps qs : List ℕ) (lines : List Asked) (at p : ℕ) (a : Asked)
    → picked all ps ≡ lines → AreBelow (length all) ps → qs ≡ ps → at < length qs
    → p ≡ get_or qs at p → a ≡ get_or all p a → slice_get lines at ≡ Some a
is_picked all ps qs lines at p a view low same within is there =
    ap (λ (l : List Asked). slice_get l at) (sym view)
    ∙ picked_get all ps at p low (place_of ps qs at p same within is)
    ∙ slice_get_read all (length all) p a refl
    (below_get (length all) ps at p low (place_of ps qs at p same within is)) there
