-- A line of printable bytes that isn't too long is what it is by its words.
use Rattle.std.proofs.Common.{◌≡◌, ℕ, ◌+◌, ◌≤◌, nat_le, Bool, true, false, ◌&&◌, cond, Some}
use Rattle.std.proofs.Common.{None, Result, Err, List, [], ◌∷◌, length, refl, ap, ◌∙◌, arith}
use Rattle.std.specs.List.{list_all}
use Rattle.std.proofs.lemmas.Bool.Decides.{nat_tests}
use Rattle.gb_base.specs.declared.reasons.LineReason.{LineReason}
use Rattle.gb_base.specs.declared.reasons.LineReason.TheVariants as bad
use Rattle.gb_formats.specs.Script.{bad_place, by_bytes, is_printable, unless_bad}

none-bad : (place : ℕ) (line : List ℕ) → list_all is_printable line ≡ true
    → bad_place place line ≡ None
none-bad place [] h = refl
none-bad place (b ∷ bs) h = by (is_printable b) (none-bad (place + 1) bs) h
  where
    by : (t : Bool) → (list_all is_printable bs ≡ true → bad_place (place + 1) bs ≡ None)
        → (t && list_all is_printable bs) ≡ true
        → cond t (bad_place (place + 1) bs) (Some place) ≡ None
    by true later h = later h
    by false later h = absurd cc

within : (n : ℕ) → n ≤ 8192 → nat_le n 8192 ≡ true
within n h = grind (arith, nat_tests)

pub by-words : {A : Type 0} (line : List ℕ) (by_words : Result A LineReason) → length line ≤ 8192
    → list_all is_printable line ≡ true → by_bytes line by_words ≡ by_words
by-words line by_words short printable =
    ap (λ t. cond t (unless_bad (bad_place 1 line) by_words) (Err bad.Long))
    (within (length line) short)
    ∙ ap (λ o. unless_bad o by_words) (none-bad 1 line printable)
