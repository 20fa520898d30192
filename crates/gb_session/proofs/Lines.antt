-- Bytes that are given as a line are the line that they are in a script.
use Rattle.std.proofs.Common.{◌≡◌, ℕ, zero, suc, ◌-◌, ◌==◌, Bool, true, false, cond, ◌||◌, List}
use Rattle.std.proofs.Common.{[], ◌∷◌, ◌++◌, length, take, get_or, length-append, refl, sym, ap}
use Rattle.std.proofs.Common.{◌∙◌}
use Rattle.std.proofs.Common.{arith}
use Rattle.std.specs.List.{list_any}
use Rattle.std.proofs.lemmas.Bool.Decides.{nat_tests}
use Rattle.std.proofs.Math.Seq.{get_or-append_seam, take-append_seam}
use Rattle.gb_formats.specs.Lines.{is_lf}
use Rattle.gb_script.proofs.TextLines.{one-line}
use Rattle.gb_session.specs.Sessions.{LinesAreAsInAScript, without}

-- ---- the last byte

-- a byte at the end is the last one
one-less : (xs : List ℕ) (b : ℕ) → length (xs ++ b ∷ []) - 1 ≡ length xs
one-less xs b = ap (λ n. n - 1) (length-append xs (b ∷ [])) ∙ omega arith

same-byte : (b : ℕ) → (b == b) ≡ true
same-byte b = grind (arith, nat_tests)

without-end : (xs : List ℕ) (b : ℕ) → without b (xs ++ b ∷ []) ≡ xs
without-end xs b =
    ap (λ t. cond t (take (length (xs ++ b ∷ []) - 1) (xs ++ b ∷ [])) (xs ++ b ∷ []))
    (ap (λ i. get_or (xs ++ b ∷ []) i 0 == b) (one-less xs b)
    ∙ ap (λ c. c == b) (get_or-append_seam xs b [] 0) ∙ same-byte b)
    ∙ ap (λ n. take n (xs ++ b ∷ [])) (one-less xs b)
    ∙ take-append_seam xs (b ∷ [])

-- ---- no LF

or-left : (a b : Bool) → a || b ≡ false → a ≡ false
or-left true b h = h
or-left false b h = refl

or-right : (a b : Bool) → a || b ≡ false → b ≡ false
or-right true b h = absurd cc
or-right false b h = h

no-lf-at : (xs : List ℕ) (i : ℕ) → list_any is_lf xs ≡ false → is_lf (get_or xs i 0) ≡ false
no-lf-at [] i h = refl
no-lf-at (b ∷ bs) zero h = or-left (is_lf b) (list_any is_lf bs) h
no-lf-at (b ∷ bs) (suc i) h = no-lf-at bs i (or-right (is_lf b) (list_any is_lf bs) h)

without-none : (xs : List ℕ) → list_any is_lf xs ≡ false → without 10 xs ≡ xs
without-none xs h =
    ap (λ t. cond t (take (length xs - 1) xs) xs) (no-lf-at xs (length xs - 1) h)

pub as-in-a-script : LinesAreAsInAScript
as-in-a-script bytes h = record {
  bare = one-line bytes h ∙ ap (λ t. without 13 t ∷ []) (sym (without-none bytes h));
  ended = one-line bytes h ∙ ap (λ t. without 13 t ∷ []) (sym (without-end bytes 10));
}
