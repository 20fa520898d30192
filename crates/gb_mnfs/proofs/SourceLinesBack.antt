-- The lines of a text that was written are its lines.
use Rattle.std.proofs.Common.{◌≡◌, ℕ, zero, suc, ◌-◌, true, false, List, [], ◌∷◌, ◌++◌}
use Rattle.std.proofs.Common.{length, refl, sym, ap, ◌∙◌, append_assoc, append-nil, arith}
use Rattle.std.specs.Prelude.{⊤, ◌==◌, if◌then◌else◌, slice_index, take}
use Rattle.std.specs.List.{list_all}
use Rattle.std.proofs.lemmas.Bool.Decides.{nat_tests}
use Rattle.gb_formats.specs.Lines.{lines, lines_after, without_cr}
use Rattle.gb_formats.specs.Script.{is_printable}
use Rattle.gb_formats.specs.SourceTexts.{lines_text}

-- all lines are printable
abbrev pub ArePrintable : List (List ℕ) → Type 0
ArePrintable [] = ⊤
ArePrintable (l ∷ ls) = (list_all is_printable l ≡ true) × ArePrintable ls

pub printable_both : (xs ys : List (List ℕ)) → ArePrintable xs → ArePrintable ys
    → ArePrintable (xs ++ ys)
printable_both [] ys p q = q
printable_both (x ∷ xs) ys p q = (p.0, printable_both xs ys p.1 q)

step : (b : ℕ) (front bs : List ℕ) → is_printable b ≡ true
    → lines_after front (b ∷ bs) ≡ lines_after (front ++ b ∷ []) bs
step b front bs h = grind (arith, nat_tests)

first : (l front more : List ℕ) → list_all is_printable l ≡ true
    → lines_after front (l ++ 10 ∷ more) ≡ without_cr (front ++ l) ∷ lines more
first [] front more h = ap (λ l. without_cr l ∷ lines more) (sym (append-nil front))
first (b ∷ bs) front more h =
    step b front (bs ++ 10 ∷ more) (grind (arith, nat_tests))
    ∙ first bs (front ++ b ∷ []) more (grind (arith, nat_tests))
    ∙ ap (λ l. without_cr l ∷ lines more) (append_assoc front (b ∷ []) bs)

no_cr : (l : List ℕ) (k : ℕ) → list_all is_printable l ≡ true → (slice_index l k == 13) ≡ false
no_cr [] k h = refl
no_cr (b ∷ bs) zero h = grind (arith, nat_tests)
no_cr (b ∷ bs) (suc k) h = no_cr bs k (grind (arith, nat_tests))

whole : (l : List ℕ) → list_all is_printable l ≡ true → without_cr l ≡ l
whole l h = ap (λ t. if t then take (length l - 1) l else l) (no_cr l (length l - 1) h)

pub lines_back : (ls : List (List ℕ)) → ArePrintable ls → lines (lines_text ls) ≡ ls
lines_back [] p = refl
lines_back (l ∷ ls) p =
    ap lines (append_assoc l (10 ∷ []) (lines_text ls))
    ∙ first l [] (lines_text ls) p.0
    ∙ ap (λ x. x ∷ lines (lines_text ls)) (whole l p.0)
    ∙ ap (λ xs. l ∷ xs) (lines_back ls p.1)
