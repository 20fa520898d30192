-- The text of lines, section by section.
use Rattle.std.proofs.Common.{◌≡◌, ℕ, List, [], ◌++◌, sym, ap, ◌∙◌, append_assoc}
use Rattle.std.proofs.lemmas.Grind.{flat_map-append}
use Rattle.gb_formats.specs.SourceTexts.{lines_text}
use Rattle.gb_formats.specs.Texts.{ended}

pub lines_text-append : (xs ys : List (List ℕ))
    → lines_text (xs ++ ys) ≡ lines_text xs ++ lines_text ys
lines_text-append xs ys = flat_map-append ended xs ys

-- a text that grew by these lines
grew : (old new : List ℕ) (before more : List (List ℕ)) → old ≡ lines_text before
    → new ≡ old ++ lines_text more → new ≡ lines_text (before ++ more)
grew old new before more o n =
    n ∙ ap (λ l. l ++ lines_text more) o ∙ sym (lines_text-append before more)

assoc : (h i s b c : List (List ℕ))
    → (((h ++ i) ++ s) ++ b) ++ c ≡ h ++ (i ++ (s ++ (b ++ c)))
assoc h i s b c =
    append_assoc ((h ++ i) ++ s) b c
    ∙ append_assoc (h ++ i) s (b ++ c)
    ∙ append_assoc h i (s ++ (b ++ c))

-- The lines of the header, the interface, the strings, the bundles and the CPorts were appended.
pub five : (h i s b c : List (List ℕ)) (t u v w x y : List ℕ) → t ≡ [] → u ≡ t ++ lines_text h
    → v ≡ u ++ lines_text i → w ≡ v ++ lines_text s → x ≡ w ++ lines_text b
    → y ≡ x ++ lines_text c → y ≡ lines_text (h ++ (i ++ (s ++ (b ++ c))))
five h i s b c t u v w x y none uh vi ws xb yc =
    let first : u ≡ lines_text h = uh ∙ ap (λ l. l ++ lines_text h) none in
    let second = grew u v h i first vi in
    let third = grew v w (h ++ i) s second ws in
    let fourth = grew w x ((h ++ i) ++ s) b third xb in
    grew x y (((h ++ i) ++ s) ++ b) c fourth yc ∙ ap lines_text (assoc h i s b c)
