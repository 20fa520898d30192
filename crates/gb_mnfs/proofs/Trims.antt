-- How spaces at the ends of a line are passed, and how a line is parted.
use Rattle.std.proofs.Common.{◌≡◌, ℕ, suc, ◌+◌, ◌-◌, ◌<◌, ◌≤◌, ◌≢◌, List, [], ◌∷◌, ◌++◌, length}
use Rattle.std.proofs.Common.{get_or, take, drop, refl, sym, ap, ◌∙◌, Some, arith, add-one}
use Rattle.std.proofs.Math.Seq.{drop-cons, take-suc}
use Rattle.std.proofs.lemmas.Bool.Decides.{nat_tests}
use Rattle.gb_formats.specs.SourceValues.{parted, parted_after, with_first, without_back}
use Rattle.gb_formats.specs.SourceValues.{without_front}

-- ---- spaces in front

stops : (b : ℕ) (bs : List ℕ) → b ≢ 32 → without_front (b ∷ bs) ≡ b ∷ bs
stops b bs ne = grind (arith, nat_tests)

passes : (b : ℕ) (bs : List ℕ) → b ≡ 32 → without_front (b ∷ bs) ≡ without_front bs
passes b bs e = grind (arith, nat_tests)

-- a byte that is no space is the first that stays
pub front-stops : (line : List ℕ) (i : ℕ) → i < length line → get_or line i 0 ≢ 32
    → without_front (drop i line) ≡ without_front line → drop i line ≡ without_front line
front-stops line i h ne read =
    let stay : without_front (drop i line) ≡ drop i line =
    rw (drop-cons line i 0) (stops (get_or line i 0) (drop (suc i) line) ne) in
    sym stay ∙ read

-- a space is passed
pub front-passes : (line : List ℕ) (i : ℕ) → i < length line → get_or line i 0 ≡ 32
    → without_front (drop i line) ≡ without_front line
    → without_front (drop (i + 1) line) ≡ without_front line
front-passes line i h e read =
    let gone : without_front (drop i line) ≡ without_front (drop (suc i) line) =
    rw (drop-cons line i 0) (passes (get_or line i 0) (drop (suc i) line) e) in
    rw add-one (sym gone ∙ read)

-- ---- spaces at the end

keeps : (x b : ℕ) (xs : List ℕ) → with_first x (xs ++ b ∷ []) ≡ x ∷ xs ++ b ∷ []
keeps x b [] = refl
keeps x b (y ∷ ys) = refl

ends : (b : ℕ) → b ≢ 32 → without_back (b ∷ []) ≡ b ∷ []
ends b ne = grind (arith, nat_tests)

-- a byte that is no space is the last that stays
pub back-byte : (xs : List ℕ) (b : ℕ) → b ≢ 32 → without_back (xs ++ b ∷ []) ≡ xs ++ b ∷ []
back-byte [] b ne = ends b ne
back-byte (x ∷ xs) b ne = ap (λ l. with_first x l) (back-byte xs b ne) ∙ keeps x b xs

-- a space at the end doesn't count
pub back-space : (xs : List ℕ) → without_back (xs ++ 32 ∷ []) ≡ without_back xs
back-space [] = refl
back-space (x ∷ xs) = ap (λ l. with_first x l) (back-space xs)

-- a front of a line and its last byte
last_of : (line : List ℕ) (end : ℕ) → 0 < end → end ≤ length line
    → take end line ≡ take (end - 1) line ++ get_or line (end - 1) 0 ∷ []
last_of line end some within =
    let next : end ≡ suc (end - 1) = omega arith in
    ap (λ n. take n line) next ∙ take-suc line (end - 1) 0 (omega arith)

pub back-stops : (line : List ℕ) (end : ℕ) → 0 < end → end ≤ length line
    → get_or line (end - 1) 0 ≢ 32 → without_back (take end line) ≡ without_back line
    → take end line ≡ without_back line
back-stops line end some within ne read =
    let l = last_of line end some within in
    l ∙ sym (back-byte (take (end - 1) line) (get_or line (end - 1) 0) ne)
    ∙ ap without_back (sym l)
    ∙ read

pub back-passes : (line : List ℕ) (end : ℕ) → 0 < end → end ≤ length line
    → get_or line (end - 1) 0 ≡ 32 → without_back (take end line) ≡ without_back line
    → without_back (take (end - 1) line) ≡ without_back line
back-passes line end some within e read =
    let l = last_of line end some within ∙ ap (λ b. take (end - 1) line ++ b ∷ []) e in
    sym (back-space (take (end - 1) line)) ∙ ap without_back (sym l) ∙ read

pub back-empty : (line : List ℕ) (end : ℕ) → end ≡ 0
    → without_back (take end line) ≡ without_back line → take end line ≡ without_back line
back-empty line end e read =
    ap (λ n. take n line) e ∙ sym (ap (λ n. without_back (take n line)) e) ∙ read

-- ---- parts

found : (by b : ℕ) (front bs : List ℕ) → b ≡ by → parted_after by front (b ∷ bs) ≡ Some (front, bs)
found by b front bs e = grind (arith, nat_tests)

passed : (by b : ℕ) (front bs : List ℕ) → b ≢ by
    → parted_after by front (b ∷ bs) ≡ parted_after by (front ++ b ∷ []) bs
passed by b front bs ne = grind (arith, nat_tests)

-- the byte that parts the line
pub part-found : (by : ℕ) (line : List ℕ) (i : ℕ) → i < length line → get_or line i 0 ≡ by
    → parted_after by (take i line) (drop i line) ≡ parted by line
    → parted by line ≡ Some (take i line, drop (i + 1) line)
part-found by line i h e read =
    let at : parted_after by (take i line) (drop i line) ≡ Some (take i line, drop (suc i) line) =
    rw (drop-cons line i 0) (found by (get_or line i 0) (take i line) (drop (suc i) line) e) in
    rw add-one (sym read ∙ at)

-- another byte joins the first part
pub part-passed : (by : ℕ) (line : List ℕ) (i : ℕ) → i < length line → get_or line i 0 ≢ by
    → parted_after by (take i line) (drop i line) ≡ parted by line
    → parted_after by (take (i + 1) line) (drop (i + 1) line) ≡ parted by line
part-passed by line i h ne read =
    let at : parted_after by (take i line) (drop i line)
    ≡ parted_after by (take (suc i) line) (drop (suc i) line) =
    rw (drop-cons line i 0, take-suc line i 0)
    (passed by (get_or line i 0) (take i line) (drop (suc i) line) ne) in
    rw add-one (sym at ∙ read)
