-- The forms of the lines of a manifest that is written back.
use Rattle.std.proofs.Common.{◌≡◌, ◌≢◌, ℕ, ◌-◌, ◌<◌, Bool, true}
use Rattle.std.proofs.Common.{false, List, [], ◌∷◌, ◌++◌, length, take, drop, refl, sym, ap, ◌∙◌}
use Rattle.std.proofs.Common.{Some, append_assoc, arith, codes, length-append}
use Rattle.std.specs.Prelude.{◌==◌, not, if◌then◌else◌, slice_index}
use Rattle.std.specs.Fmt.{decimal}
use Rattle.std.specs.List.{list_all}
use Rattle.std.proofs.Math.Seq.{get_or-append_seam, take-append_seam}
use Rattle.std.proofs.lemmas.Bool.Decides.{nat_tests}
use Rattle.std.proofs.lemmas.List.Folds.{list_all-append}
use Rattle.gb_formats.specs.Script.{is_printable}
use Rattle.gb_formats.specs.SourceLines.{Form, Section, form_of, heading, heading_text, is_heading}
use Rattle.gb_formats.specs.SourceLines.{is_key, is_remark, key_line, key_line_of}
use Rattle.gb_formats.specs.SourceLines.{numbered_heading, trimmed_form}
use Rattle.gb_formats.specs.SourceTexts.{numbered_line, pair_line}
use Rattle.gb_formats.specs.SourceValues.{parted, trimmed, without_back, without_front}
use Rattle.gb_mnfs.proofs.SourceValues.{IsValue, back_behind}
use Rattle.gb_mnfs.proofs.Trims.{back-byte}

-- ---- key lines

formed : (r p h : Bool) (x y : Form) → r ≡ false → p ≡ true → h ≡ false
    → (if r then Form.Nothing else if not p then Form.NoLine else if h then x else y) ≡ y
formed false true false x y a b c = refl
formed false true true x y a b c = absurd cc
formed false false h x y a b c = absurd cc
formed true p h x y a b c = absurd cc

printable : (xs ys : List ℕ) → list_all is_printable xs ≡ true → list_all is_printable ys ≡ true
    → list_all is_printable (xs ++ ys) ≡ true
printable xs ys p q = rw (list_all-append is_printable xs ys, p, q) refl

key_is : (t : Bool) (k v : List ℕ) → t ≡ true
    → (if t then Form.Says k v else Form.NoLine) ≡ Form.Says k v
key_is true k v h = refl
key_is false k v h = absurd cc

no_remark : (line : List ℕ) → 0 < length line → (slice_index line 0 == 59) ≡ false
    → (slice_index line 0 == 35) ≡ false → is_remark line ≡ false
no_remark line h semicolon hash = grind (arith, nat_tests)

pub pair_printable : (k v : List ℕ) → list_all is_printable k ≡ true → IsValue v
    → list_all is_printable (pair_line k v) ≡ true
pair_printable k v key value = printable k (codes " = " ++ v) key value.printable

-- a key line with a value
pub pair_says : (k v : List ℕ) → IsValue v → list_all is_printable k ≡ true
    → without_front (pair_line k v) ≡ pair_line k v → (slice_index (pair_line k v) 0 == 59) ≡ false
    → (slice_index (pair_line k v) 0 == 35) ≡ false
    → is_heading (pair_line k v) ≡ false
    → parted 61 (pair_line k v) ≡ Some (k ++ 32 ∷ [], 32 ∷ v) → trimmed (k ++ 32 ∷ []) ≡ k
    → is_key k ≡ true → form_of (pair_line k v) ≡ Form.Says k v
pair_says k v value key front semicolon hash head parts name is =
    let line = pair_line k v in
    let inner : without_back (codes " = " ++ v) ≡ codes " = " ++ v =
    back_behind (codes " = ") v value.some value.back in
    let some : 0 < length (codes " = " ++ v) = omega arith in
    let whole : trimmed line ≡ line =
    ap without_back front ∙ back_behind k (codes " = " ++ v) some inner in
    let long : 0 < length line = omega (arith, some, length-append k (codes " = " ++ v)) in
    let remark = no_remark line long semicolon hash in
    let tail : trimmed (32 ∷ v) ≡ v = ap without_back value.front ∙ value.back in
    ap trimmed_form whole
    ∙ formed (is_remark line) (list_all is_printable line) (is_heading line)
    (heading (heading_text line) (parted 32 (heading_text line))) (key_line_of (parted 61 line))
    remark (pair_printable k v key value) head
    ∙ ap key_line_of parts
    ∙ ap (λ l. key_line l (trimmed (32 ∷ v))) name
    ∙ ap (λ l. key_line k l) tail
    ∙ key_is (is_key k) k v is

-- ---- section lines

opened : (r p h : Bool) (x y : Form) → r ≡ false → p ≡ true → h ≡ true
    → (if r then Form.Nothing else if not p then Form.NoLine else if h then x else y) ≡ x
opened false true true x y a b c = refl
opened false true false x y a b c = absurd cc
opened false false h x y a b c = absurd cc
opened true p h x y a b c = absurd cc

last : (ys : List ℕ) (b : ℕ) → length (ys ++ b ∷ []) - 1 ≡ length ys
last ys b = omega (arith, length-append ys (b ∷ []))

last_is : (ys : List ℕ) (b : ℕ) → slice_index (ys ++ b ∷ []) (length (ys ++ b ∷ []) - 1) ≡ b
last_is ys b =
    ap (λ n. slice_index (ys ++ b ∷ []) n) (last ys b) ∙ get_or-append_seam ys b [] 0

all_but_last : (ys : List ℕ) (b : ℕ) → take (length (ys ++ b ∷ []) - 1) (ys ++ b ∷ []) ≡ ys
all_but_last ys b =
    ap (λ n. take n (ys ++ b ∷ [])) (last ys b) ∙ take-append_seam ys (b ∷ [])

no_space : ◌≢◌ {A = ℕ} 93 32
no_space = omega arith

-- a line from `[` to `]`
bracketed : (inner : List ℕ) → list_all is_printable inner ≡ true
    → form_of (91 ∷ (inner ++ 93 ∷ [])) ≡ heading inner (parted 32 inner)
bracketed inner p =
    let ys = 91 ∷ inner in
    let line = ys ++ 93 ∷ [] in
    let whole : trimmed line ≡ line = back-byte ys 93 no_space in
    let long : 0 < length line = omega arith in
    let remark = no_remark line long refl refl in
    let text : heading_text line ≡ inner = ap (λ l. drop 1 l) (all_but_last ys 93) in
    let head : is_heading line ≡ true = ap (λ b. b == 93) (last_is ys 93) in
    ap trimmed_form whole
    ∙ opened (is_remark line) (list_all is_printable line) (is_heading line)
    (heading (heading_text line) (parted 32 (heading_text line))) (key_line_of (parted 61 line))
    remark (printable inner (93 ∷ []) p refl) head
    ∙ ap (λ l. heading l (parted 32 l)) text

numbered : (name d : List ℕ)
    → 91 ∷ ((name ++ 32 ∷ d) ++ 93 ∷ []) ≡ 91 ∷ (name ++ 32 ∷ (d ++ 93 ∷ []))
numbered name d = ap (λ l. 91 ∷ l) (append_assoc name (32 ∷ d) (93 ∷ []))

-- a section line with a number
pub numbered_opens : (name : List ℕ) (n : ℕ) (s : Section) → list_all is_printable name ≡ true
    → IsValue (decimal n) → parted 32 (name ++ 32 ∷ decimal n) ≡ Some (name, decimal n)
    → numbered_heading name (decimal n) ≡ Form.Opens (Some s)
    → form_of (numbered_line name n) ≡ Form.Opens (Some s)
numbered_opens name n s p value parts is =
    ap form_of (sym (numbered name (decimal n)))
    ∙ bracketed (name ++ 32 ∷ decimal n) (printable name (32 ∷ decimal n) p value.printable)
    ∙ ap (λ o. heading (name ++ 32 ∷ decimal n) o) parts
    ∙ is

pub numbered_printable : (name : List ℕ) (n : ℕ) → list_all is_printable name ≡ true
    → IsValue (decimal n) → list_all is_printable (numbered_line name n) ≡ true
numbered_printable name n p value =
    printable name (32 ∷ (decimal n ++ 93 ∷ [])) p
    (printable (decimal n) (93 ∷ []) value.printable refl)
