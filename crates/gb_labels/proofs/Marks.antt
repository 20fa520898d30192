-- Marks in words.
use Rattle.std.proofs.Common.{◌≡◌, ◌<◌, ℕ, ◌*◌, ◌/◌, ◌%◌, ◌^◌, ◌==◌, List, length, slice_index}
use Rattle.std.proofs.Common.{slice_set, bit_and, bit_or, slice_index_or, refl, ap, ◌∙◌, subst}
use Rattle.std.proofs.Common.{arith, w64}
use Rattle.std.proofs.lemmas.List.{get_or_read}
use Rattle.std.proofs.lemmas.Nat.{mod_below}
use Rattle.std.specs.Int.{bit_at, bit_not}
use Rattle.gb_base.proofs.Marks.{Writes, clears, mark_here, mark_others, sets}
use Rattle.gb_base.specs.Marks.{is_marked}
use Rattle.gb_labels.specs.Drawing.{Frees, Marks, Takes}
use Rattle.gb_labels.specs.LabelSet.{LabelSet}

-- words have what others have, and 0 where those have none
abbrev Continue : List ℕ → List ℕ → Type 0
Continue words old = (i : ℕ) → slice_index words i ≡ slice_index old i

-- so that their marks are the same
same_marks : (words old : List ℕ) (label : ℕ) → Continue words old
    → is_marked words label ≡ is_marked old label
same_marks words old label same = ap (λ w. bit_at w (label % 64) == 1) (same (label / 64))

-- the marks when the word of an identifier is written
pub written : (old : LabelSet) (words : List ℕ) (drawn label place word new value : ℕ)
    → Continue words old.words → place ≡ label / 64 → place < length words
    → word ≡ slice_index_or words place word → Writes word new (label % 64) value
    → Marks old (record { words = slice_set words place new; last = drawn }) label
    (value == 1)
written old words drawn label place word new value same at within read w =
    let inside : label / 64 < length words = omega (arith, at, within) in
    let is : word ≡ slice_index words (label / 64) =
    get_or_read words (label / 64) word inside
    (read ∙ ap (λ i. slice_index_or words i word) at) 0 in
    let writes = subst (λ x. Writes x new (label % 64) value) is w in
    record {
      here = ap (λ i. is_marked (slice_set words i new) label) at
          ∙ mark_here words label new value inside writes;
      others = λ other ne. ap (λ i. is_marked (slice_set words i new) other) at
          ∙ mark_others words label new value other inside writes ne
          ∙ same_marks words old.words other same;
    }

-- An identifier's mark is set, and it is the last one drawn.
pub takes : (old : LabelSet) (words : List ℕ) (label place word : ℕ)
    → Continue words old.words → place ≡ label / 64 → place < length words
    → word ≡ slice_index_or words place word
    → Takes old
    (record {
      words = slice_set words place (bit_or word (1 * 2 ^ (label % 64) % 2 ^ 64));
      last = label;
    }) label
takes old words label place word same at within read = record {
  marks = written old words label label place word _ 1 same at within read
      (sets word (label % 64) (mod_below label 64 (omega arith)));
  last = refl;
}

-- An identifier's mark is cleared.
pub frees : (old : LabelSet) (words : List ℕ) (last label place word : ℕ)
    → Continue words old.words → last ≡ old.last → place ≡ label / 64 → place < length words
    → word ≡ slice_index_or words place word
    → Frees old
    (record {
      words = slice_set words place (bit_and word (bit_not w64 (1 * 2 ^ (label % 64) % 2 ^ 64)));
      last = last;
    }) label
frees old words last label place word same stays at within read = record {
  marks = written old words last label place word _ 0 same at within read
      (clears word (label % 64) (mod_below label 64 (omega arith)));
  last = stays;
}
