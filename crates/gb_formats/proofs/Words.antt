-- How a line is cut into words, byte by byte.
use Rattle.std.proofs.Common.{◌≡◌, ℕ, suc, ◌+◌, ◌-◌, ◌<◌, ◌≤◌, ◌≢◌, List, [], length, get_or, take}
use Rattle.std.proofs.Common.{drop, ◌∙◌, arith, add-one, length-drop}
use Rattle.std.proofs.Math.Seq.{drop-cons, take-suc}
use Rattle.std.proofs.lemmas.Bool.Decides.{nat_tests}
use Rattle.std.proofs.lemmas.List.{get_or-drop}
use Rattle.gb_formats.specs.Words.{words, words_after}

-- the bytes from `start` to `i` are the front of a word, and before them was none
abbrev pub HasRead : List ℕ → ℕ → ℕ → Type 0
HasRead line start i = words_after (take (i - start) (drop start line)) (drop i line) ≡ words line

grown : (line : List ℕ) (start i : ℕ) → start ≤ i → i < length line → get_or line i 0 ≢ 32
    → words_after (take (i + 1 - start) (drop start line)) (drop (i + 1) line)
    ≡ words_after (take (i - start) (drop start line)) (drop i line)
grown line start i s h ne =
    let e : i + 1 - start ≡ suc (i - start) = omega arith in
    let k : i - start < length (drop start line) = omega (arith, length-drop start line) in
    let j : start + (i - start) ≡ i = omega arith in
    rw (
      drop-cons line i 0,
      e,
      take-suc (drop start line) (i - start) 0,
      get_or-drop start line
          (i - start) 0,
      j,
      add-one,
    ) (grind (arith, nat_tests))

passed : (line : List ℕ) (i : ℕ) → i < length line → get_or line i 0 ≡ 32
    → words_after [] (drop (i + 1) line) ≡ words_after [] (drop i line)
passed line i h e = rw (drop-cons line i 0, add-one) (grind (arith, nat_tests))

-- a byte that is no space joins the word
pub HasRead-byte : (line : List ℕ) (start i next : ℕ) → next ≡ start → start ≤ i → i < length line
    → get_or line i 0 ≢ 32 → HasRead line start i → HasRead line next (i + 1)
HasRead-byte line start i next e s h ne read = rw e (grown line start i s h ne ∙ read)

-- a space before a word is passed
pub HasRead-space : (line : List ℕ) (start i next : ℕ) → next ≡ i + 1 → start ≡ i → i < length line
    → get_or line i 0 ≡ 32 → HasRead line start i → HasRead line next (i + 1)
HasRead-space line start i next e s h at read =
    let none : i + 1 - (i + 1) ≡ 0 = omega arith in
    let empty : i - i ≡ 0 = omega arith in
    let before : words_after [] (drop i line) ≡ words line = rw (s, empty) at read in
    rw (e, none) (passed line i h at ∙ before)
