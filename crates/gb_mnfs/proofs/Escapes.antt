-- The text of a string, byte by byte.
use Rattle.std.proofs.Common.{◌≡◌, ℕ, zero, suc, ◌+◌, ◌-◌, ◌<◌, ◌≤◌, ◌||◌, Bool, true, false}
use Rattle.std.proofs.Common.{List, []}
use Rattle.std.proofs.Common.{◌∷◌, ◌++◌, length, get_or, drop, refl, sym, ap, ◌∙◌, add-one}
use Rattle.std.proofs.Common.{append_assoc, append-nil, length-drop, arith}
use Rattle.std.specs.Prelude.{◌==◌, if◌then◌else◌}
use Rattle.std.proofs.Math.Seq.{drop-cons}
use Rattle.std.proofs.lemmas.Bool.Decides.{nat_tests}
use Rattle.std.proofs.lemmas.List.{drop_all}
use Rattle.gb_formats.specs.SourceTexts.{end_byte, inner_byte, later_bytes, string_value}

-- the text of the bytes from a place on
abbrev pub value_from : ℕ → List ℕ → List ℕ
value_from zero bytes = string_value bytes
value_from (suc i) bytes = later_bytes (drop (suc i) bytes)

-- the text of a byte, at an end or inside
abbrev value_at : Bool → ℕ → List ℕ
value_at at_end b = if at_end then end_byte b else inner_byte b

-- a byte behind the first
later : (b : ℕ) (bs : List ℕ) (t : Bool) → t ≡ (length bs == 0)
    → later_bytes (b ∷ bs) ≡ value_at t b ++ later_bytes bs
later b [] t e = rw e (sym (append-nil (end_byte b)))
later b (c ∷ cs) true e = absurd (grind (arith, nat_tests))
later b (c ∷ cs) false e = refl

first : (bytes : List ℕ) → 0 < length bytes
    → string_value bytes ≡ end_byte (get_or bytes 0 0) ++ later_bytes (drop 1 bytes)
first [] h = absurd (omega (arith, h))
first (b ∷ bs) h = refl

at_last : (n i : ℕ) → suc i < n → (suc i == 0 || suc i == n - 1) ≡ (n - suc (suc i) == 0)
at_last n i h = grind (arith, nat_tests)

value_more : (bytes : List ℕ) (i : ℕ) (t : Bool) → i < length bytes
    → t ≡ (i == 0 || i == length bytes - 1)
    → value_from i bytes ≡ value_at t (get_or bytes i 0) ++ value_from (suc i) bytes
value_more bytes zero t h e = rw e (first bytes h)
value_more bytes (suc i) t h e =
    let last : t ≡ (length (drop (suc (suc i)) bytes) == 0) =
    e ∙ at_last (length bytes) i h
    ∙ ap (λ n. n == 0) (sym (length-drop (suc (suc i)) bytes)) in
    ap later_bytes (drop-cons bytes (suc i) 0 h)
    ∙ later (get_or bytes (suc i) 0) (drop (suc (suc i)) bytes) t last

-- a byte was appended
pub byte_more : (old line whole bytes : List ℕ) (i : ℕ) (t : Bool) → i < length bytes
    → t ≡ (i == 0 || i == length bytes - 1)
    → line ≡ old ++ (if t then end_byte (get_or bytes i 0) else inner_byte (get_or bytes i 0))
    → old ++ value_from i bytes ≡ whole → line ++ value_from (i + 1) bytes ≡ whole
byte_more old line whole bytes i t h e added read =
    rw (add-one, added, append_assoc)
    (ap (λ l. old ++ l) (sym (value_more bytes i t h e)) ∙ read)

-- all bytes were appended
pub bytes_done : (line whole bytes : List ℕ) (i : ℕ) → length bytes ≤ i
    → line ++ value_from i bytes ≡ whole → line ≡ whole
bytes_done line whole [] zero h read = sym (append-nil line) ∙ read
bytes_done line whole (b ∷ bs) zero h read = absurd (omega (arith, h))
bytes_done line whole bytes (suc i) h read =
    sym (append-nil line)
    ∙ ap (λ l. line ++ later_bytes l) (sym (drop_all (suc i) bytes h))
    ∙ read
