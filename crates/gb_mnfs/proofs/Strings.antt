-- How a string is read from its text, byte by byte.
use Rattle.std.proofs.Common.{◌≡◌, ℕ, zero, suc, ◌+◌, ◌-◌, ◌<◌, ◌≤◌, List, [], ◌∷◌, ◌++◌, length}
use Rattle.std.proofs.Common.{take, drop, refl, sym, ap, ◌∙◌, Option, Some, None, arith}
use Rattle.std.proofs.Common.{length-drop}
use Rattle.std.proofs.lemmas.List.{drop_all, drop-drop, take_rest}
use Rattle.gb_formats.specs.SourceValues.{first_byte, source_string, string_after, string_then}

-- bytes that are passed over are left out
skips : (front : List ℕ) (n : ℕ) (xs : List ℕ)
    → string_after front n xs ≡ string_after front 0 (drop n xs)
unfolding string_after
skips front zero xs = refl
skips front (suc n) [] = refl
skips front (suc n) (x ∷ xs) = skips front n xs

goes_on : (front : List ℕ) (o : Option (ℕ × ℕ)) (bs : List ℕ) (byte more : ℕ)
    → o ≡ Some (byte, more)
    → string_then o (λ byte more. string_after (front ++ byte ∷ []) more bs)
    ≡ string_after (front ++ byte ∷ []) more bs
goes_on front o bs byte more e =
    ap (λ o. string_then o (λ byte more. string_after (front ++ byte ∷ []) more bs)) e

ends : (front : List ℕ) (o : Option (ℕ × ℕ)) (bs : List ℕ) → o ≡ None
    → string_then o (λ byte more. string_after (front ++ byte ∷ []) more bs) ≡ None
ends front o bs e =
    ap (λ o. string_then o (λ byte more. string_after (front ++ byte ∷ []) more bs)) e

opened : (front : List ℕ) (b : ℕ) (bs : List ℕ) → string_after front 0 (b ∷ bs)
    ≡ string_then (first_byte (b ∷ bs)) (λ byte more. string_after (front ++ byte ∷ []) more bs)
unfolding string_after
opened front b bs = refl

pub front_more : (front xs : List ℕ) (byte more : ℕ) → 0 < length xs
    → first_byte xs ≡ Some (byte, more)
    → string_after front 0 xs ≡ string_after (front ++ byte ∷ []) 0 (drop (suc more) xs)
front_more front [] byte more h e = absurd (omega (arith, h))
front_more front (b ∷ bs) byte more h e =
    opened front b bs
    ∙ goes_on front (first_byte (b ∷ bs)) bs byte more e
    ∙ skips (front ++ byte ∷ []) more bs

opened_bad : (front xs : List ℕ) → 0 < length xs → first_byte xs ≡ None
    → string_after front 0 xs ≡ None
opened_bad front [] h e = absurd (omega (arith, h))
opened_bad front (b ∷ bs) h e = opened front b bs ∙ ends front (first_byte (b ∷ bs)) bs e

-- a byte of the string was read
pub byte_more : (text front : List ℕ) (at byte more : ℕ) → at < length text
    → first_byte (drop at text) ≡ Some (byte, more)
    → string_after front 0 (drop at text) ≡ source_string text
    → string_after (front ++ byte ∷ []) 0 (drop (at + (1 + more)) text) ≡ source_string text
byte_more text front at byte more h e read =
    let some : 0 < length (drop at text) = omega (arith, length-drop at text) in
    let next : at + (1 + more) ≡ at + suc more = omega arith in
    ap (λ n. string_after (front ++ byte ∷ []) 0 (drop n text)) next
    ∙ ap (λ l. string_after (front ++ byte ∷ []) 0 l) (sym (drop-drop (suc more) at text))
    ∙ sym (front_more front (drop at text) byte more some e)
    ∙ read

-- no byte of a string comes
pub byte_bad : (text front : List ℕ) (at : ℕ) → at < length text
    → first_byte (drop at text) ≡ None
    → string_after front 0 (drop at text) ≡ source_string text → source_string text ≡ None
byte_bad text front at h e read = sym read ∙ opened_bad front (drop at text) some e
  where
    some : 0 < length (drop at text)
    some = omega (arith, length-drop at text)

-- all bytes were read
pub bytes_done : (text front : List ℕ) (at : ℕ) → length text ≤ at
    → string_after front 0 (drop at text) ≡ source_string text → source_string text ≡ Some front
unfolding string_after
bytes_done text front at h read =
    sym read ∙ ap (λ l. string_after front 0 l) (drop_all at text h)

-- how many bytes are left
pub length-take_rest : (text : List ℕ) (at : ℕ)
    → length (take (length text - at) (drop at text)) ≡ length text - at
length-take_rest text at = ap length (take_rest text at) ∙ length-drop at text
