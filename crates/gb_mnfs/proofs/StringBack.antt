-- The text of a string spells it.
use Rattle.std.proofs.Common.{◌≡◌, ℕ, suc, ◌<◌, ◌&&◌, Bool, true, false, List, []}
use Rattle.std.proofs.Common.{◌∷◌, ◌++◌, length, refl, sym, ap, ◌∙◌, Option, Some, None}
use Rattle.std.proofs.Common.{append_assoc, append-nil, arith, codes, length-append}
use Rattle.std.specs.Prelude.{◌==◌, if◌then◌else◌, nat_lt}
use Rattle.std.specs.List.{list_all}
use Rattle.std.proofs.lemmas.Bool.Decides.{nat_tests}
use Rattle.std.proofs.lemmas.List.Folds.{list_all-append}
use Rattle.hex.specs.Hex.{encode_with, lower_digits}
use Rattle.std.specs.Prelude.{slice_index, ◌/◌, ◌%◌}
use Rattle.gb_base.specs.Bytes.{AreBytes}
use Rattle.gb_formats.proofs.VectorsSource.{counted}
use Rattle.gb_formats.specs.Script.{is_printable}
use Rattle.gb_formats.specs.SourceTexts.{end_byte, escaped_byte, inner_byte, is_plain_byte}
use Rattle.gb_formats.specs.SourceTexts.{later_bytes, string_value}
use Rattle.gb_formats.specs.SourceValues.{first_byte, hex_byte, source_string, string_after}
use Rattle.gb_formats.specs.SourceValues.{without_back}
use Rattle.gb_mnfs.proofs.Numerals.{each_byte}
use Rattle.gb_mnfs.proofs.SourceValues.{IsValue, back_behind, back_solid, front_solid, is_solid}
use Rattle.gb_mnfs.proofs.SourceValues.{solid_printable}
use Rattle.gb_mnfs.proofs.Strings.{front_more}

-- ---- one byte

abbrev is_three : ℕ → Option (ℕ × ℕ) → Bool
is_three b None = false
is_three b (Some (byte, more)) = byte == b && more == 3

told_three : (b : ℕ) (o : Option (ℕ × ℕ)) → is_three b o ≡ true → o ≡ Some (b, 3)
told_three b None h = absurd cc
told_three b (Some (byte, more)) h =
    let same : byte ≡ b = grind (arith, nat_tests) in
    let places : more ≡ 3 = grind (arith, nat_tests) in
    ap (λ x. Some (x, more)) same ∙ ap (λ n. Some (b, n)) places

-- the digits of a byte
abbrev high : ℕ → ℕ
high b = slice_index lower_digits (b / 16)

abbrev low : ℕ → ℕ
low b = slice_index lower_digits (b % 16)

three_all : list_all (λ b. is_three b (hex_byte (high b) (low b))) (counted 256 0) ≡ true
three_all = refl

three : (b : ℕ) → b < 256 → hex_byte (high b) (low b) ≡ Some (b, 3)
three b h = told_three b (hex_byte (high b) (low b))
    (each_byte (λ b. is_three b (hex_byte (high b) (low b))) three_all b h)

plain_first : (b : ℕ) (rest : List ℕ) → is_plain_byte b ≡ true
    → first_byte (b ∷ rest) ≡ Some (b, 0)
plain_first b rest h = grind (arith, nat_tests)

plain_on : (front : List ℕ) (b : ℕ) (rest : List ℕ) → is_plain_byte b ≡ true
    → string_after front 0 (b ∷ rest) ≡ string_after (front ++ b ∷ []) 0 rest
plain_on front b rest h = front_more front (b ∷ rest) b 0 (omega arith) (plain_first b rest h)

slash_on : (front : List ℕ) (b : ℕ) (rest : List ℕ) → b ≡ 92
    → string_after front 0 (92 ∷ 92 ∷ rest) ≡ string_after (front ++ b ∷ []) 0 rest
slash_on front b rest e =
    front_more front (92 ∷ 92 ∷ rest) 92 1 (omega arith) refl
    ∙ ap (λ x. string_after (front ++ x ∷ []) 0 rest) (sym e)

escaped_on : (front : List ℕ) (b : ℕ) (rest : List ℕ) → b < 256
    → string_after front 0 (escaped_byte b ++ rest) ≡ string_after (front ++ b ∷ []) 0 rest
unfolding encode_with
escaped_on front b rest h =
    front_more front (92 ∷ 120 ∷ high b ∷ low b ∷ rest) b 3 (omega arith) (three b h)

by_kind : (front : List ℕ) (b : ℕ) (rest : List ℕ) (t u : Bool) → b < 256 → is_plain_byte b ≡ t
    → (b == 92) ≡ u
    → string_after front 0
    ((if t then b ∷ [] else if u then codes "\\\\" else escaped_byte b) ++ rest)
    ≡ string_after (front ++ b ∷ []) 0 rest
by_kind front b rest true u s h e = plain_on front b rest h
by_kind front b rest false true s h e =
    let same : b ≡ 92 = grind (arith, nat_tests) in slash_on front b rest same
by_kind front b rest false false s h e = escaped_on front b rest s

inner_on : (front : List ℕ) (b : ℕ) (rest : List ℕ) → b < 256
    → string_after front 0 (inner_byte b ++ rest) ≡ string_after (front ++ b ∷ []) 0 rest
inner_on front b rest s = by_kind front b rest (is_plain_byte b) (b == 92) s refl refl

by_end : (front : List ℕ) (b : ℕ) (rest : List ℕ) (t : Bool) → b < 256
    → string_after front 0 ((if t then escaped_byte b else inner_byte b) ++ rest)
    ≡ string_after (front ++ b ∷ []) 0 rest
by_end front b rest true s = escaped_on front b rest s
by_end front b rest false s = inner_on front b rest s

end_on : (front : List ℕ) (b : ℕ) (rest : List ℕ) → b < 256
    → string_after front 0 (end_byte b ++ rest) ≡ string_after (front ++ b ∷ []) 0 rest
end_on front b rest s = by_end front b rest (b == 32) s

-- ---- all bytes

behind : (b : ℕ) (bs : List ℕ) → AreBytes (b ∷ bs) → AreBytes bs
behind b bs are k = are (suc k)

first_of : (b : ℕ) (bs : List ℕ) → AreBytes (b ∷ bs) → b < 256
first_of b bs are = are 0

nothing : (front : List ℕ) → string_after front 0 [] ≡ Some front
unfolding string_after
nothing front = refl

later_back : (bs front : List ℕ) → AreBytes bs
    → string_after front 0 (later_bytes bs) ≡ Some (front ++ bs)
later_back [] front are = nothing front ∙ ap (λ l. Some l) (sym (append-nil front))
later_back (b ∷ []) front are =
    ap (λ l. string_after front 0 l) (sym (append-nil (end_byte b)))
    ∙ end_on front b [] (first_of b [] are)
    ∙ nothing (front ++ b ∷ [])
later_back (b ∷ c ∷ bs) front are =
    inner_on front b (later_bytes (c ∷ bs)) (first_of b (c ∷ bs) are)
    ∙ later_back (c ∷ bs) (front ++ b ∷ []) (behind b (c ∷ bs) are)
    ∙ ap (λ l. Some l) (append_assoc front (b ∷ []) (c ∷ bs))

pub string_back : (bs : List ℕ) → AreBytes bs → source_string (string_value bs) ≡ Some bs
string_back [] are = nothing []
string_back (b ∷ bs) are =
    end_on [] b (later_bytes bs) (first_of b bs are)
    ∙ later_back bs (b ∷ []) (behind b bs are)

-- ---- its form

end_all : list_all (λ b. list_all is_solid (end_byte b) && nat_lt 0 (length (end_byte b)))
    (counted 256 0) ≡ true
unfolding encode_with
end_all = refl

inner_all : list_all (λ b. list_all is_printable (inner_byte b)) (counted 256 0) ≡ true
unfolding encode_with
inner_all = refl

both : (a b : Bool) → (a && b) ≡ true → (a ≡ true) × (b ≡ true)
both true true h = (refl, refl)
both true false h = absurd cc
both false b h = absurd cc

end_is : (b : ℕ) → b < 256 → (list_all is_solid (end_byte b) ≡ true) × (0 < length (end_byte b))
end_is b s =
    let h = both (list_all is_solid (end_byte b)) (nat_lt 0 (length (end_byte b)))
    (each_byte (λ b. list_all is_solid (end_byte b) && nat_lt 0 (length (end_byte b))) end_all b s)
    in (h.0, positive (length (end_byte b)) h.1)
  where
    positive : (n : ℕ) → nat_lt 0 n ≡ true → 0 < n
    positive n h = grind (arith, nat_tests)

inner_is : (b : ℕ) → b < 256 → list_all is_printable (inner_byte b) ≡ true
inner_is b s = each_byte (λ b. list_all is_printable (inner_byte b)) inner_all b s

printable : (xs ys : List ℕ) → list_all is_printable xs ≡ true → list_all is_printable ys ≡ true
    → list_all is_printable (xs ++ ys) ≡ true
printable xs ys p q = rw (list_all-append is_printable xs ys, p, q) refl

later_printable : (bs : List ℕ) → AreBytes bs → list_all is_printable (later_bytes bs) ≡ true
later_printable [] are = refl
later_printable (b ∷ []) are = solid_printable (end_byte b) (end_is b (first_of b [] are)).0
later_printable (b ∷ c ∷ bs) are =
    printable (inner_byte b) (later_bytes (c ∷ bs)) (inner_is b (first_of b (c ∷ bs) are))
    (later_printable (c ∷ bs) (behind b (c ∷ bs) are))

later_some : (b : ℕ) (bs : List ℕ) → AreBytes (b ∷ bs) → 0 < length (later_bytes (b ∷ bs))
later_some b [] are = (end_is b (first_of b [] are)).1
later_some b (c ∷ bs) are =
    let more = later_some c bs (behind b (c ∷ bs) are) in
    omega (arith, more, length-append (inner_byte b) (later_bytes (c ∷ bs)))

later_ends : (b : ℕ) (bs : List ℕ) → AreBytes (b ∷ bs)
    → without_back (later_bytes (b ∷ bs)) ≡ later_bytes (b ∷ bs)
later_ends b [] are = back_solid (end_byte b) (end_is b (first_of b [] are)).0
later_ends b (c ∷ bs) are =
    back_behind (inner_byte b) (later_bytes (c ∷ bs)) (later_some c bs (behind b (c ∷ bs) are))
    (later_ends c bs (behind b (c ∷ bs) are))

ends : (b : ℕ) (bs : List ℕ) → AreBytes (b ∷ bs)
    → without_back (end_byte b ++ later_bytes bs) ≡ end_byte b ++ later_bytes bs
ends b [] are =
    ap without_back (append-nil (end_byte b))
    ∙ back_solid (end_byte b) (end_is b (first_of b [] are)).0
    ∙ sym (append-nil (end_byte b))
ends b (c ∷ bs) are =
    back_behind (end_byte b) (later_bytes (c ∷ bs)) (later_some c bs (behind b (c ∷ bs) are))
    (later_ends c bs (behind b (c ∷ bs) are))

-- The text of a string that isn't empty.
pub IsValue-string : (b : ℕ) (bs : List ℕ) → AreBytes (b ∷ bs) → IsValue (string_value (b ∷ bs))
IsValue-string b bs are =
    let e = end_is b (first_of b bs are) in
    record {
      some = omega (arith, e.1, length-append (end_byte b) (later_bytes bs));
      front = front_solid (end_byte b) (later_bytes bs) e.1 e.0;
      back = ends b bs are;
      printable =
          printable (end_byte b) (later_bytes bs) (solid_printable (end_byte b) e.0)
          (later_printable bs (behind b bs are));
    }
