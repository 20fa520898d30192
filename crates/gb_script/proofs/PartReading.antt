-- The lines of a script with requesters are valid, and their requesters rise.
use Rattle.std.proofs.Common.{◌≡◌, ℕ, ◌+◌, ◌≤◌, Bool, true, false, cond, Option, Some, None, Result}
use Rattle.std.proofs.Common.{Ok, Err, List, [], ◌∷◌, refl, sym, subst}
use Rattle.std.proofs.Common.{arith, ◌&&◌}
use Rattle.std.specs.Prelude.{nat_le, length, ⊤}
use Rattle.std.specs.Bool.{then_some}
use Rattle.std.proofs.lemmas.Bool.Decides.{nat_tests}
use Rattle.gb_base.specs.declared.reasons.LineReason.{LineReason}
use Rattle.gb_base.specs.declared.reasons.LineReason.TheVariants as bad
use Rattle.gb_base.specs.declared.parts.Parts.{Parts}
use Rattle.gb_formats.proofs.JudgedValid.{judged-says_valid}
use Rattle.gb_formats.proofs.SaidValid.{SaysValid}
use Rattle.gb_formats.specs.Grammar.{Said}
use Rattle.gb_formats.specs.Lines.{lines}
use Rattle.gb_formats.specs.Parts.{Asks, Heading, Nothing, Part, heading, heading_meant}
use Rattle.gb_formats.specs.Parts.{heading_word, is_heading, part_of, parts, parts_from}
use Rattle.gb_formats.specs.Parts.{parts_with, said_part}
use Rattle.gb_formats.specs.Script.{bad_place, by_bytes, judged, longest_line, unless_bad}
use Rattle.gb_formats.specs.ValidEvents.{IsValid}
use Rattle.gb_formats.specs.WordValues.{is_number, number_of, number_word}
use Rattle.gb_formats.specs.Words.{words}
use Rattle.gb_script.specs.PartLines.{AreRising, AreValidLines}

-- ---- one line

-- behind lines of a requester, an event is valid, and a heading's requester is above and at most 8
abbrev IsSound : ℕ → Result Part LineReason → Type 0
IsSound who (Ok Nothing) = ⊤
IsSound who (Ok (Heading next)) = (who ≤ next) × (next ≤ 8)
IsSound who (Ok (Asks e)) = IsValid e
IsSound who (Err why) = ⊤

-- a number that a heading may name
heading-number : (who : ℕ) (w : List ℕ) (next : ℕ) → heading_word who w ≡ Some next
    → (who ≤ next) × (next ≤ 8)
heading-number who w next is = by (nat_le (who + 1) 8) refl is
  where
    named : (t : Bool) → is_number w && (nat_le (who + 1) (number_of w))
        && nat_le (number_of w) (who + 1) ≡ t
        → then_some t (number_of w) ≡ Some next → nat_le (who + 1) 8 ≡ true
        → (who ≤ next) × (next ≤ 8)
    named true so e least = grind (arith, nat_tests)
    named false so e least = absurd cc

    by : (t : Bool) → nat_le (who + 1) 8 ≡ t
        → cond t (number_word (who + 1) (who + 1) w) None ≡ Some next → (who ≤ next) × (next ≤ 8)
    by true so e = named _ refl e so
    by false so e = absurd cc

heading-sound : (who : ℕ) (ws : List (List ℕ)) → IsSound who (heading who ws)
heading-sound who [] = tt
heading-sound who (w ∷ []) = tt
heading-sound who (w ∷ n ∷ ws) = meant (heading_word who n) ws refl
  where
    meant : (o : Option ℕ) (rest : List (List ℕ)) → heading_word who n ≡ o
        → IsSound who (heading_meant o rest)
    meant None rest is = tt
    meant (Some next) [] is = heading-number who n next is
    meant (Some next) (x ∷ xs) is = tt

bytes-sound : (who : ℕ) (line : List ℕ) (by_words : Result Part LineReason) → IsSound who by_words
    → IsSound who (by_bytes line by_words)
bytes-sound who line by_words h = short (nat_le (length line) longest_line)
  where
    plain : (o : Option ℕ) → IsSound who (unless_bad o by_words)
    plain None = h
    plain (Some place) = tt

    short : (t : Bool)
        → IsSound who (cond t (unless_bad (bad_place 1 line) by_words) (Err bad.Long))
    short true = plain (bad_place 1 line)
    short false = tt

said-sound : (who : ℕ) (said : Said) → SaysValid said → IsSound who (said_part said)
said-sound who (Ok None) h = tt
said-sound who (Ok (Some e)) h = h
said-sound who (Err why) h = tt

pub part-sound : (who : ℕ) (line : List ℕ) → IsSound who (part_of who line)
part-sound who line = by (is_heading (words line))
  where
    by : (t : Bool)
        → IsSound who
        (cond t (by_bytes line (heading who (words line))) (said_part (judged who line)))
    by true = bytes-sound who line (heading who (words line)) (heading-sound who (words line))
    by false = said-sound who (judged who line) (judged-says_valid who line)

-- the requester of a heading
pub heading-rises : (who next : ℕ) (line : List ℕ) → part_of who line ≡ Ok (Heading next)
    → (who ≤ next) × (next ≤ 8)
heading-rises who next line is = subst (IsSound who) is (part-sound who line)

-- ---- all lines

from-valid : (at who : ℕ) (ls : List (List ℕ)) → AreValidLines (parts_from at who ls).asked
from-valid at who [] = tt
from-valid at who (line ∷ ls) =
    by (part_of who line) (part-sound who line) (λ next. from-valid (at + 1) next ls)
  where
    later : ℕ → Parts
    later next = parts_from (at + 1) next ls

    by : (said : Result Part LineReason) → IsSound who said
        → ((next : ℕ) → AreValidLines (later next).asked)
        → AreValidLines (parts_with at who said later).asked
    by (Ok Nothing) sound more = more who
    by (Ok (Heading next)) sound more = more next
    by (Ok (Asks e)) sound more = (sound, more who)
    by (Err why) sound more = tt

-- each line of a script is valid
pub parts-valid : (text : List ℕ) → AreValidLines (parts text).asked
parts-valid text = from-valid 1 0 (lines text)

from-rising : (at least who : ℕ) (ls : List (List ℕ)) → least ≤ who → who ≤ 8
    → AreRising least (parts_from at who ls).asked
from-rising at least who [] above small = tt
from-rising at least who (line ∷ ls) above small =
    by (part_of who line) (part-sound who line)
    (λ low next h k. from-rising (at + 1) low next ls h k)
  where
    later : ℕ → Parts
    later next = parts_from (at + 1) next ls

    by : (said : Result Part LineReason) → IsSound who said
        → ((low next : ℕ) → low ≤ next → next ≤ 8 → AreRising low (later next).asked)
        → AreRising least (parts_with at who said later).asked
    by (Ok Nothing) sound more = more least who above small
    by (Ok (Heading next)) sound more = more least next (omega (arith, above, sound.0)) sound.1
    by (Ok (Asks e)) sound more = (above, small, more who who (omega arith) small)
    by (Err why) sound more = tt

-- the requesters of a script rise
pub parts-rising : (text : List ℕ) → AreRising 0 (parts text).asked
parts-rising text = from-rising 1 0 0 (lines text) (omega arith) (omega arith)

-- lines that are those of a script are valid, and their requesters rise
pub valid-parts : (text : List ℕ) (p : Parts) → p ≡ parts text → AreValidLines p.asked
valid-parts text p is = subst (λ (q : Parts). AreValidLines q.asked) (sym is) (parts-valid text)

pub rising-parts : (text : List ℕ) (p : Parts) → p ≡ parts text → AreRising 0 p.asked
rising-parts text p is = subst (λ (q : Parts). AreRising 0 q.asked) (sym is) (parts-rising text)
