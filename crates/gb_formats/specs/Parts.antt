-- The parts of a script with requesters: its lines in order, each with the requester whose it is.
use Rattle.std.specs.Prelude.{ℕ, ◌+◌, nat_le, Bool, false, if◌then◌else◌, Option, Some, None}
use Rattle.std.specs.Prelude.{Result, Ok, Err, List, [], ◌∷◌, codes}
use Rattle.std.specs.Str.{bytes_eq}
use Rattle.gb_base.specs.declared.event.Event.{Event}
use Rattle.gb_base.specs.declared.reasons.LineReason.{LineReason}
use Rattle.gb_base.specs.declared.reasons.LineReason.TheVariants as bad
use Rattle.gb_base.specs.declared.parts.Asked.{Asked}
use Rattle.gb_base.specs.declared.parts.Parts.{Parts}
use Rattle.gb_formats.specs.Grammar.{Said}
use Rattle.gb_formats.specs.Lines.{lines}
use Rattle.gb_formats.specs.Script.{by_bytes, judged}
use Rattle.gb_formats.specs.WordValues.{number_word}
use Rattle.gb_formats.specs.Words.{words}

-- how many requesters a script may have, besides requester 0
abbrev pub most_requesters : ℕ
most_requesters = 8

-- What a line is to a script with requesters.
pub data Part : Type 0 where
  Nothing : Part
  Heading : ℕ → Part
  Asks : Event → Part

-- a line whose first word is `requester` is a heading
abbrev pub is_heading : List (List ℕ) → Bool
is_heading [] = false
is_heading (w ∷ ws) = bytes_eq w (codes "requester")

-- the word of a heading: requesters rise by one from 1, and are at most 8
abbrev pub heading_word : ℕ → List ℕ → Option ℕ
heading_word who w =
    if nat_le (who + 1) most_requesters then number_word (who + 1) (who + 1) w else None

-- a word of a heading that fits or doesn't
abbrev pub heading_meant : Option ℕ → List (List ℕ) → Result Part LineReason
heading_meant None ws = Err (bad.BadWord 2)
heading_meant (Some who) [] = Ok (Heading who)
heading_meant (Some who) (w ∷ ws) = Err (bad.ExtraWord 3)

-- a heading behind the lines of requester `who`, by its words
abbrev pub heading : ℕ → List (List ℕ) → Result Part LineReason
heading who [] = Ok Nothing
heading who (w ∷ []) = Err (bad.MissingWord 2)
heading who (w ∷ n ∷ ws) = heading_meant (heading_word who n) ws

-- the part that a line says
abbrev pub said_part : Said → Result Part LineReason
said_part (Ok None) = Ok Nothing
said_part (Ok (Some e)) = Ok (Asks e)
said_part (Err why) = Err why

-- What a line is, behind lines of requester `who`.
abbrev pub part_of : ℕ → List ℕ → Result Part LineReason
part_of who line =
    if is_heading (words line) then by_bytes line (heading who (words line))
    else said_part (judged who line)

-- the parts with one more line in front
abbrev pub with_line : Asked → Parts → Parts
with_line asked parts = record { asked = asked ∷ parts.asked; bad = parts.bad }

-- the parts where a line is this part: it has number `at`, and what follows is by its requester
abbrev pub parts_with : ℕ → ℕ → Result Part LineReason → (ℕ → Parts) → Parts
parts_with at who (Ok Nothing) later = later who
parts_with at who (Ok (Heading next)) later = later next
parts_with at who (Ok (Asks e)) later =
    with_line (record { line = at; who = who; event = e }) (later who)
parts_with at who (Err why) later = record { asked = []; bad = Some (at, why) }

-- the parts of lines whose first has number `at` and stands behind lines of requester `who`
abbrev pub parts_from : ℕ → ℕ → List (List ℕ) → Parts
parts_from at who [] = record { asked = []; bad = None }
parts_from at who (line ∷ more) =
    parts_with at who (part_of who line) (λ next. parts_from (at + 1) next more)

-- The parts of a script: lines before the first heading are requester 0's.
abbrev pub parts : List ℕ → Parts
parts text = parts_from 1 0 (lines text)
