-- The lines of a capture of one connection, as the application processor sees it: a message on each
-- line, `> HEX` where it was sent, `< HEX` where it was taken.
use Rattle.std.specs.Prelude.{ℕ, ◌+◌, Bool, true, false, if◌then◌else◌, Option, Some, None, Result}
use Rattle.std.specs.Prelude.{Ok, Err, List, [], ◌∷◌, codes}
use Rattle.std.specs.Str.{bytes_eq}
use Rattle.gb_base.specs.declared.reasons.CaptureFault.{CaptureFault}
use Rattle.gb_base.specs.declared.reasons.CaptureFault.TheVariants as capture
use Rattle.gb_base.specs.declared.reasons.LineReason.{LineReason}
use Rattle.gb_base.specs.declared.reasons.LineReason.TheVariants as bad
use Rattle.gb_base.specs.declared.reasons.RawFault.{RawFault}
use Rattle.gb_base.specs.declared.reasons.RawFault.TheVariants as raw
use Rattle.gb_formats.specs.Grammar.{is_comment}
use Rattle.gb_formats.specs.Message.{Message}
use Rattle.gb_formats.specs.Script.{by_bytes}
use Rattle.gb_formats.specs.Wire.{raw_message}
use Rattle.gb_formats.specs.WordValues.{hex_word}
use Rattle.gb_formats.specs.Words.{words}

-- ---- the words of a line

-- What words hold: nothing, or whether the application processor sent a message and its bytes; or
-- why they are bad.
abbrev pub Holds : Type 0
Holds = Result (Option (Bool × List ℕ)) LineReason

-- `>` where the application processor sent the message, `<` where it took it
abbrev pub way_word : List ℕ → Option Bool
way_word w =
    if bytes_eq w (codes ">") then Some true
    else if bytes_eq w (codes "<") then Some false
    else None

-- no word may stand behind the bytes
abbrev pub holding : Bool → List ℕ → List (List ℕ) → Holds
holding from_ap bytes [] = Ok (Some (from_ap, bytes))
holding from_ap bytes (w ∷ ws) = Err (bad.ExtraWord 3)

-- the second word must be hex
abbrev pub by_hex : Bool → Option (List ℕ) → List (List ℕ) → Holds
by_hex from_ap None ws = Err (bad.BadWord 2)
by_hex from_ap (Some bytes) ws = holding from_ap bytes ws

-- `HEX` must stand behind the way
abbrev pub behind_way : Bool → List (List ℕ) → Holds
behind_way from_ap [] = Err (bad.MissingWord 2)
behind_way from_ap (w ∷ ws) = by_hex from_ap (hex_word w) ws

-- the first word must be a way
abbrev pub by_way : Option Bool → List (List ℕ) → Holds
by_way None ws = Err (bad.BadWord 1)
by_way (Some from_ap) ws = behind_way from_ap ws

-- What the words of a line hold. A comment holds nothing.
abbrev pub held_by : List (List ℕ) → Holds
held_by [] = Ok None
held_by (w ∷ ws) = if is_comment w then Ok None else by_way (way_word w) ws

-- What a line holds. As in a script its length comes first, then its bytes, then its words.
abbrev pub line_holds : List ℕ → Holds
line_holds line = by_bytes line (held_by (words line))

-- ---- the message of a line

-- why a line is none of a capture, by why its words are bad
abbrev pub word_fault : LineReason → CaptureFault
word_fault bad.Long = capture.TooLong
word_fault (bad.BadByte at) = capture.BadByte at
word_fault (bad.BadWord at) = capture.BadWord at
word_fault (bad.MissingWord at) = capture.MissingWord at
word_fault (bad.ExtraWord at) = capture.ExtraWord at

-- why a line is none of a capture, by why its bytes aren't one message
abbrev pub message_fault : RawFault → CaptureFault
message_fault (raw.Wire fault) = capture.Wire fault
message_fault (raw.Extra count) = capture.Extra count

-- What a line of a capture is: blank or a comment, or a message and whether the application
-- processor sent it; or why it is bad.
abbrev pub Captured : Type 0
Captured = Result (Option (Bool × Message)) CaptureFault

-- the bytes must be one whole message
abbrev pub by_message : Bool → Result Message RawFault → Captured
by_message from_ap (Ok m) = Ok (Some (from_ap, m))
by_message from_ap (Err why) = Err (message_fault why)

-- a line by what it holds: its words are judged before its message
abbrev pub by_words : Holds → Captured
by_words (Ok None) = Ok None
by_words (Ok (Some (from_ap, bytes))) = by_message from_ap (raw_message bytes)
by_words (Err why) = Err (word_fault why)

-- What a line of a capture is.
abbrev pub captured : List ℕ → Captured
captured line = by_words (line_holds line)

-- ---- the messages of a capture

-- A message of a capture: the number of its line, and whether the application processor sent it or
-- took it.
pub record Heard : Type 0 where
  pub line : ℕ
  pub from_ap : Bool
  pub message : Message

-- the message of line n, and those behind it
abbrev pub heard_by : Captured → ℕ → List Heard → List Heard
heard_by (Ok None) n later = later
heard_by (Ok (Some (from_ap, m))) n later =
    record { line = n; from_ap = from_ap; message = m } ∷ later
heard_by (Err why) n later = []

-- the messages of lines up to the first bad one, where the first line has number n
unfoldable pub heard_from : ℕ → List (List ℕ) → List Heard
heard_from n [] = []
heard_from n (line ∷ ls) = heard_by (captured line) n (heard_from (n + 1) ls)

-- The messages of the lines of a capture, up to the first bad line.
abbrev pub heard : List (List ℕ) → List Heard
heard ls = heard_from 1 ls

-- line n where it is bad, or the first bad line behind it
abbrev pub bad_by : Captured → ℕ → Option (ℕ × CaptureFault) → Option (ℕ × CaptureFault)
bad_by (Ok m) n later = later
bad_by (Err why) n later = Some (n, why)

-- the first bad line and why it is bad, where the first line has number n
unfoldable pub bad_from : ℕ → List (List ℕ) → Option (ℕ × CaptureFault)
bad_from n [] = None
bad_from n (line ∷ ls) = bad_by (captured line) n (bad_from (n + 1) ls)

-- The number of the first bad line of a capture, and why it is bad.
abbrev pub first_bad : List (List ℕ) → Option (ℕ × CaptureFault)
first_bad ls = bad_from 1 ls
