-- The messages that an audit stands for.
use Rattle.std.specs.Prelude.{◌≡◌, ◌<◌, ℕ, ◌==◌, Bool, not, ◌&&◌, if◌then◌else◌, Option}
use Rattle.std.specs.Prelude.{None}
use Rattle.std.specs.Prelude.{option_map, List, [], ◌∷◌, length, reverse, ⊤}
use Rattle.std.specs.List.{filter, find}
use Rattle.gb_capture.specs.Tables.{last_in}
use Rattle.gb_capture.specs.declared.audit.Audit.{Audit}
use Rattle.gb_capture.specs.declared.table.Asked.{Asked}
use Rattle.gb_capture.specs.declared.table.Table.{Table}
use Rattle.gb_formats.specs.Audit.{findings, has_id, is_answered, is_request_of, is_response}
use Rattle.gb_formats.specs.Audit.{pairs}
use Rattle.gb_formats.specs.Captures.{Heard}
use Rattle.gb_formats.specs.Message.{Message}

-- In all of these `past` are the messages that came, the last of them first.

-- the message of a line
abbrev pub heard_at : ℕ → Bool → Message → Heard
heard_at line from_ap m = record { line = line; from_ap = from_ap; message = m }

-- what is kept of a request
abbrev pub asked_of : List Heard → Heard → Asked
asked_of past q =
    record { line = q.line; kind = q.message.kind; answered = is_answered past q }

-- what is kept of the last request of this direction with this identifier
abbrev pub last_of : List Heard → Bool → ℕ → Option Asked
last_of past from_ap id =
    if id == 0 then None else option_map (asked_of past) (find (is_request_of from_ap id) past)

-- the table has the last requests of these messages
abbrev pub Keeps : Table → List Heard → Type 0
Keeps t past =
    (from_ap : Bool) → (id : ℕ) → id < 65536 → last_in t from_ap id ≡ last_of past from_ap id

-- a request with an identifier
abbrev pub is_asking : Heard → Bool
is_asking m = not (is_response m.message) && has_id m.message

-- each message stands on an earlier line than those before it in the list, and below this line
abbrev pub AreBelow : ℕ → List Heard → Type 0
AreBelow line [] = ⊤
AreBelow line (m ∷ past) = (m.line < line) × AreBelow m.line past

-- one where it holds, else none
abbrev pub one_if : Bool → ℕ
one_if b = if b then 1 else 0

-- the line of the last message
abbrev pub last_line : Audit → ℕ
last_line x = x.line

-- These messages came.
pub record Stands (x : Audit) (past : List Heard) : Type 0 where
  pub keeps : Keeps x.table past
  pub faults : x.faults ≡ length (findings (reverse past))
  pub pairs_are : x.pairs ≡ length (pairs (reverse past))
  pub asked : x.asked ≡ length (filter is_asking past)
  pub below : (line : ℕ) → x.line < line → AreBelow line past
