-- What is written for an input that is read as a whole, and how the program ends then.
use Rattle.std.specs.Prelude.{ℕ, Bool, true, false, is_some, List, []}
use Rattle.std.specs.String.{string_bytes}
use Rattle.gb_base.specs.declared.status.Status.{Status}
use Rattle.gb_base.specs.declared.status.Status.TheVariants as status
use Rattle.gb_formats.specs.Lines.{ended_lines}
use Rattle.gb_formats.specs.Parts.{parts}
use Rattle.gbus.specs.Program.{Shares, WholeJob, lines_status, whole_text, whole_verdict}
use Rattle.gbus.specs.declared.answer.Output.{Output}
use Rattle.gbus.specs.declared.answer.Output.TheVariants as output
use Rattle.gbus.specs.declared.input.Input.{Input}
use Rattle.gbus.specs.declared.input.Input.TheVariants as input

-- the bytes that are written
abbrev pub bytes_in : Output → List ℕ
bytes_in (output.Text text) = text
bytes_in (output.Report text) = string_bytes text
bytes_in (output.Bytes bytes) = bytes

-- what is written of an input
abbrev pub input_text : WholeJob → Input → List ℕ
input_text j (input.Whole bytes) = whole_text j bytes.items
input_text j (input.TooLong front) = []

-- and how the program ends
abbrev pub input_status : WholeJob → Input → Status
input_status j (input.Whole bytes) = whole_verdict j bytes.items
input_status j (input.TooLong front) = status.TooLong

-- what is written of an input whose lines are run by their requesters
abbrev pub SharesInput : Bool → Input → List ℕ → Type 0
SharesInput hex (input.Whole bytes) written = Shares hex (parts bytes.items) false written
SharesInput hex (input.TooLong front) written =
    Shares hex (parts (ended_lines front.items)) true written

-- and how the program ends
abbrev pub shared_status : Input → Status
shared_status (input.Whole bytes) = lines_status (is_some (parts bytes.items).bad) false
shared_status (input.TooLong front) =
    lines_status (is_some (parts (ended_lines front.items)).bad) true
