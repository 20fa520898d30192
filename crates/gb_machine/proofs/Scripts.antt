-- Scripts and their reports, line by line.
use Rattle.std.proofs.Common.{ℕ, ◌+◌, Bool, true, false, Some, None, Ok, Err, List, [], ◌∷◌, ◌++◌}
use Rattle.std.proofs.Common.{codes, length}
use Rattle.std.specs.Fmt.{digits}
use Rattle.std.specs.Prelude.{⊤}
use Rattle.hex.specs.Hex.{decode_pairs, encode_with}
use Rattle.gb_formats.specs.Grammar.{Said}
use Rattle.gb_formats.specs.I2cDevice.{counted_from}
use Rattle.gb_formats.specs.Script.{judged}
use Rattle.gb_formats.specs.Texts.{ended}
use Rattle.gb_machine.proofs.Opened.{machine_opened}
use Rattle.gb_machine.specs.Events.{step}
use Rattle.gb_machine.specs.Report.{report, report_from}
use Rattle.gb_machine.specs.State.{State, first_state}

-- the text of these lines
abbrev pub text : List (List ℕ) → List ℕ
text [] = []
text (line ∷ ls) = ended line ++ text ls

-- the report of a script of these lines, with the bytes of messages
abbrev pub hex_report : List (List ℕ) → List ℕ
hex_report script = report true (text script)

-- the same without the bytes
abbrev pub plain_report : List (List ℕ) → List ℕ
plain_report script = report false (text script)

-- the state after what a line says
abbrev pub after_said : Said → State → State
after_said (Ok (Some e)) s = (step s e).state
after_said (Ok None) s = s
after_said (Err why) s = s

-- the state after these lines
abbrev pub after : State → List (List ℕ) → State
after s [] = s
after s (line ∷ ls) = after (after_said (judged 0 line) s) ls

-- what is reported of the lines of a script that follow a first part
abbrev pub report_behind : Bool → List (List ℕ) → List (List ℕ) → List ℕ
report_behind hex setup script =
    report_from hex (length setup + 1) (after first_state setup) script

-- with the bytes of messages
abbrev pub hex_behind : List (List ℕ) → List (List ℕ) → List ℕ
hex_behind setup script = report_behind true setup script

-- without them
abbrev pub plain_behind : List (List ℕ) → List (List ℕ) → List ℕ
plain_behind setup script = report_behind false setup script

-- a module of a kind is plugged, enumerated and connected; 15 requests are made
abbrev pub setup : List ℕ → List (List ℕ)
setup plug = plug ∷ codes "boot" ∷ codes "settle 40" ∷ codes "connect 2 1" ∷ codes "settle 10" ∷ []

-- what a proof unfolds to compute a report
unfoldable pub report_opened : ⊤
unfolding machine_opened report_from digits decode_pairs encode_with counted_from
report_opened = tt
