-- The output of an audit.
use Rattle.std.specs.Prelude.{ℕ, ◌==◌, if◌then◌else◌, Option, Some, None, List, [], ◌∷◌, ◌++◌}
use Rattle.std.specs.Prelude.{map, codes}
use Rattle.std.specs.Fmt.{decimal}
use Rattle.std.specs.List.{concat}
use Rattle.gb_base.specs.declared.audit.Finding.{Finding}
use Rattle.gb_base.specs.declared.audit.Finding.TheVariants as finding
use Rattle.gb_base.specs.declared.audit.Verdict.{Verdict}
use Rattle.gb_base.specs.declared.reasons.CaptureFault.{CaptureFault}
use Rattle.gb_base.specs.declared.reasons.CaptureFault.TheVariants as capture
use Rattle.gb_base.specs.declared.reasons.LineReason.TheVariants as bad
use Rattle.gb_base.specs.declared.reasons.RawFault.TheVariants as raw
use Rattle.gb_formats.specs.Audit.{Found, findings, verdict}
use Rattle.gb_formats.specs.Bytes.{joined}
use Rattle.gb_formats.specs.Captures.{first_bad, heard}
use Rattle.gb_formats.specs.Lines.{lines}
use Rattle.gb_formats.specs.Texts.{bad_text, ended, raw_fault_text, wire_fault_text}

-- what is found, with the line of the request that the message speaks of
abbrev pub finding_text : Finding → List ℕ
finding_text finding.Orphan = codes " orphan"
finding_text (finding.Double asked) = joined (codes " double " ∷ decimal asked ∷ [])
finding_text (finding.OtherType asked) = joined (codes " type " ∷ decimal asked ∷ [])
finding_text (finding.Reused asked) = joined (codes " reused " ∷ decimal asked ∷ [])

-- the line of a finding
abbrev pub found_text : Found → List ℕ
found_text (line, found) =
    ended (joined (codes "line " ∷ decimal line ∷ finding_text found ∷ []))

-- the lines of findings
abbrev pub founds_text : List Found → List ℕ
founds_text fs = concat (map found_text fs)

-- why a line is none of a capture
abbrev pub capture_fault_text : CaptureFault → List ℕ
capture_fault_text capture.TooLong = bad_text bad.Long
capture_fault_text (capture.BadByte at) = bad_text (bad.BadByte at)
capture_fault_text (capture.BadWord at) = bad_text (bad.BadWord at)
capture_fault_text (capture.MissingWord at) = bad_text (bad.MissingWord at)
capture_fault_text (capture.ExtraWord at) = bad_text (bad.ExtraWord at)
capture_fault_text (capture.Wire fault) = wire_fault_text fault
capture_fault_text (capture.Extra count) = raw_fault_text (raw.Extra count)

-- the line that names a bad line
abbrev pub bad_capture_text : ℕ → CaptureFault → List ℕ
bad_capture_text line why =
    ended (joined (codes "line " ∷ decimal line ∷ codes ": " ∷ capture_fault_text why ∷ []))

-- the line that names the first bad line, if there is one
abbrev pub first_bad_text : Option (ℕ × CaptureFault) → List ℕ
first_bad_text None = []
first_bad_text (Some (line, why)) = bad_capture_text line why

-- `clean`, or how many messages break the pairing
abbrev pub faults_text : ℕ → List ℕ
faults_text count =
    if count == 0 then codes "clean" else joined (codes "faults " ∷ decimal count ∷ [])

-- the last line
abbrev pub verdict_text : Verdict → List ℕ
verdict_text v =
    ended (joined (faults_text v.faults ∷ codes " pairs " ∷ decimal v.pairs ∷ codes " open "
    ∷ decimal v.unpaired ∷ []))

-- What is written of the lines of a capture: its findings in order, and behind them the first bad
-- line, if there is one.
abbrev pub audited : List (List ℕ) → List ℕ
audited ls = founds_text (findings (heard ls)) ++ first_bad_text (first_bad ls)

-- what is written behind them, where no line is bad
abbrev pub closing_text : List (List ℕ) → List ℕ
closing_text ls = verdict_text (verdict (heard ls))

-- a text that is written only where no line is bad
abbrev pub unless_bad : Option (ℕ × CaptureFault) → List ℕ → List ℕ
unless_bad None text = text
unless_bad (Some first) text = []

-- What is written of a capture that is read to its end.
abbrev pub audit_text : List ℕ → List ℕ
audit_text text =
    let ls = lines text in audited ls ++ unless_bad (first_bad ls) (closing_text ls)
