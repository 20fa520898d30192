-- The texts of the report, one line for each entry.
use Rattle.std.specs.Prelude.{◌≡◌, ℕ, Bool, if◌then◌else◌, Option, Some, None, List, [], ◌∷◌, ◌++◌}
use Rattle.std.specs.Prelude.{◌==◌, codes}
use Rattle.std.specs.Fmt.{decimal}
use Rattle.gb_base.specs.declared.bridge.Reading.{Reading}
use Rattle.gb_base.specs.declared.bridge.Reading.TheVariants as reading
use Rattle.gb_base.specs.declared.end.End.{End}
use Rattle.gb_base.specs.declared.end.End.TheVariants as end
use Rattle.gb_base.specs.declared.entry.ConnState.{ConnState}
use Rattle.gb_base.specs.declared.entry.ConnState.TheVariants as state
use Rattle.gb_base.specs.declared.entry.Entry.{Entry}
use Rattle.gb_base.specs.declared.entry.Entry.TheVariants as entry
use Rattle.gb_base.specs.declared.entry.IntfStage.{IntfStage}
use Rattle.gb_base.specs.declared.entry.IntfStage.TheVariants as stage
use Rattle.gb_base.specs.declared.reasons.LineReason.{LineReason}
use Rattle.gb_base.specs.declared.reasons.LineReason.TheVariants as bad
use Rattle.gb_base.specs.declared.reasons.RawFault.{RawFault}
use Rattle.gb_base.specs.declared.reasons.RawFault.TheVariants as raw
use Rattle.gb_base.specs.declared.reasons.WireFault.{WireFault}
use Rattle.gb_base.specs.declared.reasons.WireFault.TheVariants as wire
use Rattle.gb_base.specs.declared.outcome.Outcome.{Outcome}
use Rattle.gb_base.specs.declared.outcome.Outcome.TheVariants as outcome
use Rattle.gb_formats.specs.Bytes.{byte_text, hex_text, joined}
use Rattle.gb_formats.specs.Reasons.{reason_text, refusal_text}

-- `svc`, `ap A` or `I C`
abbrev pub end_text : End → List ℕ
end_text (end.Ap a) = joined (codes "ap " ∷ decimal a ∷ [])
end_text end.Svc = codes "svc"
end_text (end.Module i c) = joined (decimal i ∷ codes " " ∷ decimal c ∷ [])

-- `FROM > TO`
abbrev pub way_text : End → End → List ℕ
way_text from to = joined (end_text from ∷ codes " > " ∷ end_text to ∷ [])

-- `#N`, or `raw` where the item has no number
abbrev pub item_text : Option ℕ → List ℕ
item_text (Some n) = joined (codes "#" ∷ decimal n ∷ [])
item_text None = codes "raw"

-- the size of a message, and its bytes where hex is wanted
abbrev pub size_text : Bool → ℕ → List ℕ → List ℕ
size_text hex size bytes =
    if hex then joined (decimal size ∷ codes " " ∷ hex_text bytes ∷ []) else decimal size

-- ` lost`, where a request is lost, since its connection isn't wired
abbrev pub lost_text : Bool → List ℕ
lost_text lost = if lost then codes " lost" else []

-- a payload counts only where the result is 0
abbrev pub answer_text : ℕ → List ℕ → List ℕ
answer_text result payload = if result == 0 then hex_text payload else codes "-"

-- how a request ended
abbrev pub outcome_text : Outcome → List ℕ
outcome_text (outcome.Answered result payload) =
    joined (codes "answered " ∷ byte_text result ∷ codes " " ∷ answer_text result payload ∷ [])
outcome_text outcome.Cancelled = codes "cancelled"
outcome_text outcome.Timeout = codes "timeout"
outcome_text outcome.Disconnected = codes "disconnected"
outcome_text outcome.Sent = codes "sent"

-- what the answer of a bridge line says
abbrev pub reading_text : Reading → List ℕ
reading_text reading.Nothing = []
reading_text (reading.Number n) = joined (codes " = " ∷ decimal n ∷ [])
reading_text reading.Out = codes " = out"
reading_text reading.In = codes " = in"
reading_text reading.Bad = codes " = bad"

-- `#N ask`, `#N reply`, or `raw` where the item has no number
abbrev pub dropped_text : Option ℕ → Bool → List ℕ
dropped_text None reply = codes "raw"
dropped_text (Some n) reply =
    joined (codes "#" ∷ decimal n ∷ (if reply then codes " reply" else codes " ask") ∷ [])

-- why bytes are no message
abbrev pub wire_fault_text : WireFault → List ℕ
wire_fault_text (wire.Short need) = joined (codes "short " ∷ decimal need ∷ [])
wire_fault_text (wire.SizeBelowEight size) = joined (codes "size " ∷ decimal size ∷ [])
wire_fault_text (wire.RequestResult result) = joined (codes "result " ∷ byte_text result ∷ [])

-- why injected bytes are no message
abbrev pub raw_fault_text : RawFault → List ℕ
raw_fault_text (raw.Wire fault) = wire_fault_text fault
raw_fault_text (raw.Extra count) = joined (codes "extra " ∷ decimal count ∷ [])

-- what became of an interface
abbrev pub stage_text : IntfStage → List ℕ
stage_text stage.Enumerating = codes "enumerating"
stage_text stage.Enumerated = codes "enumerated"
stage_text stage.Failed = codes "failed"
stage_text stage.Removed = codes "removed"

-- what became of a connection
abbrev pub state_text : ConnState → List ℕ
state_text state.Opening = codes "opening"
state_text state.Open = codes "open"
state_text state.Draining = codes "draining"
state_text state.Closing = codes "closing"
state_text state.Closed = codes "closed"
state_text state.Failed = codes "failed"

-- how a download ended: how many bytes are kept, or that it failed
abbrev pub download_text : Option ℕ → List ℕ
download_text (Some size) = joined (codes "done " ∷ decimal size ∷ [])
download_text None = codes "failed"

-- The line of an entry, without its end. `line` is the number of the script line.
abbrev pub entry_line : ℕ → Bool → Entry → List ℕ
entry_line line hex entry.Done = joined (codes "line " ∷ decimal line ∷ codes " ok" ∷ [])
entry_line line hex (entry.Refused why) =
    joined (codes "line " ∷ decimal line ∷ codes " refused " ∷ refusal_text why ∷ [])
entry_line line hex (entry.Asked n from to kind size bytes lost) =
    joined (codes "ask #" ∷ decimal n ∷ codes " " ∷ way_text from to ∷ codes " type "
    ∷ byte_text kind ∷ codes " size " ∷ size_text hex size bytes ∷ lost_text lost ∷ [])
entry_line line hex (entry.Replied item from to result size bytes) =
    joined (codes "reply " ∷ item_text item ∷ codes " " ∷ way_text from to ∷ codes " result "
    ∷ byte_text result ∷ codes " size " ∷ size_text hex size bytes ∷ [])
entry_line line hex (entry.Held item) = joined (codes "held " ∷ item_text item ∷ [])
entry_line line hex (entry.Ended n how read) =
    joined (codes "end #" ∷ decimal n ∷ codes " " ∷ outcome_text how ∷ reading_text read ∷ [])
entry_line line hex (entry.Late n) = joined (codes "late #" ∷ decimal n ∷ [])
entry_line line hex (entry.LateLabel label) = joined (codes "late label " ∷ decimal label ∷ [])
entry_line line hex (entry.UnknownLabel label) =
    joined (codes "unknown label " ∷ decimal label ∷ [])
entry_line line hex (entry.Dropped item reply) =
    joined (codes "drop " ∷ dropped_text item reply ∷ [])
entry_line line hex (entry.Raw from to size bytes) =
    joined (codes "raw " ∷ way_text from to ∷ codes " size " ∷ size_text hex size bytes ∷ [])
entry_line line hex (entry.BadRaw fault) = joined (codes "bad raw " ∷ raw_fault_text fault ∷ [])
entry_line line hex (entry.Ignored kind) = joined (codes "ignored type " ∷ byte_text kind ∷ [])
entry_line line hex (entry.Interface i stage) =
    joined (codes "interface " ∷ decimal i ∷ codes " " ∷ stage_text stage ∷ [])
entry_line line hex (entry.Manifest i at reason) =
    joined (codes "manifest " ∷ decimal i ∷ codes " refused " ∷ decimal at ∷ codes " "
    ∷ reason_text reason ∷ [])
entry_line line hex (entry.Connection n ap i c state) =
    joined (codes "connection " ∷ decimal n ∷ codes " ap " ∷ decimal ap ∷ codes " " ∷ decimal i
    ∷ codes " " ∷ decimal c ∷ codes " " ∷ state_text state ∷ [])
entry_line line hex (entry.Irq i c irq) =
    joined (codes "irq " ∷ decimal i ∷ codes " " ∷ decimal c ∷ codes " " ∷ decimal irq ∷ [])
entry_line line hex (entry.Received i c bytes) =
    joined (codes "uart " ∷ decimal i ∷ codes " " ∷ decimal c ∷ codes " received "
    ∷ hex_text bytes ∷ [])
entry_line line hex (entry.Serial i c control) =
    joined (codes "serial " ∷ decimal i ∷ codes " " ∷ decimal c ∷ codes " " ∷ decimal control ∷ [])
entry_line line hex (entry.Credits i c total) =
    joined (codes "credits " ∷ decimal i ∷ codes " " ∷ decimal c ∷ codes " " ∷ decimal total ∷ [])
entry_line line hex (entry.Download i c tag size) =
    joined (codes "download " ∷ decimal i ∷ codes " " ∷ decimal c ∷ codes " " ∷ tag ∷ codes " "
    ∷ download_text size ∷ [])
entry_line line hex (entry.Settled count) = joined (codes "settled " ∷ decimal count ∷ [])
entry_line line hex (entry.Shown text) = text

-- why a line is bad
abbrev pub bad_text : LineReason → List ℕ
bad_text bad.Long = codes "too long"
bad_text (bad.BadByte at) = joined (codes "bad byte " ∷ decimal at ∷ [])
bad_text (bad.BadWord at) = joined (codes "bad word " ∷ decimal at ∷ [])
bad_text (bad.MissingWord at) = joined (codes "missing word " ∷ decimal at ∷ [])
bad_text (bad.ExtraWord at) = joined (codes "extra word " ∷ decimal at ∷ [])

-- The line that names a bad line, without its end.
abbrev pub bad_line : ℕ → LineReason → List ℕ
bad_line line why = joined (codes "line " ∷ decimal line ∷ codes ": " ∷ bad_text why ∷ [])

-- a line with its end
abbrev pub ended : List ℕ → List ℕ
ended line = line ++ 10 ∷ []

-- what the report has for an entry
abbrev pub entry_text : ℕ → Bool → Entry → List ℕ
entry_text line hex e = ended (entry_line line hex e)

-- A text that an entry has as it is: a line of `show`, or the tag of an image.
abbrev pub IsWordOf : List ℕ → Entry → Type 0
IsWordOf text (entry.Shown line) = line ≡ text
IsWordOf text (entry.Download i c tag size) = tag ≡ text
IsWordOf text _ = ⊥

-- what the report has for several entries
abbrev pub entries_text : ℕ → Bool → List Entry → List ℕ
entries_text line hex [] = []
entries_text line hex (e ∷ es) = entry_text line hex e ++ entries_text line hex es

-- what the report has for a bad line
abbrev pub refusal_line_text : ℕ → LineReason → List ℕ
refusal_line_text line why = ended (bad_line line why)
