-- What a run of the program promises.
use Rattle.std.specs.Prelude.{◌≡◌, ◌<◌, ◌≤◌, ◌+◌, ℕ, true, false, ◌⊎◌, Option, Some, None, Result}
use Rattle.std.specs.Prelude.{Ok, Err, ⊤, List, [], ◌∷◌, ◌++◌, length, IfSome}
use Rattle.std.specs.Io.KnownBytes.{Appends, Consumes, IsAtEnd}
use Rattle.gb_base.specs.Faults.{Rose}
use Rattle.gb_base.specs.declared.status.Status.{Status}
use Rattle.gb_base.specs.declared.status.Status.TheVariants as status
use Rattle.gb_formats.specs.Lines.{ended_lines, lines, longest_input}
use Rattle.gb_formats.specs.Orders.{Place, merge}
use Rattle.gb_formats.specs.Parts.{parts}
use Rattle.gb_machine.specs.Events.{trace}
use Rattle.gb_machine.specs.Headline.{Headline}
use Rattle.gb_machine.specs.Runs.{AreValid}
use Rattle.gb_machine.specs.ScriptRuns.{IsTraced, script_events}
use Rattle.gb_machine.specs.Shared.{IsMergedTrace}
use Rattle.gb_machine.specs.Summary.{IsSum, counts, made_events}
use Rattle.gbus.specs.Answers.{bytes_in}
use Rattle.gbus.specs.Program.{Audit, ByLine, Drive, Job, LineJob, Report, Share, Whole, Writes}
use Rattle.gbus.specs.Program.{events_in, has_bad, is_bad, last_text, lines_output, lines_text}
use Rattle.gbus.specs.Program.{lines_within, verdict}
use Rattle.gbus.specs.declared.answer.Answer.{Answer}
use Rattle.gbus.specs.declared.input.InputStop.{InputStop}
use Rattle.gbus.specs.declared.input.InputStop.TheVariants as stop

-- ---- how far a source is read

-- Of a source at most 4,096 bytes were read past as many as an input may have.
pub record StopsAtLimit (left left_after : Option (List ℕ)) : Type 0 where
  pub bytes : List ℕ
  pub read : Consumes left left_after bytes
  pub few : length bytes ≤ longest_input + 4096

-- ---- how far a text is written

-- a front of these bytes was taken
pub record TakesFront (taken after : Option (List ℕ)) (bytes : List ℕ) : Type 0 where
  pub front : List ℕ
  pub rest : List ℕ
  pub whole : bytes ≡ front ++ rest
  pub taken_is : Appends taken after front

-- ---- what is promised where something is done of each line, by how it ends

-- In all of these `left` and `left_after` are what the source has left before and after, `taken`
-- and `after` what the sink took.

-- The bytes that were read are those of the earlier lines and of this one, and at most 4,096 more.
pub record ReadsTo (left left_after : Option (List ℕ)) (earlier : List (List ℕ)) (line : List ℕ)
    : Type 0 where
  pub done : List ℕ
  pub behind : List ℕ
  pub read : Consumes left left_after (done ++ behind)
  pub lines_are : lines done ≡ earlier ++ line ∷ []
  pub few : length behind ≤ 4096

-- The source failed: the sink took what is written of the lines that ended within the bytes read,
-- and none of these lines is bad.
pub record IsCutOff (j : LineJob) (left left_after taken after : Option (List ℕ)) : Type 0 where
  pub bytes : List ℕ
  pub read : Consumes left left_after bytes
  pub within : length bytes ≤ longest_input
  pub wrote : Appends taken after (lines_text j (lines (ended_lines bytes)))
  pub good : has_bad j (lines (ended_lines bytes)) ≡ false

-- The sink failed: it took what is written of the earlier lines, and not all of that of this line.
-- At most 4,096 bytes behind it were read.
pub record StopsShort (j : LineJob) (left left_after taken after : Option (List ℕ)) : Type 0 where
  pub earlier : List (List ℕ)
  pub line : List ℕ
  pub reads : ReadsTo left left_after earlier line
  pub front : List ℕ
  pub rest : List ℕ
  pub whole : lines_text j (earlier ++ line ∷ []) ≡ lines_text j earlier ++ front ++ rest
  pub short : 0 < length rest
  pub wrote : Appends taken after (lines_text j earlier ++ front)

-- The sink failed behind all lines: it took what is written of each of them, and not all of what
-- stands behind them. The whole input was read.
pub record StopsAtLast (j : LineJob) (left left_after taken after : Option (List ℕ)) : Type 0 where
  pub all : List (List ℕ)
  pub lines_are : IfSome left (λ text. lines text ≡ all)
  pub ended : IsAtEnd left_after
  pub front : List ℕ
  pub rest : List ℕ
  pub whole : last_text j all ≡ front ++ rest
  pub short : 0 < length rest
  pub wrote : Appends taken after (lines_text j all ++ front)

-- By cases on what is done of each line: nothing stands behind the lines of a script.
abbrev pub StopsAs : LineJob → (left left_after taken after : Option (List ℕ)) → Type 0
StopsAs (Report hex) left left_after taken after =
    StopsShort (Report hex) left left_after taken after
StopsAs Audit left left_after taken after =
    StopsShort Audit left left_after taken after ⊎ StopsAtLast Audit left left_after taken after

-- A line is bad, and no earlier one is. At most 4,096 bytes behind it were read.
pub record IsRefusedAt (j : LineJob) (left left_after : Option (List ℕ)) : Type 0 where
  pub earlier : List (List ℕ)
  pub line : List ℕ
  pub reads : ReadsTo left left_after earlier line
  pub good : has_bad j earlier ≡ false
  pub bad : is_bad j line ≡ true

-- the status is the verdict on the input, and the output was written
abbrev pub IsReported : LineJob → (left taken after : Option (List ℕ)) → Status → Type 0
IsReported j left taken after s = IfSome left (λ text.
    (s ≡ verdict (ByLine j) text) × Appends taken after (lines_output j text))

-- By cases on the status. After want of memory nothing is said.
abbrev pub LinesEnd : LineJob → (left left_after taken after : Option (List ℕ)) → Status → Type 0
LinesEnd j left left_after taken after status.Success =
    IsReported j left taken after status.Success × IsAtEnd left_after
LinesEnd j left left_after taken after status.Refused =
    IsReported j left taken after status.Refused × IsRefusedAt j left left_after
LinesEnd j left left_after taken after status.TooLong =
    IsReported j left taken after status.TooLong
LinesEnd j left left_after taken after status.ReadFault =
    IsCutOff j left left_after taken after
LinesEnd j left left_after taken after status.WriteFault =
    StopsAs j left left_after taken after
LinesEnd j left left_after taken after status.NoMemory = ⊤
LinesEnd j left left_after taken after status.Usage = ⊥

-- what was written is a front of the output
abbrev pub IsFrontOfOutput : LineJob → (left taken after : Option (List ℕ)) → Type 0
IsFrontOfOutput j left taken after =
    IfSome left (λ text. TakesFront taken after (lines_output j text))

-- A fault comes only where the count of the source or of the sink rose. The counts are those before
-- and after.
abbrev pub FaultRose : (reads reads_after writes writes_after : ℕ) → Status → Type 0
FaultRose reads reads_after writes writes_after status.ReadFault = Rose reads reads_after
FaultRose reads reads_after writes writes_after status.WriteFault = Rose writes writes_after
FaultRose reads reads_after writes writes_after status.Success = ⊤
FaultRose reads reads_after writes writes_after status.Refused = ⊤
FaultRose reads reads_after writes writes_after status.TooLong = ⊤
FaultRose reads reads_after writes writes_after status.NoMemory = ⊤
FaultRose reads reads_after writes writes_after status.Usage = ⊤

-- ---- what is promised of each run

-- So it is of what the source had left, where it tells that. For a job that reads nothing so it is
-- whatever the input would be.
abbrev pub OfInput : Job → Option (List ℕ) → (List ℕ → Type 0) → Type 0
OfInput (ByLine j) left Holds = IfSome left Holds
OfInput (Whole j) left Holds = IfSome left Holds
OfInput (Share hex) left Holds = IfSome left Holds
OfInput (Drive seed) left Holds = (text : List ℕ) → Holds text

-- So it is where something is done of each line.
abbrev pub IfByLine : Option Job → (LineJob → Type 0) → Type 0
IfByLine None Holds = ⊤
IfByLine (Some (ByLine j)) Holds = Holds j
IfByLine (Some (Whole j)) Holds = ⊤
IfByLine (Some (Share hex)) Holds = ⊤
IfByLine (Some (Drive seed)) Holds = ⊤

-- The sink took what is written for an input. `taken` and `after` are what it had taken
-- before and after.
pub record IsOutput (j : Job) (text : List ℕ) (taken after : Option (List ℕ)) : Type 0 where
  pub written : List ℕ
  pub is_written : Writes j text written
  pub appended : Appends taken after written

-- The sink took a front of what is written for an input.
pub record IsPart (j : Job) (text : List ℕ) (taken after : Option (List ℕ)) : Type 0 where
  pub written : List ℕ
  pub is_written : Writes j text written
  pub part : TakesFront taken after written

-- The status is the verdict on the bytes that the source had left, and the sink took the output.
-- `job` is what the words ask for, `left` what the source had left where it tells it, `taken` and
-- `after` what the sink had taken before and after.
abbrev pub IsAnswered : Option Job → Option (List ℕ) → Option (List ℕ) → Option (List ℕ)
    → Status → Type 0
IsAnswered job left taken after s = IfSome job (λ j. OfInput j left (λ text.
    (s ≡ verdict j text) × IsOutput j text taken after))

-- The sink took nothing, or a front of the output.
abbrev pub IsWithin : Option Job → Option (List ℕ) → Option (List ℕ) → Option (List ℕ) → Type 0
IsWithin job left taken after =
    IfSome job (λ j. OfInput j left (λ text.
    Appends taken after [] ⊎ IsPart j text taken after))

-- Where no count of faults rose, the status is the verdict, or memory was wanting. The counts are
-- those of the source and the sink before and after.
abbrev pub IsComplete : Option Job → Option (List ℕ) → (reads reads_after writes writes_after : ℕ)
    → Status → Type 0
IsComplete job left reads reads_after writes writes_after s =
    IfSome job (λ j. OfInput j left (λ text.
    ¬ Rose reads reads_after → ¬ Rose writes writes_after
    → s ≡ verdict j text ⊎ s ≡ status.NoMemory))

-- The status is the verdict on this input, or memory was wanting.
abbrev pub EndsWell : Option Job → List ℕ → Status → Type 0
EndsWell job text s = IfSome job (λ j. s ≡ verdict j text ⊎ s ≡ status.NoMemory)

-- What is written of a script is the text of the trace of its events, which are valid. Where its
-- lines are run by their requesters, so is the report of the lines in every order. The summary of a
-- made script is that of the trace of its events: these are valid too, and each request is counted
-- once.
abbrev pub TracesBy : Job → List ℕ → Type 0
TracesBy (ByLine (Report hex)) text = IsTraced hex (lines_within text)
TracesBy (ByLine Audit) text = ⊤
TracesBy (Whole j) text = ⊤
TracesBy (Share hex) text =
    (order : List Place) → IsMergedTrace hex (merge (parts (lines_within text)).asked order)
TracesBy (Drive seed) text =
    AreValid (made_events seed) × IsSum (counts (trace (made_events seed)))

abbrev pub IsOfRun : Option Job → Type 0
IsOfRun job = IfSome job (λ j. (text : List ℕ) → TracesBy j text)

-- The promises of the headline hold of the events that are reported, in whichever order they are
-- run, and of those that are summarised.
abbrev pub HeadlineBy : Job → List ℕ → Type 0
HeadlineBy (ByLine (Report hex)) text = Headline (script_events (lines_within text))
HeadlineBy (ByLine Audit) text = ⊤
HeadlineBy (Whole j) text = ⊤
HeadlineBy (Share hex) text =
    (order : List Place) → Headline (events_in (parts (lines_within text)) order)
HeadlineBy (Drive seed) text = Headline (made_events seed)

-- So it is of every input.
abbrev pub KeepsHeadline : Option Job → Type 0
KeepsHeadline job = IfSome job (λ j. (text : List ℕ) → HeadlineBy j text)

-- ---- what a job answers, before it is written

-- The text and the status are those of the job.
abbrev pub IsAnswerOf : Job → Option (List ℕ) → Answer → Type 0
IsAnswerOf j left a =
    OfInput j left (λ text. Writes j text (bytes_in a.output) × (a.status ≡ verdict j text))

-- By cases on the answer: a source that failed counts it. `faults` are those before and after.
abbrev pub FailsAs : ℕ → ℕ → Result Answer InputStop → Type 0
FailsAs before faults (Ok a) = ⊤
FailsAs before faults (Err stop.Failed) = Rose before faults
FailsAs before faults (Err (stop.Memory refused)) = ⊤
