-- What a run promises, by what was read, answered and written.
use Rattle.std.proofs.Common.{◌≡◌, ℕ, Bool, true, false, Option, Some, None, Result, Ok, Err, List}
use Rattle.std.proofs.Common.{sym, subst, ◌∙◌, inl, inr}
use Rattle.std.specs.Prelude.{IfSome, is_some}
use Rattle.std.specs.Io.KnownBytes.{Appends, IsAtEnd}
use Rattle.gb_base.specs.declared.status.Status.{Status}
use Rattle.gb_base.specs.declared.status.Status.TheVariants as status
use Rattle.gb_formats.specs.Dump.{manifest_verdict}
use Rattle.gb_formats.specs.Lines.{ended_lines}
use Rattle.gb_formats.specs.Manifest.{Manifest, check_answer}
use Rattle.gb_formats.specs.ManifestRules.{Refused}
use Rattle.gb_formats.specs.Orders.{merge}
use Rattle.gb_formats.specs.Parts.{parts}
use Rattle.gb_formats.specs.Source.{SourceFault, compile_answer}
use Rattle.gb_formats.specs.SourceTexts.{compile_verdict, decompile_verdict}
use Rattle.gb_laws.proofs.identifiers.Single.{counts-add-up}
use Rattle.gb_laws.proofs.together.Together.{headline-holds}
use Rattle.gb_machine.proofs.ScriptRuns.{reports-traced}
use Rattle.gb_machine.proofs.SharedRuns.{merged-traced}
use Rattle.gb_machine.specs.ScriptRuns.{script_events}
use Rattle.gb_machine.specs.Summary.{made_events}
use Rattle.gbus.proofs.Driving.{made_events-valid}
use Rattle.gbus.proofs.Fronts.{nothing_more}
use Rattle.gbus.proofs.Limits.{status_is, text_is}
use Rattle.gbus.proofs.Sharing.{events-valid, shared-verdict, shares-input}
use Rattle.gbus.specs.Answers.{SharesInput, bytes_in, input_status, input_text, shared_status}
use Rattle.gbus.specs.Program.{Audit, ByLine, Check, Compile, Decompile, Drive, IsVerdict, Job}
use Rattle.gbus.specs.Program.{Report, Share, Whole, WholeJob, events_in, lines_status}
use Rattle.gbus.specs.Program.{lines_within, whole_verdict}
use Rattle.gbus.specs.Reading.{IsRead, ReadsAll}
use Rattle.gbus.specs.Runs.{IsAnswerOf, IsAnswered, IsComplete, IsOfRun, IsWithin, KeepsHeadline}
use Rattle.gbus.specs.Runs.{OfInput, TakesFront}
use Rattle.gbus.specs.declared.answer.Answer.{Answer}
use Rattle.gbus.specs.declared.input.Input.{Input}
use Rattle.gbus.specs.declared.input.Input.TheVariants as input

-- what follows for each input follows
of-each : (j : Job) (left : Option (List ℕ)) (Now Then : List ℕ → Type 0)
    → ((text : List ℕ) → Now text → Then text) → OfInput j left Now → OfInput j left Then
of-each (ByLine k) None Now Then f h = tt
of-each (ByLine k) (Some text) Now Then f h = f text h
of-each (Whole k) None Now Then f h = tt
of-each (Whole k) (Some text) Now Then f h = f text h
of-each (Share hex) None Now Then f h = tt
of-each (Share hex) (Some text) Now Then f h = f text h
of-each (Drive seed) left Now Then f h = λ text. f text (h text)

-- ---- what is answered

-- what is answered to an input that was read is the answer of the task
pub whole-answer : (j : WholeJob) (i : Input) (left : Option (List ℕ)) (a : Answer)
    → IfSome left (IsRead i) → bytes_in a.output ≡ input_text j i → a.status ≡ input_status j i
    → IsAnswerOf (Whole j) left a
whole-answer j i None a read text ends = tt
whole-answer j i (Some t) a read text ends =
    (text ∙ sym (text_is j i t read), ends ∙ sym (status_is j i t read))

-- so it is where lines are run by their requesters
pub share-answer : (hex : Bool) (i : Input) (left : Option (List ℕ)) (a : Answer)
    → IfSome left (IsRead i) → SharesInput hex i (bytes_in a.output) → a.status ≡ shared_status i
    → IsAnswerOf (Share hex) left a
share-answer hex i None a read text ends = tt
share-answer hex i (Some t) a read text ends =
    (shares-input hex i t (bytes_in a.output) read text, ends ∙ sym (shared-verdict hex i t read))

-- how a task ends is a verdict
manifest-verdict : (r : Result Manifest Refused) → IsVerdict (manifest_verdict r)
manifest-verdict (Ok m) = tt
manifest-verdict (Err why) = tt

compile-verdict : (r : Result (List ℕ) SourceFault) → IsVerdict (compile_verdict r)
compile-verdict (Ok bytes) = tt
compile-verdict (Err why) = tt

decompile-verdict : (r : Result Manifest Refused) → IsVerdict (decompile_verdict r)
decompile-verdict (Ok m) = tt
decompile-verdict (Err why) = tt

whole-verdict : (j : WholeJob) (text : List ℕ) → IsVerdict (whole_verdict j text)
whole-verdict (Check dump) text = manifest-verdict (check_answer text)
whole-verdict Compile text = compile-verdict (compile_answer text)
whole-verdict Decompile text = decompile-verdict (check_answer text)

pub read-verdict : (j : WholeJob) (i : Input) (s : Status) → s ≡ input_status j i → IsVerdict s
read-verdict j (input.Whole bytes) s e = subst IsVerdict (sym e) (whole-verdict j bytes.items)
read-verdict j (input.TooLong front) s e = subst IsVerdict (sym e) tt

lines-verdict : (bad long : Bool) → IsVerdict (lines_status bad long)
lines-verdict true long = tt
lines-verdict false true = tt
lines-verdict false false = tt

pub share-verdict : (i : Input) (s : Status) → s ≡ shared_status i → IsVerdict s
share-verdict (input.Whole bytes) s e =
    subst IsVerdict (sym e) (lines-verdict (is_some (parts bytes.items).bad) false)
share-verdict (input.TooLong front) s e =
    subst IsVerdict (sym e) (lines-verdict (is_some (parts (ended_lines front.items)).bad) true)

-- success comes only where all was read
not-long : (bad : Bool) → lines_status bad true ≡ status.Success → ⊥
not-long true e = absurd cc
not-long false e = absurd cc

pub share-at-end : (i : Input) (left after : Option (List ℕ)) (before faults : ℕ) (s : Status)
    → ReadsAll left after before faults (Ok i) → s ≡ shared_status i → s ≡ status.Success
    → IsAtEnd after
share-at-end (input.Whole bytes) left after before faults s read is e = read.at_end
share-at-end (input.TooLong front) left after before faults s read is e =
    absurd (not-long (is_some (parts (ended_lines front.items)).bad) (sym is ∙ e))

-- a verdict is none of the other statuses
pub no-usage : (s : Status) → IsVerdict s → s ≡ status.Usage → ⊥
no-usage s v e = subst IsVerdict e v

pub no-read-fault : (s : Status) → IsVerdict s → s ≡ status.ReadFault → ⊥
no-read-fault s v e = subst IsVerdict e v

pub no-write-fault : (s : Status) → IsVerdict s → s ≡ status.WriteFault → ⊥
no-write-fault s v e = subst IsVerdict e v

-- words that ask for something are the program's
pub some-job : (job : Option Job) (j : Job) → Some j ≡ job → job ≡ None → ⊥
some-job job j is none = clash (is ∙ none)
  where
    clash : Some j ≡ None → ⊥
    clash e = absurd cc

-- ---- what is written

-- the whole text was written
pub answered : (job : Option Job) (j : Job) (a : Answer) (left taken after : Option (List ℕ))
    (bytes : List ℕ) → Some j ≡ job → IsAnswerOf j left a → bytes ≡ bytes_in a.output
    → Appends taken after bytes → IsAnswered job left taken after a.status
answered job j a left taken after bytes is answer same wrote =
    subst (λ o. IsAnswered o left taken after a.status) is
    (of-each j left _ _ (λ text h. (
      h.1,
      record {
        written = bytes_in a.output;
        is_written = h.0;
        appended = subst (Appends taken after) same wrote;
      },
    )) answer)

-- a front of it was written
pub within : (job : Option Job) (j : Job) (a : Answer) (left taken after : Option (List ℕ))
    (bytes : List ℕ) → Some j ≡ job → IsAnswerOf j left a → bytes ≡ bytes_in a.output
    → TakesFront taken after bytes → IsWithin job left taken after
within job j a left taken after bytes is answer same wrote =
    subst (λ o. IsWithin o left taken after) is
    (of-each j left _ _ (λ text h. inr (record {
      written = bytes_in a.output;
      is_written = h.0;
      part = subst (TakesFront taken after) same wrote;
    })) answer)

-- where nothing was written so it is
pub unwritten : (job : Option Job) (left taken : Option (List ℕ)) → IsWithin job left taken taken
unwritten None left taken = tt
unwritten (Some (ByLine j)) None taken = tt
unwritten (Some (ByLine j)) (Some text) taken = inl (nothing_more taken)
unwritten (Some (Whole j)) None taken = tt
unwritten (Some (Whole j)) (Some text) taken = inl (nothing_more taken)
unwritten (Some (Share hex)) None taken = tt
unwritten (Some (Share hex)) (Some text) taken = inl (nothing_more taken)
unwritten (Some (Drive seed)) left taken = λ text. inl (nothing_more taken)

-- the status is the verdict where all was written
pub complete : (job : Option Job) (j : Job) (a : Answer) (left : Option (List ℕ))
    (reads reads_after writes writes_after : ℕ) → Some j ≡ job → IsAnswerOf j left a
    → IsComplete job left reads reads_after writes writes_after a.status
complete job j a left reads reads_after writes writes_after is answer =
    subst (λ o. IsComplete o left reads reads_after writes writes_after a.status) is
    (of-each j left _ _ (λ text h r w. inl h.1) answer)

-- what is reported is the text of a trace
pub of_run : (job : Option Job) → IsOfRun job
of_run None = tt
of_run (Some (ByLine (Report hex))) = λ text. reports-traced hex (lines_within text)
of_run (Some (ByLine Audit)) = λ text. tt
of_run (Some (Whole j)) = λ text. tt
of_run (Some (Share hex)) = λ text order.
    merged-traced hex (merge (parts (lines_within text)).asked order)
    (events-valid (lines_within text) order)
of_run (Some (Drive seed)) =
    λ text. (made_events-valid seed, counts-add-up (made_events seed))

-- and the headline holds of it
pub keeps_headline : (job : Option Job) → KeepsHeadline job
keeps_headline None = tt
keeps_headline (Some (ByLine (Report hex))) = λ text.
    let t = lines_within text in headline-holds (script_events t) (reports-traced hex t).valid
keeps_headline (Some (ByLine Audit)) = λ text. tt
keeps_headline (Some (Whole j)) = λ text. tt
keeps_headline (Some (Share hex)) = λ text order.
    headline-holds (events_in (parts (lines_within text)) order)
    (events-valid (lines_within text) order)
keeps_headline (Some (Drive seed)) =
    λ text. headline-holds (made_events seed) (made_events-valid seed)
