-- How far the lines of an input have come.
use Rattle.std.specs.Prelude.{◌≡◌, ◌<◌, ℕ, Option, Some, None, Result, Ok, Err}
use Rattle.std.specs.Prelude.{List, [], ◌∷◌, ◌++◌, length, IfSome}
use Rattle.std.specs.Io.KnownBytes.{Appends}
use Rattle.gb_base.specs.declared.errors.OutOfMemory.{OutOfMemory}
use Rattle.gb_base.specs.declared.sink.WriteStop.{WriteStop}
use Rattle.gb_base.specs.declared.sink.WriteStop.TheVariants as stop
use Rattle.gb_base.specs.declared.status.Status.{Status}
use Rattle.gb_base.specs.declared.status.Status.TheVariants as status
use Rattle.gb_script.specs.Readers.{Reads, number_of}
use Rattle.gbus.specs.Endings.{status_of}
use Rattle.gbus.specs.Program.{LineJob, lines_output, lines_text}
use Rattle.gbus.specs.Runs.{IsFrontOfOutput, LinesEnd, ReadsTo, StopsAs}
use Rattle.gbus.specs.Sessions.{Begins, IsBehind, ending_of, lines_taken}
use Rattle.gbus.specs.declared.line_worker.LineWorker.{LineWorker}
use Rattle.gbus.specs.declared.session.Session.{Session}

-- This text is what is written of the earlier lines and a front of what is written of this line,
-- but not all. At most 4,096 bytes behind it were read.
pub record EndsWithin (j : LineJob) (left left_after : Option (List ℕ)) (text : List ℕ)
    : Type 0 where
  pub earlier : List (List ℕ)
  pub line : List ℕ
  pub reads : ReadsTo left left_after earlier line
  pub front : List ℕ
  pub rest : List ℕ
  pub whole : lines_text j (earlier ++ line ∷ []) ≡ lines_text j earlier ++ front ++ rest
  pub short : 0 < length rest
  pub text_is : text ≡ lines_text j earlier ++ front

-- Of this text a front was written, and the rest is held. Wherever a write of the rest stops, that
-- is within what is written of a line behind which at most 4,096 bytes were read.
pub record Gathers (j : LineJob) (left left_after taken after : Option (List ℕ))
    (held whole : List ℕ) : Type 0 where
  pub written : List ℕ
  pub wrote : Appends taken after written
  pub whole_is : written ++ held ≡ whole
  pub short : (front : List ℕ) → (rest : List ℕ) → held ≡ front ++ rest → 0 < length rest
      → EndsWithin j left left_after (written ++ front)

-- These lines were read and taken, and what is written of them was written or gathered.
pub record Stage (x : LineWorker) (j : LineJob) (left left_after taken after : Option (List ℕ))
    : Type 0 where
  pub given : List (List ℕ)
  pub behind : IsBehind x.session j given
  pub gathers : Gathers j left left_after taken after x.gathered (lines_text j given)
  pub reads : Reads x.reader left left_after given
  pub number : number_of x.reader ≡ lines_taken x.session

-- a front of the output
abbrev pub IsOfOutput : LineJob → Option (List ℕ) → List ℕ → Type 0
IsOfOutput j left front = IfSome left (λ text. Begins front (lines_output j text))

-- The lines end so, once what is gathered is written, and what stands behind it.
pub record IsAtLast (x : LineWorker) (j : LineJob) (left left_after taken after : Option (List ℕ))
    (s : Status) : Type 0 where
  pub whole : List ℕ
  pub gathers : Gathers j left left_after taken after x.gathered whole
  pub within : IsOfOutput j left (whole ++ ending_of s x.session)
  pub ends : (later : Option (List ℕ)) → Appends taken later (whole ++ ending_of s x.session)
      → LinesEnd j left left_after taken later s
  pub stops : (later : Option (List ℕ)) → (front : List ℕ) → (rest : List ℕ)
      → ending_of s x.session ≡ front ++ rest → 0 < length rest
      → Appends taken later (whole ++ front) → StopsAs j left left_after taken later

-- All that was gathered is written: the lines end so, once what stands behind it is written too.
pub record IsLeft (x : Session) (j : LineJob) (left left_after taken after : Option (List ℕ))
    (s : Status) : Type 0 where
  pub whole : List ℕ
  pub wrote : Appends taken after whole
  pub within : IsOfOutput j left (whole ++ ending_of s x)
  pub ends : (later : Option (List ℕ)) → Appends taken later (whole ++ ending_of s x)
      → LinesEnd j left left_after taken later s
  pub stops : (later : Option (List ℕ)) → (front : List ℕ) → (rest : List ℕ)
      → ending_of s x ≡ front ++ rest → 0 < length rest
      → Appends taken later (whole ++ front) → StopsAs j left left_after taken later

-- By cases on the answer: it goes on, or is to end.
abbrev pub TurnsOut : LineWorker → LineJob → (left left_after taken after : Option (List ℕ))
    → Option (Result Status OutOfMemory) → Type 0
TurnsOut x j left left_after taken after None = Stage x j left left_after taken after
TurnsOut x j left left_after taken after (Some e) =
    IsAtLast x j left left_after taken after (status_of e)

-- By cases on the answer: it goes on, or ended.
abbrev pub WritesOn : {A : Type 0} → LineWorker → LineJob
    → (left left_after taken after : Option (List ℕ)) → Result A (Result Status OutOfMemory)
    → Type 0
WritesOn x j left left_after taken after (Ok y) = Stage x j left left_after taken after
WritesOn x j left left_after taken after (Err e) =
    LinesEnd j left left_after taken after (status_of e) × IsFrontOfOutput j left taken after

-- how it ends where a write stopped
abbrev pub fault_status : WriteStop → Status
fault_status stop.Failed = status.WriteFault
fault_status (stop.Memory refused) = status.NoMemory
