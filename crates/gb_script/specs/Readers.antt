-- What a reader of lines has handed out, and how it goes on.
use Rattle.std.specs.Prelude.{◌≡◌, ◌<◌, ◌≤◌, ◌+◌, ℕ, Bool, true, false, Option, Some, None, Result}
use Rattle.std.specs.Prelude.{Ok, Err, List, [], ◌∷◌, ◌++◌, length, take}
use Rattle.std.specs.Io.KnownBytes.{Consumes, IsAtEnd}
use Rattle.gb_formats.specs.Lines.{ended_lines, lines, longest_input}
use Rattle.gb_script.specs.LineBuffers.{is_long_text}
use Rattle.gb_script.specs.Pieces.{has_lf}
use Rattle.gb_script.specs.Reading.{Shows, to_come}
use Rattle.gb_script.specs.declared.held.LineStop.{LineStop}
use Rattle.gb_script.specs.declared.held.LineStop.TheVariants as stop
use Rattle.gb_script.specs.declared.line_reader.LineReader.{LineReader}
use Rattle.gb_script.specs.declared.line_reader.Progress.{Progress}
use Rattle.gb_script.specs.declared.line_reader.Progress.TheVariants as progress

-- the lines that were handed out
abbrev pub number_of : LineReader → ℕ
number_of x = x.number

-- lines are counted, and there are at most as many as bytes
abbrev pub CountsOn : LineReader → LineReader → Bool → Type 0
CountsOn old new true = (number_of new ≡ number_of old + 1) × (number_of new ≤ longest_input)
CountsOn old new false = number_of new ≡ number_of old

-- the line that was handed out last is this one
abbrev pub Lends : LineReader → List ℕ → Type 0
Lends x line = Shows x.held line

-- what is handed out of a line: its first 8,192 bytes, and whether there are more
abbrev pub IsLineOf : (bytes : List ℕ) → (long : Bool) → List ℕ → Type 0
IsLineOf bytes long line = (bytes ≡ take 8192 line) × (long ≡ is_long_text line)

-- the bytes that were read and are behind the last line that was handed out
abbrev pub behind : LineReader → List ℕ
behind x = x.held.piece.left

-- a further line that has ended is held
abbrev pub holds_line : LineReader → Bool
holds_line x = has_lf (behind x)

-- why no line is handed out any more
abbrev pub stop_of : Progress → Option LineStop
stop_of progress.Going = None
stop_of progress.Ended = None
stop_of (progress.Stopped s) = Some s

abbrev pub stopped : LineReader → Option LineStop
stopped x = stop_of x.progress

-- Where lines are still to come, all so far ended with LF.
abbrev pub StandsAt : Progress → List ℕ → Option (List ℕ) → Type 0
StandsAt progress.Going done rest = ended_lines done ≡ done
StandsAt progress.Ended done rest = IsAtEnd rest
StandsAt (progress.Stopped s) done rest = ⊥

-- Of this text the reader has handed out these lines: they are the lines of its first bytes, and
-- behind these it holds at most 4,096 bytes. `left` is what the source has left.
pub record Reads (x : LineReader) (text left : Option (List ℕ)) (given : List (List ℕ))
    : Type 0 where
  pub done : List ℕ
  pub taken : Consumes text (to_come x.held left) done
  pub given_are : given ≡ lines done
  pub stands : StandsAt x.progress done (to_come x.held left)
  pub room : length done + x.held.room ≡ longest_input
  pub number : number_of x ≡ length given
  pub few : length (behind x) ≤ 4096

-- a line is handed out
pub record Gives (x : LineReader) (text left : Option (List ℕ)) (given : List (List ℕ))
    : Type 0 where
  pub line : List ℕ
  pub lends : Lends x line
  pub reads : Reads x text left (given ++ line ∷ [])

-- no line is left
pub record EndsAfter (x : LineReader) (text left : Option (List ℕ)) (given : List (List ℕ))
    : Type 0 where
  pub ended : x.progress ≡ progress.Ended
  pub reads : Reads x text left given

-- the source failed: the lines that ended within the bytes read were handed out
pub record FailsAfter (text left : Option (List ℕ)) (given : List (List ℕ)) : Type 0 where
  pub read : List ℕ
  pub taken : Consumes text left read
  pub given_are : given ≡ lines (ended_lines read)
  pub within : length read ≤ longest_input

-- more bytes came than may, at most 4,096 of them: the lines that ended within the limit were
-- handed out
pub record IsBeyondAfter (text left : Option (List ℕ)) (given : List (List ℕ)) : Type 0 where
  pub read : List ℕ
  pub others : List ℕ
  pub taken : Consumes text left (read ++ others)
  pub given_are : given ≡ lines (ended_lines read)
  pub full : length read ≡ longest_input
  pub more : 0 < length others
  pub few : length others ≤ 4096

-- no line came
abbrev pub StopsAfter : (text left : Option (List ℕ)) → List (List ℕ) → LineStop → Type 0
StopsAfter text left given stop.ReadFault = FailsAfter text left given
StopsAfter text left given stop.TooLong = IsBeyondAfter text left given

-- By cases on the answer.
abbrev pub ReadsOn : LineReader → (text left : Option (List ℕ)) → List (List ℕ)
    → Result Bool LineStop → Type 0
ReadsOn x text left given (Ok true) = Gives x text left given
ReadsOn x text left given (Ok false) = EndsAfter x text left given
ReadsOn x text left given (Err e) = StopsAfter text left given e
