-- What a line is by its length and its bytes.
use Rattle.std.specs.Prelude.{◌≡◌, ℕ, Bool, Option, Result, Ok, Err, List}
use Rattle.gb_base.specs.declared.event.Event.{Event}
use Rattle.gb_base.specs.declared.reasons.LineReason.{LineReason}
use Rattle.gb_formats.specs.Parts.{Part}
use Rattle.gb_formats.specs.Script.{by_bytes}

-- A line is what it is by its words, or it is bad for this reason, whatever its words are.
abbrev pub Judges : (A : Type 0) → {B : Type 0} → List ℕ → Result B LineReason → Type 0
Judges A line (Ok b) = (by_words : Result A LineReason) → by_bytes line by_words ≡ by_words
Judges A line (Err why) = (by_words : Result A LineReason) → by_bytes line by_words ≡ Err why

-- of a script
abbrev pub JudgesScript : {B : Type 0} → List ℕ → Result B LineReason → Type 0
JudgesScript line answer = Judges (Option Event) line answer

-- of a capture
abbrev pub JudgesCapture : {B : Type 0} → List ℕ → Result B LineReason → Type 0
JudgesCapture line answer = Judges (Option (Bool × List ℕ)) line answer

-- of a script with requesters
abbrev pub JudgesPart : {B : Type 0} → List ℕ → Result B LineReason → Type 0
JudgesPart line answer = Judges Part line answer
