-- What reading all of an input answers.
use Rattle.std.specs.Prelude.{◌≡◌, ◌<◌, ◌≤◌, ℕ, Option, Result, Ok, Err, ⊤, List, ◌++◌, length}
use Rattle.std.specs.Prelude.{take}
use Rattle.std.specs.Io.KnownBytes.{Consumes, IsAtEnd}
use Rattle.gb_base.specs.Faults.{Rose}
use Rattle.gb_formats.specs.Lines.{longest_input}
use Rattle.gbus.specs.declared.input.Input.{Input}
use Rattle.gbus.specs.declared.input.Input.TheVariants as input
use Rattle.gbus.specs.declared.input.InputStop.{InputStop}
use Rattle.gbus.specs.declared.input.InputStop.TheVariants as stop

-- all bytes were read, and they are within the limit
pub record IsWhole (left left_after : Option (List ℕ)) (bytes : List ℕ) : Type 0 where
  pub bytes_are : Consumes left left_after bytes
  pub at_end : IsAtEnd left_after
  pub within : length bytes ≤ longest_input

-- more bytes came than the limit: the front up to it, and the others
pub record IsLong (left left_after : Option (List ℕ)) (front : List ℕ) : Type 0 where
  pub others : List ℕ
  pub bytes_are : Consumes left left_after (front ++ others)
  pub full : length front ≡ longest_input
  pub more : 0 < length others

-- By cases on the answer; `faults` are those before and after. After want of memory
-- nothing is said.
abbrev pub ReadsAll : Option (List ℕ) → Option (List ℕ) → ℕ → ℕ → Result Input InputStop
    → Type 0
ReadsAll left after before faults (Ok (input.Whole bytes)) = IsWhole left after bytes.items
ReadsAll left after before faults (Ok (input.TooLong front)) = IsLong left after front.items
ReadsAll left after before faults (Err stop.Failed) = Rose before faults
ReadsAll left after before faults (Err (stop.Memory refused)) = ⊤

-- the bytes that were read and kept
abbrev pub kept_of : Input → List ℕ
kept_of (input.Whole bytes) = bytes.items
kept_of (input.TooLong front) = front.items

-- An input is what was read of these bytes: all of them, or the front of a text that is too long.
abbrev pub IsRead : Input → List ℕ → Type 0
IsRead (input.Whole bytes) text = (text ≡ bytes.items) × (length text ≤ longest_input)
IsRead (input.TooLong front) text =
    (front.items ≡ take longest_input text) × (longest_input < length text)
