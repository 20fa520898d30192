-- What writing a text answers.
use Rattle.std.specs.Prelude.{◌≡◌, ◌<◌, ℕ, length, Option, Result, Ok, Err, ⊤, List, ◌++◌}
use Rattle.std.specs.Io.KnownBytes.{Appends}
use Rattle.gb_base.specs.Faults.{Rose}
use Rattle.gb_base.specs.declared.sink.WriteStop.{WriteStop}
use Rattle.gb_base.specs.declared.sink.WriteStop.TheVariants as stop

-- a front of these bytes was taken, and not all
pub record TakesPart (taken after : Option (List ℕ)) (bytes : List ℕ) : Type 0 where
  pub front : List ℕ
  pub rest : List ℕ
  pub whole : bytes ≡ front ++ rest
  pub short : 0 < length rest
  pub taken_is : Appends taken after front

-- the sink failed, or memory was wanting
abbrev pub StopsBy : ℕ → ℕ → WriteStop → Type 0
StopsBy before faults stop.Failed = Rose before faults
StopsBy before faults (stop.Memory refused) = ⊤

-- By cases on the answer: all was taken, or a front of it.
abbrev pub WritesAll : {A : Type 0} → Option (List ℕ) → Option (List ℕ) → ℕ → ℕ → List ℕ
    → Result A WriteStop → Type 0
WritesAll taken after before faults bytes (Ok x) = Appends taken after bytes
WritesAll taken after before faults bytes (Err e) =
    TakesPart taken after bytes × StopsBy before faults e
