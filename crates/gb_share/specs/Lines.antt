-- The lines of a requester, and the marks of those that were run.
use Rattle.std.specs.Prelude.{◌≡◌, ℕ, ◌+◌, Bool, true, false, if◌then◌else◌, List, [], ◌∷◌, ◌++◌}
use Rattle.std.specs.Prelude.{length, Option, Some, None, option_map}
use Rattle.std.specs.List.{slice_get}
use Rattle.gb_base.specs.declared.event.Event.{Event}
use Rattle.gb_base.specs.declared.parts.Asked.{Asked}
use Rattle.gb_formats.specs.ValidEvents.{IsValid}
use Rattle.gb_machine.specs.AskingEvents.{asks}

-- the event of each line is one that the machine may be given
abbrev pub AreValid : List Asked → Type 0
AreValid ls = (n : ℕ) (l : Asked) → slice_get ls n ≡ Some l → IsValid l.event

-- only sends and bridge lines found no slot
abbrev pub AreAsking : List Asked → List Bool → Type 0
AreAsking ls ms = (n : ℕ) (l : Asked) → slice_get ls n ≡ Some l → slice_get ms n ≡ Some true
    → asks l.event ≡ true

-- the events of lines that were run, without those that found no slot
abbrev pub ran : List Asked → List Bool → List Event
ran [] ms = []
ran (l ∷ ls) [] = []
ran (l ∷ ls) (m ∷ ms) = (if m then [] else l.event ∷ []) ++ ran ls ms

-- how many lines were done before the first one that found no slot, None where each found one
abbrev pub before_full : List Bool → Option ℕ
before_full [] = None
before_full (true ∷ ms) = Some 0
before_full (false ∷ ms) = option_map (λ n. n + 1) (before_full ms)

-- how many lines were done
abbrev pub count_done : List Bool → ℕ
count_done [] = 0
count_done (true ∷ ms) = count_done ms
count_done (false ∷ ms) = count_done ms + 1

-- the mark of the next line: it found a slot, or it is a send or a bridge line
abbrev pub MayBeFull : List Asked → List Bool → Bool → Type 0
MayBeFull ls ms m = (l : Asked) → slice_get ls (length ms) ≡ Some l → m ≡ true
    → asks l.event ≡ true
