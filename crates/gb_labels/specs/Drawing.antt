-- What the calls on a set of identifiers answer, and what the set is afterwards.
use Rattle.std.specs.Prelude.{◌≡◌, ◌≢◌, ◌<◌, ◌≤◌, ℕ, suc, Bool, true, false, Option, Some, None}
use Rattle.std.specs.Prelude.{Result, Ok, Err}
use Rattle.gb_labels.specs.LabelSet.{LabelSet, is_in_use, next_of}
use Rattle.gb_labels.specs.declared.labels.NoLabel.{NoLabel}
use Rattle.gb_machine.specs.Labels.{greatest_label}

-- no identifier is in use, and none was drawn
pub record IsFirst (set : LabelSet) : Type 0 where
  pub unused : (label : ℕ) → is_in_use set label ≡ false
  pub last : set.last ≡ 0

-- all identifiers from one up to another are in use
abbrev pub AreUsed : (ℕ → Bool) → ℕ → ℕ → Type 0
AreUsed used from to = (j : ℕ) → from ≤ j → j < to → used j ≡ true

-- All 65,535 identifiers are in use.
abbrev pub AllInUse : LabelSet → Type 0
AllInUse set = AreUsed (is_in_use set) 1 (suc greatest_label)

-- the least identifier from one on that isn't in use
pub record IsFirstFree (used : ℕ → Bool) (from label : ℕ) : Type 0 where
  pub behind : from ≤ label
  pub within : label ≤ greatest_label
  pub unused : used label ≡ false
  pub before : AreUsed used from label

-- None comes exactly where all from that one on are in use.
abbrev pub FindsFree : (ℕ → Bool) → ℕ → Option ℕ → Type 0
FindsFree used from (Some label) = IsFirstFree used from label
FindsFree used from None = AreUsed used from (suc greatest_label)

-- an identifier that may be drawn: it comes next, is from 1 to the greatest, and isn't in use
pub record IsNext (set : LabelSet) (label : ℕ) : Type 0 where
  pub next : next_of set ≡ Some label
  pub least : 1 ≤ label
  pub greatest : label ≤ greatest_label
  pub unused : is_in_use set label ≡ false

-- What comes next is answered, or NoLabel exactly where all are in use.
pub record IsSpent (set : LabelSet) : Type 0 where
  pub next : next_of set ≡ None
  pub used : AllInUse set

abbrev pub NextAs : LabelSet → Result ℕ NoLabel → Type 0
NextAs set (Ok label) = IsNext set label
NextAs set (Err why) = IsSpent set

-- an identifier is in use or isn't, and for all others nothing changes
pub record Marks (old new : LabelSet) (label : ℕ) (used : Bool) : Type 0 where
  pub here : is_in_use new label ≡ used
  pub others : (other : ℕ) → other ≢ label → is_in_use new other ≡ is_in_use old other

-- an identifier is in use, and is the last one drawn
pub record Takes (old new : LabelSet) (label : ℕ) : Type 0 where
  pub marks : Marks old new label true
  pub last : new.last ≡ label

-- an identifier is in use no more
pub record Frees (old new : LabelSet) (label : ℕ) : Type 0 where
  pub marks : Marks old new label false
  pub last : new.last ≡ old.last

-- no identifier is in use, and the last one drawn stays
pub record FreesAll (old new : LabelSet) : Type 0 where
  pub unused : (label : ℕ) → is_in_use new label ≡ false
  pub last : new.last ≡ old.last

-- The next identifier is drawn, or none is left and nothing changes.
abbrev pub DrawsAs : LabelSet → LabelSet → Result ℕ NoLabel → Type 0
DrawsAs old new (Ok label) = IsNext old label × Takes old new label
DrawsAs old new (Err why) = IsSpent old × (new ≡ old)
