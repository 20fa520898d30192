-- The last requests by their direction and identifier.
use Rattle.std.specs.Prelude.{◌≡◌, ℕ, ◌==◌, Bool, false, ◌&&◌, ◌||◌, if◌then◌else◌, Option, Some}
use Rattle.std.specs.Prelude.{None, slice_index_or}
use Rattle.std.specs.Bool.{beq}
use Rattle.gb_base.specs.declared.audit.Finding.{Finding}
use Rattle.gb_base.specs.declared.audit.Finding.TheVariants as finding
use Rattle.gb_capture.specs.declared.table.Asked.{Asked}
use Rattle.gb_capture.specs.declared.table.Table.{Table}

-- the last request of this direction with this identifier
abbrev pub last_in : Table → Bool → ℕ → Option Asked
last_in t from_ap id =
    if from_ap then slice_index_or t.sent.items id None else slice_index_or t.taken.items id None

-- the slot of this direction and this identifier
abbrev pub is_slot : Bool → ℕ → Bool → ℕ → Bool
is_slot from_ap id way v = beq way from_ap && v == id

-- one slot has this, and each other one what it had
pub record Changes (old new : Bool → ℕ → Option Asked) (from_ap : Bool) (id : ℕ)
    (slot : Option Asked) : Type 0 where
  pub here : new from_ap id ≡ slot
  pub others : (way : Bool) → (v : ℕ) → is_slot from_ap id way v ≡ false → new way v ≡ old way v

-- what is found of a response that repeats this type, by the request that it speaks of
abbrev pub response_by : ℕ → Option Asked → Option Finding
response_by kind None = Some finding.Orphan
response_by kind (Some a) =
    if a.answered then Some (finding.Double a.line)
    else if kind == a.kind then None
    else Some (finding.OtherType a.line)

-- a request after a response that repeats this type
abbrev pub answered_by : ℕ → Option Asked → Option Asked
answered_by kind None = None
answered_by kind (Some a) =
    Some (record { line = a.line; kind = a.kind; answered = a.answered || kind == a.kind })

-- what is found of a request, by the earlier one that it speaks of
abbrev pub request_by : Option Asked → Option Finding
request_by None = None
request_by (Some a) = if a.answered then None else Some (finding.Reused a.line)
