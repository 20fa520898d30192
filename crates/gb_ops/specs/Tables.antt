-- What the maps keep, and what their calls do.
use Rattle.std.specs.Prelude.{◌≡◌, ◌≤◌, ℕ, true, false, Option, Some, None, is_some}
use Rattle.std.specs.Prelude.{option_map, IsNone, []}
use Rattle.gb_labels.specs.LabelSet.{LabelSet, is_in_use}
use Rattle.gb_ops.specs.Places.{pending_among}
use Rattle.gb_ops.specs.declared.entries.Holder.{Holder}
use Rattle.gb_ops.specs.declared.entries.Pending.{Pending}
use Rattle.gb_ops.specs.declared.tables.Tables.{Tables}
use Rattle.gb_table.specs.Table.{Puts, item_at}

-- what an identifier is in use for
abbrev pub holder_in : Tables → ℕ → Option Holder
holder_in t label = item_at t.holders label

-- an open request by its number
abbrev pub pending_in : Tables → ℕ → Option Pending
pending_in t n = pending_among t.pending n

-- nothing is kept
pub record IsEmpty (t : Tables) : Type 0 where
  pub holders : t.holders ≡ []
  pub pending : t.pending ≡ []

-- no deadline of an open request is before the soonest that is kept
abbrev pub AllCovered : Tables → Type 0
AllCovered t = (n : ℕ) (p : Pending) → pending_in t n ≡ Some p → t.soonest ≤ p.deadline

-- A request is open. What it had where it was open already keeps its identifier.
pub record Enters (old new : Tables) (label n deadline : ℕ) : Type 0 where
  pub holder : Puts (holder_in old) (holder_in new) label
      (Some (record { number = n; given_up = false }))
  pub pending : Puts (pending_in old) (pending_in new) n
      (Some (record { label = label; deadline = deadline }))
  pub covered : AllCovered old → AllCovered new

-- all is as it was
pub record IsUnchanged (old new : Tables) : Type 0 where
  pub holders : new.holders ≡ old.holders
  pub pending : new.pending ≡ old.pending
  pub soonest : new.soonest ≡ old.soonest

-- an open request is open no more
pub record Leaves (old new : Tables) (n : ℕ) (p : Pending) : Type 0 where
  pub there : pending_in old n ≡ Some p
  pub pending : Puts (pending_in old) (pending_in new) n None
  pub holders : new.holders ≡ old.holders
  pub covered : AllCovered old → AllCovered new

-- or it wasn't open
abbrev pub LeavesAs : Tables → Tables → ℕ → Option Pending → Type 0
LeavesAs old new n (Some p) = Leaves old new n p
LeavesAs old new n None = (pending_in old n ≡ None) × (new.pending ≡ old.pending)
    × (new.holders ≡ old.holders) × (new.soonest ≡ old.soonest)

-- nothing has an identifier any more
pub record ReleasesAs (old new : Tables) (label : ℕ) (result : Option Holder) : Type 0 where
  pub there : result ≡ holder_in old label
  pub holder : Puts (holder_in old) (holder_in new) label None
  pub same : IsNone result → new.holders ≡ old.holders
  pub pending : new.pending ≡ old.pending
  pub soonest : new.soonest ≡ old.soonest

-- what an identifier is in use for, given up
abbrev pub gave_up : Holder → Holder
gave_up h = record h { given_up = true }

-- the request that has an identifier was given up
pub record MarksAs (old new : Tables) (label : ℕ) : Type 0 where
  pub holder : Puts (holder_in old) (holder_in new) label (option_map gave_up (holder_in old label))
  pub pending : new.pending ≡ old.pending
  pub soonest : new.soonest ≡ old.soonest

-- ---- what holds of them always

-- Identifiers are in use as they are marked; an open request has its identifier, and an identifier
-- that is in use for an open request is that one's; no deadline of an open request is
-- before the soonest.
pub record Kept (labels : LabelSet) (t : Tables) : Type 0 where
  pub used : (label : ℕ) → is_in_use labels label ≡ is_some (holder_in t label)
  pub held : (n : ℕ) (p : Pending) → pending_in t n ≡ Some p
      → holder_in t p.label ≡ Some (record { number = n; given_up = false })
  pub opened : (label n : ℕ) → holder_in t label ≡ Some (record { number = n; given_up = false })
      → option_map (λ p. p.label) (pending_in t n) ≡ Some label
  pub covered : AllCovered t
