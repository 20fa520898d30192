-- What the calls answer, and what is kept afterwards.
use Rattle.std.specs.Prelude.{◌≡◌, ℕ, Bool, true, false, Option, Some, None, Result, Ok}
use Rattle.std.specs.Prelude.{Err, []}
use Rattle.gb_ops.specs.Finding.{IsLeast, IsLeastDue, NoneDue}
use Rattle.gb_ops.specs.Operations.{Operations, holder_of, next_label, pending_at}
use Rattle.gb_table.specs.Table.{Puts}
use Rattle.gb_ops.specs.declared.entries.BeginFault.{BeginFault}
use Rattle.gb_ops.specs.declared.entries.BeginFault.TheVariants as begin
use Rattle.gb_ops.specs.declared.entries.Matched.{Matched}
use Rattle.gb_ops.specs.declared.entries.Matched.TheVariants as matched
use Rattle.gb_ops.specs.declared.entries.Holder.{Holder}
use Rattle.gb_ops.specs.declared.entries.Pending.{Pending}

-- no request was begun
abbrev pub no_operations : Operations
no_operations = record { holders = []; pending = []; last = 0 }

-- no request is open any more, all identifiers are free, and the last one drawn stays
abbrev pub emptied : Operations → Operations
emptied x = record { holders = []; pending = []; last = x.last }

-- An identifier is in use by a request that was open already, and its former one is free.
pub record Replaces (old new : Operations) (n label : ℕ) (former : Pending) : Type 0 where
  pub between : ℕ → Option Holder
  pub taken : Puts (holder_of old) between label (Some (record { number = n; given_up = false }))
  pub freed : Puts between (holder_of new) former.label None

-- A request is open, and has the identifier that came next.
pub record Begins (old new : Operations) (n deadline label : ℕ) : Type 0 where
  pub next : next_label old ≡ Some label
  pub holder : pending_at old n ≡ None → Puts (holder_of old) (holder_of new) label
      (Some (record { number = n; given_up = false }))
  pub again : (former : Pending) → pending_at old n ≡ Some former
      → Replaces old new n label former
  pub pending : Puts (pending_at old) (pending_at new) n
      (Some (record { label = label; deadline = deadline }))
  pub last : new.last ≡ label

-- no memory was found for the request, an identifier is left, and nothing changes
pub record Refuses (old new : Operations) : Type 0 where
  pub label : ℕ
  pub next : next_label old ≡ Some label
  pub same : new ≡ old

-- A request is begun, or no identifier is left, or no memory was found. Then nothing changes.
abbrev pub BeginsAs : Operations → Operations → ℕ → ℕ → Result ℕ BeginFault → Type 0
BeginsAs old new n deadline (Ok label) = Begins old new n deadline label
BeginsAs old new n deadline (Err begin.NoLabel) = (next_label old ≡ None) × (new ≡ old)
BeginsAs old new n deadline (Err (begin.Memory m)) = Refuses old new

-- an open request is over, and its identifier is free
pub record Ends (old new : Operations) (label n : ℕ) : Type 0 where
  pub found : Pending
  pub there : pending_at old n ≡ Some found
  pub label_is : found.label ≡ label
  pub held : holder_of old label ≡ Some (record { number = n; given_up = false })
  pub holder : Puts (holder_of old) (holder_of new) label None
  pub pending : Puts (pending_at old) (pending_at new) n None
  pub last : new.last ≡ old.last

-- the identifier of a request that was given up is free
pub record Forgets (old new : Operations) (label n : ℕ) : Type 0 where
  pub held : holder_of old label ≡ Some (record { number = n; given_up = true })
  pub holder : Puts (holder_of old) (holder_of new) label None
  pub pending : new.pending ≡ old.pending
  pub last : new.last ≡ old.last

-- An answer belongs to the request that its identifier is in use for, and the identifier is free.
abbrev pub RepliesAs : Operations → Operations → ℕ → Matched → Type 0
RepliesAs old new label (matched.Open n) = Ends old new label n
RepliesAs old new label (matched.Late n) = Forgets old new label n
RepliesAs old new label matched.Unknown = (holder_of old label ≡ None) × (new ≡ old)

-- an open request is given up, and its identifier stays in use
pub record GivesUp (old new : Operations) (n : ℕ) : Type 0 where
  pub found : Pending
  pub there : pending_at old n ≡ Some found
  pub holder : Puts (holder_of old) (holder_of new) found.label
      (Some (record { number = n; given_up = true }))
  pub pending : Puts (pending_at old) (pending_at new) n None
  pub last : new.last ≡ old.last

-- true comes exactly where the request was open.
abbrev pub GivesUpAs : Operations → Operations → ℕ → Bool → Type 0
GivesUpAs old new n true = GivesUp old new n
GivesUpAs old new n false = (pending_at old n ≡ None) × (new ≡ old)

-- the least open request whose deadline came is given up
pub record Expires (old new : Operations) (now n : ℕ) : Type 0 where
  pub least : IsLeastDue (pending_at old) now n
  pub gives_up : GivesUp old new n

-- None comes exactly where no deadline of an open request came.
abbrev pub ExpiresAs : Operations → Operations → ℕ → Option ℕ → Type 0
ExpiresAs old new now (Some n) = Expires old new now n
ExpiresAs old new now None = NoneDue (pending_at old) now × (new ≡ old)

-- the least open request is over, and its identifier is free
pub record Closes (old new : Operations) (n : ℕ) : Type 0 where
  pub label : ℕ
  pub least : IsLeast (pending_at old) n
  pub ends : Ends old new label n

-- no request was open, and all identifiers are free
pub record Closed (old new : Operations) : Type 0 where
  pub none : (n : ℕ) → pending_at old n ≡ None
  pub emptied : new ≡ emptied old

-- None comes exactly where no request is open.
abbrev pub ClosesAs : Operations → Operations → Option ℕ → Type 0
ClosesAs old new (Some n) = Closes old new n
ClosesAs old new None = Closed old new
