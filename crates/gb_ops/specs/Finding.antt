-- Whether a request is open, the least that is, and the least of those whose deadline came.
use Rattle.std.specs.Prelude.{◌≡◌, ◌<◌, ◌≤◌, ℕ, Bool, true, false, nat_le, if◌then◌else◌}
use Rattle.std.specs.Prelude.{Option, Some, None, IsSome, List, [], ◌∷◌}
use Rattle.gb_ops.specs.declared.entries.Pending.{Pending}

-- the first of a list whose deadline came
abbrev pub due_in : ℕ → List (ℕ × Pending) → Option ℕ
due_in now [] = None
due_in now (e ∷ es) = if nat_le e.1.deadline now then Some e.0 else due_in now es

-- a request is open, and its deadline came
pub record IsDue (pending : ℕ → Option Pending) (now n : ℕ) : Type 0 where
  pub found : Pending
  pub there : pending n ≡ Some found
  pub due : found.deadline ≤ now

-- no deadline of an open request came
abbrev pub NoneDue : (ℕ → Option Pending) → ℕ → Type 0
NoneDue pending now = (m : ℕ) (p : Pending) → pending m ≡ Some p → now < p.deadline

-- the least number of those whose deadline came
pub record IsLeastDue (pending : ℕ → Option Pending) (now n : ℕ) : Type 0 where
  pub is_due : IsDue pending now n
  pub least : (m : ℕ) (p : Pending) → pending m ≡ Some p → p.deadline ≤ now → n ≤ m

-- The least whose deadline came, or None where none has.
abbrev pub FindsDue : (ℕ → Option Pending) → ℕ → Option ℕ → Type 0
FindsDue pending now (Some n) = IsLeastDue pending now n
FindsDue pending now None = NoneDue pending now

-- the least number of those that are open
pub record IsLeast (pending : ℕ → Option Pending) (n : ℕ) : Type 0 where
  pub found : Pending
  pub there : pending n ≡ Some found
  pub least : (m : ℕ) (p : Pending) → pending m ≡ Some p → n ≤ m

-- The least that is open, or None where none is.
abbrev pub FindsLeast : (ℕ → Option Pending) → Option ℕ → Type 0
FindsLeast pending (Some n) = IsLeast pending n
FindsLeast pending None = (m : ℕ) → pending m ≡ None

-- some request is open
pub record HasOne (pending : ℕ → Option Pending) : Type 0 where
  pub number : ℕ
  pub there : IsSome (pending number)

-- true comes exactly where none is open.
abbrev pub TellsIdle : (ℕ → Option Pending) → Bool → Type 0
TellsIdle pending true = (n : ℕ) → pending n ≡ None
TellsIdle pending false = HasOne pending
