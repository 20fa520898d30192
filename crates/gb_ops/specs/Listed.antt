-- The numbers of the requests of a side, in order.
use Rattle.std.specs.Prelude.{◌≡◌, ◌<◌, ℕ, true, if◌then◌else◌, IsSome, Some}
use Rattle.std.specs.Prelude.{None, List, [], ◌∷◌}
use Rattle.std.specs.BTreeSet.{insert_key}
use Rattle.std.specs.Ordering.{nat_cmp}
use Rattle.gb_machine.specs.Members.{EachTwo, IsIn}
use Rattle.gb_ops.specs.Operations.{Operations, holder_of, pending_at}
use Rattle.gb_ops.specs.declared.entries.Holder.{Holder}

-- a request is open
abbrev pub IsOpen : Operations → ℕ → Type 0
IsOpen x n = IsSome (pending_at x n)

-- no request is open
abbrev pub AllEnded : Operations → Type 0
AllEnded x = (n : ℕ) → pending_at x n ≡ None

-- no identifier is in use
abbrev pub AllFree : Operations → Type 0
AllFree x = (label : ℕ) → holder_of x label ≡ None

-- A request was given up, and its answer hasn't come: an identifier is in use for it.
pub record IsLate (x : Operations) (n : ℕ) : Type 0 where
  pub label : ℕ
  pub held : holder_of x label ≡ Some (record { number = n; given_up = true })

-- These are the numbers of which something holds, in order.
pub record Lists (Holds : ℕ → Type 0) (ns : List ℕ) : Type 0 where
  pub rise : EachTwo (λ n m. n < m) ns
  pub all : (n : ℕ) → Holds n → IsIn n ns
  pub only : (n : ℕ) → IsIn n ns → Holds n

-- the number of a request that was given up, among others in order
abbrev pub put_late : List ℕ → Holder → List ℕ
put_late ns h = if h.given_up then insert_key nat_cmp ns h.number else ns

-- the numbers of those that were given up, among others in order
abbrev pub late_among : List ℕ → List (ℕ × Holder) → List ℕ
late_among ns [] = ns
late_among ns (e ∷ es) = late_among (put_late ns e.1) es
