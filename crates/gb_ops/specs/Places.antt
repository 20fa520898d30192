-- The places of requests in order of number, and the requests that are open in them.
use Rattle.std.specs.Prelude.{◌≡◌, ◌≢◌, ◌<◌, ◌≤◌, ℕ, zero, suc, ⊤, Option, Some, None, IsSome}
use Rattle.std.specs.Prelude.{List, [], ◌∷◌, slice_get, is_some, Bool, true, false}
use Rattle.std.specs.BTreeMap.{is_at}
use Rattle.std.specs.List.{AllByRecursion}
use Rattle.std.specs.Map.{lookup}
use Rattle.std.specs.Option.{option_and_then}
use Rattle.std.specs.Ordering.{nat_cmp}
use Rattle.gb_ops.specs.declared.entries.Pending.{Pending}
use Rattle.gb_ops.specs.declared.open_list.Place.{Place}

-- the request in a place with its number, where it is open, in front of others
abbrev pub with_request : ℕ → Option Pending → List (ℕ × Pending) → List (ℕ × Pending)
with_request n None es = es
with_request n (Some p) es = (n, p) ∷ es

-- the requests that are open, each with its number
abbrev pub opened : List Place → List (ℕ × Pending)
opened [] = []
opened (p ∷ ps) = with_request p.number p.request (opened ps)

-- an open request by its number
abbrev pub pending_among : List (ℕ × Pending) → ℕ → Option Pending
pending_among es n = lookup (is_at (nat_cmp n)) es

-- the request in a place, None past the end
abbrev pub request_at : List Place → ℕ → Option Pending
request_at ps i = option_and_then (λ p. p.request) (slice_get ps i)

-- a place isn't empty
abbrev pub is_open : Place → Bool
is_open p = is_some p.request

-- all numbers are less than one
abbrev pub AllBelow : ℕ → List Place → Type 0
AllBelow n ps = AllByRecursion (λ p. p.number < n) ps

-- none is less than one
abbrev pub NoneBelow : ℕ → List Place → Type 0
NoneBelow n ps = AllByRecursion (λ p. n ≤ p.number) ps

-- all numbers are greater than one
abbrev pub AllAbove : ℕ → List Place → Type 0
AllAbove n ps = AllByRecursion (λ p. n < p.number) ps

-- no place has a number
abbrev pub IsNowhere : ℕ → List Place → Type 0
IsNowhere n ps = AllByRecursion (λ p. p.number ≢ n) ps

-- the place at an index has a number
abbrev pub IsAt : List Place → ℕ → ℕ → Type 0
IsAt [] i n = ⊥
IsAt (p ∷ ps) zero n = p.number ≡ n
IsAt (p ∷ ps) (suc i) n = IsAt ps i n

-- numbers rise
abbrev pub Rises : List Place → Type 0
Rises [] = ⊤
Rises (p ∷ ps) = AllAbove p.number ps × Rises ps

-- the first place isn't empty, or there is none
abbrev pub StartsOpen : List Place → Type 0
StartsOpen [] = ⊤
StartsOpen (p ∷ ps) = IsSome p.request

-- the first place is empty
abbrev pub StartsEmpty : List Place → Type 0
StartsEmpty [] = ⊥
StartsEmpty (p ∷ ps) = p.request ≡ None

-- true comes exactly where the first place is empty
abbrev pub TellsEmpty : List Place → Bool → Type 0
TellsEmpty ps true = StartsEmpty ps
TellsEmpty ps false = StartsOpen ps

-- What holds of the places always.
pub record IsInOrder (ps : List Place) : Type 0 where
  pub rises : Rises ps
  pub starts : StartsOpen ps
