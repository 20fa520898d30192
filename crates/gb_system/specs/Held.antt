-- Hold marks, and the requests that are held.
use Rattle.std.specs.Prelude.{◌≡◌, ◌≢◌, ◌<◌, ℕ, ◌-◌, ◌==◌, Bool, Option, Some, None, List, []}
use Rattle.std.specs.Prelude.{length}
use Rattle.std.specs.BTreeMap.{get}
use Rattle.std.specs.List.{list_any, remove}
use Rattle.std.specs.Ordering.{nat_cmp}
use Rattle.std.specs.declared.collections.VecDeque.{VecDeque}
use Rattle.gb_machine.specs.Lists.{nth}
use Rattle.gb_system.specs.declared.held.HeldRequest.{HeldRequest}
use Rattle.gb_system.specs.declared.held.HeldRequests.{HeldRequests}

-- ---- marks

-- a connection is among those with the mark
abbrev pub is_marked : ℕ → List ℕ → Bool
is_marked k marks = list_any (λ j. j == k) marks

-- a connection has the mark or hasn't, and the others have it as before
pub record MarksAs (old new : List ℕ) (k : ℕ) (mark : Bool) : Type 0 where
  pub here : is_marked k new ≡ mark
  pub others : (j : ℕ) → j ≢ k → is_marked j new ≡ is_marked j old

-- ---- requests

-- the requests of a list, none where there is no list
abbrev pub requests_of : {A : Type 0} → Option (VecDeque HeldRequest A) → List HeldRequest
requests_of None = []
requests_of (Some requests) = requests.items

-- the requests that are held on a connection, the oldest first
abbrev pub held_at : HeldRequests → ℕ → List HeldRequest
held_at x k = requests_of (get nat_cmp x.held k)

-- on a connection these are held, and on the others what was held
pub record HoldsAs (old new : HeldRequests) (k : ℕ) (requests : List HeldRequest) : Type 0 where
  pub here : held_at new k ≡ requests
  pub others : (j : ℕ) → j ≢ k → held_at new j ≡ held_at old j

-- the request at a place is taken
pub record Takes (old new : HeldRequests) (k place : ℕ) (taken : HeldRequest) : Type 0 where
  pub there : nth place (held_at old k) ≡ Some taken
  pub rest : HoldsAs old new k (remove (held_at old k) (place - 1))

-- fewer are held, and none is taken
pub record TakesNone (old new : HeldRequests) (k place : ℕ) : Type 0 where
  pub fewer : length (held_at old k) < place
  pub same : (j : ℕ) → held_at new j ≡ held_at old j

-- By cases on what is taken.
abbrev pub TakesAs : HeldRequests → HeldRequests → ℕ → ℕ → Option HeldRequest → Type 0
TakesAs old new k place None = TakesNone old new k place
TakesAs old new k place (Some taken) = Takes old new k place taken
