-- How live connections are kept: by number, the numbers by end and by interface, and the ends where
-- something waits.
use Rattle.std.specs.Prelude.{◌≡◌, ◌≢◌, ◌⊎◌, ℕ, ◌==◌, Bool, true, false, not, ◌&&◌, ◌||◌}
use Rattle.std.specs.Prelude.{Option, Some, None, IsSome}
use Rattle.std.specs.Prelude.{List, [], nat_eq}
use Rattle.std.specs.HashMap as map
use Rattle.std.specs.HashMap.{HashMap}
use Rattle.std.specs.Ordering.{eq_by_cmp}
use Rattle.std.specs.declared.hash.BuildHasherDefault.{BuildHasherDefault}
use Rattle.std.specs.declared.hash.FoldHasher.{FoldHasher}
use Rattle.indexmap.specs.IndexMap.{IndexMap, IsUnique, get}
use Rattle.gb_base.specs.declared.end.End.{End}
use Rattle.gb_base.specs.declared.end.End.TheVariants as end
use Rattle.gb_bus.specs.Ends.{is_far}
use Rattle.gb_bus.specs.Listing.{stands_in}
use Rattle.gb_bus.specs.declared.connection.Connection as code
use Rattle.gb_groups.specs.Groups.{numbers_in}
use Rattle.gb_machine.specs.Lists.{holds_of}
use Rattle.gb_machine.specs.Wiring.{is_at}
use Rattle.gb_switch.specs.Places.{end_cmp}
use Rattle.gb_switch.specs.Queue.{has_items}
use Rattle.gb_switch.specs.WaitingEnds.{is_in}

-- the live connections by number
abbrev pub Live : Type 0
Live = IndexMap ℕ code.Connection (BuildHasherDefault FoldHasher)

-- the numbers of connections by end
abbrev pub Ends : Type 0
Ends = HashMap End ℕ (BuildHasherDefault FoldHasher)

-- the number of the connection that has an end
abbrev pub number_at : Ends → End → Option ℕ
number_at ends at = map.get (eq_by_cmp end_cmp) ends at

-- each end has the number that it had, or none as before
abbrev pub KeepsNumbers : Ends → Ends → Type 0
KeepsNumbers old new = (at : End) → number_at new at ≡ number_at old at

-- two ends that had no number have this one
pub record GetsNumber (old new : Ends) (near far : End) (k : ℕ) : Type 0 where
  pub free_near : number_at old near ≡ None
  pub free_far : number_at old far ≡ None
  pub at_near : number_at new near ≡ Some k
  pub at_far : number_at new far ≡ Some k
  pub others : (at : End) → at ≢ near → at ≢ far → number_at new at ≡ number_at old at

-- two ends have no number any more
pub record LosesNumber (old new : Ends) (near far : End) : Type 0 where
  pub at_near : number_at new near ≡ None
  pub at_far : number_at new far ≡ None
  pub others : (at : End) → at ≢ near → at ≢ far → number_at new at ≡ number_at old at

-- an end is one of a connection's
abbrev pub IsEndOf : End → code.Connection → Type 0
IsEndOf at x = (at ≡ end.Ap x.ap) ⊎ (at ≡ x.peer)

-- Both ends of a connection have its number, and its far end isn't a CPort of the application
-- processor.
pub record IsIndexed (ends : Ends) (k : ℕ) (x : code.Connection) : Type 0 where
  pub near : number_at ends (end.Ap x.ap) ≡ Some k
  pub far : number_at ends x.peer ≡ Some k
  pub beyond : is_far x.peer ≡ true

-- an end is one of the live connection with a number
pub record HasEnd (live : Live) (k : ℕ) (at : End) : Type 0 where
  pub connection : code.Connection
  pub there : get nat_eq live k ≡ Some connection
  pub own : IsEndOf at connection

-- nothing waits at the ends of a connection
abbrev pub IsIdle : code.Connection → Type 0
IsIdle x = (x.to_ap ≡ []) × (x.to_far ≡ [])

-- An end of a connection is marked where something waits there. Nothing does where it isn't wired.
pub record IsMarked (waiting : List End) (x : code.Connection) : Type 0 where
  pub near : is_in waiting (end.Ap x.ap) ≡ has_items x.to_ap
  pub far : is_in waiting x.peer ≡ has_items x.to_far
  pub idle : x.wired ≡ false → IsIdle x

-- The ends that have numbers are those of one live connection each. An end of one is marked where
-- something waits there, and no others are.
pub record MapsAgree (live : Live) (ends : Ends) (waiting : List End) : Type 0 where
  pub unique : IsUnique nat_eq live
  pub indexed : (k : ℕ) (x : code.Connection) → get nat_eq live k ≡ Some x → IsIndexed ends k x
  pub numbered : (at : End) (k : ℕ) → number_at ends at ≡ Some k → HasEnd live k at
  pub marked : (k : ℕ) (x : code.Connection) → get nat_eq live k ≡ Some x → IsMarked waiting x
  pub owned : (at : End) → is_in waiting at ≡ true → IsSome (number_at ends at)

-- A connection changes, but not its ends, which are marked as before where something waits there.
-- No other end is marked or unmarked.
pub record Remarks (old new : List End) (x y : code.Connection) : Type 0 where
  pub near : y.ap ≡ x.ap
  pub far : y.peer ≡ x.peer
  pub own : IsMarked new y
  pub others : (at : End) → (IsEndOf at x → ⊥) → is_in new at ≡ is_in old at

-- the far end of a connection is at an interface
abbrev pub is_far_at : ℕ → code.Connection → Bool
is_far_at i x = is_at i x.peer

-- The numbers of an interface are those of the live connections whose far ends are at it.
abbrev pub AreGrouped : List (List ℕ) → Live → Type 0
AreGrouped groups live =
    (i k : ℕ) → stands_in k (numbers_in groups i) ≡ holds_of (is_far_at i) (get nat_eq live k)

-- an interface has a number more, where an end is at it
abbrev pub Enters : List (List ℕ) → List (List ℕ) → End → ℕ → Type 0
Enters old new at n =
    (i k : ℕ) → stands_in k (numbers_in new i)
    ≡ ((is_at i at && n == k) || stands_in k (numbers_in old i))

-- an interface has a number less, where an end is at it
abbrev pub Leaves : List (List ℕ) → List (List ℕ) → End → ℕ → Type 0
Leaves old new at n =
    (i k : ℕ) → stands_in k (numbers_in new i)
    ≡ (not (is_at i at && n == k) && stands_in k (numbers_in old i))

-- All that is kept of live connections.
pub record AreKept (live : Live) (ends : Ends) (waiting : List End) (groups : List (List ℕ))
    : Type 0 where
  pub maps : MapsAgree live ends waiting
  pub grouped : AreGrouped groups live
