-- Where the live connections stand by their numbers, and how one of them changes.
use Rattle.std.specs.Prelude.{◌≡◌, ℕ, Option, Some, None, nat_eq, slice_get}
use Rattle.std.specs.Borrow.{Fml, LendsSo, MutBor}
use Rattle.std.specs.Map.{set_value}
use Rattle.indexmap.specs.IndexMap.{get}
use Rattle.gb_base.specs.declared.end.End.{End}
use Rattle.gb_base.specs.declared.end.Side.{Side}
use Rattle.gb_bus.specs.Index.{Live}
use Rattle.gb_bus.specs.Parts.{side_at}
use Rattle.gb_bus.specs.Seen.{seen}
use Rattle.gb_bus.specs.contracts.connection.Connection as connection
use Rattle.gb_bus.specs.contracts.numbered.Numbered as numbered
use Rattle.gb_bus.specs.declared.connection.Connection as code
use Rattle.gb_bus.specs.declared.numbered.Numbered.{Numbered}

-- the connection with a number stands at a place
pub record StandsAt (live : Live) (k at : ℕ) : Type 0 where
  pub connection : code.Connection
  pub there : slice_get live.entries at ≡ Some (k, connection)
  pub is : get nat_eq live k ≡ Some connection

-- The place where it stands is found, or it isn't live.
abbrev pub IsPlaced : Live → ℕ → Option ℕ → Type 0
IsPlaced live k (Some at) = StandsAt live k at
IsPlaced live k None = get nat_eq live k ≡ None

-- the connection with a number is wired, and an end stands at this side of it
pub record HasSide (live : Live) (k : ℕ) (at : End) (side : Side) : Type 0 where
  pub connection : code.Connection
  pub there : get nat_eq live k ≡ Some connection
  pub is : side_at at (seen 0 connection) ≡ Some side

-- The connection with a number is the one that is left behind a reference, and no other changes.
abbrev pub LendsAt : MutBor Numbered → ℕ → Option (MutBor code.Connection) → Fml
LendsAt old k r = LendsSo numbered.the_row connection.the_row old r
    (λ new x. new.map.entries ≡ set_value (nat_eq k) old.now.map.entries x)
    (λ new. new.map.entries ≡ old.now.map.entries)
