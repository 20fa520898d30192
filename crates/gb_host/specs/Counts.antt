-- How many connections have each CPort of the application processor.
use Rattle.std.specs.Prelude.{◌≡◌, ◌==◌, ◌<◌, ◌≤◌, ◌+◌, ◌/◌, ℕ, Bool, true, false, List, [], ◌∷◌}
use Rattle.std.specs.Prelude.{get_or, if◌then◌else◌, length}
use Rattle.gb_base.specs.declared.interface.Link.{Link}
use Rattle.gb_host.specs.declared.cports.Cports.{Cports}

-- how many connections have a CPort
abbrev pub count_at : ℕ → List Link → ℕ
count_at a [] = 0
count_at a (l ∷ ls) = if l.ap == a then count_at a ls + 1 else count_at a ls

-- Connections have all from 1 to below this number, and all from 1 of each block of 64 that is
-- marked full.
pub record AreTaken (counts : List ℕ) (full : List Bool) (next : ℕ) : Type 0 where
  pub before : (a : ℕ) → 1 ≤ a → a < next → 0 < get_or counts a 0
  pub blocks : (a : ℕ) → 1 ≤ a → get_or full (a / 64) false ≡ true → 0 < get_or counts a 0

-- Connections have all from 1 to below this number, and none has it where it is below 4,096.
pub record IsLeast (counts : List ℕ) (full : List Bool) (least : ℕ) : Type 0 where
  pub from-1 : 1 ≤ least
  pub within : least ≤ 4096
  pub taken : AreTaken counts full least
  pub here : least < 4096 → get_or counts least 0 ≡ 0

-- The counts of the CPorts up to 4,095 are those of the connections, and the least that none has
-- is kept.
pub record AreCounted (x : Cports) (links : List Link) : Type 0 where
  pub long : length x.counts.items ≡ 4096
  pub each : (a : ℕ) → a < 4096 → get_or x.counts.items a 0 ≡ count_at a links
  pub least : IsLeast x.counts.items x.full.items x.least
