-- Where the CPorts of a module stand.
use Rattle.std.specs.Prelude.{◌≡◌, ◌<◌, ◌+◌, ◌-◌, ℕ, nat_lt, nat_le, ◌&&◌, if◌then◌else◌, List}
use Rattle.std.specs.Prelude.{Option, Some, get_or}
use Rattle.std.specs.BTreeMap.{BTreeMap, get}
use Rattle.std.specs.List.{position_from}
use Rattle.std.specs.Ordering.{nat_cmp}
use Rattle.gb_formats.specs.Module.{ModulePort, is_port}

-- So many of the first CPorts have the numbers 1, 2, 3 and so on.
abbrev pub AreCounted : ℕ → List ModulePort → Type 0
AreCounted counted ports =
    (i : ℕ) (d : ModulePort) → i < counted → (get_or ports i d).number ≡ i + 1

-- The place that a number tells, where so many are counted and the places of the others are kept.
abbrev pub told : ℕ → BTreeMap ℕ ℕ → ℕ → Option ℕ
told counted places number =
    if nat_lt 0 number && nat_le number counted then Some (number - 1)
    else get nat_cmp places number

-- Each number tells the place of the first CPort with it.
abbrev pub AreFirst : ℕ → BTreeMap ℕ ℕ → List ModulePort → Type 0
AreFirst counted places ports =
    (number : ℕ) → told counted places number ≡ position_from (is_port number) 0 ports
