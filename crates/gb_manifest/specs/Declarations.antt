-- Marks and places.
use Rattle.std.specs.Prelude.{ℕ, Bool, if◌then◌else◌, Option, Some, None, List}
use Rattle.std.specs.Option.{option_or}
use Rattle.gb_base.specs.Marks.{is_marked}
use Rattle.gb_formats.specs.Descriptors.{Descriptor}
use Rattle.gb_formats.specs.ManifestRules.{Placed}

-- whether an identifier has a mark
abbrev pub is_met : List ℕ → ℕ → Bool
is_met marks id = is_marked marks id

-- the place of the first breach: the earlier one, else this place where the rule is broken here
abbrev pub first_place : Option ℕ → Bool → ℕ → Option ℕ
first_place earlier broken at = option_or earlier (if broken then Some at else None)

-- a descriptor with its place
abbrev pub place : ℕ → Descriptor → Placed
place at d = record { at = at; descriptor = d }
