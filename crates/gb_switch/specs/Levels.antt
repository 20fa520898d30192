-- The levels of the power sequence, and what the slots of interfaces hold.
use Rattle.std.specs.Prelude.{◌≡◌, ◌==◌, nat_lt, ℕ, Option, Some, None, if◌then◌else◌, slice_get}
use Rattle.gb_machine.specs.State as machine
use Rattle.gb_switch.specs.declared.ladder.Ladder.{Ladder}
use Rattle.gb_switch.specs.declared.port.Level.{Level}
use Rattle.gb_switch.specs.declared.port.Level.TheVariants as level
use Rattle.gb_switch.specs.declared.port.Port.{Port}

-- the number of a level
abbrev pub level_number : Level → ℕ
level_number level.Off = 0
level_number level.Vsys = 1
level_number level.Refclk = 2
level_number level.Unipro = 3
level_number level.Active = 4
level_number level.Named = 5
level_number level.Routed = 6

-- a plugged interface with at least this level
abbrev pub raised_to : Level → Port → Port
raised_to to p =
    if nat_lt (level_number p.level) (level_number to) then record p { level = to } else p

-- what is plugged, of a slot that may not be there
abbrev pub in_slot : Option (Option Port) → Option Port
in_slot None = None
in_slot (Some slot) = slot

-- what is plugged at an interface
abbrev pub plugged_at : ℕ → Ladder → Option Port
plugged_at i x = in_slot (slice_get x.ports i)

-- what a plugged interface stands for
abbrev pub port_for : ℕ → Port → machine.Port
port_for i p = record { intf = i; level = level_number p.level; device = p.device }

-- An interface alone changes: this is plugged there.
abbrev pub PutsAt : Ladder → Ladder → ℕ → Option Port → Type 0
PutsAt old new i port = (j : ℕ) → plugged_at j new ≡ (if j == i then port else plugged_at j old)
