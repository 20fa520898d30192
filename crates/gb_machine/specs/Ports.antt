-- The power levels and device ids of interfaces at the supervisory controller. The levels are 0
-- off, 1 VSYS, 2 REFCLK, 3 UNIPRO, 4 active, 5 device id given and 6 routed.
use Rattle.std.specs.Prelude.{ℕ, ◌==◌, nat_lt, Bool, not, ◌&&◌, if◌then◌else◌, Option, Some, None}
use Rattle.std.specs.Prelude.{option_and_then, List, ◌∷◌, find, is_some}
use Rattle.std.specs.List.{list_any}
use Rattle.gb_machine.specs.Host.{is_device}
use Rattle.gb_machine.specs.Lists.{at_first, without}
use Rattle.gb_machine.specs.State.{Port}

-- a power level is of this interface
abbrev pub is_port : ℕ → Port → Bool
is_port i p = p.intf == i

-- the power level and device id of an interface, None where nothing is plugged
abbrev pub port_of : ℕ → List Port → Option Port
port_of i ports = find (is_port i) ports

-- Something is plugged at an interface.
abbrev pub is_powered : ℕ → List Port → Bool
is_powered i ports = is_some (port_of i ports)

-- the power level, 0 where nothing is plugged
abbrev pub level_in : Option Port → ℕ
level_in None = 0
level_in (Some p) = p.level

-- The power level of an interface, 0 where nothing is plugged.
abbrev pub level_of : ℕ → List Port → ℕ
level_of i ports = level_in (port_of i ports)

-- The device id of an interface.
abbrev pub device_of : ℕ → List Port → Option ℕ
device_of i ports = option_and_then (λ p. p.device) (port_of i ports)

-- the interfaces with one changed
abbrev pub with_port : ℕ → (Port → Port) → List Port → List Port
with_port i change ports = at_first (is_port i) change ports

-- An interface has at least this power level.
abbrev pub raised : ℕ → ℕ → List Port → List Port
raised i level ports =
    with_port i (λ p. if nat_lt p.level level then record p { level = level } else p) ports

-- A routed interface has its device id still, but no route.
abbrev pub unrouted : ℕ → List Port → List Port
unrouted i ports = with_port i (λ p. record p { level = 5 }) ports

-- An interface has a device id.
abbrev pub with_device : ℕ → ℕ → List Port → List Port
with_device i d ports = with_port i (λ p. record p { level = 5; device = Some d }) ports

-- Another interface has a device id.
abbrev pub is_elsewhere : ℕ → ℕ → List Port → Bool
is_elsewhere i d ports = list_any (λ p. not (p.intf == i) && is_device d p.device) ports

-- A module is plugged: its power is off.
abbrev pub powered : ℕ → List Port → List Port
powered i ports = record { intf = i; level = 0; device = None } ∷ ports

-- A module is pulled.
abbrev pub unpowered : ℕ → List Port → List Port
unpowered i ports = without (is_port i) ports
