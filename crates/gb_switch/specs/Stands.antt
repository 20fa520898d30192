-- What a ladder stands for: the power levels and device ids of interfaces.
use Rattle.std.specs.Prelude.{◌≡◌, ◌≤◌, ℕ, None, option_map, List, [], ◌∷◌}
use Rattle.gb_machine.specs.Ports.{port_of}
use Rattle.gb_machine.specs.State.{Port}
use Rattle.gb_switch.specs.Levels.{plugged_at, port_for}
use Rattle.gb_switch.specs.declared.ladder.Ladder.{Ladder}

-- the interfaces at which a module can be plugged
pub record IsInterface (i : ℕ) : Type 0 where
  pub least : 2 ≤ i
  pub most : i ≤ 31

-- each interface is there once
abbrev pub IsOnce : List Port → Type 0
IsOnce [] = Unit {0}
IsOnce (p ∷ ps) = (port_of p.intf ps ≡ None) × IsOnce ps

-- a plugged interface is one of those at which a module can be plugged
abbrev pub AreInterfaces : List Port → Type 0
AreInterfaces [] = Unit {0}
AreInterfaces (p ∷ ps) = IsInterface p.intf × AreInterfaces ps

-- The ladder stands for these interfaces: of each number it says what they say.
pub record Stands (x : Ladder) (ports : List Port) : Type 0 where
  pub each : (i : ℕ) → port_of i ports ≡ option_map (port_for i) (plugged_at i x)
  pub once : IsOnce ports
  pub within : AreInterfaces ports
