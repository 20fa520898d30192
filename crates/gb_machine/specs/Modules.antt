-- The modules that are plugged.
use Rattle.std.specs.Prelude.{ℕ, ◌==◌, nat_lt, Bool, true, false, ◌||◌, Option, Some, None}
use Rattle.std.specs.Prelude.{option_map, is_some, List, find}
use Rattle.gb_base.specs.declared.end.End.{End}
use Rattle.gb_base.specs.declared.end.End.TheVariants as end
use Rattle.gb_formats.specs.Module.{CportState, Module, Off, On, Quiet, cport_state}
use Rattle.gb_machine.specs.Lists.{at_first, in_order, span, without}
use Rattle.gb_machine.specs.State.{Plugged}

-- it is plugged at this interface
abbrev pub is_plugged_at : ℕ → Plugged → Bool
is_plugged_at i p = p.intf == i

-- What is plugged at an interface.
abbrev pub part_at : ℕ → List Plugged → Option Plugged
part_at i modules = find (is_plugged_at i) modules

-- The module at an interface.
abbrev pub module_at : ℕ → List Plugged → Option Module
module_at i modules = option_map (λ p. p.body) (part_at i modules)

-- A module is plugged at an interface.
abbrev pub is_plugged : ℕ → List Plugged → Bool
is_plugged i modules = is_some (module_at i modules)

-- the modules with the one at an interface changed
abbrev pub with_module : ℕ → Module → List Plugged → List Plugged
with_module i m modules = at_first (is_plugged_at i) (λ p. record p { body = m }) modules

-- the interfaces of the module of which this is a part
abbrev pub interfaces_of : Plugged → List ℕ
interfaces_of p = span p.primary p.count

-- it is plugged at the primary interface of its module
abbrev pub is_primary : Plugged → Bool
is_primary p = p.intf == p.primary

-- the order of what is plugged
abbrev pub plugged_before : Plugged → Plugged → Bool
plugged_before p q = nat_lt p.intf q.intf

-- It is plugged from now on.
abbrev pub plugged : Plugged → List Plugged → List Plugged
plugged p modules = in_order plugged_before p modules

-- Nothing is plugged at an interface any more.
abbrev pub unplugged : ℕ → List Plugged → List Plugged
unplugged i modules = without (is_plugged_at i) modules

-- a CPort takes what is delivered, unless it is off
abbrev pub is_awake : CportState → Bool
is_awake Off = false
is_awake On = true
is_awake Quiet = true

-- a module takes what is delivered at a CPort; Control always does
abbrev pub module_takes : ℕ → Option Module → Bool
module_takes c None = c == 0
module_takes c (Some m) = c == 0 || is_awake (cport_state m c)

-- A far end takes what is delivered there.
abbrev pub far_takes : End → List Plugged → Bool
far_takes (end.Module i c) modules = module_takes c (module_at i modules)
far_takes end.Svc modules = true
far_takes (end.Ap a) modules = true
