-- What the sequences of the application processor wait for.
use Rattle.std.specs.Prelude.{ℕ, ◌==◌, if◌then◌else◌, Option, Some, None, List, [], ◌∷◌}
use Rattle.gb_base.specs.declared.interface.Interface.{Interface}
use Rattle.gb_base.specs.declared.interface.Link.{Link}
use Rattle.gb_base.specs.declared.steps.Purpose.{Purpose}
use Rattle.gb_base.specs.declared.steps.SequenceStep.{SequenceStep}
use Rattle.gb_machine.specs.Bus.{or_else}
use Rattle.gb_machine.specs.Host.{Host, with_interface, with_link}
use Rattle.gb_machine.specs.SequenceSteps.{is_enumeration, purpose}

-- the purpose of request n, where an interface or a connection waits for it
abbrev pub purpose_in : ℕ → ℕ → ℕ → Option (ℕ × SequenceStep) → Option Purpose
purpose_in n i c None = None
purpose_in n i c (Some w) = if w.0 == n then Some (purpose i c w.1) else None

-- the purpose of request n among interfaces
abbrev pub interface_waits : ℕ → List Interface → Option Purpose
interface_waits n [] = None
interface_waits n (x ∷ xs) = or_else (purpose_in n x.intf 0 x.awaits) (interface_waits n xs)

-- the purpose of request n among connections
abbrev pub link_waits : ℕ → List Link → Option Purpose
link_waits n [] = None
link_waits n (l ∷ ls) = or_else (purpose_in n l.intf l.cport l.awaits) (link_waits n ls)

-- What request n is for, where a sequence waits for it.
abbrev pub awaited : ℕ → Host → Option Purpose
awaited n h = or_else (interface_waits n h.interfaces) (link_waits n h.links)

-- a sequence waits for this
abbrev pub waiting : Option (ℕ × SequenceStep) → Purpose → Host → Host
waiting w p h =
    if is_enumeration p.step then with_interface p.intf (λ x. record x { awaits = w }) h
    else with_link p.intf p.cport (λ l. record l { awaits = w }) h

-- The sequence of a purpose waits for request n.
abbrev pub awaits : Purpose → ℕ → Host → Host
awaits p n h = waiting (Some (n, p.step)) p h

-- The sequence of a purpose waits for nothing.
abbrev pub awaits_nothing : Purpose → Host → Host
awaits_nothing p h = waiting None p h
