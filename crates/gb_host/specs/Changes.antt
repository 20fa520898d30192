-- What changes of interfaces and connections.
use Rattle.std.specs.Prelude.{◌≡◌, ℕ, ◌-◌, true, Option, Some, None, List, [], ◌∷◌, ◌++◌}
use Rattle.gb_base.specs.declared.interface.Interface.{Interface}
use Rattle.gb_base.specs.declared.interface.Link.{Link}
use Rattle.gb_base.specs.declared.steps.SequenceStep.{SequenceStep}
use Rattle.gb_host.specs.LinkList.{LinkList}
use Rattle.gb_host.specs.declared.interfaces.Change.{Change}
use Rattle.gb_host.specs.declared.interfaces.Change.TheVariants as change
use Rattle.gb_host.specs.declared.links.LinkChange.{LinkChange}
use Rattle.gb_host.specs.declared.links.LinkChange.TheVariants as link
use Rattle.gb_machine.specs.Host.{in_state, intf_before, new_interface}
use Rattle.gb_machine.specs.HostServing.{with_credits}
use Rattle.gb_machine.specs.Lists.{in_order}

-- these interfaces of a module more, whose enumerations begin
abbrev pub with_module : ℕ → List ℕ → List Interface → List Interface
with_module p [] xs = xs
with_module p (i ∷ is) xs = with_module p is (in_order intf_before (new_interface p i) xs)

-- an interface is to have a device id, or none
abbrev pub with_device : Option ℕ → Interface → Interface
with_device d x = record x { device = d }

-- an interface with a change
abbrev pub changed : Change → Interface → Interface
changed (change.Device d) x = record x { device = d }
changed (change.HasDevice b) x = record x { has_device = b }
changed (change.Size n) x = record x { size = n }

-- an enumeration waits for this
abbrev pub interface_awaits : Option (ℕ × SequenceStep) → Interface → Interface
interface_awaits w x = record x { awaits = w }

-- a connect or close waits for this
abbrev pub link_awaits : Option (ℕ × SequenceStep) → Link → Link
link_awaits w l = record l { awaits = w }

-- a connection has so many credits fewer, or none
abbrev pub with_fewer : ℕ → Link → Link
with_fewer taken l = record l { credits = l.credits - taken }

-- a connection with a change
abbrev pub link_changed : LinkChange → Link → Link
link_changed (link.State to) l = in_state to l
link_changed (link.Credits total) l = with_credits total l
link_changed (link.Fewer taken) l = with_fewer taken l
link_changed (link.Awaits w) l = link_awaits w l

-- a connection is taken from where it stands
pub record IsTaken (l : Link) (old new : List Link) : Type 0 where
  pub front : List Link
  pub behind : List Link
  pub old_is : old ≡ front ++ l ∷ behind
  pub new_is : new ≡ front ++ behind

-- a connection is taken, or all stay where there is none
abbrev pub Takes : Option Link → List Link → List Link → Type 0
Takes None old new = new ≡ old
Takes (Some l) old new = IsTaken l old new

-- there are no connections
abbrev pub is_empty : LinkList → Type 0
is_empty x = x.items ≡ []

-- a connection more takes no memory
abbrev pub HasRoom : LinkList → Type 0
HasRoom x = x.room ≡ true
