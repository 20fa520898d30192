-- What the value of an application processor stands for.
use Rattle.std.specs.Prelude.{◌≡◌, ℕ, Some, None, if◌then◌else◌}
use Rattle.gb_base.specs.declared.interface.Interface.{Interface}
use Rattle.gb_host.specs.Changes.{HasRoom}
use Rattle.gb_host.specs.declared.host.Host.{Host}
use Rattle.gb_host.specs.declared.host.IntfView.{IntfView}
use Rattle.gb_machine.specs.Host as machine

-- the machine's application processor with the same interfaces, connections and images
abbrev pub host_of : Host → machine.Host
host_of x = record { interfaces = x.interfaces; links = x.links.items; images = x.images }

-- The value stands for this application processor: interfaces, connections and images are
-- the same.
abbrev pub Stands : Host → machine.Host → Type 0
Stands x h = h ≡ host_of x

-- Nothing has changed: it stands for the same, and the same connection is pending.
abbrev pub IsUnchanged : Host → Host → Type 0
IsUnchanged old new = (host_of new ≡ host_of old) × (new.pending ≡ old.pending)

-- what is told of an interface
abbrev pub view_of : Interface → IntfView
view_of x = record { stage = x.stage; device = if x.has_device then x.device else None }

-- A connection is to be made with this CPort of the application processor and this protocol, and
-- there is room for it.
pub record IsPending (ap protocol : ℕ) (x : Host) : Type 0 where
  pub pending : x.pending ≡ Some (record { ap = ap; protocol = protocol })
  pub room : HasRoom x.links
