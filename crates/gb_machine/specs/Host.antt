-- The application processor: what it knows of interfaces and of its connections to modules, and its
-- firmware images.
use Rattle.std.specs.Prelude.{ℕ, ◌==◌, nat_lt, Bool, true, false, ◌&&◌, if◌then◌else◌, Option, Some}
use Rattle.std.specs.Prelude.{None, option_map, option_and_then, Result, Ok, Err, List, [], ◌∷◌}
use Rattle.std.specs.Prelude.{◌++◌, find, map}
use Rattle.std.specs.List.{filter, list_any}
use Rattle.gb_base.specs.declared.interface.Interface.{Interface}
use Rattle.gb_base.specs.declared.interface.Link.{Link}
use Rattle.gb_base.specs.declared.entry.ConnState.{ConnState}
use Rattle.gb_base.specs.declared.entry.ConnState.TheVariants as state
use Rattle.gb_base.specs.declared.entry.IntfStage.{IntfStage}
use Rattle.gb_base.specs.declared.entry.IntfStage.TheVariants as stage
use Rattle.gb_formats.specs.Images.{Images, forgotten, no_images, with_image}
use Rattle.gb_formats.specs.Manifest.{CportView, Manifest, check_answer, cport}
use Rattle.gb_formats.specs.ManifestRules.{Refused}
use Rattle.gb_formats.specs.UartDevice.{most_credits}
use Rattle.gb_machine.specs.Lists.{at_first, first_free, in_order, without}

-- The application processor. The interfaces rise, and so do the connections' numbers.
pub record Host : Type 0 where
  pub interfaces : List Interface
  pub links : List Link
  pub images : Images

-- nothing was inserted, and no image was given
abbrev pub first_host : Host
first_host = record { interfaces = []; links = []; images = no_images }

-- ---- interfaces

-- what is known is of this interface
abbrev pub is_intf : ℕ → Interface → Bool
is_intf i x = x.intf == i

-- What is known of an interface, None where it is absent.
abbrev pub interface_of : ℕ → Host → Option Interface
interface_of i h = find (is_intf i) h.interfaces

-- the host with one interface changed
abbrev pub with_interface : ℕ → (Interface → Interface) → Host → Host
with_interface i change h =
    record h { interfaces = at_first (is_intf i) change h.interfaces }

-- an interface of this module
abbrev pub has_primary : ℕ → Interface → Bool
has_primary p x = x.primary == p

-- The interfaces of a module, by its primary interface, rising.
abbrev pub interfaces_of : ℕ → Host → List ℕ
interfaces_of p h = map (λ x. x.intf) (filter (has_primary p) h.interfaces)

-- an interface of a module, whose enumeration begins
abbrev pub new_interface : ℕ → ℕ → Interface
new_interface p i = record {
  intf = i;
  primary = p;
  stage = stage.Enumerating;
  device = None;
  has_device = false;
  size = 0;
  manifest = [];
  awaits = None;
}

-- the order of interfaces
abbrev pub intf_before : Interface → Interface → Bool
intf_before x y = nat_lt x.intf y.intf

-- the host with an interface more
abbrev pub with_new_interface : ℕ → ℕ → Host → Host
with_new_interface p i h =
    record h { interfaces = in_order intf_before (new_interface p i) h.interfaces }

-- An interface has a stage from now on.
abbrev pub staged : IntfStage → Interface → Interface
staged to x = record x { stage = to }

-- a device id is this one
abbrev pub is_device : ℕ → Option ℕ → Bool
is_device d None = false
is_device d (Some e) = e == d

-- an interface is to have a device id
abbrev pub has_device_id : ℕ → Interface → Bool
has_device_id d x = is_device d x.device

-- The least device id from 2 to 31 that no interface has.
abbrev pub free_device : Host → Option ℕ
free_device h = first_free (λ d. list_any (has_device_id d) h.interfaces) 30 2

-- ---- connections

-- a connection is to this CPort of this interface
abbrev pub is_link : ℕ → ℕ → Link → Bool
is_link i c l = l.intf == i && l.cport == c

-- The live connection to a CPort of an interface.
abbrev pub link_at : ℕ → ℕ → Host → Option Link
link_at i c h = find (is_link i c) h.links

-- The live connection to a module that has a number. That of the supervisory controller isn't one.
abbrev pub link_of : ℕ → Host → Option Link
link_of k h = find (λ l. l.connection == k) h.links

-- the host with one connection changed
abbrev pub with_link : ℕ → ℕ → (Link → Link) → Host → Host
with_link i c change h = record h { links = at_first (is_link i c) change h.links }

-- A connection has a state from now on.
abbrev pub in_state : ConnState → Link → Link
in_state to l = record l { state = to }

-- a connection closes once the requests on it have ended
abbrev pub is_draining : ConnState → Bool
is_draining state.Draining = true
is_draining _ = false

-- the connection to the Control CPort of an interface
abbrev pub control_of : ℕ → Host → Option ℕ
control_of i h = option_map (λ l. l.connection) (link_at i 0 h)

-- The least CPort of the application processor from 1 to 4,095 that no connection has.
abbrev pub free_cport : Host → Option ℕ
free_cport h = first_free (λ a. list_any (λ l. l.ap == a) h.links) 4095 1

-- The host with a connection more, which is opening.
abbrev pub with_new_link : ℕ → ℕ → ℕ → ℕ → ℕ → Host → Host
with_new_link k ap i c protocol h = record h {
  links = h.links ++ record {
    connection = k;
    ap = ap;
    intf = i;
    cport = c;
    protocol = protocol;
    state = state.Opening;
    credits = most_credits;
    awaits = None;
  } ∷ [];
}

-- the host without the connection to a CPort of an interface
abbrev pub without_link : ℕ → ℕ → Host → Host
without_link i c h = record h { links = without (is_link i c) h.links }

-- ---- images

-- The application processor is given an image under a tag.
abbrev pub with_given : List ℕ → List ℕ → Host → Host
with_given tag bytes h = record h { images = with_image tag bytes h.images }

-- The ids of a connection are free.
abbrev pub with_freed : ℕ → Host → Host
with_freed k h = record h { images = forgotten k h.images }

-- the ids of connections are free
abbrev pub all_forgotten : List Link → Images → Images
all_forgotten [] x = x
all_forgotten (l ∷ ls) x = all_forgotten ls (forgotten l.connection x)

-- ---- manifests

-- a CPort of a manifest that is accepted
abbrev pub cport_in : ℕ → Result Manifest Refused → Option CportView
cport_in c (Ok m) = cport m c
cport_in c (Err why) = None

-- a CPort outside bundle 0
abbrev pub outside_control : CportView → Option CportView
outside_control view = if view.bundle == 0 then None else Some view

-- The CPort of an interface, outside bundle 0, that its manifest declares.
abbrev pub cport_of : ℕ → Interface → Option CportView
cport_of c x = option_and_then outside_control (cport_in c (check_answer x.manifest))
