-- The state of the machine.
use Rattle.std.specs.Prelude.{ℕ, Bool, false, Option, List, []}
use Rattle.gb_base.specs.declared.name.Name.{Name}
use Rattle.gb_formats.specs.Module.{Module}
use Rattle.gb_machine.specs.Bus.{Bus, Item, first_bus}
use Rattle.gb_machine.specs.Host.{Host, first_host}

-- A request that was delivered and waits to be answered.
pub record Held : Type 0 where
  pub connection : ℕ
  pub item : Item

-- What the supervisory controller knows of a plugged interface: its power level and device id.
pub record Port : Type 0 where
  pub intf : ℕ
  pub level : ℕ
  pub device : Option ℕ

-- What is plugged at an interface: a part of a module, which has so many interfaces from its
-- primary interface on.
pub record Plugged : Type 0 where
  pub intf : ℕ
  pub primary : ℕ
  pub count : ℕ
  pub body : Module

-- The last request that the firmware device at a module's CPort made. Its download waits for it.
pub record Load : Type 0 where
  pub intf : ℕ
  pub cport : ℕ
  pub request : ℕ

-- The requests of a firmware download at a module's CPort, over one connection.
pub record Trail : Type 0 where
  pub intf : ℕ
  pub cport : ℕ
  pub connection : ℕ
  pub requests : List ℕ

-- What only laws speak of, and no step reads: for which connection each request to create or
-- destroy one was made, which connections were ever wired, on which bytes were injected, which
-- interfaces were pulled, each behind the request that told it, and by which requests firmware
-- devices load images and have loaded those that they keep.
pub record Past : Type 0 where
  pub made_for : List (ℕ × ℕ)
  pub wired : List ℕ
  pub unclean : List ℕ
  pub pulled : List (ℕ × ℕ)
  pub loading : List Trail
  pub loaded : List Trail

-- The state of the machine: the bus, the supervisory controller, the modules, the application
-- processor and the names of its requests.
pub record State : Type 0 where
  pub now : ℕ  -- in milliseconds
  pub booted : Bool
  pub bus : Bus
  pub holds : List ℕ  -- connections with the hold mark
  pub held : List Held  -- in the order in which they were taken
  pub ports : List Port
  pub modules : List Plugged  -- the interfaces rise
  pub loads : List Load  -- of each firmware device that made a request
  pub host : Host
  pub names : List (Name × ℕ)  -- the request that each name names
  pub past : Past

-- Nothing is plugged, and there is the connection of the supervisory controller alone.
abbrev pub first_state : State
first_state = record {
  now = 0;
  booted = false;
  bus = first_bus;
  holds = [];
  held = [];
  ports = [];
  modules = [];
  loads = [];
  host = first_host;
  names = [];
  past = record {
    made_for = [];
    wired = [];
    unclean = [];
    pulled = [];
    loading = [];
    loaded = [];
  };
}
