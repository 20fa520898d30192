-- What the supervisory controller answers to the application processor, as far as power levels and
-- device ids decide it.
use Rattle.std.specs.Prelude.{ℕ, ◌==◌, nat_lt, nat_le, Bool, not, ◌||◌, if◌then◌else◌, Result, Ok}
use Rattle.std.specs.Prelude.{Err, List, [], ◌∷◌}
use Rattle.gb_formats.specs.Records.{PayloadFault}
use Rattle.gb_formats.specs.Results.{fault_result}
use Rattle.gb_formats.specs.SvcRecords.{SvcAsk, read_svc_ask_of_ap}
use Rattle.gb_machine.specs.Host.{is_device}
use Rattle.gb_machine.specs.Ports.{device_of, is_elsewhere, is_powered, level_of, raised}
use Rattle.gb_machine.specs.Ports.{with_device}
use Rattle.gb_machine.specs.Serving.{invalid, nonexistent, protocol_bad, success}
use Rattle.gb_machine.specs.State.{Port}

-- What is answered, or what connections are still to decide: a connection is to be wired, unwired,
-- or an interface loses its route. A connection is given by its CPort of the application processor,
-- and the interface and CPort of the module.
pub data SvcServed : Type 0 where
  Answered : ℕ → List ℕ → SvcServed
  Create : ℕ → ℕ → ℕ → SvcServed
  Destroy : ℕ → ℕ → ℕ → SvcServed
  Unroute : ℕ → SvcServed

-- the interfaces after a request, and what is served
pub record SvcStep : Type 0 where
  pub ports : List Port
  pub served : SvcServed

-- the interfaces stay
abbrev pub svc_stays : List Port → SvcServed → SvcStep
svc_stays ports served = record { ports = ports; served = served }

-- the answer is a result alone, and the interfaces stay
abbrev pub svc_refuses : List Port → ℕ → SvcStep
svc_refuses ports result = svc_stays ports (Answered result [])

-- An interface rises to a power level, where what comes before it is done.
abbrev pub climbs : Bool → ℕ → ℕ → List ℕ → List Port → SvcStep
climbs ready i level payload ports =
    if ready then record { ports = raised i level ports; served = Answered success payload }
    else svc_refuses ports nonexistent

-- A device id can't be had: it isn't a module's, another interface has it, or the
-- interface is routed.
abbrev pub is_no_device : ℕ → ℕ → List Port → Bool
is_no_device i d ports =
    nat_lt d 2 || nat_lt 31 d || is_elsewhere i d ports || level_of i ports == 6

-- An interface gets a device id once it is active.
abbrev pub device_given : ℕ → ℕ → List Port → SvcStep
device_given i d ports =
    if nat_lt (level_of i ports) 4 then svc_refuses ports nonexistent
    else if is_no_device i d ports then svc_refuses ports invalid
    else record { ports = with_device i d ports; served = Answered success [] }

-- A route leads from the application processor to an interface that has this device id.
abbrev pub is_route : ℕ → ℕ → ℕ → ℕ → List Port → Bool
is_route i1 d1 i2 d2 ports =
    not (not (i1 == 1) || not (d1 == 1) || nat_lt (level_of i2 ports) 5
    || not (is_device d2 (device_of i2 ports)))

-- A connection is to be wired where its interface is routed.
abbrev pub creation : ℕ → ℕ → ℕ → ℕ → List Port → SvcStep
creation i1 c1 i2 c2 ports =
    if not (i1 == 1) || nat_lt (level_of i2 ports) 6 then svc_refuses ports nonexistent
    else svc_stays ports (Create c1 i2 c2)

-- A connection is to be unwired.
abbrev pub destruction : ℕ → ℕ → ℕ → ℕ → List Port → SvcStep
destruction i1 c1 i2 c2 ports =
    if i1 == 1 then svc_stays ports (Destroy c1 i2 c2) else svc_refuses ports nonexistent

-- A routed interface is to lose its route.
abbrev pub unrouting : ℕ → ℕ → List Port → SvcStep
unrouting i1 i2 ports =
    if not (i1 == 1) || not (level_of i2 ports == 6) then svc_refuses ports nonexistent
    else svc_stays ports (Unroute i2)

-- what each request does; none of the supervisory controller's own is read
abbrev pub svc_asked : List Port → SvcAsk → SvcStep
svc_asked ports (SvcAsk.VsysEnable i) = climbs (is_powered i ports) i 1 (0 ∷ []) ports
svc_asked ports (SvcAsk.RefclkEnable i) = climbs (nat_le 1 (level_of i ports)) i 2 (0 ∷ []) ports
svc_asked ports (SvcAsk.UniproEnable i) = climbs (nat_le 2 (level_of i ports)) i 3 (0 ∷ []) ports
svc_asked ports (SvcAsk.IntfActivate i) =
    climbs (nat_le 3 (level_of i ports)) i 4 (0 ∷ 3 ∷ []) ports
svc_asked ports (SvcAsk.IntfDeviceId i d) = device_given i d ports
svc_asked ports (SvcAsk.RouteCreate i1 d1 i2 d2) =
    climbs (is_route i1 d1 i2 d2 ports) i2 6 [] ports
svc_asked ports (SvcAsk.ConnCreate i1 c1 i2 c2 tc flags) = creation i1 c1 i2 c2 ports
svc_asked ports (SvcAsk.ConnDestroy i1 c1 i2 c2) = destruction i1 c1 i2 c2 ports
svc_asked ports (SvcAsk.RouteDestroy i1 i2) = unrouting i1 i2 ports
svc_asked ports SvcAsk.Ping = svc_stays ports (Answered success [])
svc_asked ports _ = svc_refuses ports protocol_bad

-- a request by its payload
abbrev pub svc_read : List Port → Result SvcAsk PayloadFault → SvcStep
svc_read ports (Ok ask) = svc_asked ports ask
svc_read ports (Err fault) = svc_refuses ports (fault_result fault)

-- The SVC table, as far as power levels and device ids decide it.
abbrev pub svc_step : List Port → ℕ → List ℕ → SvcStep
svc_step ports kind payload = svc_read ports (read_svc_ask_of_ap kind payload)
