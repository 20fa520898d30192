-- What the table of the supervisory controller leaves to connections changes no interface.
use Rattle.std.proofs.Common.{◌≡◌, ℕ, ◌==◌, Bool, true, false, not, ◌||◌, cond, Result, Ok, Err}
use Rattle.std.proofs.Common.{List, [], ◌∷◌, refl, arith}
use Rattle.std.specs.Prelude.{nat_lt, nat_le}
use Rattle.std.proofs.lemmas.Bool.Decides.{nat_tests}
use Rattle.gb_formats.specs.Records.{PayloadFault}
use Rattle.gb_formats.specs.SvcRecords.{SvcAsk, read_svc_ask_of_ap}
use Rattle.gb_machine.specs.Ports.{is_powered, level_of}
use Rattle.gb_machine.specs.State.{Port}
use Rattle.gb_machine.specs.SvcTable.{SvcServed, SvcStep, climbs, creation, destruction}
use Rattle.gb_machine.specs.SvcTable.{device_given, is_no_device, is_route, svc_asked, svc_read}
use Rattle.gb_machine.specs.SvcTable.{svc_refuses, svc_stays, svc_step, unrouting}

-- what is left to connections, at these interfaces
abbrev pub Leaves : List Port → List Port → SvcServed → Type 0
Leaves ports after (SvcServed.Answered result payload) = Unit {0}
Leaves ports after (SvcServed.Create a i c) = after ≡ ports
Leaves ports after (SvcServed.Destroy a i c) = after ≡ ports
Leaves ports after (SvcServed.Unroute i) = (after ≡ ports) × (level_of i ports ≡ 6)

abbrev pub LeavesPorts : List Port → SvcStep → Type 0
LeavesPorts ports step = Leaves ports step.ports step.served

climbing : (ready : Bool) (i level : ℕ) (payload : List ℕ) (ports : List Port)
    → LeavesPorts ports (climbs ready i level payload ports)
climbing true i level payload ports = tt
climbing false i level payload ports = tt

giving : (low none : Bool) (i d : ℕ) (ports : List Port) → (nat_lt (level_of i ports) 4) ≡ low
    → is_no_device i d ports ≡ none
    → LeavesPorts ports (device_given i d ports)
giving true none i d ports l n = rw (l) tt
giving false true i d ports l n = rw (l, n) tt
giving false false i d ports l n = rw (l, n) tt

creating : (i1 c1 i2 c2 : ℕ) (ports : List Port) → LeavesPorts ports (creation i1 c1 i2 c2 ports)
creating i1 c1 i2 c2 ports = by (not (i1 == 1) || nat_lt (level_of i2 ports) 6)
  where
    by : (b : Bool) → LeavesPorts ports
        (cond b (svc_refuses ports 8) (svc_stays ports (SvcServed.Create c1 i2 c2)))
    by true = tt
    by false = refl

destroying : (i1 c1 i2 c2 : ℕ) (ports : List Port)
    → LeavesPorts ports (destruction i1 c1 i2 c2 ports)
destroying i1 c1 i2 c2 ports = by (i1 == 1)
  where
    by : (b : Bool) → LeavesPorts ports
        (cond b (svc_stays ports (SvcServed.Destroy c1 i2 c2)) (svc_refuses ports 8))
    by true = refl
    by false = tt

unroutes_at_6 : (i1 i2 : ℕ) (ports : List Port) → LeavesPorts ports (unrouting i1 i2 ports)
unroutes_at_6 i1 i2 ports = by (not (i1 == 1)) (level_of i2 ports == 6) refl
  where
    by : (other at_6 : Bool) → (level_of i2 ports == 6) ≡ at_6
        → LeavesPorts ports (cond (other || not at_6) (svc_refuses ports 8)
        (svc_stays ports (SvcServed.Unroute i2)))
    by true at_6 e = tt
    by false false e = tt
    by false true e = (refl, grind (arith, nat_tests))

-- by what is asked
by_ask : (ports : List Port) (ask : SvcAsk) → LeavesPorts ports (svc_asked ports ask)
by_ask ports (SvcAsk.VsysEnable i) = climbing (is_powered i ports) i 1 (0 ∷ []) ports
by_ask ports (SvcAsk.RefclkEnable i) = climbing (nat_le 1 (level_of i ports)) i 2 (0 ∷ []) ports
by_ask ports (SvcAsk.UniproEnable i) = climbing (nat_le 2 (level_of i ports)) i 3 (0 ∷ []) ports
by_ask ports (SvcAsk.IntfActivate i) = climbing (nat_le 3 (level_of i ports)) i 4 (0 ∷ 3 ∷ []) ports
by_ask ports (SvcAsk.IntfDeviceId i d) =
    giving (nat_lt (level_of i ports) 4) (is_no_device i d ports) i d ports refl refl
by_ask ports (SvcAsk.RouteCreate i1 d1 i2 d2) = climbing (is_route i1 d1 i2 d2 ports) i2 6 [] ports
by_ask ports (SvcAsk.ConnCreate i1 c1 i2 c2 tc flags) = creating i1 c1 i2 c2 ports
by_ask ports (SvcAsk.ConnDestroy i1 c1 i2 c2) = destroying i1 c1 i2 c2 ports
by_ask ports (SvcAsk.RouteDestroy i1 i2) = unroutes_at_6 i1 i2 ports
by_ask ports SvcAsk.Ping = tt
by_ask ports (SvcAsk.ProtocolVersion major minor) = tt
by_ask ports (SvcAsk.Hello endo intf) = tt
by_ask ports (SvcAsk.ModuleInserted primary count flags) = tt
by_ask ports (SvcAsk.ModuleRemoved primary) = tt

by_read : (ports : List Port) (r : Result SvcAsk PayloadFault)
    → LeavesPorts ports (svc_read ports r)
by_read ports (Ok ask) = by_ask ports ask
by_read ports (Err fault) = tt

-- What connections are to decide leaves the interfaces, and an interface loses its route where it
-- has one.
pub leaves-ports : (ports : List Port) (kind : ℕ) (payload : List ℕ)
    → LeavesPorts ports (svc_step ports kind payload)
leaves-ports ports kind payload = by_read ports (read_svc_ask_of_ap kind payload)
