-- What the supervisory controller's table does leaves interfaces powered as they were, and a
-- connection
-- is wired only where its interface is powered.
use Rattle.std.proofs.Common.{Bool, List, None, Option, Some, ap, cond, false, refl, sym, true, ℕ}
use Rattle.std.proofs.Common.{[], ◌∙◌, ◌∷◌, ◌≡◌}
use Rattle.std.specs.Prelude.{Err, Ok, Result, is_some, nat_le, nat_lt, not, ◌==◌, ◌||◌}
use Rattle.gb_formats.specs.{Records.PayloadFault, SvcRecords.SvcAsk, SvcRecords.read_svc_ask_of_ap}
use Rattle.gb_machine.specs.Ports.{is_powered, level_in, level_of, port_of, raised, with_port}
use Rattle.gb_machine.specs.SvcTable.{Create, SvcServed, SvcStep}
use Rattle.gb_machine.specs.SvcTable.{climbs, device_given, is_no_device, is_route, svc_asked}
use Rattle.gb_machine.specs.SvcTable.{svc_read, svc_refuses, svc_step}
use Rattle.gb_machine.specs.State.{Port}
use Rattle.gb_invariants.proofs.Awaiting.{not-both}

-- an interface whose port changes is powered as it was
pub port-powered : (j i : ℕ) (f : Port → Port) (ports : List Port)
    → ((p : Port) → (f p).intf ≡ p.intf)
    → is_powered j (with_port i f ports) ≡ true → is_powered j ports ≡ true
port-powered j i f [] same e = e
port-powered j i f (p ∷ ps) same e = by (p.intf == i) e (port-powered j i f ps same)
  where
    changed : (t : Bool) → is_some (cond t (Some (f p)) (port_of j ps)) ≡ true
        → is_some (cond t (Some p) (port_of j ps)) ≡ true
    changed true h = refl
    changed false h = h

    behind : (t : Bool) → is_some (cond t (Some p) (port_of j (with_port i f ps))) ≡ true
        → (is_powered j (with_port i f ps) ≡ true → is_powered j ps ≡ true)
        → is_some (cond t (Some p) (port_of j ps)) ≡ true
    behind true h rec = refl
    behind false h rec = rec h

    by : (t : Bool) → is_powered j (cond t (f p ∷ ps) (p ∷ with_port i f ps)) ≡ true
        → (is_powered j (with_port i f ps) ≡ true → is_powered j ps ≡ true)
        → is_powered j (p ∷ ps) ≡ true
    by true h rec = changed (p.intf == j)
        (ap (λ n. is_some (cond (n == j) (Some (f p)) (port_of j ps))) (sym (same p)) ∙ h)
    by false h rec = behind (p.intf == j) h rec

-- a connection that is to be wired is of an interface that is powered and has its route
abbrev pub IsRouted : ℕ → List Port → Type 0
IsRouted i ports = (is_powered i ports ≡ true) × (nat_lt (level_of i ports) 6 ≡ false)

abbrev pub IsReady : SvcServed → List Port → Type 0
IsReady (Create a i c) ports = IsRouted i ports
IsReady _ ports = Unit {0}

-- both
record Keeps (ports : List Port) (step : SvcStep) : Type 0 where
  powered : (j : ℕ) → is_powered j step.ports ≡ true → is_powered j ports ≡ true
  ready : IsReady step.served ports

refused : (ports : List Port) (result : ℕ) → Keeps ports (svc_refuses ports result)
refused ports result = record { powered = λ j e. e; ready = tt }

keeps-if : {ports : List Port} (t : Bool) (x y : SvcStep) → (t ≡ true → Keeps ports x)
    → (t ≡ false → Keeps ports y) → Keeps ports (cond t x y)
keeps-if true x y p q = p refl
keeps-if false x y p q = q refl

raised-powered : (ports : List Port) (i level j : ℕ) → is_powered j (raised i level ports) ≡ true
    → is_powered j ports ≡ true
raised-powered ports i level j e = port-powered j i
    (λ p. cond (nat_lt p.level level) (record p { level = level }) p) ports
    (λ p. same p (nat_lt p.level level)) e
  where
    same : (p : Port) (t : Bool) → (cond t (record p { level = level }) p).intf ≡ p.intf
    same p true = refl
    same p false = refl

keeps-climbs : {ports : List Port} (ready : Bool) (i level : ℕ) (payload : List ℕ)
    → Keeps ports (climbs ready i level payload ports)
keeps-climbs {ports} ready i level payload =
    keeps-if ready _ (svc_refuses ports _)
    (λ e. record { powered = raised-powered ports i level; ready = tt }) (λ e. refused ports _)

keeps-device : (ports : List Port) (i d : ℕ) → Keeps ports (device_given i d ports)
keeps-device ports i d =
    keeps-if (nat_lt (level_of i ports) 4) (svc_refuses ports _) _ (λ e. refused ports _) (λ e.
    keeps-if (is_no_device i d ports) (svc_refuses ports _) _ (λ f. refused ports _) (λ f. record {
      powered = λ j g. port-powered j i (λ p. record p { level = 5; device = Some d })
          ports (λ p. refl) g;
      ready = tt;
    }))

-- an interface of level 6 is powered
routed-powered : (ports : List Port) (t : Bool) (i : ℕ)
    → (t || nat_lt (level_of i ports) 6) ≡ false → IsRouted i ports
routed-powered ports true i e = absurd cc
routed-powered ports false i e = (by (port_of i ports) e, e)
  where
    by : (o : Option Port) → nat_lt (level_in o) 6 ≡ false → is_some o ≡ true
    by None f = absurd (not-both (nat_lt 0 6) refl f)
    by (Some p) f = refl

keeps-asked : (ports : List Port) (ask : SvcAsk) → Keeps ports (svc_asked ports ask)
keeps-asked ports (SvcAsk.VsysEnable i) = keeps-climbs (is_powered i ports) i 1 (0 ∷ [])
keeps-asked ports (SvcAsk.RefclkEnable i) =
    keeps-climbs (nat_le 1 (level_of i ports)) i 2 (0 ∷ [])
keeps-asked ports (SvcAsk.UniproEnable i) =
    keeps-climbs (nat_le 2 (level_of i ports)) i 3 (0 ∷ [])
keeps-asked ports (SvcAsk.IntfActivate i) =
    keeps-climbs (nat_le 3 (level_of i ports)) i 4 (0 ∷ 3 ∷ [])
keeps-asked ports (SvcAsk.IntfDeviceId i d) = keeps-device ports i d
keeps-asked ports (SvcAsk.RouteCreate i1 d1 i2 d2) =
    keeps-climbs (is_route i1 d1 i2 d2 ports) i2 6 []
keeps-asked ports (SvcAsk.ConnCreate i1 c1 i2 c2 tc flags) =
    keeps-if (not (i1 == 1) || nat_lt (level_of i2 ports) 6) (svc_refuses ports _) _
    (λ e. refused ports _)
    (λ e. record { powered = λ j f. f; ready = routed-powered ports (not (i1 == 1)) i2 e })
keeps-asked ports (SvcAsk.ConnDestroy i1 c1 i2 c2) =
    keeps-if (i1 == 1) _ (svc_refuses ports _)
    (λ e. record { powered = λ j f. f; ready = tt }) (λ e. refused ports _)
keeps-asked ports (SvcAsk.RouteDestroy i1 i2) =
    keeps-if (not (i1 == 1) || not (level_of i2 ports == 6)) (svc_refuses ports _) _
    (λ e. refused ports _) (λ e. record { powered = λ j f. f; ready = tt })
keeps-asked ports SvcAsk.Ping = record { powered = λ j f. f; ready = tt }
keeps-asked ports _ = refused ports _

keeps-read : (ports : List Port) (r : Result SvcAsk PayloadFault) → Keeps ports (svc_read ports r)
keeps-read ports (Ok ask) = keeps-asked ports ask
keeps-read ports (Err fault) = refused ports _

keeps-step : (ports : List Port) (kind : ℕ) (payload : List ℕ)
    → Keeps ports (svc_step ports kind payload)
keeps-step ports kind payload = keeps-read ports (read_svc_ask_of_ap kind payload)

pub step-powered : (ports : List Port) (kind : ℕ) (payload : List ℕ) (j : ℕ)
    → is_powered j (svc_step ports kind payload).ports ≡ true → is_powered j ports ≡ true
step-powered ports kind payload = (keeps-step ports kind payload).powered

pub step-ready : (ports : List Port) (kind : ℕ) (payload : List ℕ)
    → IsReady (svc_step ports kind payload).served ports
step-ready ports kind payload = (keeps-step ports kind payload).ready
