-- What one CPort does is what the module does.
use Rattle.std.proofs.Common.{◌≡◌, ℕ, Bool, true, false, cond, Option, Some, None, option_map}
use Rattle.std.proofs.Common.{Result, Ok, Err, List, set, refl, sym, ap, ◌∙◌, subst}
use Rattle.std.specs.List.{find}
use Rattle.gb_base.specs.declared.errors.OutOfMemory.{OutOfMemory}
use Rattle.gb_base.specs.declared.served.OwnAsk.{OwnAsk}
use Rattle.gb_base.specs.declared.served.Served.{Served}
use Rattle.gb_bridge_payload.specs.Serving.{ServesAs}
use Rattle.gb_formats.specs.ControlResponder.{turn_step}
use Rattle.gb_formats.specs.Devices.{Device, device_stir}
use Rattle.gb_formats.specs.Devices as devices
use Rattle.gb_formats.specs.Module.{Module, ModulePort, if_on, is_port, with_port}
use Rattle.gb_formats.specs.ModuleSteps.{port_served, port_stirred}
use Rattle.gb_formats.specs.ModuleSteps as steps
use Rattle.gb_formats.specs.Results.{Step, Stirred, invalid, refusal_of, success}
use Rattle.gb_module.specs.Steps.{port_step, port_stir, with_ports}
use Rattle.gb_module.specs.Stirring.{StirsAs}
use Rattle.gb_module.specs.Turning.{changes, wants}
use Rattle.gb_module.specs.declared.stir.StirFault.{StirFault}
use Rattle.gb_module.specs.declared.stir.StirFault.TheVariants as fault
use Rattle.gb_module.specs.declared.turn.Turn.{Turn}
use Rattle.gb_module.specs.declared.turn.Turn.TheVariants as turn
use Rattle.gb_module.proofs.Standing.{Found}

-- the number of a CPort
abbrev pub number_of : ModulePort → ℕ
number_of port = port.number

-- ---- requests

-- a CPort keeps its number
pub serves-number : (x y : ModulePort) (kind : ℕ) (payload : List ℕ)
    (r : Result Served OutOfMemory) → ServesAs (port_step x kind payload) x y r
    → y.number ≡ x.number
serves-number x y kind payload (Ok served) h = ap number_of h.1
serves-number x y kind payload (Err refused) h = ap number_of h

pub serves-at : {number : ℕ} {ports items : List ModulePort} {i : ℕ} {x : ModulePort}
    (y : ModulePort) (kind : ℕ) (payload manifest : List ℕ) (r : Result Served OutOfMemory)
    → Found number ports items i x → ServesAs (port_step x kind payload) x y r
    → ServesAs (port_served (with_ports manifest ports) (find (is_port number) ports) kind payload)
    (with_ports manifest ports) (with_ports manifest (set items i y)) r
serves-at {number} {ports} {items} {i} {x} y kind payload manifest (Ok served) f h =
    subst (λ (o : Option ModulePort).
    ServesAs (port_served (with_ports manifest ports) o kind payload)
    (with_ports manifest ports) (with_ports manifest (set items i y)) (Ok served)) (sym f.found) (
      h.0,
      ap (λ (p : ModulePort). with_ports manifest (set items i p)) h.1
          ∙ ap (with_ports manifest) (sym (f.changed (port_step x kind payload).after f.named)),
    )
serves-at {number} {ports} {items} {i} {x} y kind payload manifest (Err refused) f h =
    ap (λ (p : ModulePort). with_ports manifest (set items i p)) h
    ∙ ap (with_ports manifest) f.same

-- ---- the states of CPorts

-- a CPort keeps its number
pub changes-number : (t : Turn) (x : ModulePort) → (changes t x).number ≡ x.number
changes-number turn.Connected x = refl
changes-number turn.Disconnecting x = refl
changes-number turn.Disconnected x = refl

pub turns-number : (t : Turn) (x y : ModulePort)
    → y ≡ cond (wants t x.state) (changes t x) x → y.number ≡ x.number
turns-number t x y h = ap number_of h ∙ by (wants t x.state)
  where
    by : (b : Bool) → (cond b (changes t x) x).number ≡ x.number
    by true = changes-number t x
    by false = refl

-- a module that has answered a result
abbrev pub coded : List ℕ → ℕ → List ModulePort → Step Module
coded manifest code ports =
    record { after = with_ports manifest ports; served = refusal_of code }

pub turns-at : {number : ℕ} {ports items : List ModulePort} {i : ℕ} {x : ModulePort}
    (y : ModulePort) (t : Turn) (manifest : List ℕ) (code : ℕ) → Found number ports items i x
    → code ≡ cond (wants t x.state) success invalid → y ≡ cond (wants t x.state) (changes t x) x
    → turn_step (with_ports manifest ports) (find (is_port number) ports) (wants t) (changes t)
    ≡ coded manifest code (set items i y)
turns-at {number} {ports} {items} {i} {x} y t manifest code f is h =
    ap (λ (o : Option ModulePort). turn_step (with_ports manifest ports) o (wants t) (changes t))
    f.found
    ∙ by (wants t x.state)
    ∙ sym (ap (λ (p : ModulePort). coded manifest code (set items i p)) h
    ∙ ap (λ (n : ℕ). coded manifest n (set items i (cond (wants t x.state) (changes t x) x))) is)
  where
    by : (b : Bool)
        → cond b (coded manifest success (with_port (changes t x) ports))
        (coded manifest invalid ports)
        ≡ coded manifest (cond b success invalid) (set items i (cond b (changes t x) x))
    by true =
        ap (coded manifest success) (f.changed (changes t x) (changes-number t x ∙ f.named))
    by false = ap (coded manifest invalid) (sym f.same)

-- ---- stirs from outside

-- a CPort keeps its number
pub stirs-number : (x y : ModulePort) (o : Option (Stirred Device))
    (r : Result (List OwnAsk) StirFault) → StirsAs (port_stir x o) x y r → y.number ≡ x.number
stirs-number x y None (Ok asks) h = absurd cc
stirs-number x y (Some stirred) (Ok asks) h =
    sym (ap (λ (t : Option (Stirred ModulePort)). number_in x t) h)
  where
    number_in : ModulePort → Option (Stirred ModulePort) → ℕ
    number_in p None = p.number
    number_in p (Some t) = t.after.number
stirs-number x y o (Err fault.NoCport) h = ap number_of h.1
stirs-number x y o (Err (fault.Memory refused)) h = ap number_of h.1

-- a module after a CPort of it was stirred
abbrev pub module_in : List ℕ → List ModulePort → ℕ → Stirred ModulePort → Stirred Module
module_in manifest items i t =
    record { after = with_ports manifest (set items i t.after); asks = t.asks }

stirs-found : (number : ℕ) (ports items : List ModulePort) (i : ℕ) (x y : ModulePort)
    (manifest : List ℕ) (o : Option (Stirred Device)) (r : Result (List OwnAsk) StirFault)
    → Found number ports items i x → StirsAs (port_stir x o) x y r
    → StirsAs (steps.port_stir (with_ports manifest ports) x o)
    (with_ports manifest ports) (with_ports manifest (set items i y)) r
stirs-found number ports items i x y manifest None (Ok asks) f h = absurd cc
stirs-found number ports items i x y manifest (Some stirred) (Ok asks) f h =
    ap (λ (ps : List ModulePort). Some (record {
      after = with_ports manifest ps;
      asks = if_on x.state stirred.asks;
    })) (f.changed (record x { device = stirred.after }) f.named)
    ∙ ap (option_map (module_in manifest items i)) h
stirs-found number ports items i x y manifest None (Err fault.NoCport) f h =
    (refl, kept)
  where
    kept : with_ports manifest (set items i y) ≡ with_ports manifest ports
    kept = ap (λ (p : ModulePort). with_ports manifest (set items i p)) h.1
        ∙ ap (with_ports manifest) f.same
stirs-found number ports items i x y manifest (Some stirred) (Err fault.NoCport) f h = absurd cc
stirs-found number ports items i x y manifest None (Err (fault.Memory refused)) f h =
    let none : false ≡ true = h.0 in absurd cc
stirs-found number ports items i x y manifest (Some stirred) (Err (fault.Memory refused)) f h =
    (refl, kept)
  where
    kept : with_ports manifest (set items i y) ≡ with_ports manifest ports
    kept = ap (λ (p : ModulePort). with_ports manifest (set items i p)) h.1
        ∙ ap (with_ports manifest) f.same

pub stirs-at : {number : ℕ} {ports items : List ModulePort} {i : ℕ} {x : ModulePort}
    (y : ModulePort) (what : devices.Stir) (manifest : List ℕ) (r : Result (List OwnAsk) StirFault)
    → Found number ports items i x → StirsAs (port_stir x (device_stir x.device what)) x y r
    → StirsAs (port_stirred (with_ports manifest ports) (find (is_port number) ports) what)
    (with_ports manifest ports) (with_ports manifest (set items i y)) r
stirs-at {number} {ports} {items} {i} {x} y what manifest r f h =
    subst (λ (o : Option ModulePort). StirsAs (port_stirred (with_ports manifest ports) o what)
    (with_ports manifest ports) (with_ports manifest (set items i y)) r) (sym f.found)
    (stirs-found number ports items i x y manifest (device_stir x.device what) r f h)
