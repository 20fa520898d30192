-- How the loaders of a module's firmware devices stay where it serves and is stirred.
use Rattle.std.proofs.Common.{Bool, List, None, Option, Some, ap, cond, false, inl, inr, refl}
use Rattle.std.proofs.Common.{subst, sym, true, ℕ, ⊎_elim, [], ◌∙◌, ◌∷◌, ◌≡◌, ◌⊎◌}
use Rattle.std.specs.List.{find}
use Rattle.std.specs.Prelude.{Err, Ok, Result, ◌==◌}
use Rattle.gb_base.specs.declared.served.OwnAsk.{OwnAsk}
use Rattle.gb_formats.specs.ControlRecords.{ControlAsk, read_control_ask}
use Rattle.gb_formats.specs.ControlResponder.{control_asked, control_read, is_off, is_quiet}
use Rattle.gb_formats.specs.ControlResponder.{made_quiet, turn_step, turned_off, turned_on}
use Rattle.gb_formats.specs.Devices.{Device, Stir, device_step, device_stir}
use Rattle.gb_formats.specs.Devices as devices
use Rattle.gb_formats.specs.Loader.{Loader}
use Rattle.gb_formats.specs.Module.{CportState, Module, ModulePort, if_on, is_on, is_port, port_at}
use Rattle.gb_formats.specs.Module.{with_changed, with_port}
use Rattle.gb_formats.specs.ModuleLoads.{loader_at, loader_of, port_loader}
use Rattle.gb_formats.specs.ModuleSteps.{module_serve, module_stir, port_served, port_stir}
use Rattle.gb_formats.specs.ModuleSteps.{port_stirred}
use Rattle.gb_formats.specs.Records.{PayloadFault}
use Rattle.gb_formats.specs.Results.{Step, Stirred}
use Rattle.gb_invariants.proofs.Awaiting.{same-some}
use Rattle.gb_invariants.proofs.Lists.{found-in}
use Rattle.gb_invariants.proofs.Outcomes.{is-same, same-number}
use Rattle.gb_laws.proofs.points.Points.{StaysOrFails}

-- ---- a CPort changes

-- it is found with its number
port-there : (ps : List ModulePort) (new old : ModulePort)
    → find (is_port new.number) ps ≡ Some old
    → find (is_port new.number) (with_port new ps) ≡ Some new
port-there [] new old e = absurd cc
port-there (p ∷ ps) new old e = by (p.number == new.number) refl e (port-there ps new old)
  where
    by : (t : Bool) → (p.number == new.number) ≡ t
        → cond t (Some p) (find (is_port new.number) ps) ≡ Some old
        → (find (is_port new.number) ps ≡ Some old
        → find (is_port new.number) (with_port new ps) ≡ Some new)
        → find (is_port new.number) (cond t (new ∷ ps) (p ∷ with_port new ps)) ≡ Some new
    by true f e rec =
        ap (λ t. cond t (Some new) (find (is_port new.number) ps)) (is-same new.number)
    by false f e rec =
        ap (λ t. cond t (Some p) (find (is_port new.number) (with_port new ps))) f ∙ rec e

-- and others stay
port-other : (ps : List ModulePort) (new : ModulePort) (c : ℕ) → (new.number == c) ≡ false
    → find (is_port c) (with_port new ps) ≡ find (is_port c) ps
port-other [] new c other = refl
port-other (p ∷ ps) new c other = by (p.number == new.number) refl (port-other ps new c other)
  where
    by : (t : Bool) → (p.number == new.number) ≡ t
        → find (is_port c) (with_port new ps) ≡ find (is_port c) ps
        → find (is_port c) (cond t (new ∷ ps) (p ∷ with_port new ps)) ≡ find (is_port c) (p ∷ ps)
    by true f rec =
        ap (λ t. cond t (Some new) (find (is_port c) ps)) other
        ∙ sym (ap (λ t. cond t (Some p) (find (is_port c) ps))
        (ap (λ n. n == c) (same-number p.number new.number f) ∙ other))
    by false f rec = ap (λ o. cond (p.number == c) (Some p) o) rec

-- a CPort is found by its own number
pub own-number : (x : Module) (c : ℕ) (port : ModulePort) → port_at x c ≡ Some port
    → port.number ≡ c
own-number x c port there = same-number port.number c (found-in (is_port c) x.ports port there).1

pub own-port : (x : Module) (c : ℕ) (port : ModulePort) → port_at x c ≡ Some port
    → port_at x port.number ≡ Some port
own-port x c port there = ap (port_at x) (own-number x c port there) ∙ there

-- what is at a CPort that changed
pub port-changed : (x : Module) (new old : ModulePort) → port_at x new.number ≡ Some old
    → port_at (with_changed x new) new.number ≡ Some new
port-changed x new old there = port-there x.ports new old there

-- the loader where a CPort changed, and elsewhere
pub loader-there : (x : Module) (new old : ModulePort) → port_at x new.number ≡ Some old
    → loader_at (with_changed x new) new.number ≡ loader_of new.device
loader-there x new old there = ap port_loader (port-there x.ports new old there)

pub loader-else : (x : Module) (new : ModulePort) (c : ℕ) → (new.number == c) ≡ false
    → loader_at (with_changed x new) c ≡ loader_at x c
loader-else x new c other = ap port_loader (port-other x.ports new c other)

-- ---- the loaders of a module stay

-- each loader of a module stays, is gone, is first, or its download failed
abbrev pub KeepsEach : Module → Module → Type 0
KeepsEach x y = (c : ℕ) → StaysOrFails (loader_at x c) (loader_at y c)

pub keeps-self : (x : Module) → KeepsEach x x
keeps-self x c = inl refl

-- so they do where it is said of one CPort, and others stay
pub keeps-one : (x y : Module) (c : ℕ) → StaysOrFails (loader_at x c) (loader_at y c)
    → ((d : ℕ) → (c == d) ≡ false → loader_at y d ≡ loader_at x d) → KeepsEach x y
keeps-one x y c here else d = by (c == d) refl
  where
    by : (t : Bool) → (c == d) ≡ t → StaysOrFails (loader_at x d) (loader_at y d)
    by true e = subst (λ n. StaysOrFails (loader_at x n) (loader_at y n)) (same-number c d e) here
    by false e = inl (else d e)

-- where a CPort changes
pub keeps-changed : (x : Module) (new old : ModulePort) → port_at x new.number ≡ Some old
    → StaysOrFails (loader_of old.device) (loader_of new.device)
    → KeepsEach x (with_changed x new)
keeps-changed x new old there keeps = keeps-one x (with_changed x new) new.number
    (subst (λ o. StaysOrFails (port_loader o) (loader_at (with_changed x new) new.number))
    (sym there) (subst (StaysOrFails (loader_of old.device)) (sym (loader-there x new old there))
    keeps)) (λ d. loader-else x new d)

-- ---- what a module serves

turn-keeps : (x : Module) (c : ℕ) (o : Option ModulePort) (wanted : CportState → Bool)
    (change : ModulePort → ModulePort) → port_at x c ≡ o
    → ((p : ModulePort) → (change p).number ≡ p.number)
    → ((p : ModulePort) → StaysOrFails (loader_of p.device) (loader_of (change p).device))
    → KeepsEach x (turn_step x o wanted change).after
turn-keeps x c None wanted change there number keeps = keeps-self x
turn-keeps x c (Some p) wanted change there number keeps = by (wanted p.state)
  where
    by : (t : Bool) → KeepsEach x (cond t (turn_step x (Some p) (λ s. true) change)
        (turn_step x (Some p) (λ s. false) change)).after
    by true = keeps-changed x (change p) p (ap (port_at x) (number p) ∙ own-port x c p there)
        (keeps p)
    by false = keeps-self x

restarted : (d : Device) → StaysOrFails (loader_of d) (loader_of (devices.restarted_device d))
restarted (devices.Gpio lines) = inl refl
restarted (devices.I2c device) = inl refl
restarted (devices.Spi last) = inl refl
restarted devices.Uart = inl refl
restarted devices.Loopback = inl refl
restarted (devices.Firmware loader) = inr (inr (inl refl))

control-keeps : (x : Module) (ask : ControlAsk) → KeepsEach x (control_asked x ask).after
control-keeps x (ControlAsk.Version major minor) = keeps-self x
control-keeps x ControlAsk.GetManifestSize = keeps-self x
control-keeps x ControlAsk.GetManifest = keeps-self x
control-keeps x (ControlAsk.Connected c) = turn-keeps x c (port_at x c) is_off turned_on refl
    (λ p. refl) (λ p. restarted p.device)
control-keeps x (ControlAsk.Disconnected c) =
    turn-keeps x c (port_at x c) is_quiet turned_off refl (λ p. refl) (λ p. inl refl)
control-keeps x (ControlAsk.Disconnecting c) =
    turn-keeps x c (port_at x c) is_on made_quiet refl (λ p. refl) (λ p. inl refl)

control_read-keeps : (x : Module) (read : Result ControlAsk PayloadFault)
    → KeepsEach x (control_read x read).after
control_read-keeps x (Ok ask) = control-keeps x ask
control_read-keeps x (Err fault) = keeps-self x

device-keeps : (d : Device) (kind : ℕ) (payload : List ℕ)
    → StaysOrFails (loader_of d) (loader_of (device_step d kind payload).after)
device-keeps (devices.Gpio lines) kind payload = inl refl
device-keeps (devices.I2c device) kind payload = inl refl
device-keeps (devices.Spi last) kind payload = inl refl
device-keeps devices.Uart kind payload = inl refl
device-keeps devices.Loopback kind payload = inl refl
device-keeps (devices.Firmware loader) kind payload = inl refl

port-keeps : (x : Module) (c : ℕ) (o : Option ModulePort) (kind : ℕ) (payload : List ℕ)
    → port_at x c ≡ o → KeepsEach x (port_served x o kind payload).after
port-keeps x c None kind payload there = keeps-self x
port-keeps x c (Some p) kind payload there =
    keeps-changed x (record p { device = (device_step p.device kind payload).after }) p
    (own-port x c p there) (device-keeps p.device kind payload)

pub serve-keeps : (x : Module) (c kind : ℕ) (payload : List ℕ)
    → KeepsEach x (module_serve x c kind payload).after
serve-keeps x c kind payload = by (c == 0)
  where
    by : (t : Bool) → KeepsEach x (cond t (control_read x (read_control_ask kind payload))
        (port_served x (port_at x c) kind payload)).after
    by true = control_read-keeps x (read_control_ask kind payload)
    by false = port-keeps x c (port_at x c) kind payload refl

-- ---- what stirs a module

device_stir-keeps : (d : Device) (stir : Stir) (t : Stirred Device) → device_stir d stir ≡ Some t
    → (loader_of d ≡ None) × (loader_of t.after ≡ None)
device_stir-keeps (devices.Gpio lines) (devices.Level which new) t is =
    (refl, subst (λ (s : Stirred Device). loader_of s.after ≡ None) (same-some _ t is) refl)
device_stir-keeps devices.Uart (devices.Serial control) t is =
    (refl, subst (λ (s : Stirred Device). loader_of s.after ≡ None) (same-some _ t is) refl)
device_stir-keeps (devices.Gpio lines) (devices.Serial control) t is = absurd cc
device_stir-keeps (devices.I2c device) stir t is = absurd cc
device_stir-keeps (devices.Spi last) stir t is = absurd cc
device_stir-keeps devices.Uart (devices.Level which new) t is = absurd cc
device_stir-keeps devices.Loopback stir t is = absurd cc
device_stir-keeps (devices.Firmware loader) stir t is = absurd cc

-- each loader stays, and who is stirred has none
pub stir-keeps : (x : Module) (c : ℕ) (stir : Stir) (t : Stirred Module)
    → module_stir x c stir ≡ Some t → KeepsEach x t.after × (loader_at t.after c ≡ None)
stir-keeps x c stir t is = at_port (port_at x c) refl is
  where
    Keeps : Module → Type 0
    Keeps y = KeepsEach x y × (loader_at y c ≡ None)

    by : (port : ModulePort) → port_at x c ≡ Some port → (o : Option (Stirred Device))
        → device_stir port.device stir ≡ o → port_stir x port o ≡ Some t → Keeps t.after
    by port there None e f = absurd cc
    by port there (Some d) e f =
        let w = device_stir-keeps port.device stir d e in
        let new : ModulePort = record port { device = d.after } in
        subst (λ (y : Stirred Module). Keeps y.after) (same-some _ t f) (
          keeps-changed x new port (own-port x c port there) (inl (w.1 ∙ sym w.0)),
          ap (loader_at (with_changed x new)) (sym (own-number x c port there))
              ∙ loader-there x new port (own-port x c port there) ∙ w.1,
        )

    at_port : (o : Option ModulePort) → port_at x c ≡ o → port_stirred x o stir ≡ Some t
        → Keeps t.after
    at_port None there e = absurd cc
    at_port (Some port) there e = by port there (device_stir port.device stir) refl e

-- ---- who asks where it serves

-- nothing is asked, or the CPort has no firmware device
abbrev pub AsksUnloaded : List OwnAsk → Option Loader → Type 0
AsksUnloaded asks loader = (asks ≡ []) ⊎ (loader ≡ None)

device-asks : (d : Device) (kind : ℕ) (payload : List ℕ)
    → AsksUnloaded (device_step d kind payload).served.asks
    (loader_of (device_step d kind payload).after)
device-asks (devices.Gpio lines) kind payload = inr refl
device-asks (devices.I2c device) kind payload = inr refl
device-asks (devices.Spi last) kind payload = inr refl
device-asks devices.Uart kind payload = inr refl
device-asks devices.Loopback kind payload = inr refl
device-asks (devices.Firmware loader) kind payload = inl refl

if_on-none : (state : CportState) (asks : List OwnAsk) → asks ≡ [] → if_on state asks ≡ []
if_on-none state asks none = ap (if_on state) none ∙ by (is_on state)
  where
    nothing : List OwnAsk
    nothing = []

    by : (t : Bool) → cond t nothing [] ≡ []
    by true = refl
    by false = refl

port-asks : (x : Module) (c : ℕ) (o : Option ModulePort) (kind : ℕ) (payload : List ℕ)
    → port_at x c ≡ o → AsksUnloaded (port_served x o kind payload).served.asks
    (loader_at (port_served x o kind payload).after c)
port-asks x c None kind payload there = inl refl
port-asks x c (Some p) kind payload there =
    let step = device_step p.device kind payload in
    let new : ModulePort = record p { device = step.after } in
    ⊎_elim (λ e. inl (if_on-none p.state step.served.asks e))
    (λ e. inr (ap (loader_at (with_changed x new)) (sym (own-number x c p there))
    ∙ loader-there x new p (own-port x c p there) ∙ e)) (device-asks p.device kind payload)

turn-asks : (x : Module) (o : Option ModulePort) (wanted : CportState → Bool)
    (change : ModulePort → ModulePort) → (turn_step x o wanted change).served.asks ≡ []
turn-asks x None wanted change = refl
turn-asks x (Some p) wanted change = by (wanted p.state)
  where
    by : (t : Bool) → (cond t (turn_step x (Some p) (λ s. true) change)
        (turn_step x (Some p) (λ s. false) change)).served.asks ≡ []
    by true = refl
    by false = refl

control-asks : (x : Module) (ask : ControlAsk) → (control_asked x ask).served.asks ≡ []
control-asks x (ControlAsk.Version major minor) = refl
control-asks x ControlAsk.GetManifestSize = refl
control-asks x ControlAsk.GetManifest = refl
control-asks x (ControlAsk.Connected c) = turn-asks x (port_at x c) is_off turned_on
control-asks x (ControlAsk.Disconnected c) = turn-asks x (port_at x c) is_quiet turned_off
control-asks x (ControlAsk.Disconnecting c) = turn-asks x (port_at x c) is_on made_quiet

control_read-asks : (x : Module) (read : Result ControlAsk PayloadFault)
    → (control_read x read).served.asks ≡ []
control_read-asks x (Ok ask) = control-asks x ask
control_read-asks x (Err fault) = refl

-- A firmware device asks nothing where it serves.
pub serve-asks : (x : Module) (c kind : ℕ) (payload : List ℕ)
    → AsksUnloaded (module_serve x c kind payload).served.asks
    (loader_at (module_serve x c kind payload).after c)
serve-asks x c kind payload = by (c == 0)
  where
    served : Bool → Step Module
    served t = cond t (control_read x (read_control_ask kind payload))
        (port_served x (port_at x c) kind payload)

    by : (t : Bool) → AsksUnloaded (served t).served.asks (loader_at (served t).after c)
    by true = inl (control_read-asks x (read_control_ask kind payload))
    by false = port-asks x c (port_at x c) kind payload refl
