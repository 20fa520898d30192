-- How the loaders of all modules stay where one of them changes, is plugged or is pulled, and that
-- those of a module that is new are in their first state.
use Rattle.std.proofs.Common.{Bool, List, None, Option, Some, ap, cond, false, inl, inr, refl}
use Rattle.std.proofs.Common.{subst, sym, true, ℕ, ⊎_elim, [], ◌∙◌, ◌∷◌, ◌≡◌, ◌⊎◌}
use Rattle.std.specs.List.{find}
use Rattle.std.specs.Prelude.{Err, Ok, Result, option_and_then, option_map, ◌==◌}
use Rattle.gb_base.specs.declared.event.Kind.{Kind}
use Rattle.gb_formats.specs.Descriptors.{Descriptor}
use Rattle.gb_formats.specs.Devices.{Device, device_of}
use Rattle.gb_formats.specs.GpioDevice.{first_gpio}
use Rattle.gb_formats.specs.I2cDevice.{first_i2c}
use Rattle.gb_formats.specs.SpiDevice.{first_spi}
use Rattle.gb_formats.specs.Protocols.{firmware_protocol, gpio_protocol, i2c_protocol}
use Rattle.gb_formats.specs.Protocols.{loopback_protocol, spi_protocol, uart_protocol}
use Rattle.gb_formats.specs.Devices as devices
use Rattle.gb_formats.specs.Kinds.{kind_cports}
use Rattle.gb_formats.specs.Loader.{Loader, first_loader}
use Rattle.gb_formats.specs.Manifest.{Manifest, check_answer}
use Rattle.gb_formats.specs.ManifestRules.{Refused}
use Rattle.gb_formats.specs.ManifestSpec.{CportSpec}
use Rattle.gb_formats.specs.Module.{Module, ModulePort, device_outside, first_port, is_port}
use Rattle.gb_formats.specs.Module.{module_of_kind, module_raw, port_onto, ports_in, ports_of}
use Rattle.gb_formats.specs.Module.{raw_ports}
use Rattle.gb_formats.specs.ModuleLoads.{loader_at, loader_of, port_loader}
use Rattle.gb_machine.specs.Modules.{is_plugged_at, module_at, plugged, plugged_before, unplugged}
use Rattle.gb_machine.specs.Modules.{with_module}
use Rattle.gb_machine.specs.State.{Plugged}
use Rattle.gb_invariants.proofs.Awaiting.{none-some}
use Rattle.gb_invariants.proofs.Found.{find-aside, find-changed, find-left, none-of}
use Rattle.gb_invariants.proofs.Outcomes.{same-number}
use Rattle.gb_laws.proofs.points.Points.{KeepLoaders, StaysOrFails, loader_in}
use Rattle.gb_laws.proofs.steps.LoaderStays.{KeepsEach}

-- ---- modules that are plugged

-- a module changes
pub module-there : (i : ℕ) (x y : Module) (ms : List Plugged) → module_at i ms ≡ Some y
    → module_at i (with_module i x ms) ≡ Some x
module-there i x y ms there =
    ap (option_map (λ (p : Plugged). p.body))
    (find-changed (is_plugged_at i) (λ p. record p { body = x }) ms (λ p. refl))
    ∙ by (find (is_plugged_at i) ms) there
  where
    by : (o : Option Plugged) → option_map (λ (p : Plugged). p.body) o ≡ Some y
        → option_map (λ (p : Plugged). p.body)
        (option_map (λ (p : Plugged). record p { body = x }) o) ≡ Some x
    by None e = absurd (none-some e)
    by (Some p) e = refl

-- and others stay
pub module-other : (i j : ℕ) (x : Module) (ms : List Plugged) → (i == j) ≡ false
    → module_at j (with_module i x ms) ≡ module_at j ms
module-other i j x ms other =
    ap (option_map (λ (p : Plugged). p.body))
    (find-aside (is_plugged_at j) (is_plugged_at i) (λ p. record p { body = x }) ms
    (λ p e. let apart = ap (λ n. n == j) (same-number p.intf i e) ∙ other in (apart, apart)))

-- the loaders of all modules, where one changes so
pub keeps-module : (i : ℕ) (x y : Module) (ms : List Plugged) → module_at i ms ≡ Some y
    → KeepsEach y x → KeepLoaders ms (with_module i x ms)
keeps-module i x y ms there keeps j c = by (i == j) refl
  where
    loader : Option Module → Option Loader
    loader o = option_and_then (λ z. loader_at z c) o

    by : (t : Bool) → (i == j) ≡ t
        → StaysOrFails (loader_in j c ms) (loader_in j c (with_module i x ms))
    by true e = subst (λ n. StaysOrFails (loader_in n c ms) (loader_in n c (with_module i x ms)))
        (same-number i j e)
        (subst (λ o. StaysOrFails (loader o) (loader (module_at i (with_module i x ms))))
        (sym there) (subst (λ o. StaysOrFails (loader_at y c) (loader o))
        (sym (module-there i x y ms there)) (keeps c)))
    by false e = inl (ap loader (module-other i j x ms e))

pub same-loaders : (ms : List Plugged) → KeepLoaders ms ms
same-loaders ms i c = inl refl

-- a module is pulled
pub keeps-unplugged : (i : ℕ) (ms : List Plugged) → KeepLoaders ms (unplugged i ms)
keeps-unplugged i ms j c = by (j == i) refl
  where
    loader : Option Plugged → Option Loader
    loader o = option_and_then (λ z. loader_at z c) (option_map (λ (p : Plugged). p.body) o)

    by : (t : Bool) → (j == i) ≡ t
        → StaysOrFails (loader_in j c ms) (loader_in j c (unplugged i ms))
    by true e = inr (inl (ap (λ n. loader_in n c (unplugged i ms)) (same-number j i e)
        ∙ ap loader (none-of (is_plugged_at i) ms)))
    by false e = inl (ap loader (find-left (is_plugged_at j) (is_plugged_at i) ms
        (λ p f. ap (λ n. n == i) (same-number p.intf j f) ∙ e)))

pub none-unplugged : (i : ℕ) (ms : List Plugged) → module_at i (unplugged i ms) ≡ None
none-unplugged i ms =
    ap (option_map (λ (p : Plugged). p.body)) (none-of (is_plugged_at i) ms)

-- one is plugged: it is found, or what was found before
plugged-found : (p : Plugged) (ms : List Plugged) (j : ℕ)
    → (find (is_plugged_at j) (plugged p ms) ≡ find (is_plugged_at j) ms)
    ⊎ (find (is_plugged_at j) (plugged p ms) ≡ Some p)
plugged-found p [] j = by (p.intf == j)
  where
    by : (t : Bool) → (cond t (Some p) None ≡ None) ⊎ (cond t (Some p) None ≡ Some p)
    by true = inr refl
    by false = inl refl
plugged-found p (x ∷ xs) j = by (plugged_before p x) (plugged-found p xs j)
  where
    front : (t : Bool)
        → (cond t (Some p) (find (is_plugged_at j) (x ∷ xs)) ≡ find (is_plugged_at j) (x ∷ xs))
        ⊎ (cond t (Some p) (find (is_plugged_at j) (x ∷ xs)) ≡ Some p)
    front true = inr refl
    front false = inl refl

    behind : (t : Bool) → (find (is_plugged_at j) (plugged p xs) ≡ find (is_plugged_at j) xs)
        ⊎ (find (is_plugged_at j) (plugged p xs) ≡ Some p)
        → (cond t (Some x) (find (is_plugged_at j) (plugged p xs))
        ≡ cond t (Some x) (find (is_plugged_at j) xs))
        ⊎ (cond t (Some x) (find (is_plugged_at j) (plugged p xs)) ≡ Some p)
    behind true rec = inl refl
    behind false rec = rec

    by : (b : Bool) → (find (is_plugged_at j) (plugged p xs) ≡ find (is_plugged_at j) xs)
        ⊎ (find (is_plugged_at j) (plugged p xs) ≡ Some p)
        → (find (is_plugged_at j) (cond b (p ∷ x ∷ xs) (x ∷ plugged p xs))
        ≡ find (is_plugged_at j) (x ∷ xs))
        ⊎ (find (is_plugged_at j) (cond b (p ∷ x ∷ xs) (x ∷ plugged p xs)) ≡ Some p)
    by true rec = front (p.intf == j)
    by false rec = behind (x.intf == j) rec

-- the loaders of a module are in their first state
abbrev pub AreFirst : Module → Type 0
AreFirst x = (c : ℕ) → (loader_at x c ≡ None) ⊎ (loader_at x c ≡ Some first_loader)

pub keeps-plugged : (p : Plugged) (ms : List Plugged) → AreFirst p.body
    → KeepLoaders ms (plugged p ms)
keeps-plugged p ms first i c = ⊎_elim (λ e. inl (ap loader e))
    (λ e. ⊎_elim (λ f. inr (inl (ap loader e ∙ f))) (λ f. inr (inr (inl (ap loader e ∙ f))))
    (first c)) (plugged-found p ms i)
  where
    loader : Option Plugged → Option Loader
    loader o = option_and_then (λ z. loader_at z c) (option_map (λ (q : Plugged). q.body) o)

-- ---- modules that are new

-- a device, if there is one, isn't a loader, or is in its first state
abbrev IsFirst : Option Device → Type 0
IsFirst None = Unit {0}
IsFirst (Some d) = (loader_of d ≡ None) ⊎ (loader_of d ≡ Some first_loader)

first-device : (protocol : ℕ) → IsFirst (device_of protocol)
first-device protocol = by (protocol == gpio_protocol) (protocol == i2c_protocol)
    (protocol == spi_protocol) (protocol == uart_protocol) (protocol == loopback_protocol)
    (protocol == firmware_protocol)
  where
    by : (a b c d e f : Bool) → IsFirst (cond a (Some (devices.Gpio first_gpio))
        (cond b (Some (devices.I2c first_i2c)) (cond c (Some (devices.Spi first_spi))
        (cond d (Some devices.Uart) (cond e (Some devices.Loopback)
        (cond f (Some (devices.Firmware first_loader)) None))))))
    by true b c d e f = inl refl
    by false true c d e f = inl refl
    by false false true d e f = inl refl
    by false false false true e f = inl refl
    by false false false false true f = inl refl
    by false false false false false true = inr refl
    by false false false false false false = tt

-- the loaders of these CPorts are
abbrev FirstPorts : List ModulePort → Type 0
FirstPorts ps = (c : ℕ) → (port_loader (find (is_port c) ps) ≡ None)
    ⊎ (port_loader (find (is_port c) ps) ≡ Some first_loader)

first-onto : (n protocol : ℕ) (o : Option Device) (ps : List ModulePort) → IsFirst o → FirstPorts ps
    → FirstPorts (port_onto n protocol o ps)
first-onto n protocol None ps first rest c = rest c
first-onto n protocol (Some d) ps first rest c = by (n == c) (rest c)
  where
    o : Option ModulePort
    o = find (is_port c) ps

    by : (t : Bool) → (port_loader o ≡ None) ⊎ (port_loader o ≡ Some first_loader)
        → (port_loader (cond t (Some (first_port n protocol d)) o) ≡ None)
        ⊎ (port_loader (cond t (Some (first_port n protocol d)) o) ≡ Some first_loader)
    by true h = first
    by false h = h

first-ports : (cs : List CportSpec) → FirstPorts (ports_of cs)
first-ports [] c = inl refl
first-ports (x ∷ xs) c =
    first-onto x.id x.protocol (device_of x.protocol) (ports_of xs) (first-device x.protocol)
    (first-ports xs) c

first-outside : (bundle protocol : ℕ) → IsFirst (device_outside bundle protocol)
first-outside bundle protocol = by (bundle == 0)
  where
    by : (t : Bool) → IsFirst (cond t None (device_of protocol))
    by true = tt
    by false = first-device protocol

first-in : (ds : List Descriptor) → FirstPorts (ports_in ds)
first-in [] c = inl refl
first-in (Descriptor.Cport id bundle protocol ∷ ds) c =
    first-onto id protocol (device_outside bundle protocol) (ports_in ds)
    (first-outside bundle protocol) (first-in ds) c
first-in (_ ∷ ds) c = first-in ds c

-- so they are where a module is of a kind, or of a raw manifest
pub first-kind : (kind : Kind) → AreFirst (module_of_kind kind)
first-kind kind = first-ports (kind_cports kind)

pub first-raw : (bytes : List ℕ) → AreFirst (module_raw bytes)
first-raw bytes = by (check_answer bytes)
  where
    by : (r : Result Manifest Refused) → FirstPorts (raw_ports r)
    by (Ok m) c = first-in m.descriptors c
    by (Err why) c = inl refl
