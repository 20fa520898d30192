-- What one CPort does in a download is what the module does.
use Rattle.std.proofs.Common.{◌≡◌, ℕ, Bool, Option, Some, None, option_map, Result, Ok, Err, List}
use Rattle.std.proofs.Common.{set, refl, sym, ap, ◌∙◌, subst}
use Rattle.std.specs.List.{find}
use Rattle.std.specs.Option.{IsSomeAnd}
use Rattle.gb_base.specs.declared.download.Next.{Next}
use Rattle.gb_base.specs.declared.errors.OutOfMemory.{OutOfMemory}
use Rattle.gb_base.specs.declared.outcome.Outcome.{Outcome}
use Rattle.gb_formats.specs.Devices.{Device, Firmware}
use Rattle.gb_formats.specs.Devices as devices
use Rattle.gb_formats.specs.Loader.{Loaded, Loader, is_running, loader_ended}
use Rattle.gb_formats.specs.Module.{Module, ModulePort, is_port}
use Rattle.gb_formats.specs.ModuleLoads.{ModuleLoaded, device_ended, if_may_ask, loader_changed}
use Rattle.gb_formats.specs.ModuleLoads.{loader_of, port_ended, port_loaded, port_loader}
use Rattle.gb_formats.specs.ModuleLoads.{with_loader}
use Rattle.gb_module.specs.Loading.{EndsAs, FollowsAs, IsLoaded, RunsOn, follows_in}
use Rattle.gb_module.specs.Loading.{with_its_loader}
use Rattle.gb_module.specs.Steps.{with_ports}
use Rattle.gb_module.proofs.Standing.{Found}
use Rattle.gb_module.proofs.Stepping.{number_of}

-- ---- a change of a loader

-- there is no CPort, and so no loader of which anything holds
pub nowhere : {o : Option ModulePort} (b : Bool) → o ≡ None
    → option_map is_running (port_loader o) ≡ Some b → ⊥
nowhere {o = None} b e h = absurd cc
nowhere {o = Some port} b e h = absurd cc

-- the loader at the number is that of the CPort that was found
pub loader-found : {number : ℕ} {ports items : List ModulePort} {i : ℕ} {x : ModulePort}
    → Found number ports items i x → port_loader (find (is_port number) ports) ≡ loader_of x.device
loader-found f = ap port_loader f.found

-- a module with the loader of that CPort changed
pub changes-at : {number : ℕ} {ports items : List ModulePort} {i : ℕ} {x : ModulePort}
    (y : ModulePort) (change : Loader → Loader) (manifest : List ℕ) → Found number ports items i x
    → y ≡ record x { device = with_loader change x.device }
    → with_ports manifest (set items i y)
    ≡ loader_changed change (with_ports manifest ports) (find (is_port number) ports)
changes-at {number} {ports} {items} {i} {x} y change manifest f h =
    ap (λ (p : ModulePort). with_ports manifest (set items i p)) h
    ∙ ap (with_ports manifest)
    (sym (f.changed (record x { device = with_loader change x.device }) f.named))
    ∙ sym (ap (loader_changed change (with_ports manifest ports)) f.found)

-- ---- the end of a request

-- what follows at a CPort is what follows at its device, but for a request that it may not make
pub loaded-by : (x y : ModulePort) (d : Device) (a : Option Loaded) (n m : Next)
    → IsSomeAnd a (λ t. IsLoaded Firmware t d n)
    → ((l : Loader) → d ≡ Firmware l → IsLoaded (with_its_loader x)
    (if_may_ask x.state (record { after = l; next = n })) y m)
    → IsSomeAnd (option_map (if_may_ask x.state) a) (λ t. IsLoaded (with_its_loader x) t y m)
loaded-by x y d None n m h may = absurd h
loaded-by x y d (Some t) n m h may =
    subst (λ (q : Next). IsLoaded (with_its_loader x)
    (if_may_ask x.state (record { after = t.after; next = q })) y m) h.1 (may t.after h.0)

-- ---- what follows at the CPort with a number

fused : {A B C : Type 0} (g : B → C) (f : A → B) (o : Option A)
    → option_map (λ a. g (f a)) o ≡ option_map g (option_map f o)
fused g f None = refl
fused g f (Some a) = refl

-- what follows at a CPort is what follows at its loader
follows-at : (m : Module) (port : ModulePort) (d : Device) (how : Outcome)
    → device_ended m port d how
    ≡ option_map (port_loaded m port) (follows_in port.state how (loader_of d))
follows-at m port (Firmware l) how =
    fused (port_loaded m port) (if_may_ask port.state) (loader_ended how l)
follows-at m port (devices.Gpio lines) how = refl
follows-at m port (devices.I2c device) how = refl
follows-at m port (devices.Spi last) how = refl
follows-at m port devices.Uart how = refl
follows-at m port devices.Loopback how = refl

-- a CPort keeps its number
pub follows-number : (x y : ModulePort) (a : Option Loaded)
    (r : Result (Option Next) OutOfMemory) → FollowsAs (with_its_loader x) a x y r
    → y.number ≡ x.number
follows-number x y a (Ok None) h = ap number_of h.1
follows-number x y None (Ok (Some n)) h = absurd h
follows-number x y (Some t) (Ok (Some n)) h = ap number_of h.0
follows-number x y a (Err refused) h = ap number_of h

-- a module with a CPort of it as it was
same-module : (number : ℕ) (ports items : List ModulePort) (i : ℕ) (x y : ModulePort)
    (manifest : List ℕ) → Found number ports items i x → y ≡ x
    → with_ports manifest (set items i y) ≡ with_ports manifest ports
same-module number ports items i x y manifest f h =
    ap (λ (p : ModulePort). with_ports manifest (set items i p)) h
    ∙ ap (with_ports manifest) f.same

ends-found : (number : ℕ) (ports items : List ModulePort) (i : ℕ) (x y : ModulePort)
    (manifest : List ℕ) (a : Option Loaded) (r : Result (Option Next) OutOfMemory)
    → Found number ports items i x → FollowsAs (with_its_loader x) a x y r
    → EndsAs (option_map (port_loaded (with_ports manifest ports) x) a)
    (with_ports manifest ports) (with_ports manifest (set items i y)) r
ends-found number ports items i x y manifest a (Ok None) f h = (
  ap (option_map (port_loaded (with_ports manifest ports) x)) h.0,
  same-module number ports items i x y manifest f h.1,
)
ends-found number ports items i x y manifest None (Ok (Some n)) f h = absurd h
ends-found number ports items i x y manifest (Some t) (Ok (Some n)) f h =
    ap (λ (ps : List ModulePort). Some (record {
      after = with_ports manifest ps;
      next = t.next;
    })) (f.changed (with_its_loader x t.after) f.named)
    ∙ ap (λ (p : ModulePort). Some (record {
      after = with_ports manifest (set items i p);
      next = t.next;
    })) (sym h.0)
    ∙ ap (λ (m : Next). Some (record {
      after = with_ports manifest (set items i y);
      next = m;
    })) (sym h.1)
ends-found number ports items i x y manifest a (Err refused) f h =
    same-module number ports items i x y manifest f h

pub ends-at : {number : ℕ} {ports items : List ModulePort} {i : ℕ} {x : ModulePort}
    (y : ModulePort) (how : Outcome) (manifest : List ℕ) (r : Result (Option Next) OutOfMemory)
    → Found number ports items i x
    → FollowsAs (with_its_loader x) (follows_in x.state how (loader_of x.device)) x y r
    → EndsAs (port_ended (with_ports manifest ports) (find (is_port number) ports) how)
    (with_ports manifest ports) (with_ports manifest (set items i y)) r
ends-at {number} {ports} {items} {i} {x} y how manifest r f h =
    subst (λ (o : Option ModulePort). EndsAs (port_ended (with_ports manifest ports) o how)
    (with_ports manifest ports) (with_ports manifest (set items i y)) r) (sym f.found)
    (subst (λ (a : Option ModuleLoaded).
    EndsAs a (with_ports manifest ports) (with_ports manifest (set items i y)) r)
    (sym (follows-at (with_ports manifest ports) x x.device how))
    (ends-found number ports items i x y manifest (follows_in x.state how (loader_of x.device)) r
    f h))

-- a download that runs on at the CPort runs on at the number
pub runs-at : {number : ℕ} {ports items : List ModulePort} {i : ℕ} {x : ModulePort}
    (y : ModulePort) (r : Result (Option Next) OutOfMemory) → Found number ports items i x
    → y.number ≡ x.number → RunsOn (loader_of y.device) r
    → RunsOn (port_loader (find (is_port number) (set items i y))) r
runs-at {number} {ports} {items} {i} {x} y r f same h =
    subst (λ (o : Option ModulePort). RunsOn (port_loader o) r)
    (sym (f.placed y (same ∙ f.named))) h
