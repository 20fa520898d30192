-- What becomes of the loaders of a module: one changes with its download, and the others stay.
use Rattle.std.proofs.Common.{Bool, List, None, Option, Some, ap, cond, false, refl, subst, sym}
use Rattle.std.proofs.Common.{true, ℕ, ◌∙◌, ◌≡◌}
use Rattle.std.specs.Prelude.{option_and_then, option_map, ◌==◌}
use Rattle.gb_base.specs.declared.download.Next.{Next}
use Rattle.gb_base.specs.declared.download.Next.TheVariants as next
use Rattle.gb_base.specs.declared.outcome.Outcome.{Outcome}
use Rattle.gb_formats.specs.Devices.{Device, Firmware}
use Rattle.gb_formats.specs.Loader.{Loaded, Loader, loader_begun, loader_ended}
use Rattle.gb_formats.specs.Module.{CportState, Module, ModulePort, is_on, port_at, with_changed}
use Rattle.gb_formats.specs.ModuleLoads.{ModuleLoaded, device_ended, if_may_ask, loader_at}
use Rattle.gb_formats.specs.ModuleLoads.{loader_changed, loader_of, module_ended, module_load}
use Rattle.gb_formats.specs.ModuleLoads.{port_ended, port_loaded, port_loader, unasked, with_loader}
use Rattle.gb_machine.specs.Modules.{module_at, with_module}
use Rattle.gb_machine.specs.State.{Plugged}
use Rattle.gb_invariants.proofs.Awaiting.{none-some, same-some}
use Rattle.gb_invariants.proofs.Outcomes.{same-number}
use Rattle.gb_laws.proofs.points.Loadings.{loader_in}
use Rattle.gb_laws.proofs.steps.LoaderStays.{loader-else, loader-there, own-number, own-port}
use Rattle.gb_laws.proofs.steps.LoadersPlugged.{module-other, module-there}

-- ---- one CPort changes

-- The loaders of a module behind a change at a CPort: there it is this one, and elsewhere
-- each stays.
pub record ChangesLoader (m : Module) (c : ℕ) (before after : Loader) (x : Module) : Type 0 where
  pub was : loader_at m c ≡ Some before
  pub is : loader_at x c ≡ Some after
  pub others : (d : ℕ) → (c == d) ≡ false → loader_at x d ≡ loader_at m d

port-changes : (m : Module) (c : ℕ) (port : ModulePort) (before after : Loader)
    → port_at m c ≡ Some port → port.device ≡ Firmware before
    → ChangesLoader m c before after (with_changed m (record port { device = Firmware after }))
port-changes m c port before after at is = record {
  was = ap port_loader at ∙ ap loader_of is;
  is = subst (λ n. loader_at (with_changed m new) n ≡ Some after) number
      (loader-there m new port (own-port m c port at));
  others = λ d other. loader-else m new d (ap (λ n. n == d) number ∙ other);
}
  where
    new : ModulePort
    new = record port { device = Firmware after }

    number : port.number ≡ c
    number = own-number m c port at

-- a CPort with a loader has a firmware device
pub record IsFirmwarePort (m : Module) (c : ℕ) (l : Loader) : Type 0 where
  pub port : ModulePort
  pub at : port_at m c ≡ Some port
  pub device : port.device ≡ Firmware l

firmware-port : (m : Module) (c : ℕ) (l : Loader) → loader_at m c ≡ Some l → IsFirmwarePort m c l
firmware-port m c l h = by (port_at m c) refl h
  where
    by : (o : Option ModulePort) → port_at m c ≡ o → port_loader o ≡ Some l → IsFirmwarePort m c l
    by None e h = absurd (none-some h)
    by (Some port) e h = record { port = port; at = e; device = of port.device h }
      where
        of : (d : Device) → loader_of d ≡ Some l → d ≡ Firmware l
        of (Firmware k) h = ap Firmware (same-some k l h)
        of _ h = absurd (none-some h)

-- A download begins.
pub begun : (m : Module) (c : ℕ) (tag : List ℕ) (l : Loader) → loader_at m c ≡ Some l
    → ChangesLoader m c l (loader_begun tag l) (module_load m c tag)
begun m c tag l h =
    let f = firmware-port m c l h in
    subst (ChangesLoader m c l (loader_begun tag l))
    (ap (λ d. with_changed m (record f.port { device = with_loader (loader_begun tag) d }))
    (sym f.device) ∙ ap (loader_changed (loader_begun tag) m) (sym f.at))
    (port-changes m c f.port l (loader_begun tag l) f.at f.device)

-- ---- a request ended

-- what follows isn't a failure
abbrev pub IsNoFailure : Next → Type 0
IsNoFailure (next.Ask own) = Unit {0}
IsNoFailure (next.Done tag size) = Unit {0}
IsNoFailure (next.Failed tag) = ⊥

-- so the loader is as its step has it
asks-step : (state : CportState) (t : Loaded) (what : Next) → (if_may_ask state t).next ≡ what
    → IsNoFailure what → (t.next ≡ what) × ((if_may_ask state t).after ≡ t.after)
asks-step state t what h good = by (is_on state) h
  where
    quiet : (n : Next) → t.next ≡ n → (unasked n t).next ≡ what
        → (t.next ≡ what) × ((unasked n t).after ≡ t.after)
    quiet (next.Ask own) e h = absurd (subst IsNoFailure (sym h) good)
    quiet (next.Done tag size) e h = (h, refl)
    quiet (next.Failed tag) e h = (h, refl)

    by : (b : Bool) → (cond b t (unasked t.next t)).next ≡ what
        → (t.next ≡ what) × ((cond b t (unasked t.next t)).after ≡ t.after)
    by true h = (h, refl)
    by false h = quiet t.next refl h

-- What the end of a request does to a module where no download fails: one ran, and this follows.
pub record EndsLoader (m : Module) (c : ℕ) (how : Outcome) (x : Module) (what : Next) : Type
    0 where
  pub before : Loader
  pub loaded : Loaded
  pub ended : loader_ended how before ≡ Some loaded
  pub next : loaded.next ≡ what
  pub changes : ChangesLoader m c before loaded.after x

pub ended-loader : (m : Module) (c : ℕ) (how : Outcome) (x : Module) (what : Next)
    → module_ended m c how ≡ Some (record { after = x; next = what }) → IsNoFailure what
    → EndsLoader m c how x what
ended-loader m c how x what h good = by (port_at m c) refl h
  where
    loaded : (port : ModulePort) → port_at m c ≡ Some port → (l : Loader)
        → port.device ≡ Firmware l → (o : Option Loaded) → loader_ended how l ≡ o
        → option_map (λ t. port_loaded m port (if_may_ask port.state t)) o
        ≡ Some (record { after = x; next = what }) → EndsLoader m c how x what
    loaded port at l is None e h = absurd (none-some h)
    loaded port at l is (Some t) e h =
        let s = same-some (port_loaded m port (if_may_ask port.state t))
        (record { after = x; next = what }) h in
        let step = asks-step port.state t what (ap (λ (r : ModuleLoaded). r.next) s) good
        in record {
          before = l;
          loaded = t;
          ended = e;
          next = step.0;
          changes = subst (λ k. ChangesLoader m c l k x) step.1
              (subst (ChangesLoader m c l (if_may_ask port.state t).after)
              (ap (λ (r : ModuleLoaded). r.after) s)
              (port-changes m c port l (if_may_ask port.state t).after at is));
        }

    device : (port : ModulePort) → port_at m c ≡ Some port → (d : Device) → port.device ≡ d
        → device_ended m port d how ≡ Some (record { after = x; next = what })
        → EndsLoader m c how x what
    device port at (Firmware l) is h = loaded port at l is (loader_ended how l) refl h
    device port at _ is h = absurd (none-some h)

    by : (o : Option ModulePort) → port_at m c ≡ o
        → port_ended m o how ≡ Some (record { after = x; next = what })
        → EndsLoader m c how x what
    by None e h = absurd (none-some h)
    by (Some port) e h = device port e port.device refl h

-- ---- modules

-- The loaders of all modules behind a change at one CPort.
pub record ChangesIn (i c : ℕ) (before after : Loader) (modules then_ : List Plugged)
    : Type 0 where
  pub was : loader_in i c modules ≡ Some before
  pub is : loader_in i c then_ ≡ Some after
  pub others : (j d : ℕ) → ((j ≡ i) → (d ≡ c) → ⊥) → loader_in j d then_ ≡ loader_in j d modules

pub changes-in : (i c : ℕ) (before after : Loader) (modules : List Plugged) (m x : Module)
    → module_at i modules ≡ Some m → ChangesLoader m c before after x
    → ChangesIn i c before after modules (with_module i x modules)
changes-in i c before after modules m x at h = record {
  was = ap (λ o. option_and_then (λ y. loader_at y c) o) at ∙ h.was;
  is = ap (λ o. option_and_then (λ y. loader_at y c) o) here ∙ h.is;
  others = λ j d apart. other j d apart (i == j) refl (c == d) refl;
}
  where
    here : module_at i (with_module i x modules) ≡ Some x
    here = module-there i x m modules at

    other : (j d : ℕ) → ((j ≡ i) → (d ≡ c) → ⊥) → (t : Bool) → (i == j) ≡ t → (u : Bool)
        → (c == d) ≡ u
        → loader_in j d (with_module i x modules) ≡ loader_in j d modules
    other j d apart false e u f =
        ap (λ o. option_and_then (λ y. loader_at y d) o) (module-other i j x modules e)
    other j d apart true e true f =
        absurd (apart (sym (same-number i j e)) (sym (same-number c d f)))
    other j d apart true e false f = subst
        (λ k. loader_in k d (with_module i x modules) ≡ loader_in k d modules) (same-number i j e)
        (ap (λ o. option_and_then (λ y. loader_at y d) o) here ∙ h.others d f
        ∙ sym (ap (λ o. option_and_then (λ y. loader_at y d) o) at))
