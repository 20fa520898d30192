-- A manifest that is plugged fits into a message, and what comes from outside doesn't change it.
use Rattle.std.proofs.Common.{List, None, Option, Some, ap, arith, length, refl, subst, sym, ℕ}
use Rattle.std.proofs.Common.{⊎_elim, ◌≡◌, ◌≤◌}
use Rattle.std.proofs.lemmas.Bool.Decides.{nat_tests}
use Rattle.std.specs.List.{find}
use Rattle.std.specs.Prelude.{option_map}
use Rattle.gb_base.specs.declared.event.Kind.{Kind}
use Rattle.gb_base.specs.declared.event.Event.TheVariants as event
use Rattle.gb_base.specs.declared.event.Kind.TheVariants as kinds
use Rattle.gb_formats.specs.Devices.{Device, Stir, device_stir}
use Rattle.gb_formats.specs.Module.{Module, ModulePort, module_of_kind, module_raw, port_at}
use Rattle.gb_formats.specs.ModuleSteps.{module_stir, port_stir, port_stirred}
use Rattle.gb_formats.specs.{Results.Stirred}
use Rattle.gb_machine.proofs.Conditions.{free}
use Rattle.gb_machine.specs.Modules.{is_plugged_at, module_at, plugged, plugged_before}
use Rattle.gb_machine.specs.{Members.IsIn, Refusals.longest_manifest, Refusals.refusal}
use Rattle.gb_machine.specs.{State.Plugged}
use Rattle.gb_machine.specs.{State.State}
use Rattle.gb_invariants.proofs.{Awaiting.same-some, Found.in-ordered, Lists.found-in}

-- ---- what comes from outside

pub stir-manifest : (m : Module) (c : ℕ) (stir : Stir) (t : Stirred Module)
    → module_stir m c stir ≡ Some t → t.after.manifest ≡ m.manifest
stir-manifest m c stir t is = at_port (port_at m c) is
  where
    stirred : (port : ModulePort) (o : Option (Stirred Device)) → port_stir m port o ≡ Some t
        → t.after.manifest ≡ m.manifest
    stirred port None e = absurd cc
    stirred port (Some d) e = sym (ap (λ (x : Stirred Module). x.after.manifest) (same-some _ t e))

    at_port : (o : Option ModulePort) → port_stirred m o stir ≡ Some t
        → t.after.manifest ≡ m.manifest
    at_port None e = absurd cc
    at_port (Some port) e = stirred port (device_stir port.device stir) e

-- ---- what is plugged

-- the manifests of modules fit into a message
abbrev pub AreShort : List Plugged → Type 0
AreShort ms = (p : Plugged) → IsIn p ms → length p.body.manifest ≤ longest_manifest

-- the manifest of the module at an interface
pub short-at : (i : ℕ) (ms : List Plugged) (x : Module) → module_at i ms ≡ Some x → AreShort ms
    → length x.manifest ≤ longest_manifest
short-at i ms x e h = by (find (is_plugged_at i) ms) refl e
  where
    by : (o : Option Plugged) → find (is_plugged_at i) ms ≡ o
        → option_map (λ (p : Plugged). p.body) o ≡ Some x → length x.manifest ≤ longest_manifest
    by None f g = absurd cc
    by (Some p) f g = subst (λ (y : Module). length y.manifest ≤ longest_manifest)
        (same-some p.body x g) (h p (found-in (is_plugged_at i) ms p f).0)

-- a part more
pub short-plugged : (x : Plugged) (ms : List Plugged) → AreShort ms
    → length x.body.manifest ≤ longest_manifest → AreShort (plugged x ms)
short-plugged x ms h fits p k = ⊎_elim
    (λ e. subst (λ (q : Plugged). length q.body.manifest ≤ longest_manifest) (sym e) fits)
    (λ old. h p old) (in-ordered plugged_before p x ms k)

-- ---- what is inserted

pub kind-short : (k : Kind) → length (module_of_kind k).manifest ≤ longest_manifest
kind-short kinds.Gpio = omega arith
kind-short kinds.I2c = omega arith
kind-short kinds.Spi = omega arith
kind-short kinds.Uart = omega arith
kind-short kinds.Bridge = omega arith
kind-short kinds.Loopback = omega arith
kind-short kinds.Firmware = omega arith

pub raw-short : (s : State) (i : ℕ) (manifest : List ℕ)
    → refusal s (event.InsertRaw i manifest) ≡ None
    → length (module_raw manifest).manifest ≤ longest_manifest
raw-short s i manifest allowed =
    let fits = (free s (event.InsertRaw i manifest) allowed).1.1.0 in grind (arith, nat_tests)
