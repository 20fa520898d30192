-- An end takes what is delivered there as the machine says.
use Rattle.std.proofs.Common.{◌≡◌, ℕ, Bool, true, Option, Some, None, List, option_map, sym, ap}
use Rattle.std.proofs.Common.{◌∙◌, subst}
use Rattle.gb_base.specs.declared.end.End.{End}
use Rattle.gb_base.specs.declared.end.End.TheVariants as end
use Rattle.gb_base.specs.declared.end.Side.{Side}
use Rattle.gb_base.specs.declared.end.Side.TheVariants as side
use Rattle.gb_base.specs.declared.entry.ConnState.{ConnState}
use Rattle.gb_base.specs.declared.interface.Link.{Link}
use Rattle.gb_bus.specs.Stands as bus
use Rattle.gb_bus.specs.Wiring.{number_of}
use Rattle.gb_bus.specs.declared.bus.Bus.{Bus}
use Rattle.gb_host.specs.Stands as host
use Rattle.gb_host.specs.declared.host.Host.{Host}
use Rattle.gb_invariants.proofs.Awaiting.{same-some}
use Rattle.gb_bus.specs.Stands.{Around}
use Rattle.gb_invariants.proofs.Places.{place-is}
use Rattle.gb_machine.specs.Arriving.{link_takes, takes}
use Rattle.gb_machine.specs.Bus as machine
use Rattle.gb_machine.specs.Bus.{Connection, Place, end_of, place_of}
use Rattle.gb_machine.specs.Host as machine_host
use Rattle.gb_machine.specs.Host.{link_of}
use Rattle.gb_machine.specs.Modules.{far_takes, module_at, module_takes}
use Rattle.gb_machine.specs.State.{Plugged, State}

-- ---- modules and the supervisory controller

-- the place of an end that isn't the application processor's is at the far side
far-takes : (at : End) (c : Connection) (t : Side) (s : State) → ((a : ℕ) → at ≡ end.Ap a → ⊥)
    → end_of t c ≡ at → far_takes at s.modules ≡ takes t c s
far-takes at c side.Ap s other is = absurd (other c.ap (sym is))
far-takes at c side.Far s other is = sym (ap (λ e. far_takes e s.modules) is)

pub svc-takes : (at : End) (s : State) (p : Place) → at ≡ end.Svc
    → place_of at s.bus.connections ≡ Some p → true ≡ takes p.side p.connection s
svc-takes at s p svc there =
    sym (ap (λ e. far_takes e s.modules) svc)
    ∙ far-takes at p.connection p.side s (λ a e. let f : end.Svc ≡ end.Ap a = sym svc ∙ e in cc)
    (place-is at s.bus.connections p there).is

pub module-takes : (at : End) (i c : ℕ) (taken : Bool) (mods : List Plugged) (s : State)
    (p : Place) → at ≡ end.Module i c → taken ≡ module_takes c (module_at i mods)
    → s.modules ≡ mods → place_of at s.bus.connections ≡ Some p
    → taken ≡ takes p.side p.connection s
module-takes at i c taken mods s p is of same there =
    of ∙ ap (λ ms. module_takes c (module_at i ms)) (sym same)
    ∙ sym (ap (λ e. far_takes e s.modules) is)
    ∙ far-takes at p.connection p.side s
    (λ a e. let f : end.Module i c ≡ end.Ap a = sym is ∙ e in cc)
    (place-is at s.bus.connections p there).is

-- ---- the application processor

-- it takes by the state of its connection
pub ap-taken : (around : Around) (at : End) (o : Option ℕ) (k : ℕ)
    (state : Option ConnState) (taken : Bool) (x : Host) (y : Bus) (s : State) (p : Place)
    → bus.Stands around y s.bus → host.Stands x s.host
    → ((l : Around) (d : machine.Bus) → bus.Stands l y d
    → o ≡ option_map number_of (place_of at d.connections))
    → o ≡ Some k
    → ((h : machine_host.Host) → host.Stands x h
    → state ≡ option_map (λ (l : Link). l.state) (link_of k h))
    → ((o : Option Link) → state ≡ option_map (λ (l : Link). l.state) o → taken ≡ link_takes o)
    → place_of at s.bus.connections ≡ Some p → side.Ap ≡ p.side
    → taken ≡ takes p.side p.connection s
ap-taken around at o k state taken x y s p stands knows named is states takes_it there ap_side =
    subst (λ (t : Side). taken ≡ takes t p.connection s) ap_side
    (takes_it (link_of k s.host) (states s.host knows)
    ∙ ap (λ j. link_takes (link_of j s.host)) (sym number))
  where
    number : p.connection.number ≡ k
    number =
        let same : Some p.connection.number ≡ Some k =
        sym (ap (option_map number_of) there) ∙ sym (named around s.bus stands) ∙ is in
        same-some p.connection.number k same

-- a place is named
pub ap-named : (around : Around) (at : End) (o : Option ℕ) (taken : Bool) (y : Bus) (s : State)
    (p : Place) → bus.Stands around y s.bus
    → ((l : Around) (d : machine.Bus) → bus.Stands l y d
    → o ≡ option_map number_of (place_of at d.connections))
    → o ≡ None → place_of at s.bus.connections ≡ Some p → taken ≡ takes p.side p.connection s
ap-named around at o taken y s p stands named is there =
    absurd (let none : Some p.connection.number ≡ None =
    sym (ap (option_map number_of) there) ∙ sym (named around s.bus stands) ∙ is in cc)
