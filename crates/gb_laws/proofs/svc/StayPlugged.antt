-- What lines and plugging rest on: levels of what is plugged, what takes, and what is to a module.
use Rattle.std.proofs.Common.{Bool, List, None, Some, ap, cond, false, inl, inr, refl, sym, true, ℕ}
use Rattle.std.proofs.Common.{◌∙◌, ◌≡◌, ◌⊎◌}
use Rattle.gb_base.specs.declared.end.End.TheVariants as end
use Rattle.gb_base.specs.declared.entry.ConnState.{ConnState}
use Rattle.gb_base.specs.declared.entry.ConnState.TheVariants as state
use Rattle.gb_base.specs.declared.interface.Link.{Link}
use Rattle.gb_machine.proofs.Conditions.{AreUnmet}
use Rattle.gb_machine.specs.Bus.{Bus, Connection, Place, end_of, place_of}
use Rattle.gb_machine.specs.HostRefusals.{is_ending, is_failed, is_unopened, link_conditions}
use Rattle.gb_machine.specs.Ports.{level_in, level_of, port_of}
use Rattle.gb_machine.specs.State.{Port}
use Rattle.gb_machine.specs.{Arriving.state_takes, Members.EachTwo}
use Rattle.gb_invariants.proofs.{Numbers.found-number, Numbers.same-connection}
use Rattle.gb_invariants.specs.Facts.{IsBefore}
use Rattle.gb_laws.proofs.{points.Places.module-far, points.Places.place-is}
use Rattle.gb_laws.proofs.{steps.ServedOn.HasPeer}
pub use Rattle.gb_laws.proofs.points.LoaderFacts.{module-plugs, same-plugs}

-- where a module is plugged, the power of its interface is off
pub powered-off : (i j : ℕ) (ports : List Port) (t : Bool)
    → (level_in (cond t (Some (record { intf = i; level = 0; device = None })) (port_of j ports))
    ≡ level_of j ports) ⊎ (level_in (cond t (Some (record { intf = i; level = 0; device = None }))
    (port_of j ports)) ≡ 0)
powered-off i j ports true = inr refl
powered-off i j ports false = inl refl

-- a connection on which lines are sent takes what is delivered there
pub open-takes : (l : Link) → AreUnmet (link_conditions is_ending (Some l))
    → state_takes l.state ≡ true
open-takes l met = by l.state met.0 met.1.0 met.1.1.0
  where
    by : (s : ConnState) → is_unopened s ≡ false → is_ending s ≡ false → is_failed s ≡ false
        → state_takes s ≡ true
    by state.Open h k f = refl
    by state.Opening h k f = absurd cc
    by state.Draining h k f = absurd cc
    by state.Closing h k f = absurd cc
    by state.Closed h k f = absurd cc
    by state.Failed h k f = absurd cc

-- what is at a module's CPort is to it
pub place-module : (i c : ℕ) (b : Bus) (p : Place) → EachTwo IsBefore b.connections
    → place_of (end.Module i c) b.connections ≡ Some p
    → HasPeer p.connection.number (end.Module i c) b
place-module i c b p rise e x f =
    let q = place-is (end.Module i c) b.connections p e in
    let n = found-number p.connection.number b x f in
    let is = same-connection b.connections x p.connection rise n.0 q.live n.1 in
    ap (λ (y : Connection). y.peer) is
    ∙ sym (ap (λ s. end_of s p.connection) (module-far i c p.side p.connection q.is)) ∙ q.is
