-- What stays where a firmware device asks: what is plugged.
use Rattle.std.proofs.Common.{Bool, List, Some, cond, false, refl, true, ℕ, [], ◌∷◌, ◌≡◌}
use Rattle.std.specs.List.{find}
use Rattle.std.specs.Prelude.{option_map, ◌==◌}
use Rattle.gb_formats.specs.Module.{Module}
use Rattle.gb_machine.specs.Bus.{Connection}
use Rattle.gb_machine.specs.Modules.{is_plugged_at, with_module}
use Rattle.gb_machine.specs.{Runs.Moment, Sending.Draft, State.Plugged, State.State}
use Rattle.gb_invariants.proofs.{Lists.two-at_first}
use Rattle.gb_laws.proofs.marks.Wholes.{AreElsewhere, plugged_at, whole-changed}
use Rattle.gb_laws.proofs.points.Points.{Going, IsAskedBy, SamePlugs, begins, by_far, by_host}
use Rattle.gb_laws.proofs.points.Points.{by_loader, continues, modules_by, modules_gone}
use Rattle.gb_laws.proofs.{points.PointParts.Point}

-- ---- what stays plugged

pub same-plugs : (s : State) → SamePlugs s s.booted s.ports s.modules
same-plugs s = record {
  started = refl;
  plugged = λ i. refl;
  powered = λ i e. e;
  differ = λ h. h;
  whole = λ h. h;
}

-- where a module changes
pub module-plugs : (s : State) (i : ℕ) (x : Module)
    → SamePlugs s s.booted s.ports (with_module i x s.modules)
module-plugs s i x = record {
  started = refl;
  plugged = plugged s.modules;
  powered = λ j e. e;
  differ = λ h. two-at_first AreElsewhere (is_plugged_at i) (λ p. record p { body = x }) s.modules
      (λ p q r. r) (λ p q r. r) h;
  whole = λ h. whole-changed i (λ p. record p { body = x }) s.modules (λ p. refl) (λ p. refl)
      (λ p. refl) h;
}
  where
    plugged : (ms : List Plugged) (j : ℕ) → plugged_at j (with_module i x ms) ≡ plugged_at j ms
    plugged [] j = refl
    plugged (p ∷ ps) j = by (p.intf == i) (plugged ps j)
      where
        behind : (t : Bool) → plugged_at j (with_module i x ps) ≡ plugged_at j ps
            → (option_map (λ (q : Plugged). q.primary)
            (cond t (Some p) (find (is_plugged_at j) (with_module i x ps))))
            ≡ (option_map (λ (q : Plugged). q.primary)
            (cond t (Some p) (find (is_plugged_at j) ps)))
        behind true h = refl
        behind false h = h

        here : (t : Bool) → (option_map (λ (q : Plugged). q.primary)
            (cond t (Some (record p { body = x })) (find (is_plugged_at j) ps)))
            ≡ (option_map (λ (q : Plugged). q.primary)
            (cond t (Some p) (find (is_plugged_at j) ps)))
        here true = refl
        here false = refl

        by : (t : Bool) → plugged_at j (with_module i x ps) ≡ plugged_at j ps
            → plugged_at j (cond t (record p { body = x } ∷ ps)
            (p ∷ with_module i x ps)) ≡ plugged_at j (p ∷ ps)
        by true h = here (p.intf == j)
        by false h = behind (p.intf == j) h

-- where a firmware device asks
gone-plugs : (s : State) (x : Going)
    → SamePlugs s s.booted s.ports (modules_gone x s.modules)
gone-plugs s (begins i c x) = module-plugs s i x
gone-plugs s (continues i c x) = module-plugs s i x

-- where a request is made
pub asked-plugs : (m : Moment) (a : Point) (c : Connection) (d : Draft) (who : IsAskedBy m a c d)
    → SamePlugs a.state a.state.booted a.state.ports (modules_by m a c d who)
asked-plugs m a c d (by_host q rest is draft none) = same-plugs a.state
asked-plugs m a c d (by_far who on unloaded) = same-plugs a.state
asked-plugs m a c d (by_loader x going who on) = gone-plugs a.state x
