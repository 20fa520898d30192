-- A law of points goes over the start of the supervisory controller, and modules that come and go.
use Rattle.std.proofs.Common.{Bool, List, None, inl, inr, length, refl, true, ℕ, [], ◌+◌, ◌∷◌}
use Rattle.std.specs.List.{filter}
use Rattle.std.specs.Prelude.{◌==◌}
use Rattle.gb_formats.specs.SvcRecords.{SvcAsk}
use Rattle.gb_formats.specs.Module.{Module}
use Rattle.gb_machine.proofs.Opened.{machine_opened}
use Rattle.gb_machine.specs.Actions.{Action, change, each, nothing, when, ◌▸◌}
use Rattle.gb_machine.specs.Plugging.{boots, parts_from, parts_of, plugs, tells_inserted}
use Rattle.gb_machine.specs.Plugging.{with_plugged}
use Rattle.gb_machine.specs.{Members.Each, Modules.is_primary, OwnAsking.svc_asks}
use Rattle.gb_machine.specs.{OwnAsking.svc_own, Runs.Moment, State.Plugged, State.State}
use Rattle.gb_laws.proofs.points.LowTypes.{svc-low}
use Rattle.gb_laws.proofs.points.Points.{IsOfSvc, Law, by_svc, others}
use Rattle.gb_laws.proofs.steps.LoadersPlugged.{AreFirst, keeps-plugged, same-loaders}
use Rattle.gb_laws.proofs.steps.StepActions.{Goes, goes-far_asks, goes-nothing, goes-when, goes-▸}
use Rattle.gb_laws.proofs.{points.PointParts.Untouched, steps.StepActLaws.acting}
use Rattle.gb_laws.proofs.{svc.StayPlugged.powered-off}

-- ---- the shape of steps that leave wires alone

module _ (m : Moment) (law : Law m) where
  -- an action that leads from rest to rest
  abbrev pub Rests : Action → State → Type 0
  Rests f s = Goes m (acting m law) None [] Untouched None [] Untouched f s

  pub rests-▸ : (f g : Action) (s : State) → Rests f s → Rests g (f s).state → Rests (f ▸ g) s
  rests-▸ f g s h k =
      goes-▸ m (acting m law) f g h k

  pub rests-nothing : (s : State) → Rests nothing s
  rests-nothing s = goes-nothing m (acting m law) None [] Untouched s

  pub rests-when : (b : Bool) (f : Action) (s : State) → Rests f s → Rests (when b f) s
  rests-when b f s h = goes-when m (acting m law) None [] Untouched b f s (λ e. h)

  -- the supervisory controller asks
  pub rests-svc : IsOfSvc m.event → (ask : SvcAsk) (s : State) → Rests (svc_asks ask) s
  unfolding machine_opened
  rests-svc of ask s = goes-far_asks m (acting m law) [] Untouched 1 (svc_own ask) s
      (λ c e. (by_svc of refl, inl refl)) (svc-low ask)

  -- ---- booting, plugging and pulling

  pub rests-inserted_all : IsOfSvc m.event → (ps : List Plugged) (s : State)
      → Rests (each ps (λ p. tells_inserted p.primary p.count)) s
  unfolding machine_opened
  rests-inserted_all of [] s = rests-nothing s
  rests-inserted_all of (p ∷ ps) s =
      rests-▸ (tells_inserted p.primary p.count)
      (each ps (λ p. tells_inserted p.primary p.count)) s
      (rests-svc of (SvcAsk.ModuleInserted p.primary p.count 0) s)
      (rests-inserted_all of ps (tells_inserted p.primary p.count s).state)

  pub rests-boots : IsOfSvc m.event → (s : State) → Rests boots s
  unfolding machine_opened
  rests-boots of s =
      rests-▸ (change (λ t. record t { booted = true }) ▸ svc_asks (SvcAsk.ProtocolVersion 0 1)
      ▸ svc_asks (SvcAsk.Hello 1 1))
      (each (filter is_primary s.modules) (λ p. tells_inserted p.primary p.count)) s
      (rests-▸ (change (λ t. record t { booted = true }) ▸ svc_asks (SvcAsk.ProtocolVersion 0 1))
      (svc_asks (SvcAsk.Hello 1 1)) s
      (rests-▸ (change (λ t. record t { booted = true })) (svc_asks (SvcAsk.ProtocolVersion 0 1)) s
      (λ told at. law.kept _ (others true s.holds s.ports s.modules
      (inr (of, λ i. inl refl, λ k i. inl i), same-loaders s.modules)) at)
      (rests-svc of (SvcAsk.ProtocolVersion 0 1) _))
      (rests-svc of (SvcAsk.Hello 1 1) _)) (rests-inserted_all of (filter is_primary s.modules) _)

  -- parts of a module are plugged, whose loaders are in their first state
  rests-plugged_all : IsOfSvc m.event → (ps : List Plugged)
      → Each (λ (p : Plugged). AreFirst p.body) ps → (s : State)
      → Rests (each ps (λ p. change (with_plugged p))) s
  unfolding machine_opened
  rests-plugged_all of [] first s = rests-nothing s
  rests-plugged_all of (p ∷ ps) first s =
      rests-▸ (change (with_plugged p)) (each ps (λ p. change (with_plugged p))) s
      (λ told at. law.kept _ (others s.booted s.holds (with_plugged p s).ports
      (with_plugged p s).modules (
        inr (
          of,
          λ j. powered-off p.intf j s.ports (p.intf == j),
          λ k n. inl n,
        ),
        keeps-plugged p s.modules first.0,
      )) at)
      (rests-plugged_all of ps first.1 (with_plugged p s))

  pub rests-plugs : IsOfSvc m.event → (i : ℕ) (ms : List Module) → Each AreFirst ms → (s : State)
      → Rests (plugs i ms) s
  unfolding machine_opened
  rests-plugs of i ms first s =
      rests-▸ (each (parts_of i ms) (λ p. change (with_plugged p)))
      (when s.booted (tells_inserted i (length ms))) s
      (rests-plugged_all of (parts_of i ms) (parts-first ms i first) s)
      (rests-when s.booted (tells_inserted i (length ms)) _
      (rests-svc of (SvcAsk.ModuleInserted i (length ms) 0) _))
    where
      parts-first : (xs : List Module) (n : ℕ) → Each AreFirst xs
          → Each (λ (p : Plugged). AreFirst p.body) (parts_from n i (length ms) xs)
      parts-first [] n h = tt
      parts-first (x ∷ xs) n h = (h.0, parts-first xs (n + 1) h.1)
