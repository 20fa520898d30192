-- Where a connection is wired its module is plugged and its interface routed, throughout.
use Rattle.std.proofs.Common.{List, None, Option, Some, ap, arith, false, map, refl, subst, sym, ℕ}
use Rattle.std.proofs.Common.{⊎_elim, [], ◌∙◌, ◌∷◌, ◌≡◌}
use Rattle.gb_base.specs.declared.entry.Entry.{Entry}
use Rattle.gb_base.specs.declared.event.Event.{Event}
use Rattle.gb_base.specs.declared.event.Event.TheVariants as event
use Rattle.gb_base.specs.declared.refusal.Refusal.{Refusal}
use Rattle.gb_formats.specs.Module.{Module, module_of_kind, module_raw}
use Rattle.gb_machine.proofs.{Opened.machine_opened}
use Rattle.gb_machine.specs.Plugging.{plugs}
use Rattle.gb_machine.specs.Runs.{IsMoment, Moment, after}
use Rattle.gb_machine.specs.State.{State, first_state}
use Rattle.gb_machine.specs.{Bus.Connection}
use Rattle.gb_machine.specs.{Events.decided, Events.step}
use Rattle.gb_machine.specs.{Refusals.refusal}
use Rattle.gb_invariants.proofs.{Awaiting.not-both}
use Rattle.gb_invariants.proofs.{Selves.svc-no-module}
use Rattle.gb_laws.proofs.links.LinkRuns.{LinkedTo, linked-over, linked-throughout}
use Rattle.gb_laws.proofs.points.Points.{IsOfSvc, Law, upon}
use Rattle.gb_laws.proofs.runs.Runs.{HoldsByMoments, Keeps, throughout}
use Rattle.gb_laws.proofs.svc.WiredWell.{WiredFit, wired-kept}
use Rattle.gb_laws.proofs.{basis.Basics.basis, marks.MarkFrame.asked-items}
use Rattle.gb_laws.proofs.{marks.MarkMoments.refused-state}
use Rattle.gb_laws.proofs.{points.PointParts.resting}
use Rattle.gb_laws.proofs.{steps.Steps.over-step}
use Rattle.gb_laws.proofs.svc.WiredPlugs.{fit-boots, fit-plugs, fit-pulls}
use Rattle.gb_laws.proofs.marks.PlugParts.{CanPlug, kinds-plug, raw-plug}

-- ---- each moment

-- with what is known of connections
pub record WiredTo (told : List Entry) (s : State) : Type 0 where
  pub links : LinkedTo told s
  pub wired : WiredFit s

module _ (m : Moment) (one : IsMoment m.event) (start : WiredTo m.told m.before) where
  abbrev wired_law : (IsOfSvc m.event → ⊥) → Law m
  wired_law other =
      upon (basis m) (λ a. WiredFit a.state) (λ a x g h. wired-kept m other a x g h)

  fit-still : (e : Event) → m.event ≡ e → (IsOfSvc e → ⊥) → WiredFit (after m)
  fit-still e is other = (over-step m (wired_law (λ of. other (subst IsOfSvc is of))) one
      (start.links.0, start.wired)).1.1

  fit-asking : (e : Event) → m.event ≡ e
      → (refusal m.before e ≡ None → WiredFit (decided None e m.before).state) → WiredFit (after m)
  unfolding machine_opened
  fit-asking e is done = by (refusal m.before e) refl
    where
      by : (o : Option Refusal) → refusal m.before e ≡ o → WiredFit (after m)
      by (Some reason) f =
          subst WiredFit (sym (refused-state m reason (ap (refusal m.before) is ∙ f))) start.wired
      by None f = subst WiredFit (sym
          (ap (λ x. (step m.before x).state) is ∙ ap (λ o. (decided o e m.before).state) f))
          (done f)

  plugged-fit : (i : ℕ) (ms : List Module) → CanPlug i ms m.before.modules
      → WiredFit (plugs i ms m.before).state
  plugged-fit i ms can =
      fit-plugs i ms can (asked-items (resting m.told m.before) start.links.0) start.wired

  fit-kept : (e : Event) → m.event ≡ e → IsMoment e → WiredFit (after m)
  unfolding machine_opened
  fit-kept event.Boot is at = fit-asking event.Boot is
      (λ free. fit-boots m.before (asked-items (resting m.told m.before) start.links.0) start.wired)
  fit-kept (event.Insert i kinds) is at = fit-asking (event.Insert i kinds) is
      (λ free. plugged-fit i (map module_of_kind kinds) (kinds-plug m.before i kinds at free))
  fit-kept (event.InsertRaw i manifest) is at = fit-asking (event.InsertRaw i manifest) is
      (λ free. plugged-fit i (module_raw manifest ∷ []) (raw-plug m.before i manifest at free))
  fit-kept (event.Pull i) is at = fit-asking (event.Pull i) is
      (λ free. fit-pulls i m.told m.before start.links
      (asked-items (resting m.told m.before) start.links.0) start.wired)
  fit-kept (event.Settle most) is at = absurd at
  fit-kept e is at = fit-still e is (λ x. x)

wired-first : WiredFit first_state
wired-first = record {
  wired = λ c i wired j p at. ⊎_elim
      (λ e. absurd (svc-no-module (sym (ap (λ (x : Connection). x.peer) e) ∙ at))) (λ n. absurd n)
      i;
  powered = λ i e. absurd (not-both false e refl);
  range = λ i e. absurd (not-both false e refl);
  bound = λ i. omega arith;
  routed = λ c i wired j p at. ⊎_elim
      (λ e. absurd (svc-no-module (sym (ap (λ (x : Connection). x.peer) e) ∙ at))) (λ n. absurd n)
      i;
}

pub wired-over : Keeps WiredTo
wired-over m one h = record {
  links = linked-over m one h.links;
  wired = fit-kept m one h m.event refl one;
}

pub wired-throughout : HoldsByMoments WiredTo
wired-throughout =
    throughout WiredTo (record { links = linked-throughout [] tt; wired = wired-first }) wired-over
