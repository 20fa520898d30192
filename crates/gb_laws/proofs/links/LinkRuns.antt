-- The application processor's connections go with the bus, and insertions and removals come in
-- turn, throughout.
use Rattle.std.proofs.Common.{List, None, Option, Some, ap, false, inl, map, refl, subst, sym, ℕ}
use Rattle.std.proofs.Common.{[], ◌∙◌, ◌∷◌, ◌≡◌}
use Rattle.gb_base.specs.declared.end.End.{End}
use Rattle.gb_base.specs.declared.entry.Entry.{Entry}
use Rattle.gb_base.specs.declared.event.Event.{Event}
use Rattle.gb_base.specs.declared.event.Event.TheVariants as event
use Rattle.gb_base.specs.declared.refusal.Refusal.{Refusal}
use Rattle.gb_formats.specs.Module.{Module, module_of_kind, module_raw}
use Rattle.gb_machine.proofs.{Conditions.free, Opened.machine_opened}
use Rattle.gb_machine.specs.Runs.{IsMoment, Moment, after}
use Rattle.gb_machine.specs.{Bus.first_bus, Bus.svc_connection, Events.decided, Events.step}
use Rattle.gb_machine.specs.{Plugging.plugs, Refusals.refusal}
use Rattle.gb_machine.specs.{State.State, State.first_state}
use Rattle.gb_invariants.proofs.Awaiting.{none-some, not-both}
use Rattle.gb_laws.proofs.basis.Basics.{Based, basis-first, none-made, rested}
use Rattle.gb_laws.proofs.marks.MarkMoments.{inserts-absent, marks-delivered, marks-still}
use Rattle.gb_laws.proofs.marks.MarkMoments.{refused-state}
use Rattle.gb_laws.proofs.points.Points.{IsOfSvc, Law, upon}
use Rattle.gb_laws.proofs.runs.Runs.{HoldsByMoments, Keeps, throughout}
use Rattle.gb_laws.proofs.{links.LinkFrom.Linked, links.LinkKept.InsertsAbsent}
use Rattle.gb_laws.proofs.{links.LinkLaw.link_law}
use Rattle.gb_laws.proofs.{links.LinkLaw.linked-first, marks.MarkFrame.asked-items}
use Rattle.gb_laws.proofs.{marks.MarkFrame.taken_bus}
use Rattle.gb_laws.proofs.{marks.MarkBoots.boot-kept, marks.MarkPlugs.plug-kept}
use Rattle.gb_laws.proofs.{marks.MarkPulls.pull-kept}
use Rattle.gb_laws.proofs.{marks.Marks.MarksFit, points.PointParts.resting, steps.Steps.over-step}
use Rattle.gb_laws.proofs.{svc.SvcThere.There}
use Rattle.gb_laws.proofs.{svc.SvcThere.there-kept}
use Rattle.gb_laws.proofs.marks.PlugParts.{CanPlug, kinds-plug, raw-plug}

-- What is known at rest of the application processor's connections, and of insertions and removals.
abbrev pub LinkedTo : List Entry → State → Type 0
LinkedTo told s = Based told s × Linked s.bus s.host [] × MarksFit s × There s.bus

-- an interface whose insertion is handled is absent
pub start-absent : (m : Moment) → LinkedTo m.told m.before → InsertsAbsent m
start-absent m start = inserts-absent m start.0 start.1 start.2

-- ---- the marks at each moment

module _ (m : Moment) (one : IsMoment m.event) (start : LinkedTo m.told m.before) where
  still : (e : Event) → m.event ≡ e → (IsOfSvc e → ⊥) → taken_bus e m.before.bus ≡ m.before.bus
      → ((at : End) → e ≡ event.Deliver at → ⊥) → MarksFit (after m)
  still e is other same undelivered =
      marks-still m one start.0 start.1 start.2 (λ of. other (subst IsOfSvc is of))
      (ap (λ x. taken_bus x m.before.bus) is ∙ same) (λ at f. undelivered at (sym is ∙ f))

  -- where the supervisory controller may ask, and the event isn't refused
  asking : (e : Event) → m.event ≡ e
      → (refusal m.before e ≡ None → MarksFit (decided None e m.before).state) → MarksFit (after m)
  unfolding machine_opened
  asking e is done = by (refusal m.before e) refl
    where
      by : (o : Option Refusal) → refusal m.before e ≡ o → MarksFit (after m)
      by (Some reason) f =
          subst MarksFit (sym (refused-state m reason (ap (refusal m.before) is ∙ f))) start.2
      by None f = subst MarksFit (sym
          (ap (λ x. (step m.before x).state) is ∙ ap (λ o. (decided o e m.before).state) f))
          (done f)

  plugged : (i : ℕ) (ms : List Module) → CanPlug i ms m.before.modules
      → MarksFit (plugs i ms m.before).state
  plugged i ms can =
      plug-kept i ms m.before can start.2 (asked-items (resting m.told m.before) start.0)

  marks-kept : (e : Event) → m.event ≡ e → IsMoment e → MarksFit (after m)
  unfolding machine_opened
  marks-kept event.Boot is at = asking event.Boot is (λ allowed.
      boot-kept m.before (asked-items (resting m.told m.before) start.0)
      (free m.before event.Boot allowed).0 start.2)
  marks-kept (event.Insert i kinds) is at = asking (event.Insert i kinds) is
      (λ allowed. plugged i (map module_of_kind kinds) (kinds-plug m.before i kinds at allowed))
  marks-kept (event.InsertRaw i manifest) is at = asking (event.InsertRaw i manifest) is
      (λ allowed. plugged i (module_raw manifest ∷ []) (raw-plug m.before i manifest at allowed))
  marks-kept (event.Pull i) is at = asking (event.Pull i) is (λ allowed.
      pull-kept i m.before start.0.bus.numbers.rise (asked-items (resting m.told m.before) start.0)
      (λ c j on. (start.1.svc c j on).peer) start.3
      (free m.before (event.Pull i) allowed).1.0 start.2)
  marks-kept (event.Deliver to) is at =
      marks-delivered m one start.0 start.1 start.2 (λ of. subst IsOfSvc is of) to is
  marks-kept (event.Settle most) is at = absurd at
  marks-kept e is at = still e is (λ x. x) refl (λ k f. absurd cc)

-- ---- throughout

abbrev pub there_law : (m : Moment) → InsertsAbsent m → Law m
there_law m absent = upon (link_law m absent) (λ a. There a.state.bus)
    (λ a x g h. there-kept m a x g.1 h)

marks-first_state : MarksFit first_state
marks-first_state = record {
  reads = λ i p e. absurd (none-some e);
  unstarted = λ e i. (refl, refl);
  differ = tt;
  pulled = λ n i e. absurd (not-both false e refl);
  whole = λ x i. absurd i;
  told = λ n r made on far p count notice. absurd (none-made n r made);
}

there-first_state : There first_bus
there-first_state = record {
  connection = svc_connection;
  live = inl refl;
  number = refl;
  wired = refl;
}

-- over a moment
pub linked-over : Keeps LinkedTo
linked-over m one h = let r = over-step m (there_law m (start-absent m h)) one ((h.0, h.1), h.3) in
    (rested _ _ r.0 r.1.0.0, r.1.0.1, marks-kept m one h m.event refl one, r.1.1)

pub linked-throughout : HoldsByMoments LinkedTo
linked-throughout = throughout LinkedTo
    (basis-first, linked-first, marks-first_state, there-first_state) linked-over
