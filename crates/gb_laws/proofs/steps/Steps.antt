-- A law of points goes over the step of each event.
use Rattle.std.proofs.Common.{List, None, Option, Some, append_assoc, arith, inl, map, refl, subst}
use Rattle.std.proofs.Common.{sym, ℕ, [], ◌++◌, ◌∷◌, ◌≡◌}
use Rattle.gb_base.specs.declared.entry.Entry.TheVariants as entry
use Rattle.gb_base.specs.declared.event.Event.{Event}
use Rattle.gb_base.specs.declared.event.Event.TheVariants as event
use Rattle.gb_base.specs.declared.host_event.HostEvent.TheVariants as host_event
use Rattle.gb_base.specs.declared.event.Kind.{Kind}
use Rattle.gb_base.specs.declared.refusal.Refusal.{Refusal}
use Rattle.gb_formats.specs.{Devices.Level, Devices.Serial, Module.module_of_kind}
use Rattle.gb_formats.specs.{Module.module_raw}
use Rattle.gb_machine.proofs.Opened.{machine_opened}
use Rattle.gb_machine.specs.Runs.{IsMoment, Moment, after, told_at}
use Rattle.gb_machine.specs.{Events.decided, Events.does, Members.Each, Refusals.refusal}
use Rattle.gb_invariants.proofs.HostChanges.{at_event}
use Rattle.gb_laws.proofs.points.PointParts.{Untouched, Wires, resting}
use Rattle.gb_laws.proofs.points.Points.{IsBridge, IsOfSvc, Law, frees, tells}
use Rattle.gb_laws.proofs.steps.LoadersPlugged.{AreFirst, first-kind, first-raw}
use Rattle.gb_laws.proofs.steps.StepEvents.{rests-bridges, rests-cancels, rests-injects}
use Rattle.gb_laws.proofs.steps.StepEvents.{rests-sends, rests-shows, rests-stirs}
use Rattle.gb_laws.proofs.{steps.StepActLaws.acting, steps.StepActions.At}
use Rattle.gb_laws.proofs.{steps.StepActs.goes-notice, steps.StepDelivers.ends-answers}
use Rattle.gb_laws.proofs.{steps.StepDelivers.ends-delivers, steps.StepIdles.goes-drains}
use Rattle.gb_laws.proofs.{steps.StepLoads.rests-loads, steps.StepPlugs.rests-boots}
use Rattle.gb_laws.proofs.{steps.StepPlugs.rests-plugs, steps.StepSvcServes.Ends}
use Rattle.gb_laws.proofs.{steps.StepSvcServes.ends-going, steps.Ticking.ends-pulls}
use Rattle.gb_laws.proofs.{steps.Ticking.rests-ticks}
use Rattle.gb_base.specs.declared.name.Name.{Name}
use Rattle.gb_formats.specs.{Images.image_of}
use Rattle.gb_machine.proofs.{Conditions.free as unmet, Options.none-of}
use Rattle.gb_machine.specs.Actions.{change, given, on_host}
use Rattle.gb_machine.specs.{Bus.Place, Events.holds, Events.with_hold, Holding.marked}
use Rattle.gb_machine.specs.{Host.with_given, LineActions.copies, Names.bound, Names.named}
use Rattle.gb_machine.specs.{Refusals.module_place, State.State}
use Rattle.gb_laws.proofs.{points.Places.place-marked, svc.StayPlugged.same-plugs}
use Rattle.gb_laws.proofs.points.Points.{as_before, binds, gives, others}
use Rattle.gb_laws.proofs.steps.LoadersPlugged.{same-loaders}
use Rattle.gb_laws.proofs.steps.StepPlugs.{Rests, rests-nothing}

-- the loaders of modules of kinds are in their first state
kinds-first : (kinds : List Kind) → Each AreFirst (map module_of_kind kinds)
kinds-first [] = tt
kinds-first (k ∷ ks) = (first-kind k, kinds-first ks)

module _ (m : Moment) (law : Law m) where
  -- ---- events of one single change

  rests-holds : (i c : ℕ) (s : State) → Rests m law (holds i c) s
  unfolding machine_opened
  rests-holds i c s = by (module_place i c s) refl
    where
      by : (o : Option Place) → module_place i c s ≡ o
          → Rests m law (given o (λ p. change (with_hold p.connection.number))) s
      by None e = rests-nothing m law s
      by (Some p) e = λ told at. law.kept _ (others s.booted (marked p.connection.number s.holds)
          s.ports s.modules (
            inl (
              same-plugs s,
              as_before refl,
              record { hand = refl; pending = refl; asked = refl },
              place-marked i c s p e,
            ),
            same-loaders s.modules,
          )) at

  -- an image is given
  rests-gives : (tag bytes : List ℕ) → m.event ≡ event.Image tag bytes
      → refusal m.before (event.Image tag bytes) ≡ None
      → Rests m law (on_host (with_given tag bytes)) m.before
  unfolding machine_opened
  rests-gives tag bytes is allowed told at =
      law.kept _ (gives tag bytes (refl, is) (none-of (image_of tag m.before.host.images)
      (unmet m.before (event.Image tag bytes) allowed).0)) at

  rests-copies : (x y : Name) (s : State) → Rests m law (copies x y) s
  unfolding machine_opened
  rests-copies x y s = by (named x s.names) refl
    where
      by : (o : Option ℕ) → named x s.names ≡ o → Rests m law (given o (λ n. change (bound y n))) s
      by None e = rests-nothing m law s
      by (Some n) e = λ told at. law.kept _ (binds x y n e) at

  -- ---- all events

  -- what an event does that isn't refused
  ends-does : (e : Event) → m.event ≡ e → IsMoment e → refusal m.before e ≡ None
      → Ends m law None (does e) m.before
  unfolding machine_opened
  ends-does event.Boot is one free = ends-going m law (does event.Boot)
      (rests-boots m law (subst IsOfSvc (sym is) tt) m.before)
  ends-does (event.Insert i kinds) is one free = ends-going m law (does (event.Insert i kinds))
      (rests-plugs m law (subst IsOfSvc (sym is) tt) i (map module_of_kind kinds)
      (kinds-first kinds) m.before)
  ends-does (event.InsertRaw i manifest) is one free = ends-going m law
      (does (event.InsertRaw i manifest))
      (rests-plugs m law (subst IsOfSvc (sym is) tt) i (module_raw manifest ∷ [])
      (first-raw manifest, tt) m.before)
  ends-does (event.Pull i) is one free = ends-pulls m law (subst IsOfSvc (sym is) tt) i
  ends-does (event.Connect i c) is one free =
      ends-going m law (does (event.Connect i c))
      (goes-notice m (acting m law) (at_event (host_event.Connect i c)) m.before refl
      (refl, is, free, one.1))
  ends-does (event.Disconnect i c) is one free =
      ends-going m law (does (event.Disconnect i c))
      (goes-notice m (acting m law) (at_event (host_event.Disconnect i c)) m.before refl
      (refl, is, free))
  ends-does (event.Drain i c) is one free =
      ends-going m law (does (event.Drain i c))
      (goes-drains m (acting m law) (λ a h. (law.basis a h).drains) i c is free)
  ends-does (event.Send name to kind payload timeout) is one free =
      ends-going m law (does (event.Send name to kind payload timeout))
      (rests-sends m law name to kind payload timeout m.before free
      (let most = one.2 in omega (arith, most)))
  ends-does (event.Bridge name i c what) is one free =
      ends-going m law (does (event.Bridge name i c what))
      (rests-bridges m law (subst IsBridge (sym is) tt) name i c what m.before free)
  ends-does (event.Level i c line value) is one free = ends-going m law
      (does (event.Level i c line value)) (rests-stirs m law i c (Level line value) m.before)
  ends-does (event.SerialState i c control) is one free = ends-going m law
      (does (event.SerialState i c control)) (rests-stirs m law i c (Serial control) m.before)
  ends-does (event.Deliver at) is one free = ends-delivers m law at is
  ends-does (event.Settle most) is one free = absurd one
  ends-does (event.Hold i c) is one free =
      ends-going m law (does (event.Hold i c)) (rests-holds i c m.before)
  ends-does (event.Answer i c place) is one free = ends-answers m law i c place is
  ends-does (event.Cancel name) is one free =
      ends-going m law (does (event.Cancel name)) (rests-cancels m law name is free)
  ends-does (event.Copy x y) is one free =
      ends-going m law (does (event.Copy x y)) (rests-copies x y m.before)
  ends-does (event.Forget name) is one free = λ told at. (Untouched, law.kept _ (frees name) at)
  ends-does (event.Tick millis) is one free =
      ends-going m law (does (event.Tick millis)) (rests-ticks m law millis is)
  ends-does (event.Inject i c bytes) is one free = ends-going m law
      (does (event.Inject i c bytes)) (rests-injects m law i c bytes m.before)
  ends-does (event.Image tag bytes) is one free =
      ends-going m law (does (event.Image tag bytes)) (rests-gives tag bytes is free)
  ends-does (event.Load i c tag) is one free =
      ends-going m law (does (event.Load i c tag)) (rests-loads m law i c tag is free)
  ends-does event.Show is one free =
      ends-going m law (does event.Show) (rests-shows m law m.before)

  -- A law that holds before a moment holds behind it, whatever became of wires.
  pub over-step : IsMoment m.event → law.holds (resting m.told m.before)
      → (w : Wires) × law.holds (record (resting (m.told ++ told_at m) (after m)) { wires = w })
  unfolding machine_opened
  over-step one start = by (refusal m.before m.event) refl
    where
      by : (o : Option Refusal) → refusal m.before m.event ≡ o
          → (w : Wires) × At m (acting m law) None [] w
          (m.told ++ (decided o m.event m.before).entries) (decided o m.event m.before).state
      by (Some why) e = (Untouched, law.kept _ (tells (entry.Refused why) refl) start)
      by None e =
          let r = ends-does m.event refl one e (m.told ++ entry.Done ∷ [])
          (law.kept _ (tells entry.Done refl) start) in (
            r.0,
            subst (λ es. At m (acting m law) None [] r.0 es (does m.event m.before).state)
                (append_assoc m.told (entry.Done ∷ []) (does m.event m.before).entries) r.1,
          )
