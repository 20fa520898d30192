-- A law of turns goes over what the application processor does at what it takes notice of.
use Rattle.std.proofs.Common.{Bool, List, None, Option, Some, ap, cond, false, inl, inr, length}
use Rattle.std.proofs.Common.{refl, true, ℕ, [], ◌∙◌, ◌∷◌, ◌≡◌}
use Rattle.std.specs.Prelude.{Err, Ok, Result, option_and_then, ◌==◌}
use Rattle.gb_base.specs.declared.host_event.HostEvent.TheVariants as host_event
use Rattle.gb_base.specs.declared.host_event.HostEvent.{HostEvent}
use Rattle.gb_base.specs.declared.outcome.Outcome.{Outcome}
use Rattle.gb_base.specs.declared.interface.{Interface.Interface, Link.Link}
use Rattle.gb_base.specs.declared.steps.{Purpose.Purpose, SequenceStep.SequenceStep}
use Rattle.gb_base.specs.declared.entry.ConnState.TheVariants as state
use Rattle.gb_base.specs.declared.entry.Entry.TheVariants as entry
use Rattle.gb_base.specs.declared.entry.IntfStage.TheVariants as stage
use Rattle.gb_base.specs.declared.outcome.Outcome.TheVariants as outcome
use Rattle.gb_base.specs.declared.steps.SequenceStep.TheVariants as steps
use Rattle.gb_formats.specs.Manifest.{CportView, Manifest, check_answer}
use Rattle.gb_formats.specs.{ControlRecords.read_control_reply, ManifestRules.Refused}
use Rattle.gb_machine.specs.Failures.{interface_fails, step_fails}
use Rattle.gb_machine.specs.Host.{Host, cport_of, free_cport, free_device, interface_of}
use Rattle.gb_machine.specs.Host.{is_draining, link_at, link_of, with_interface}
use Rattle.gb_machine.specs.Host.{with_new_interface, without_link}
use Rattle.gb_machine.specs.HostTurns.{connects, connects_on, disconnects, drained, ended_for}
use Rattle.gb_machine.specs.HostTurns.{host_disconnects, host_idle, host_inserted}
use Rattle.gb_machine.specs.HostTurns.{host_removed, without_interface}
use Rattle.gb_machine.specs.SequenceSteps.{at_step, is_enumeration, is_reply, purpose}
use Rattle.gb_machine.specs.Sequences.{begins_control, begins_device, link_left}
use Rattle.gb_machine.specs.Sequences.{manifest_checked, opened, opened_told, payload_in}
use Rattle.gb_machine.specs.Sequences.{size_in, size_known, step_answered, step_asked, step_done}
use Rattle.gb_machine.specs.Turns.{Act, failed_turn, turn}
use Rattle.gb_machine.specs.Waits.{awaited, awaits_nothing}
use Rattle.gb_invariants.proofs.HostChanges.{same-kind}
use Rattle.gb_invariants.proofs.HostChanges.{FailsAt, IsAnswered, IsBehind}
use Rattle.gb_invariants.proofs.HostChanges.{IsClosingFor, IsEnded, Keeps, Notice}
use Rattle.gb_invariants.proofs.HostChanges.{TurnLaw, arrives, as_answered, asks, at_event}
use Rattle.gb_invariants.proofs.HostChanges.{at_insertion, at_notice, at_removal}
use Rattle.gb_invariants.proofs.HostChanges.{by_disconnect, by_idle, closes, departs, end_of}
use Rattle.gb_invariants.proofs.HostChanges.{enumerates, event_turn, host_after, is_creating}
use Rattle.gb_invariants.proofs.HostChanges.{leaves}
use Rattle.gb_invariants.proofs.HostChanges.{makes, resumes, step_behind, to_close}
use Rattle.gb_invariants.proofs.HostChanges.{to_connect, to_enumerate, to_go_on}
use Rattle.gb_invariants.proofs.HostChanges.{turn_of, with_control, with_update}
use Rattle.gb_invariants.proofs.OverFailures.{asked, interface-fails, keeps-all, no-enumeration}
use Rattle.gb_invariants.proofs.OverFailures.{resting, step-fails, told, turned, turned-last}
use Rattle.gb_invariants.proofs.OverFailures.{updated}

-- ---- a request ended

-- only an answer brings a payload
pub payload-answered : (how : Outcome) {payload : List ℕ} → payload_in how ≡ Some payload
    → (result : ℕ) × (bytes : List ℕ) × (how ≡ outcome.Answered result bytes)
payload-answered (outcome.Answered result bytes) e = (result, bytes, refl)
payload-answered _ e = absurd cc

module _ (x : Notice) (before : Host) (law : TurnLaw (at_notice x before)) where
  -- what follows a step that was answered
  module _ (p : Purpose) (answered : IsAnswered x before p) where
    abbrev here : Host
    here = awaits_nothing p before

    fail : is_enumeration p.step ≡ true → FailsAt (at_notice x before) p.intf
    fail is = (
      p,
      record {
        number = answered.number;
        how = outcome.Answered answered.result answered.payload;
        is = answered.is;
        awaited = answered.awaited;
      },
      is,
      refl,
    )

    -- the next step is asked
    goes : (later : SequenceStep) (h : Host) → step_behind p.step ≡ Some later
        → is_creating later ≡ false → IsBehind p here h
        → law.says h (step_asked (at_step later p) h)
    goes later h next plain behind =
        asked (at_notice x before) law (at_step later p) h
        (to_go_on p later answered next refl behind) plain
        (λ s. fail (same-kind p.step next ∙ s))

    -- and its interface has changed
    goes-updated : (later : SequenceStep) (f : Interface → Interface)
        → step_behind p.step ≡ Some later → is_creating later ≡ false → Keeps f
        → law.says here (step_asked (at_step later p) (with_interface p.intf f here))
    goes-updated later f next plain keeps =
        updated (at_notice x before) law p.intf f here _ keeps
        (goes later (with_interface p.intf f here) next plain (with_update f keeps refl))

    -- or its interface fails
    interface-failed : (later : SequenceStep) → is_enumeration p.step ≡ true
        → law.says here (failed_turn (interface_fails (at_step later p) here))
    interface-failed later is =
        interface-fails (at_notice x before) law (at_step later p) here (fail is)

    checked : (r : Result Manifest Refused) (bytes : List ℕ) → p.step ≡ steps.AskManifest
        → law.says here (manifest_checked r p bytes here)
    checked (Ok m) bytes at = law.ends (enumerates p bytes) here (answered, at, refl)
    checked (Err why) bytes at =
        told (at_notice x before) law (entry.Manifest p.intf why.at why.reason) here
        (failed_turn (interface_fails p here)) tt
        (interface-fails (at_notice x before) law p here (fail (ap is_enumeration at)))

    done : (step : SequenceStep) (payload : List ℕ) → p.step ≡ step
        → law.says here (step_done step p payload here)
    done steps.EnableVsys payload at =
        goes steps.EnableRefclk here (ap step_behind at) refl (as_answered refl)
    done steps.EnableRefclk payload at =
        goes steps.EnableUnipro here (ap step_behind at) refl (as_answered refl)
    done steps.EnableUnipro payload at =
        goes steps.Activate here (ap step_behind at) refl (as_answered refl)
    done steps.Activate payload at = by (free_device here)
      where
        by : (o : Option ℕ)
            → law.says here (begins_device o (at_step steps.GiveDevice p) here)
        by None = interface-failed steps.GiveDevice (ap is_enumeration at)
        by (Some d) =
            let f = λ (x : Interface). record x { device = Some d } in
            goes-updated steps.GiveDevice f (ap step_behind at) refl
            (keeps-all f (λ x. refl) (λ x. refl) (λ x. refl) (λ x. refl))
    done steps.GiveDevice payload at =
        let f = λ (x : Interface). record x { has_device = true } in
        goes-updated steps.CreateRoute f (ap step_behind at) refl
        (keeps-all f (λ x. refl) (λ x. refl) (λ x. refl) (λ x. refl))
    done steps.CreateRoute payload at = by (free_cport here) refl
      where
        by : (o : Option ℕ) → free_cport here ≡ o
            → law.says here (begins_control o (at_step steps.CreateControl p) here)
        by None free = interface-failed steps.CreateControl (ap is_enumeration at)
        by (Some a) free = law.ends (makes a 0 (at_step steps.CreateControl p)) here (
          to_go_on p steps.CreateControl answered (ap step_behind at) refl (as_answered refl),
          refl,
          free,
        )
    done steps.CreateControl payload at = by (link_at p.intf p.cport here) refl
      where
        asks-version : law.says (opened p here)
            (step_asked (at_step steps.AskVersion p) (opened p here))
        asks-version =
            goes steps.AskVersion (opened p here) (ap step_behind at) refl
            (with_control at refl)

        by : (o : Option Link) → link_at p.intf p.cport here ≡ o → law.says here
            (opened_told o (step_asked (at_step steps.AskVersion p) (opened p here)))
        by None f = turned (at_notice x before) law p.intf p.cport state.Open None here _ f
            (p.step, inl (answered, at, refl)) asks-version
        by (Some l) f = turned (at_notice x before) law p.intf p.cport state.Open (Some l) here _ f
            (p.step, inl (answered, at, refl)) asks-version
    done steps.AskVersion payload at =
        goes steps.AskSize here (ap step_behind at) refl (as_answered refl)
    done steps.AskSize payload at =
        let f = λ (x : Interface). record x { size = size_in (read_control_reply 0x03 payload) } in
        goes-updated steps.AskManifest f (ap step_behind at) refl
        (keeps-all f (λ x. refl) (λ x. refl) (λ x. refl) (λ x. refl))
    done steps.AskManifest payload at =
        by (length payload == size_known (interface_of p.intf here))
      where
        by : (t : Bool) → law.says here (cond t
            (manifest_checked (check_answer payload) p payload here)
            (failed_turn (interface_fails p here)))
        by true = checked (check_answer payload) payload at
        by false = interface-fails (at_notice x before) law p here (fail (ap is_enumeration at))
    done steps.CreateConnection payload at =
        goes steps.TellConnected here (ap step_behind at) refl (as_answered refl)
    done steps.TellConnected payload at =
        turned-last (at_notice x before) law p.intf p.cport state.Open here
        (p.step, inr (answered, at, refl))
    done steps.TellDisconnecting payload at =
        goes steps.TellDisconnected here (ap step_behind at) refl (as_answered refl)
    done steps.TellDisconnected payload at =
        goes steps.DestroyConnection here (ap step_behind at) refl (as_answered refl)
    done steps.DestroyConnection payload at = by (link_at p.intf p.cport here) refl
      where
        gone : Host
        gone = without_link p.intf p.cport here

        by : (o : Option Link) → link_at p.intf p.cport here ≡ o
            → law.says here (link_left o gone)
        by None f = law.over (leaves p None) here (turn gone []) f (answered, at, refl)
            (resting (at_notice x before) law gone)
        by (Some l) f = law.over (leaves p (Some l)) here (turn gone []) f (answered, at, refl)
            (resting (at_notice x before) law gone)

  ended : (n : ℕ) (how : Outcome) → x ≡ at_event (host_event.Ended n how) → (o : Option Purpose)
      → awaited n before ≡ o → law.says before (ended_for o how before)
  ended n how is None found = resting (at_notice x before) law before
  ended n how is (Some p) found =
      law.over (resumes p) before (step_answered (payload_in how) p (awaits_nothing p before)) tt
      (why, refl) (by (payload_in how) refl)
    where
      why : IsEnded x before p
      why = record { number = n; how = how; is = is; awaited = found }

      failed : law.says (awaits_nothing p before)
          (failed_turn (step_fails p.step p (awaits_nothing p before)))
      failed = step-fails (at_notice x before) law p.step p (awaits_nothing p before)
          (inl (why, refl)) (λ s. (p, why, s, refl))

      by : (o : Option (List ℕ)) → payload_in how ≡ o
          → law.says (awaits_nothing p before) (step_answered o p (awaits_nothing p before))
      by None f = failed
      by (Some payload) f = on (is_reply p.step payload)
        where
          on : (t : Bool) → law.says (awaits_nothing p before) (cond t
              (step_done p.step p payload (awaits_nothing p before))
              (failed_turn (step_fails p.step p (awaits_nothing p before))))
          on true = let a = payload-answered how f in
              done p (record {
                number = n;
                result = a.0;
                payload = a.1;
                is = is ∙ ap (λ o. at_event (host_event.Ended n o)) a.2;
                awaited = found;
              }) p.step payload refl
          on false = failed

  -- ---- what else is noticed

  connected : (i c : ℕ) → x ≡ at_event (host_event.Connect i c) → (o : Option CportView)
      → law.says before (connects o (purpose i c steps.CreateConnection) before)
  connected i c is None = resting (at_notice x before) law before
  connected i c is (Some view) = by (free_cport before) refl
    where
      by : (o : Option ℕ) → free_cport before ≡ o → law.says before
          (connects_on o view.protocol (purpose i c steps.CreateConnection) before)
      by None free = resting (at_notice x before) law before
      by (Some a) free = law.ends (makes a view.protocol (purpose i c steps.CreateConnection))
          before (to_connect i c is refl refl, refl, free)

  -- a connection closes, for a reason that it has
  closed : (i c : ℕ) → IsClosingFor x before i c → law.says before (host_disconnects i c before)
  closed i c why = by (link_at i c before) refl
    where
      by : (o : Option Link) → link_at i c before ≡ o
          → law.says before (disconnects o (purpose i c steps.TellDisconnecting) before)
      by None found = resting (at_notice x before) law before
      by (Some l) found =
          law.over (closes i c l) before _ found (why, refl)
          (asked (at_notice x before) law (purpose i c steps.TellDisconnecting)
          (host_after (closes i c l) before) (to_close i c l why found refl refl) refl
          no-enumeration)

  idle : (k : ℕ) → x ≡ at_event (host_event.Idle k) → law.says before (host_idle k before)
  idle k is = by (link_of k before) refl
    where
      on : (d : Link) → link_of k before ≡ Some d → (t : Bool) → is_draining d.state ≡ t
          → law.says before (cond t (host_disconnects d.intf d.cport before) (turn before []))
      on d found false drains = resting (at_notice x before) law before
      on d found true drains =
          closed d.intf d.cport (by_idle d
          (record { number = k; is = is; found = found; drains = drains }) refl refl)

      by : (o : Option Link) → link_of k before ≡ o → law.says before (drained o before)
      by None found = resting (at_notice x before) law before
      by (Some d) found = on d found (is_draining d.state) refl

  inserted : (p i : ℕ) → x ≡ at_insertion p i → law.says before (host_inserted p i before)
  inserted p i is =
      let q = purpose i 0 steps.EnableVsys in
      let g = with_new_interface p i before in
      told (at_notice x before) law (entry.Interface i stage.Enumerating) before
      (end_of (asks 1 q) g) tt (law.over (arrives p i) before (end_of (asks 1 q) g) tt (is, refl)
      (law.ends (asks 1 q) g (to_enumerate p i is refl refl, refl, refl)))

  removed : (i : ℕ) → x ≡ at_removal i → law.says before (host_removed i before)
  removed i is =
      let g = without_interface i before in
      law.over (departs i) before (turn g (Act.Tell (entry.Interface i stage.Removed) ∷ [])) tt
      (is, refl) (told (at_notice x before) law (entry.Interface i stage.Removed) g (turn g []) tt
      (resting (at_notice x before) law g))

  at-event : (f : HostEvent) → x ≡ at_event f → law.says before (event_turn f before)
  at-event (host_event.Inserted p count) is = resting (at_notice x before) law before
  at-event (host_event.Removed p) is = resting (at_notice x before) law before
  at-event (host_event.Connect i c) is =
      connected i c is (option_and_then (cport_of c) (interface_of i before))
  at-event (host_event.Disconnect i c) is = closed i c (by_disconnect is)
  at-event (host_event.Drain i c) is =
      turned-last (at_notice x before) law i c state.Draining before (is, refl)
  at-event (host_event.Idle k) is = idle k is
  at-event (host_event.Ended n how) is = ended n how is (awaited n before) refl

  turned-by : (y : Notice) → x ≡ y → law.says before (turn_of y before)
  turned-by (at_insertion p i) is = inserted p i is
  turned-by (at_removal i) is = removed i is
  turned-by (at_event f) is = at-event f is

-- A law goes over each turn.
pub over-turn : (x : Notice) (h : Host) (law : TurnLaw (at_notice x h)) → law.says h (turn_of x h)
over-turn x h law = turned-by x h law x refl
