-- A law of turns goes over what fails, and what is done where a request can't be made.
use Rattle.std.proofs.Common.{None, Option, Some, ap, false, inr, map, refl}
use Rattle.std.proofs.Common.{subst, true, ℕ, [], ◌++◌, ◌∙◌, ◌≡◌}
use Rattle.gb_base.specs.declared.entry.{ConnState.ConnState, Entry.Entry}
use Rattle.gb_base.specs.declared.interface.{Interface.Interface, Link.Link}
use Rattle.gb_base.specs.declared.steps.{Purpose.Purpose, SequenceStep.SequenceStep}
use Rattle.gb_base.specs.declared.entry.ConnState.TheVariants as state
use Rattle.gb_base.specs.declared.entry.Entry.TheVariants as entry
use Rattle.gb_base.specs.declared.entry.IntfStage.TheVariants as stage
use Rattle.gb_base.specs.declared.steps.SequenceStep.TheVariants as steps
use Rattle.gb_machine.specs.Failures.{interface_fails, link_fails, step_fails, told_of, unsent}
use Rattle.gb_machine.specs.Failures.{unsent_fails, without_device}
use Rattle.gb_machine.specs.Host.{Host, in_state}
use Rattle.gb_machine.specs.Host.{link_at, staged, with_interface, with_link}
use Rattle.gb_machine.specs.SequenceSteps.{is_enumeration}
use Rattle.gb_machine.specs.Sequences.{asked_on, link_turn}
use Rattle.gb_machine.specs.Sequences.{step_asked}
use Rattle.gb_machine.specs.Sequences.{way_of}
use Rattle.gb_machine.specs.Turns.{Act, Turn, failed_turn, telling, turn}
use Rattle.gb_invariants.proofs.HostChanges.{AsksAt, FailsAt, FailsFor}
use Rattle.gb_invariants.proofs.HostChanges.{IsOfNone, Keeps}
use Rattle.gb_invariants.proofs.HostChanges.{Occasion, TurnLaw, TurnsFor, asks}
use Rattle.gb_invariants.proofs.HostChanges.{at_notice, at_unsent}
use Rattle.gb_invariants.proofs.HostChanges.{fails, is_creating}
use Rattle.gb_invariants.proofs.HostChanges.{rests, tells}
use Rattle.gb_invariants.proofs.HostChanges.{turns_to, updates}

module _ (o : Occasion) (law : TurnLaw o) where
  pub resting : (h : Host) → law.says h (turn h [])
  resting h = law.ends rests h tt

  pub told : (e : Entry) (h : Host) (t : Turn) → IsOfNone e → law.says h t
      → law.says h (telling e t)
  told e h t plain s = law.over (tells e) h t plain tt s

  pub interface-fails : (p : Purpose) (h : Host) → FailsAt o p.intf
      → law.says h (failed_turn (interface_fails p h))
  interface-fails p h why =
      let g = with_interface p.intf (staged stage.Failed) h in
      told (entry.Interface p.intf stage.Failed) h (turn g []) tt
      (law.over (fails p.intf) h (turn g []) tt why (resting g))

  -- a connection opens, drains or fails in front of a turn
  pub turned : (i c : ℕ) (to : ConnState) (l : Option Link) (h : Host) (t : Turn)
      → link_at i c h ≡ l → TurnsFor to o h i c → law.says (with_link i c (in_state to) h) t
      → law.says h (turn t.host (map Act.Tell (told_of to l) ++ t.acts))
  turned i c to l h t found why s = law.over (turns_to i c to l) h t found why s

  -- and nothing more is done
  pub turned-last : (i c : ℕ) (to : ConnState) (h : Host) → TurnsFor to o h i c
      → law.says h (link_turn to (link_at i c h) (with_link i c (in_state to) h))
  turned-last i c to h why = by (link_at i c h) refl
    where
      g : Host
      g = with_link i c (in_state to) h

      by : (l : Option Link) → link_at i c h ≡ l → law.says h (link_turn to l g)
      by None e = turned i c to None h (turn g []) e why (resting g)
      by (Some l) e = turned i c to (Some l) h (turn g []) e why (resting g)

  pub link-fails : (p : Purpose) (h : Host) → FailsFor o p h
      → law.says h (failed_turn (link_fails p h))
  link-fails p h why = subst (law.says h) (same (link_at p.intf p.cport h))
      (turned-last p.intf p.cport state.Failed h (p.step, why))
    where
      same : {g : Host} (l : Option Link)
          → link_turn state.Failed l g ≡ turn g (map Act.Tell (told_of state.Failed l))
      same None = refl
      same (Some l) = refl

  -- the Control connection fails, and then its interface
  pub control-fails : (p : Purpose) (h : Host) → FailsFor o p h → FailsAt o p.intf
      → law.says h (failed_turn (step_fails steps.CreateControl p h))
  control-fails p h for why = by (link_at p.intf p.cport h) refl
    where
      g : Host
      g = with_link p.intf p.cport (in_state state.Failed) h

      by : (l : Option Link) → link_at p.intf p.cport h ≡ l → law.says h
          (turn (interface_fails p g).host
          (map Act.Tell (told_of state.Failed l ++ (interface_fails p g).told)))
      by None e = turned p.intf p.cport state.Failed None h (failed_turn (interface_fails p g)) e
          (p.step, for) (interface-fails p g why)
      by (Some l) e = turned p.intf p.cport state.Failed (Some l) h
          (failed_turn (interface_fails p g)) e (p.step, for) (interface-fails p g why)

  pub step-fails : (step : SequenceStep) (p : Purpose) (h : Host) → FailsFor o p h
      → (is_enumeration step ≡ true → FailsAt o p.intf)
      → law.says h (failed_turn (step_fails step p h))
  step-fails steps.CreateControl p h for why = control-fails p h for (why refl)
  step-fails steps.CreateConnection p h for why = link-fails p h for
  step-fails steps.TellConnected p h for why = link-fails p h for
  step-fails steps.TellDisconnecting p h for why = link-fails p h for
  step-fails steps.TellDisconnected p h for why = link-fails p h for
  step-fails steps.DestroyConnection p h for why = link-fails p h for
  step-fails _ p h for why = interface-fails p h (why refl)

  -- an interface changes in front of a turn
  pub updated : (i : ℕ) (f : Interface → Interface) (h : Host) (t : Turn) → Keeps f
      → law.says (with_interface i f h) t → law.says h t
  updated i f h t keeps s = law.over (updates i f) h t keeps tt s

  -- a request is made, or fails where there is no connection for it
  pub asked : (p : Purpose) (h : Host) → AsksAt o p h → is_creating p.step ≡ false
      → (is_enumeration p.step ≡ true → FailsAt o p.intf) → law.says h (step_asked p h)
  asked p h why plain fail = by (way_of p h) refl
    where
      wayless : (x : Occasion) → AsksAt x p h → FailsFor x p h
      wayless (at_notice x before) is = inr is
      wayless (at_unsent q before) is = absurd is

      by : (k : Option ℕ) → way_of p h ≡ k → law.says h (asked_on k p h)
      by None way = step-fails p.step p h (wayless o why) fail
      by (Some k) way = law.ends (asks k p) h (why, plain, way)

pub keeps-all : (f : Interface → Interface) → ((x : Interface) → (f x).intf ≡ x.intf)
    → ((x : Interface) → (f x).primary ≡ x.primary)
    → ((x : Interface) → (f x).awaits ≡ x.awaits) → ((x : Interface) → (f x).stage ≡ x.stage)
    → Keeps f
keeps-all f intf primary awaits stage =
    record { intf = intf; primary = primary; awaits = awaits; stage = stage }

-- the step of a connection isn't one of an enumeration
pub no-enumeration : {A : Type 0} → false ≡ true → A
no-enumeration e = absurd cc

-- A law goes over what is done where a request can't be made.
pub over-unsent : (p : Purpose) (h : Host) (law : TurnLaw (at_unsent p h))
    → law.says h (failed_turn (unsent p h))
over-unsent p h law = by p.step refl
  where
    fail : (g : Host) → is_enumeration p.step ≡ true
        → law.says g (failed_turn (interface_fails p g))
    fail g is = interface-fails (at_unsent p h) law p g (is, refl)

    by : (step : SequenceStep) → p.step ≡ step → law.says h (failed_turn (unsent_fails step p h))
    by steps.CreateControl e = fail h (ap is_enumeration e)
    by steps.CreateConnection e = resting (at_unsent p h) law h
    by steps.GiveDevice e = updated (at_unsent p h) law p.intf without_device h
        (failed_turn (interface_fails p (with_interface p.intf without_device h)))
        (keeps-all without_device (λ x. refl) (λ x. refl) (λ x. refl) (λ x. refl))
        (fail (with_interface p.intf without_device h) (ap is_enumeration e))
    by step e = step-fails (at_unsent p h) law step p h (refl, refl, ap is_creating e)
        (λ is. (ap is_enumeration e ∙ is, refl))
