-- What a turn of the application processor asks, and why. No interface waits for more than before.
use Rattle.std.proofs.Common.{ap, false, inl, inr, refl, subst, sym, true, ℕ, ⊎_elim, []}
use Rattle.std.proofs.Common.{◌++◌, ◌∙◌, ◌∷◌, ◌≡◌, ◌⊎◌}
use Rattle.gb_base.specs.declared.interface.Interface.{Interface}
use Rattle.gb_base.specs.declared.steps.{Purpose.Purpose, SequenceStep.SequenceStep}
use Rattle.gb_base.specs.declared.entry.IntfStage.TheVariants as stage
use Rattle.gb_base.specs.declared.steps.SequenceStep.TheVariants as steps
use Rattle.gb_machine.specs.Host.{Host, intf_before, is_intf, new_interface, staged}
use Rattle.gb_machine.specs.{Failures.unsent, Lists.holds_of}
use Rattle.gb_machine.specs.{Sequences.enumerated, Turns.Asking}
use Rattle.gb_invariants.proofs.HostChanges.{Finds, HostChange, HostEnd, IsAnswered, IsAskedAt}
use Rattle.gb_invariants.proofs.HostChanges.{IsLast, Occasion, TurnLaw, acts_by, at_notice}
use Rattle.gb_invariants.proofs.HostChanges.{at_unsent, changes-ask, end_of, host_after}
use Rattle.gb_invariants.proofs.HostChanges.{step_behind, to_close, to_connect}
use Rattle.gb_invariants.proofs.HostChanges.{to_enumerate, to_go_on}
use Rattle.gb_invariants.proofs.{Awaiting.none-some, Awaiting.not-both, Found.in-ordered}
use Rattle.gb_invariants.proofs.{Lists.in-without, OverTurns.over-turn, OverFailures.over-unsent}
use Rattle.gb_invariants.proofs.HostChanges.{Notice, turn_of}
use Rattle.gb_laws.proofs.enumerations.AskedWaits.{AsksIn, WaitsFewer, asked-alone, asks-behind}
use Rattle.gb_laws.proofs.enumerations.AskedWaits.{is_power_step}
use Rattle.gb_laws.proofs.enumerations.AskedWaits.{no-asks, opened-alone, same-waits, then-waits}
use Rattle.gb_laws.proofs.enumerations.AskedWaits.{waits-interface, waits-purpose}

-- ---- what is waited for

change-waits : (x : HostChange) (h : Host) → Finds h x → WaitsFewer h (host_after x h)
change-waits (HostChange.arrives p i) h finds = λ x k w e.
    ⊎_elim (λ new. absurd (none-some (sym (ap (λ (y : Interface). y.awaits) new) ∙ e)))
    (λ o. record { was = x; known = o; intf = refl; awaits = refl })
    (in-ordered intf_before x (new_interface p i) h.interfaces k)
change-waits (HostChange.departs i) h finds = λ x k w e. record {
  was = x;
  known = (in-without (is_intf i) h.interfaces x k).0;
  intf = refl;
  awaits = refl;
}
change-waits (HostChange.resumes p) h finds = waits-purpose p h
change-waits (HostChange.updates i f) h keeps = waits-interface h i f keeps.intf keeps.awaits
change-waits (HostChange.fails i) h finds =
    waits-interface h i (staged stage.Failed) (λ x. refl) (λ x. refl)
change-waits _ h finds = same-waits h

end-waits : (x : HostEnd) (h : Host) → WaitsFewer h (end_of x h).host
end-waits (HostEnd.enumerates p bytes) h =
    waits-interface h p.intf (enumerated bytes) (λ x. refl) (λ x. refl)
end-waits _ h = same-waits h

abbrev waits_law : (o : Occasion) → TurnLaw o
waits_law o = record {
  says = λ h t. WaitsFewer h t.host;
  ends = λ x h last. end-waits x h;
  over = λ x h t finds why s.
      then-waits h (host_after x h) t.host (change-waits x h finds) s;
}

-- no turn lets an interface wait for more
pub turn-waits : (e : Notice) (h : Host) → WaitsFewer h (turn_of e h).host
turn-waits e h = over-turn e h (waits_law (at_notice e h))

-- nor does what fails where no identifier is left
pub waits-unsent : (p : Purpose) (h : Host) → WaitsFewer h (unsent p h).host
waits-unsent p h = over-unsent p h (waits_law (at_unsent p h))

-- ---- what is asked

-- what is asked behind a change is asked in the turn that follows
pub change-asks : {q : Asking} (x : HostChange) (h : Host) {t : _}
    → AsksIn q (acts_by x h ++ t) → AsksIn q t
change-asks x h j = asks-behind (acts_by x h) (changes-ask x h) j

end-asks : (e : Notice) (before : Host) (x : HostEnd) (h : Host)
    → IsLast (at_notice e before) h x → (q : Asking) → AsksIn q (end_of x h).acts
    → IsAskedAt e before q.purpose h
end-asks e before HostEnd.rests h last q j = absurd (no-asks j)
end-asks e before (HostEnd.asks k p) h last q j =
    subst (λ (r : Asking). IsAskedAt e before r.purpose h) (asked-alone j) last.0
end-asks e before (HostEnd.makes a protocol p) h last q j =
    subst (λ (r : Asking). IsAskedAt e before r.purpose h) (opened-alone _ j) last.0
end-asks e before (HostEnd.enumerates p bytes) h last q j =
    absurd (no-asks (asks-behind (_ ∷ []) (tt, tt) j))

-- Why a request of a turn is made.
pub asked-why : (e : Notice) (h : Host) (q : Asking) → AsksIn q (turn_of e h).acts
    → (g : Host) × IsAskedAt e h q.purpose g
asked-why e h = over-turn e h (record {
  says = λ g t. (q : Asking) → AsksIn q t.acts → (k : Host) × IsAskedAt e h q.purpose k;
  ends = λ x g last q j. (g, end-asks e h x g last q j);
  over = λ x g t finds why s q j. s q (change-asks x g j);
})

-- the step before one that asks the supervisory controller in an enumeration is such a step
power-behind : (s : SequenceStep) → holds_of is_power_step (step_behind s) ≡ true
    → is_power_step s ≡ true
power-behind steps.CreateControl is = refl
power-behind _ is = is

-- Of interface i a turn asks the supervisory controller for the start of an enumeration alone,
-- unless such a step was answered.
pub asks-calm : (i : ℕ) (Calm : Type 0) (e : Notice) (h : Host)
    → ((p : Purpose) → IsAnswered e h p → p.intf ≡ i → is_power_step p.step ≡ true → Calm)
    → (q : Asking) → AsksIn q (turn_of e h).acts → q.purpose.intf ≡ i
    → is_power_step q.purpose.step ≡ true → (q.purpose.step ≡ steps.EnableVsys) ⊎ Calm
asks-calm i Calm e h calm q j at power = by (asked-why e h q j).1
  where
    none : {A : Type 0} (p : Purpose) → q.purpose ≡ p → is_power_step p.step ≡ false → A
    none p is other = absurd (not-both (is_power_step q.purpose.step) power
        (ap (λ (x : Purpose). is_power_step x.step) is ∙ other))

    by : {g : Host} → IsAskedAt e h q.purpose g → (q.purpose.step ≡ steps.EnableVsys) ⊎ Calm
    by (to_enumerate p k f is here) = inl (ap (λ (x : Purpose). x.step) is)
    by (to_connect k c f is here) = none _ is refl
    by (to_close k c l why found is here) = none _ is refl
    by (to_go_on last step answered next is here) =
        inr (calm last answered (ap (λ (x : Purpose). x.intf) (sym is) ∙ at)
        (power-behind last.step (ap (holds_of is_power_step) next
        ∙ ap (λ (x : Purpose). is_power_step x.step) (sym is) ∙ power)))
