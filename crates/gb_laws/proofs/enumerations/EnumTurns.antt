-- What a turn of the application processor asks for the enumeration of an interface, and where
-- that is enumerated then.
use Rattle.std.proofs.Common.{ap, inl, inr, refl, subst, sym, true, ℕ, ⊎_elim, [], ◌∙◌, ◌∷◌, ◌≡◌}
use Rattle.std.proofs.Common.{◌⊎◌}
use Rattle.gb_base.specs.declared.interface.Interface.{Interface}
use Rattle.gb_base.specs.declared.steps.{Purpose.Purpose, SequenceStep.SequenceStep}
use Rattle.gb_base.specs.declared.steps.SequenceStep.TheVariants as steps
use Rattle.gb_machine.specs.Turns.{Asking, Turn}
use Rattle.gb_machine.specs.{Host.Host, Host.is_intf}
use Rattle.gb_machine.specs.{SequenceSteps.is_enumeration, Sequences.enumerated}
use Rattle.gb_machine.specs.{Waits.awaits_nothing}
use Rattle.gb_invariants.proofs.HostChanges.{same-kind}
use Rattle.gb_invariants.proofs.HostChanges.{HostEnd, IsAnswered, IsAskedAt, IsLast, at_notice}
use Rattle.gb_invariants.proofs.HostChanges.{end_of, to_close, to_connect}
use Rattle.gb_invariants.proofs.HostChanges.{to_enumerate, to_go_on}
use Rattle.gb_invariants.proofs.{Awaiting.not-both, Lists.in-at_first, Outcomes.same-number}
use Rattle.gb_invariants.proofs.{OverTurns.over-turn}
use Rattle.gb_invariants.proofs.HostChanges.{Notice, turn_of}
use Rattle.gb_invariants.proofs.HostChanges.{at_insertion}
use Rattle.gb_laws.proofs.enumerations.Asked.{asked-why, change-asks}
use Rattle.gb_laws.proofs.enumerations.AskedWaits.{AsksIn, asks-behind, no-asks}
use Rattle.gb_laws.proofs.{enumerations.EnumDone.IsDone, enumerations.EnumDone.change-done}
use Rattle.gb_laws.proofs.{links.LinkHosts.resting-changed}
use Rattle.gb_laws.proofs.{links.Links.IsResting}

-- An interface is enumerated where it was, or where `Calm` holds, and then nothing is asked and it
-- waits for nothing.
abbrev pub IsDoneFrom : ℕ → Type 0 → Host → Turn → Type 0
IsDoneFrom i Calm h t = IsDone i t.host.interfaces → IsDone i h.interfaces
    ⊎ (Calm × ((q : Asking) → AsksIn q t.acts → ⊥) × IsResting i t.host.interfaces)

-- What a turn asks for the enumeration of interface i may be asked, and that is enumerated so.
pub record TurnEnums (i : ℕ) (May : SequenceStep → Type 0) (Calm : Type 0) (h : Host) (t : Turn)
    : Type 0 where
  pub asks : (q : Asking) → AsksIn q t.acts → q.purpose.intf ≡ i
      → is_enumeration q.purpose.step ≡ true → May q.purpose.step
  pub done : IsDoneFrom i Calm h t

-- what holds where a step of the enumeration was answered
abbrev pub IsCalmBehind : ℕ → (SequenceStep → Type 0) → Type 0 → Notice → Host → Type 0
IsCalmBehind i May Calm e h = (p : Purpose) → IsAnswered e h p → p.intf ≡ i
    → is_enumeration p.step ≡ true
    → Calm × ((s : SequenceStep) → May s) × IsResting i (awaits_nothing p h).interfaces

module _ (i : ℕ) (May : SequenceStep → Type 0) (Calm : Type 0) (e : Notice) (h : Host)
    (calm : IsCalmBehind i May Calm e h) where
  end-enums : (x : HostEnd) (g : Host) → IsLast (at_notice e h) g x
      → IsDoneFrom i Calm g (end_of x g)
  end-enums (HostEnd.enumerates p bytes) g last d = ⊎_elim (λ o. inl (record {
    interface = d.interface;
    known = o;
    intf = d.intf;
    done = d.done;
  })) (λ v.
      let at = sym (same-number v.0.intf p.intf v.2)
      ∙ ap (λ (x : Interface). x.intf) (sym v.3) ∙ d.intf in
      let c = calm p last.0 at (ap is_enumeration last.1) in
      inr (
        c.0,
        λ q j. no-asks (asks-behind (_ ∷ []) (tt, tt) j),
        resting-changed i p.intf (enumerated bytes) g.interfaces (λ x. refl) (λ x. refl)
            (subst (λ (k : Host). IsResting i k.interfaces) (sym last.2) c.2),
      )) (in-at_first (is_intf p.intf) (enumerated bytes) g.interfaces d.interface d.known)
  end-enums _ g last d = inl d

  -- An enumeration begins where its interface is inserted, and goes on where a step was answered.
  pub turn-enums : ((p j : ℕ) → e ≡ at_insertion p j → j ≡ i → May steps.EnableVsys)
      → TurnEnums i May Calm h (turn_of e h)
  turn-enums may = record {
    asks = λ q j at s. by q at s (asked-why e h q j).1;
    done = over-turn e h (record {
      says = λ g t. IsDoneFrom i Calm g t;
      ends = λ x g last. end-enums x g last;
      over = λ x g t finds why r d. ⊎_elim (λ o. inl (change-done i x g finds o))
          (λ c. inr (c.0, λ q j. c.1 q (change-asks x g j), c.2)) (r d);
    });
  }
    where
      by : (q : Asking) → q.purpose.intf ≡ i → is_enumeration q.purpose.step ≡ true
          → {g : Host} → IsAskedAt e h q.purpose g → May q.purpose.step
      by q at s (to_enumerate p j f is here) = subst May (ap (λ (x : Purpose). x.step) (sym is))
          (may p j f (ap (λ (x : Purpose). x.intf) (sym is) ∙ at))
      by q at s (to_connect j c f is here) = absurd (not-both (is_enumeration q.purpose.step) s
          (ap (λ (x : Purpose). is_enumeration x.step) is))
      by q at s (to_close j c l why found is here) =
          absurd (not-both (is_enumeration q.purpose.step) s
          (ap (λ (x : Purpose). is_enumeration x.step) is))
      by q at s (to_go_on last step answered next is here) =
          (calm last answered (ap (λ (x : Purpose). x.intf) (sym is) ∙ at)
          (same-kind last.step next ∙ ap (λ (x : Purpose). is_enumeration x.step) (sym is)
          ∙ s)).1 q.purpose.step
