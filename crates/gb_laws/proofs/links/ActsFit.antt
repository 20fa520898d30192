-- What a turn of the application processor tells and closes, at each event that it takes notice of.
use Rattle.std.proofs.Common.{Bool, List, None, Option, Some, ap, cond, false, inl, inr, map, refl}
use Rattle.std.proofs.Common.{subst, sym, true, ℕ, [], ◌∙◌, ◌∷◌, ◌≡◌}
use Rattle.std.specs.Prelude.{◌==◌}
use Rattle.gb_base.specs.declared.entry.{ConnState.ConnState, Entry.Entry}
use Rattle.gb_base.specs.declared.host_event.HostEvent.TheVariants as host_event
use Rattle.gb_base.specs.declared.interface.Link.{Link}
use Rattle.gb_base.specs.declared.steps.Purpose.{Purpose}
use Rattle.gb_base.specs.declared.entry.ConnState.TheVariants as state
use Rattle.gb_base.specs.declared.end.Side.TheVariants as side
use Rattle.gb_base.specs.declared.entry.Entry.TheVariants as entry
use Rattle.gb_base.specs.declared.steps.SequenceStep.TheVariants as steps
use Rattle.gb_machine.specs.HostTurns.{disconnects, drained, host_disconnects, host_idle}
use Rattle.gb_machine.specs.HostTurns.{links_left, links_of}
use Rattle.gb_machine.specs.Turns.{Act, failed_turn, turn}
use Rattle.gb_machine.specs.{Failures.link_told, Failures.unsent, Host.Host, Host.link_at}
use Rattle.gb_machine.specs.{Members.Each, Members.IsIn, Runs.Moment}
use Rattle.gb_machine.specs.Bus.{Bus}
use Rattle.gb_machine.specs.Requests.{open_on}
use Rattle.gb_machine.specs.Sequences.{asked_on, way_of}
use Rattle.gb_machine.specs.Failures.{step_fails, told_of}
use Rattle.gb_machine.specs.Host.{in_state, is_draining, link_of, with_freed, with_link}
use Rattle.gb_machine.specs.SequenceSteps.{purpose}
use Rattle.gb_invariants.proofs.HostChanges.{Finds, HostChange, HostEnd, IsClosingFor, IsFor}
use Rattle.gb_invariants.proofs.HostChanges.{IsOfNone, Occasion, TurnLaw, TurnsFor, acts_by}
use Rattle.gb_invariants.proofs.HostChanges.{at_notice, at_unsent, by_disconnect, by_idle, end_of}
use Rattle.gb_invariants.proofs.{Lists.each-append, OverTurns.over-turn, OverFailures.over-unsent}
use Rattle.gb_invariants.proofs.Outcomes.{same-number}
use Rattle.gb_invariants.proofs.Lists.{filter-in, found-in, in-filter}
use Rattle.gb_invariants.proofs.HostChanges.{Notice, turn_of}
use Rattle.gb_invariants.proofs.HostChanges.{at_event}
use Rattle.gb_laws.proofs.points.PointParts.{AreQuiet, IsCaused, IsShutFor, disconnected, idle}
use Rattle.gb_laws.proofs.points.PointParts.{is_quiet}
use Rattle.gb_laws.proofs.points.PointParts.{removed}
use Rattle.gb_laws.proofs.points.Points.{IsOver}
use Rattle.gb_laws.proofs.links.Draining.{FirstDrains, draining-at}

-- ---- the acts of a turn

-- What an act may be, where the closing of a side has a cause: what it tells is quiet.
abbrev IsFitFor : (ℕ → Type 0) → Act → Type 0
IsFitFor Cause (Act.Shut k) = Cause k
IsFitFor Cause (Act.Tell e) = is_quiet e ≡ true
IsFitFor Cause _ = Unit {0}

-- What an act may be at a moment, where this is the bus.
abbrev pub IsFit : Moment → Bus → Act → Type 0
IsFit m b x = IsFitFor (λ k. IsShutFor m k b) x

-- what acts may be at each bus
abbrev AreEverFit : Moment → List Act → Type 0
AreEverFit m xs = Each (IsFitFor (λ k. (b : Bus) → IsShutFor m k b)) xs

-- What acts may be from a bus on: the first at that, and those behind it at each.
abbrev pub AreFit : Moment → Bus → List Act → Type 0
AreFit m b [] = Unit {0}
AreFit m b (x ∷ xs) = IsFit m b x × AreEverFit m xs

pub ever-fit : (m : Moment) (b : Bus) (xs : List Act) → AreEverFit m xs → AreFit m b xs
ever-fit m b [] fit = tt
ever-fit m b (Act.Shut k ∷ xs) fit = (fit.0 b, fit.1)
ever-fit m b (Act.Ask q ∷ xs) fit = fit
ever-fit m b (Act.Make w q ∷ xs) fit = fit
ever-fit m b (Act.Leave k ∷ xs) fit = fit
ever-fit m b (Act.Tell e ∷ xs) fit = fit

quiet-none : (e : Entry) → IsOfNone e → is_quiet e ≡ true
quiet-none (entry.Interface i to) of = refl
quiet-none (entry.Manifest i at why) of = refl
quiet-none _ of = absurd of

quiet-turned : (o : Occasion) (h : Host) (i c : ℕ) (to : ConnState) (l : Link)
    → TurnsFor to o h i c → is_quiet (link_told to l) ≡ true
quiet-turned o h i c state.Opening l why = absurd why
quiet-turned o h i c _ l why = refl

-- where what closes the side of a connection is its cause
module _ (Cause : ℕ → Type 0) (o : Occasion)
    (closing : (i c : ℕ) (l : Link) (h : Host) → IsFor o h (HostChange.closes i c l)
    → link_at i c h ≡ Some l → Cause l.connection)
    (departing : (i : ℕ) (l : Link) (h : Host) → IsFor o h (HostChange.departs i)
    → IsIn l (links_of i h) → Cause l.connection) where
  fit-left : (ls : List Link) → ((l : Link) → IsIn l ls → Cause l.connection)
      → Each (IsFitFor Cause) (links_left ls)
  fit-left [] cause = tt
  fit-left (l ∷ ls) cause =
      (cause l (inl refl), (tt, (refl, fit-left ls (λ k j. cause k (inr j)))))

  change-fits : (x : HostChange) (h : Host) → Finds h x → IsFor o h x
      → Each (IsFitFor Cause) (acts_by x h)
  change-fits (HostChange.tells e) h of why = (quiet-none e of, tt)
  change-fits (HostChange.departs i) h finds why =
      fit-left (links_of i h) (λ l j. departing i l h why j)
  change-fits (HostChange.turns_to i c to None) h finds why = tt
  change-fits (HostChange.turns_to i c to (Some l)) h finds why =
      (quiet-turned o h i c to l why, tt)
  change-fits (HostChange.closes i c l) h found why =
      (closing i c l h why found, (refl, tt))
  change-fits (HostChange.leaves p None) h finds why = tt
  change-fits (HostChange.leaves p (Some l)) h finds why = (tt, (refl, tt))
  change-fits _ h finds why = tt

  end-fits : (x : HostEnd) (h : Host) → Each (IsFitFor Cause) (end_of x h).acts
  end-fits HostEnd.rests h = tt
  end-fits (HostEnd.enumerates p bytes) h = (refl, tt)
  end-fits _ h = (tt, tt)

  abbrev fit_law : TurnLaw o
  fit_law = record {
    says = λ h t. Each (IsFitFor Cause) t.acts;
    ends = λ x h last. end-fits x h;
    over = λ x h t finds why s. each-append (IsFitFor Cause) (acts_by x h) t.acts
        (change-fits x h finds why) s;
  }

-- where no connection is idle
pub fit-other : (m : Moment) (e : Notice) (h : Host)
    → ((k : ℕ) → e ≡ at_event (host_event.Idle k) → ⊥) → IsCaused m e h
    → AreEverFit m (turn_of e h).acts
fit-other m e h other cause =
    over-turn e h (fit_law (λ k. (b : Bus) → IsShutFor m k b) (at_notice e h)
    (λ i c l g why found. closing i c l (ap (link_at i c) (sym why.1) ∙ found) why.0)
    (λ i l g why j b.
    let k = subst (λ y. IsCaused m y h) why.0 cause in
    let of = in-filter (λ (x : Link). x.intf == i) g.links l j in
    removed k.primary i l k.noticed k.known (filter-in (λ (x : Link). x.intf == i)
    m.before.host.links l (k.links l (subst (λ (y : Host). IsIn l y.links) why.1 of.0)) of.1) refl))
  where
    closing : (i c : ℕ) (l : Link) → link_at i c h ≡ Some l
        → IsClosingFor e h i c → (b : Bus) → IsShutFor m l.connection b
    closing i c l found (by_disconnect is) b =
        let k = subst (λ y. IsCaused m y h) is cause in
        disconnected i c l k.1 (ap (link_at i c) (sym k.0) ∙ found) refl
    closing i c l found (by_idle d why intf cport) b = absurd (other why.number why.is)

-- where one is, its side is closed first
fit-idle : (m : Moment) (b : Bus) (k : ℕ) (h : Host) → FirstDrains h.links
    → open_on k side.Ap b ≡ [] → AreFit m b (host_idle k h).acts
fit-idle m b k h first none = by (link_of k h) refl
  where
    asked : (p : Purpose) (g : Host) (o : Option ℕ) → p.step ≡ steps.TellDisconnecting
        → AreEverFit m (asked_on o p g).acts
    asked p g (Some j) is = (tt, tt)
    asked p g None is =
        subst (λ step. AreEverFit m (failed_turn (step_fails step p g)).acts) (sym is)
        (failed (link_at p.intf p.cport g))
      where
        failed : (o : Option Link) → AreEverFit m (map Act.Tell (told_of state.Failed o))
        failed None = tt
        failed (Some l) = (refl, tt)

    on : (l : Link) → link_of k h ≡ Some l → (t : Bool) → is_draining l.state ≡ t
        → AreFit m b (cond t (host_disconnects l.intf l.cport h) (turn h [])).acts
    on l found false drains = tt
    on l found true drains =
        let p = purpose l.intf l.cport steps.TellDisconnecting in
        let g = with_link l.intf l.cport (in_state state.Closing) (with_freed l.connection h) in
        let its = same-number l.connection k (found-in _ h.links l found).1 in
        subst (λ o. AreFit m b (disconnects o p h).acts)
        (sym (draining-at k h l first found drains)) (
          idle (subst (λ n. open_on n side.Ap b ≡ []) (sym its) none),
          (refl, asked p g (way_of p g) refl),
        )

    by : (o : Option Link) → link_of k h ≡ o → AreFit m b (drained o h).acts
    by None found = tt
    by (Some l) found = on l found (is_draining l.state) refl

-- What the application processor does at what it takes notice of is fit.
pub fit-turn : (m : Moment) (b : Bus) (e : Notice) (h : Host) → IsOver m e b → IsCaused m e h
    → AreFit m b (turn_of e h).acts
fit-turn m b (at_event (host_event.Idle k)) h over cause = fit-idle m b k h cause over
fit-turn m b e h over cause =
    ever-fit m b (turn_of e h).acts (fit-other m e h (λ k f. absurd cc) cause)

tells-quiet : (Cause : ℕ → Type 0) (es : List Entry) → Each (IsFitFor Cause) (map Act.Tell es)
    → AreQuiet es
tells-quiet Cause [] h = tt
tells-quiet Cause (e ∷ es) h = (h.0, tells-quiet Cause es h.1)

-- what is told where a request can't be made
pub quiet-unsent : (p : Purpose) (h : Host) → AreQuiet (unsent p h).told
quiet-unsent p h = tells-quiet (λ k. Unit {0}) (unsent p h).told
    (over-unsent p h (fit_law (λ k. Unit {0}) (at_unsent p h) (λ i c l g why found. tt)
    (λ i l g why j. tt)))
