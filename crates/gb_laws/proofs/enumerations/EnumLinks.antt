-- Each connection but Control is one of an interface that is enumerated, and so is each that a
-- sequence is to ask for: at each point of a step.
use Rattle.std.proofs.Common.{Bool, List, None, Option, Some, ap, false, inl, refl, subst, sym}
use Rattle.std.proofs.Common.{true, ℕ, ⊎_elim, [], ◌∙◌, ◌∷◌, ◌≡◌, ◌≢◌}
use Rattle.std.specs.Prelude.{is_none, ◌==◌}
use Rattle.gb_base.specs.declared.entry.IntfStage.{IntfStage}
use Rattle.gb_base.specs.declared.interface.{Interface.Interface, Link.Link}
use Rattle.gb_base.specs.declared.steps.Purpose.{Purpose}
use Rattle.gb_base.specs.declared.entry.IntfStage.TheVariants as stage
use Rattle.gb_machine.proofs.Conditions.{AreUnmet, free}
use Rattle.gb_machine.specs.Host.{Host, interface_of, is_intf, with_given}
use Rattle.gb_machine.specs.Host.{with_link}
use Rattle.gb_machine.specs.HostRefusals.{connect_conditions, is_enumerating}
use Rattle.gb_machine.specs.HostRefusals.{is_failed_stage}
use Rattle.gb_machine.specs.Turns.{Act, Asking}
use Rattle.gb_machine.specs.{Failures.unsent, HostServing.host_serves, HostServing.with_credits}
use Rattle.gb_machine.specs.{LineActions.spent, Lists.holds_of, Members.IsIn}
use Rattle.gb_machine.specs.{Runs.Moment, SequenceSteps.is_enumeration}
use Rattle.gb_machine.specs.{State.State, Waits.awaited, Waits.awaits, Wiring.next_connection}
use Rattle.gb_invariants.proofs.HostChanges.{same-kind}
use Rattle.gb_invariants.proofs.HostChanges.{HostChange, IsAskedAt, at_notice, to_close, to_connect}
use Rattle.gb_invariants.proofs.HostChanges.{to_enumerate, to_go_on}
use Rattle.gb_invariants.proofs.Lists.{found-in, in-pushed, in-without}
use Rattle.gb_invariants.proofs.{Awaiting.not-both, Outcomes.is-same, Outcomes.same-number}
use Rattle.gb_invariants.proofs.{OverTurns.over-turn}
use Rattle.gb_invariants.proofs.HostChanges.{Notice, at_removal, turn_of}
use Rattle.gb_laws.proofs.enumerations.Asked.{asked-why, change-asks}
use Rattle.gb_laws.proofs.enumerations.AskedWaits.{AsksIn, asks-behind, asks_in, no-asks, opens_in}
use Rattle.gb_laws.proofs.enumerations.DoneStays.{KeepsDone, NoneRemoved, keeps-same, keeps-waiting}
use Rattle.gb_laws.proofs.links.LinkActs.{ServedHost, as_before, awaited-host, host-served}
use Rattle.gb_laws.proofs.links.LinkActs.{with_images, with_more}
use Rattle.gb_laws.proofs.links.Waited.{WaitsFor, connecting, enumerating, waited-enum, waits-for}
use Rattle.gb_laws.proofs.links.LinkSources.{from-turn, from-unsent, from-waiting}
use Rattle.gb_laws.proofs.links.Links.{ArePending, IsFree, IsMaking, connection, control}
use Rattle.gb_laws.proofs.points.Points.{Change, IsAsking, acts_asked, acts_failed, acts_made}
use Rattle.gb_laws.proofs.points.Points.{asking}
use Rattle.gb_laws.proofs.points.Points.{changed, gives, opening, serves, spends, turns}
use Rattle.gb_laws.proofs.{points.ChangeHosts.asks-kept, creations.CreatingFacts.Came}
use Rattle.gb_laws.proofs.{creations.CreatingKept.came-from}
use Rattle.gb_laws.proofs.{creations.CreatingKept.came-link, enumerations.DoneTurns.keeps-unsent}
use Rattle.gb_laws.proofs.{enumerations.DoneTurns.keeps_law}
use Rattle.gb_laws.proofs.{enumerations.EnumDone.IsDone, enumerations.EnumSettled.IsSettled}
use Rattle.gb_laws.proofs.{links.LinkBuses.new_link, links.LinkHosts.credits-link}
use Rattle.gb_laws.proofs.{links.LinkHosts.same-link}
use Rattle.gb_laws.proofs.links.LinkDue.{IsAllowed, closes-idle}
use Rattle.gb_laws.proofs.links.LinkKept.{InsertsAbsent, LinkedAt, allowed}
use Rattle.gb_laws.proofs.{links.LinkLists.found-its}
use Rattle.gb_laws.proofs.{points.PointParts.IsCaused, points.PointParts.Point}

pub record LinksDone (i : ℕ) (a : Point) : Type 0 where
  pub stages : NoneRemoved a.state.host.interfaces
  pub links : (l : Link) → IsIn l a.state.host.links → l.intf ≡ i → l.cport ≢ 0
      → IsDone i a.state.host.interfaces
  pub due : (q : Asking) → AsksIn q a.pending → q.purpose.intf ≡ i
      → is_enumeration q.purpose.step ≡ false → IsDone i a.state.host.interfaces

-- ---- what stays

pub links-still : {i : ℕ} {a b : Point} → KeepsDone i a.state.host b.state.host
    → Came a.state.host.links b.state.host.links
    → ((q : Asking) → AsksIn q b.pending → AsksIn q a.pending) → LinksDone i a → LinksDone i b
links-still keeps came fewer h = record {
  stages = keeps.stages h.stages;
  links = λ l j at other. let x = came l j in
      keeps.done (h.links x.0 x.1 (sym x.2.intf ∙ at) (λ e. other (x.2.cport ∙ e)));
  due = λ q j at s. keeps.done (h.due q (fewer q j) at s);
}

came-same : (ls : List Link) → Came ls ls
came-same ls l j = (l, j, same-link l)

-- ---- a turn

-- the stage of an interface that may be connected
is-done : (s : IntfStage) → is_enumerating s ≡ false → is_failed_stage s ≡ false
    → (s ≡ stage.Removed → ⊥) → s ≡ stage.Enumerated
is-done stage.Enumerating e f g = absurd cc
is-done stage.Enumerated e f g = refl
is-done stage.Failed e f g = absurd cc
is-done stage.Removed e f g = absurd (g refl)

connects-done : (i j c : ℕ) (h : Host) → NoneRemoved h.interfaces
    → AreUnmet (connect_conditions j c h) → j ≡ i → IsDone i h.interfaces
connects-done i j c h none met at = by (interface_of j h) refl met.0 met.1.0 met.1.1.0
  where
    by : (o : Option Interface) → interface_of j h ≡ o → is_none o ≡ false
        → holds_of (λ (x : Interface). is_enumerating x.stage) o ≡ false
        → holds_of (λ (x : Interface). is_failed_stage x.stage) o ≡ false → IsDone i h.interfaces
    by None e there running failed = absurd cc
    by (Some x) e there running failed =
        let found = found-in (is_intf j) h.interfaces x e in record {
          interface = x;
          known = found.0;
          intf = same-number x.intf j found.1 ∙ at;
          done = is-done x.stage running failed (none x found.0);
        }

module _ (m : Moment) (absent : InsertsAbsent m) (i : ℕ) (a : Point) (links : LinkedAt a)
    (settled : IsSettled i a) (h : LinksDone i a) where
  -- a step of an enumeration that is waited for is one of an interface that isn't enumerated
  undone : (n : ℕ) (p : Purpose) → awaited n a.state.host ≡ Some p → is_enumeration p.step ≡ true
      → p.intf ≡ i → IsDone i a.state.host.interfaces → ⊥
  undone n p e s at =
      let w = waited-enum n p links.host e s in
      (settled.waits w.interface w.known (w.intf ∙ at) (n, p.step) w.awaits).0

  -- and one of a connection one of an interface that is
  behind : (n : ℕ) (p : Purpose) → awaited n a.state.host ≡ Some p → is_enumeration p.step ≡ false
      → p.intf ≡ i → IsDone i a.state.host.interfaces
  behind n p e s at = by (waits-for n a.state.host p e)
    where
      by : WaitsFor a.state.host n p → IsDone i a.state.host.interfaces
      by (enumerating x j intf cport waits) = absurd (not-both (is_enumeration p.step)
          (links.host.interfaces x j (n, p.step) waits).0 s)
      by (connecting l j intf cport waits) =
          h.links l j (intf ∙ at) (links.host.links.waiting l j (n, p.step) waits).0

  turn-keeps : (e : Notice) → ((j : ℕ) → e ≡ at_removal j → (j == i) ≡ false)
      → KeepsDone i a.state.host (turn_of e a.state.host).host
  turn-keeps e other = over-turn e a.state.host (keeps_law i (at_notice e a.state.host) a.state.host
      (λ j f at. undone f.1.number f.0 f.1.awaited f.2 (f.3 ∙ at)) (λ j g f. other j f.0)) (λ d. d)

  -- a turn asks for connections of interfaces that are enumerated alone
  asks-done : (e : Notice) → IsCaused m e a.state.host → (q : Asking)
      → AsksIn q (turn_of e a.state.host).acts → q.purpose.intf ≡ i
      → is_enumeration q.purpose.step ≡ false → IsDone i a.state.host.interfaces
  asks-done e cause q k at s = by (asked-why e a.state.host q k).1
    where
      where-asked : {p : Purpose} → q.purpose ≡ p → p.intf ≡ i
      where-asked is = ap (λ (x : Purpose). x.intf) (sym is) ∙ at

      by : {g : Host} → IsAskedAt e a.state.host q.purpose g → IsDone i a.state.host.interfaces
      by (to_enumerate p j f is here) = absurd (not-both (is_enumeration q.purpose.step)
          (ap (λ (x : Purpose). is_enumeration x.step) is) s)
      by (to_connect j c f is here) =
          connects-done i j c a.state.host h.stages
          (subst (λ y. IsAllowed y a.state.host) f (allowed m absent e a.state.host cause)).0
          (where-asked is)
      by (to_close j c l why found is here) =
          let its = found-its j c a.state.host.links l found in
          h.links l its.0 (its.1 ∙ where-asked is) (λ zero. (closes-idle j c l links.host
          (allowed m absent e a.state.host cause) why found).0 (sym its.2 ∙ zero))
      by (to_go_on last step r next is here) = behind r.number last r.awaited
          (same-kind last.step next ∙ ap (λ (x : Purpose). is_enumeration x.step) (sym is) ∙ s)
          (where-asked is)

  links-turned : (e : Notice) {b : Point} → IsCaused m e a.state.host
      → b.state ≡ record a.state { host = (turn_of e a.state.host).host }
      → b.pending ≡ (turn_of e a.state.host).acts
      → ((j : ℕ) → e ≡ at_removal j → (j == i) ≡ false) → LinksDone i b
  links-turned e {b} cause state pending other =
      let keeps = turn-keeps e other in record {
        stages = subst (λ (s : State). NoneRemoved s.host.interfaces) (sym state)
            (keeps.stages h.stages);
        links = λ l j at other.
            let x = came-from a.state.host (turn_of e a.state.host).host
            (from-turn e a.state.host) l (subst (λ (s : State). IsIn l s.host.links) state j) in
            onto (keeps.done (h.links x.0 x.1 (sym x.2.intf ∙ at)
            (λ zero. other (x.2.cport ∙ zero))));
        due = λ q j at s. onto (keeps.done (asks-done e cause q (subst (AsksIn q) pending j) at s));
      }
    where
      onto : IsDone i (turn_of e a.state.host).host.interfaces → IsDone i b.state.host.interfaces
      onto d = subst (λ (s : State). IsDone i s.host.interfaces) (sym state) d

  -- its removal is handled
  links-removed : (j : ℕ) (b : Point) → j ≡ i
      → b.state ≡ record a.state { host = (turn_of (at_removal j) a.state.host).host }
      → b.pending ≡ (turn_of (at_removal j) a.state.host).acts → LinksDone i b
  links-removed j b same state pending = record {
    stages = subst (λ (s : State). NoneRemoved s.host.interfaces) (sym state)
        (λ x k. h.stages x (in-without (is_intf j) a.state.host.interfaces x k).0);
    links = λ l k at.
        let w = in-without (λ (x : Link). x.intf == j) a.state.host.links l
        (subst (λ (s : State). IsIn l s.host.links) state k) in
        absurd (not-both (l.intf == j) (ap (λ n. n == j) (at ∙ sym same) ∙ is-same j) w.1);
    due = λ q k. absurd (no-asks (asks-behind (_ ∷ []) (tt, tt)
        (change-asks (HostChange.departs j) a.state.host (subst (AsksIn q) pending k))));
  }

-- the removal of an interface is handled
abbrev is_removal_of : ℕ → Notice → Bool
is_removal_of i (at_removal j) = j == i
is_removal_of i _ = false

removal-is : (i : ℕ) (e : Notice) → is_removal_of i e ≡ true
    → (j : ℕ) × (e ≡ at_removal j) × (j ≡ i)
removal-is i (at_removal j) f = (j, refl, same-number j i f)
removal-is i _ f = absurd cc

-- ---- each single change

pub links-kept : (m : Moment) → InsertsAbsent m → (i : ℕ) (a : Point) (x : Change m a)
    → LinkedAt a → IsSettled i a → LinksDone i a → LinksDone i (changed m a x)
links-kept m absent i a (turns e free untouched none cause) links settled h =
    by (is_removal_of i e) refl
  where
    at : Point
    at = changed m a (turns e free untouched none cause)

    by : (t : Bool) → is_removal_of i e ≡ t → LinksDone i at
    by true f = let r = removal-is i e f in
        links-removed m absent i a links settled h r.0 at r.2
        (ap (λ g. record a.state { host = (turn_of g a.state.host).host }) r.1)
        (ap (λ g. (turn_of g a.state.host).acts) r.1)
    by false f = links-turned m absent i a links settled h e cause refl refl
        (λ j is. ap (is_removal_of i) (sym is) ∙ f)
links-kept m absent i a (acts_made w q rest free is) links settled h = record {
  stages = h.stages;
  links = λ l j at other. ⊎_elim (λ o. h.links l o at other)
      (λ e. new (ap (λ (y : Link). y.intf) (sym e) ∙ at)
      (λ zero. other (ap (λ (y : Link). y.cport) e ∙ zero)))
      (in-pushed l a.state.host.links (new_link (next_connection a.state.bus) w) j);
  due = λ p j. h.due p (asked p j);
}
  where
    made : IsFree w q a.state.host
    made = (subst (ArePending a.state.host) is links.pending).0.0

    asked : (r : Asking) → AsksIn r (Act.Ask q ∷ rest) → AsksIn r a.pending
    asked r j = asks-kept m a (acts_made w q rest free is) tt r j

    step : w.cport ≢ 0 → IsMaking w.cport q.purpose.step → is_enumeration q.purpose.step ≡ false
    step other s = by q.purpose.step s
      where
        by : (t : _) → IsMaking w.cport t → is_enumeration t ≡ false
        by _ (control zero) = absurd (other zero)
        by _ (connection k) = refl

    new : w.intf ≡ i → w.cport ≢ 0 → IsDone i a.state.host.interfaces
    new at other = h.due q (asked q (asks_in (inl refl))) (made.intf ∙ at) (step other made.step)
links-kept m absent i a (acts_asked q n rest is) links settled h =
    links-still (subst (KeepsDone i a.state.host) (sym (awaited-host q.purpose n a.state))
    (keeps-waiting i (Some (n, q.purpose.step)) q.purpose))
    (subst (λ (g : Host). Came a.state.host.links g.links) (sym (awaited-host q.purpose n a.state))
    (came-from a.state.host (awaits q.purpose n a.state.host)
    (from-waiting (Some (n, q.purpose.step)) q.purpose a.state.host)))
    (asks-kept m a (acts_asked q n rest is) tt) h
links-kept m absent i a (acts_failed q rest is quiet) links settled h =
    links-still (keeps-unsent i q.purpose (λ s at. (settled.due q (there is) at s).0))
    (came-from a.state.host (unsent q.purpose a.state.host).host
    (from-unsent q.purpose a.state.host))
    (asks-kept m a (acts_failed q rest is quiet) tt) h
  where
    there : IsAsking q a.pending rest → AsksIn q a.pending
    there (asking e) = subst (AsksIn q) (sym e) (asks_in (inl refl))
    there (opening w e) = subst (AsksIn q) (sym e) (opens_in w (inl refl))
links-kept m absent i a (serves k kind payload none) links settled h =
    by (host-served k kind payload)
  where
    by : ServedHost a.state.host (host_serves k kind payload a.state.host)
        → LinksDone i (changed m a (serves k kind payload none))
    by (as_before e) = links-still (keeps-same i a.state.host _ (ap (λ (g : Host). g.interfaces) e))
        (subst (λ (g : Host). Came a.state.host.links g.links) (sym e)
        (came-same a.state.host.links)) (λ q j. j) h
    by (with_more j c total e) = links-still
        (keeps-same i a.state.host _ (ap (λ (g : Host). g.interfaces) e))
        (subst (λ (g : Host). Came a.state.host.links g.links) (sym e)
        (came-link a.state.host j c (with_credits total) (credits-link total))) (λ q j. j) h
    by (with_images x e) = links-still
        (keeps-same i a.state.host _ (ap (λ (g : Host). g.interfaces) e))
        (subst (λ (g : Host). Came a.state.host.links g.links) (sym e)
        (came-same a.state.host.links)) (λ q j. j) h
links-kept m absent i a (spends j c what none) links settled h =
    links-still (keeps-same i a.state.host (with_link j c (spent what) a.state.host) refl)
    (came-link a.state.host j c (spent what) (λ l. credits-link _ l)) (λ q j. j) h
links-kept m absent i a (gives tag bytes at none) links settled h =
    links-still (keeps-same i a.state.host (with_given tag bytes a.state.host) refl)
    (came-same a.state.host.links) (λ q j. j) h
links-kept m absent i a x links settled h =
    links-still (keeps-same i a.state.host a.state.host refl) (came-same a.state.host.links)
    (asks-kept m a x tt) h
