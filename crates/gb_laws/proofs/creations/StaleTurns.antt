-- While a request waits for a connection that is known no more, the power level of its interface is
-- at most 1: where the application processor takes notice of something.
use Rattle.std.proofs.Common.{Bool, None, Option, Some, ap, arith, false, inl, inr, refl, subst}
use Rattle.std.proofs.Common.{sym, true, ℕ, ⊎_elim, [], ◌∙◌, ◌≡◌, ◌≤◌, ◌⊎◌}
use Rattle.std.specs.{List.find, Prelude.not, Prelude.◌==◌}
use Rattle.gb_base.specs.declared.host_event.HostEvent.TheVariants as host_event
use Rattle.gb_base.specs.declared.interface.{Interface.Interface, Link.Link}
use Rattle.gb_base.specs.declared.steps.Purpose.{Purpose}
use Rattle.gb_base.specs.declared.end.Side.TheVariants as side
use Rattle.gb_base.specs.declared.steps.SequenceStep.TheVariants as steps
use Rattle.gb_machine.specs.{Bus.Ask, Bus.request_of, Host.Host, Host.is_intf}
use Rattle.gb_machine.specs.{HostTurns.without_interface, Members.IsIn, Ports.level_of, Runs.Moment}
use Rattle.gb_machine.specs.{SequenceSteps.asks_control, SequenceSteps.is_enumeration, State.State}
use Rattle.gb_machine.specs.SvcQueues.{svc_items}
use Rattle.gb_invariants.proofs.Outcomes.{both-true, is-same, same-number}
use Rattle.gb_invariants.proofs.{Awaiting.not-both, Found.find-none, HostChanges.IsAnswered}
use Rattle.gb_invariants.proofs.{Lists.found-in, Lists.in-without}
use Rattle.gb_invariants.proofs.HostChanges.{Notice, at_removal, turn_of}
use Rattle.gb_laws.proofs.links.LinkKept.{InsertsAbsent, allowed}
use Rattle.gb_laws.proofs.links.LinkTurns.{turn-fits}
use Rattle.gb_laws.proofs.links.LinkLeaves.{WhyLeft, closed, removed, why-left}
use Rattle.gb_laws.proofs.links.Links.{IsFollowed, leaves, stays}
use Rattle.gb_laws.proofs.points.PointParts.{IsCaused, IsDeparting, Point, resting}
use Rattle.gb_laws.proofs.creations.Stale.{HasNoStale, IsCool, StaleAt}
use Rattle.gb_laws.proofs.{enumerations.Asked.asks-calm, enumerations.Asked.turn-waits}
use Rattle.gb_laws.proofs.{enumerations.AskedWaits.AsksIn}
use Rattle.gb_laws.proofs.{enumerations.AskedWaits.is_power_step, enumerations.Enums.AreStarts}
use Rattle.gb_laws.proofs.{enumerations.Enums.enums, links.LinkFrom.Linked}
use Rattle.gb_laws.proofs.{links.Departing.departing-handled, links.LinkLists.one-link}
use Rattle.gb_laws.proofs.{marks.Marks.MarksFit}
use Rattle.gb_laws.proofs.{points.Points.IsOver}
use Rattle.gb_laws.proofs.{removals.Quiet.IsQuiet, removals.Quiet.is_removed}
use Rattle.gb_laws.proofs.{links.Waited.waited-enum}
use Rattle.gb_laws.proofs.{removals.QuietRuns.waits-before, creations.StaleBase.NoticedStill}
use Rattle.gb_laws.proofs.{creations.StaleBase.StaleBase, svc.SvcOrder.none-earlier}

-- no removal is handled where a request was answered
answered-stays : {e : Notice} {h : Host} {p : Purpose} {i : ℕ} → IsAnswered e h p
    → e ≡ at_removal i → ⊥
answered-stays r gone = let same = sym r.is ∙ gone in absurd cc

module _ (m : Moment) (absent : InsertsAbsent m) (i : ℕ)
    (marks : MarksFit m.before) (start : StaleBase m (resting m.told m.before))
    (quiet : IsQuiet i (resting m.told m.before)) where
  pub cool-turned : (a : Point) (e : Notice) (b : Point) → StaleBase m a → NoticedStill m i a
      → a.pending ≡ [] → IsOver m e a.state.bus → IsCaused m e a.state.host
      → b.state ≡ record a.state { host = (turn_of e a.state.host).host }
      → b.asked ≡ a.asked → b.pending ≡ (turn_of e a.state.host).acts → IsCool i a → IsCool i b
  cool-turned a e b f noticed none over cause state asked pending h = record {
    low = λ n s. ⊎_elim (λ o. subst (λ (t : State). level_of i t.ports ≤ 1) (sym state) (h.low n o))
        (λ gone. subst (λ (t : State). level_of i t.ports ≤ 1) (sym state)
        (subst (λ k. k ≤ 1) (sym (still gone).0) (quiet.low.low (removed gone)))) (fate n s);
    starts = λ n s one.
        let level = sym (ap (λ (t : State). level_of i t.ports) state) ∙ one in
        subst (λ (t : State). AreStarts (enums i t.bus)) (sym state)
        (⊎_elim (λ o. h.starts n o level) (λ gone. (still gone).1 (same gone)
        (quiet.low.starts (removed gone, sym (still gone).0 ∙ level))) (fate n s));
    waits = λ x j at w g p n s.
        let k = subst (λ (t : State). IsIn x t.host.interfaces) state j in
        let was = turn-waits e a.state.host x k w g in
        ⊎_elim (λ o. h.waits was.was was.known (was.intf ∙ at) w (was.awaits ∙ g) p n o)
        (λ gone. absurd (absent-then x at (subst (λ y. IsIn x (turn_of y
        a.state.host).host.interfaces) gone k))) (fate n s);
    due = λ g q j at p. asks-calm i (HasNoStale i b) e a.state.host calm q
        (subst (AsksIn q) pending j) at p;
  }
    where
      links : Linked a.state.bus a.state.host []
      links = subst (Linked a.state.bus a.state.host) none f.links

      -- the interface is removed
      Goes : Type 0
      Goes = e ≡ at_removal i

      -- what is stale was, or the removal of its interface is handled
      fate : (n : ℕ) → StaleAt i n b → StaleAt i n a ⊎ Goes
      fate n s = by (find (λ (l : Link). l.connection == s.connection) a.state.host.links) refl
        where
          pair : IsIn (n, s.connection) a.state.past.made_for
          pair = subst (λ (t : State). IsIn (n, s.connection) t.past.made_for) state s.pair

          waits : IsIn (Ask n) (svc_items side.Far a.state.bus)
          waits = subst (λ (t : State). IsIn (Ask n) (svc_items side.Far t.bus)) state s.waits

          made : request_of n a.state.bus ≡ Some s.request
          made = subst (λ (t : State). request_of n t.bus ≡ Some s.request) state s.made

          unknown : (l : Link) → IsIn l (turn_of e a.state.host).host.links
              → l.connection ≡ s.connection → ⊥
          unknown = subst (λ (t : State). (l : Link) → IsIn l t.host.links
              → l.connection ≡ s.connection → ⊥) state s.unknown

          why : (l : Link) → IsIn l a.state.host.links → l.connection ≡ s.connection
              → WhyLeft a.state.host e l.connection → Goes
          why l live on (removed j x is known at number) =
              let one = one-link a.state.host.links x l links.host.links.rise known live number in
              let of = f.pairs.of n i l s.request live
              (subst (λ k. IsIn (n, k) a.state.past.made_for) (sym on) pair) made s.speaks in
              is ∙ ap at_removal (sym at ∙ ap (λ (y : Link). y.intf) one ∙ of)
          why l live on (closed j result payload x is known waiting number) =
              let bound = f.pairs.bound x known (j, steps.DestroyConnection) waiting in
              let own = f.pairs.made j x.connection (bound.own refl) in
              let ended = (subst (λ y. IsOver m y a.state.bus) is over) result payload refl in
              absurd (none-earlier a f.basis f.links f.there f.order j n own.request own.made
              own.on own.by_ap own.twoway ended.0
              (bound.last n (subst (λ k. IsIn (n, k) a.state.past.made_for)
              (sym (number ∙ on)) pair)) waits)

          followed : (l : Link) → IsIn l a.state.host.links → l.connection ≡ s.connection
              → IsFollowed l (turn_of e a.state.host).host.links (turn_of e a.state.host).acts
              → Goes
          followed l live on (stays k j same) =
              absurd (unknown k j (same.connection ∙ on))
          followed l live on (leaves j) =
              why l live on (why-left a.state.bus e a.state.host l.connection links.host j)

          by : (o : Option Link)
              → find (λ (l : Link). l.connection == s.connection) a.state.host.links ≡ o
              → StaleAt i n a ⊎ Goes
          by None g = inl (record {
            connection = s.connection;
            pair = pair;
            waits = waits;
            unknown = λ l live on. not-both (l.connection == s.connection)
                (ap (λ k. k == s.connection) on ∙ is-same s.connection)
                (find-none (λ (y : Link). y.connection == s.connection) a.state.host.links l g
                live);
            request = s.request;
            made = made;
            speaks = s.speaks;
          })
          by (Some l) g =
              let found = found-in (λ (y : Link). y.connection == s.connection)
              a.state.host.links l g in
              let on = same-number l.connection s.connection found.1 in
              inr (followed l found.0 on
              ((turn-fits e (allowed m absent e a.state.host cause) links.host).followed l
              found.0))

      -- where the removal is handled
      departs : Goes → IsDeparting m i a.state.host
      departs gone = subst (λ y. IsCaused m y a.state.host) gone cause

      still : Goes → (level_of i a.state.ports ≡ level_of i m.before.ports)
          × (a.state.bus.requests ≡ m.before.bus.requests → AreStarts (enums i m.before.bus)
          → AreStarts (enums i a.state.bus))
      still gone = let d = departs gone in noticed (host_event.Removed d.primary) d.noticed

      same : Goes → a.state.bus.requests ≡ m.before.bus.requests
      same gone = subst (λ y. IsOver m y a.state.bus) gone over

      removed : Goes → is_removed i m.before ≡ true
      removed gone =
          let d = departs gone in
          waits-before i m
          (departing-handled i d.primary m start.basis start.links marks d.noticed d.known)

      absent-then : (x : Interface) → x.intf ≡ i
          → IsIn x (without_interface i a.state.host).interfaces → ⊥
      absent-then x at j = not-both (is_intf i x) (ap (λ k. k == i) at ∙ is-same i)
          (in-without (is_intf i) a.state.host.interfaces x j).1

      -- nothing stale waits once a step was answered
      calm : (p : Purpose) → IsAnswered e a.state.host p → p.intf ≡ i
          → is_power_step p.step ≡ true → HasNoStale i b
      calm p r at power j s = ⊎_elim (λ o.
          let step = both-true (is_enumeration p.step) (not (asks_control p.step)) power in
          let x = waited-enum r.number p links.host r.awaited step.0 in
          let own = f.own.waits x.interface x.known (r.number, p.step) x.awaits in
          let svc = own.svc (unmarked (asks_control p.step) step.1) in
          let ended = (subst (λ y. IsOver m y a.state.bus) r.is over) r.result r.payload refl in
          let less =
          h.waits x.interface x.known (x.intf ∙ at) (r.number, p.step) x.awaits power j o in
          none-earlier a f.basis f.links f.there f.order r.number j own.request own.made
          svc.connection svc.side own.twoway ended.0 (omega (arith, less)) o.waits)
          (λ gone. absurd (answered-stays r gone)) (fate j s)
        where
          unmarked : (t : Bool) → not t ≡ true → t ≡ false
          unmarked true g = absurd cc
          unmarked false g = refl
