-- While a request waits for a connection that is known no more, the power level of its interface is
-- at most 1: where levels change.
use Rattle.std.proofs.Common.{Bool, List, None, ap, arith, cond, false, inr, refl, subst, sym, true}
use Rattle.std.proofs.Common.{ℕ, ⊎_elim, [], ◌++◌, ◌∙◌, ◌∷◌, ◌≡◌, ◌≤◌, ◌⊎◌}
use Rattle.std.specs.Prelude.{Ok, ◌==◌}
use Rattle.gb_base.specs.declared.end.Side.TheVariants as side
use Rattle.gb_base.specs.declared.interface.Link.{Link}
use Rattle.gb_base.specs.declared.steps.SequenceStep.TheVariants as steps
use Rattle.gb_formats.specs.SvcRecords.{read_svc_ask}
use Rattle.gb_machine.proofs.Lists.{nth-within}
use Rattle.gb_machine.specs.Ports.{level_of, unrouted}
use Rattle.gb_machine.specs.{Bus.Ask, Bus.Item, Host.Host, Incoming.Incoming, Lists.behind_first}
use Rattle.gb_machine.specs.{Members.IsIn, Runs.Moment, State.Past, State.Port}
use Rattle.gb_machine.specs.{SvcQueues.enumerates, SvcQueues.svc_items, SvcTable.Unroute}
use Rattle.gb_machine.specs.{SvcTable.svc_step, Turns.Asking}
use Rattle.gb_invariants.proofs.{Awaiting.not-both}
use Rattle.gb_laws.proofs.enumerations.AskedWaits.{AsksIn, WaitsFewer, is_power_step, same-waits}
use Rattle.gb_laws.proofs.enumerations.Enums.{AreStarts, enum_of, enums, enums_of}
use Rattle.gb_laws.proofs.svc.Levels.{StepOn, by_record, nothing_changes, starts}
use Rattle.gb_laws.proofs.svc.Levels.{step-levels}
use Rattle.gb_laws.proofs.points.PointParts.{Basis, Point, resting}
use Rattle.gb_laws.proofs.points.Points.{IsIdle, IsServing, PortsFrom, as_before, loses_route}
use Rattle.gb_laws.proofs.points.Points.{served}
use Rattle.gb_laws.proofs.removals.QuietEnums.{at-most_one, start-kind, unrouted-low}
use Rattle.gb_laws.proofs.removals.QuietEnums.{unrouted-other}
use Rattle.gb_laws.proofs.creations.Stale.{HasNoStale, IsCool, IsStale, StaleAt, cool-still}
use Rattle.gb_laws.proofs.creations.Stale.{due-still}
use Rattle.gb_laws.proofs.{links.LinkFrom.Linked, marks.MarkFrame.asked-toward}
use Rattle.gb_laws.proofs.{creations.Pairs.PairsFit}
use Rattle.gb_laws.proofs.{removals.QuietServed.serving, creations.RememberedLive.RemembersSince}
use Rattle.gb_laws.proofs.{svc.SvcThere.There}

module _ (m : Moment) (i : ℕ) (basis : Basis (resting m.told m.before))
    (links : Linked m.before.bus m.before.host []) (there : There m.before.bus)
    (start : IsCool i (resting m.told m.before))
    (pairs : PairsFit m.before.bus m.before.host m.before.past.made_for None)
    (restarts : AreStarts (behind_first (enums i m.before.bus))) where
  -- what is stale where the supervisory controller serves was stale before
  before-stale : (a : Point) (q : Incoming) → IsServing m a.state q → RemembersSince m a → (n : ℕ)
      → StaleAt i n a → StaleAt i n (resting m.told m.before)
  before-stale a q w since n s =
      let v = serving m basis links there a q w in
      let queued = in-behind (svc_items side.Far m.before.bus) (Ask n)
      (subst (λ xs. IsIn (Ask n) xs) v.far s.waits) in
      ⊎_elim (λ old. record {
        connection = s.connection;
        pair = old;
        waits = queued;
        unknown = subst (λ (h : Host). (l : Link) → IsIn l h.links → l.connection ≡ s.connection
            → ⊥) w.host s.unknown;
        request = s.request;
        made = sym (v.requests n) ∙ s.made;
        speaks = s.speaks;
      }) (λ new. let made = asked-toward side.Far (resting m.told m.before) basis n queued in
      let within = nth-within n m.before.bus.requests made.0 made.1 in
      let above = new.0 in absurd (omega (arith, within, above))) (since.new n s.connection s.pair)
    where
      in-behind : (xs : List Item) (x : Item) → IsIn x (behind_first xs) → IsIn x xs
      in-behind [] x j = absurd j
      in-behind (y ∷ ys) x j = inr j

  -- where levels change
  pub cool-ports : (a : Point) {b : Point} (ports : List Port) → PortsFrom m a.state ports → IsIdle
      a → RemembersSince m a → b.state.bus ≡ a.state.bus → b.state.host ≡ a.state.host
      → b.state.past ≡ a.state.past → b.state.ports ≡ ports → b.pending ≡ a.pending
      → b.asked ≡ a.asked → IsCool i a → IsCool i b
  cool-ports a {b} ports from idle since bus host past now pending asked h = by from
    where
      back : (n : ℕ) → StaleAt i n b → StaleAt i n a
      back n s = subst (λ ps. IsStale i n a.state.bus a.state.host ps)
          (ap (λ (p : Past). p.made_for) past)
          (subst (λ g. IsStale i n a.state.bus g b.state.past.made_for) host
          (subst (λ x. IsStale i n x b.state.host b.state.past.made_for) bus s))

      fewer : WaitsFewer a.state.host b.state.host
      fewer = subst (WaitsFewer a.state.host) (sym host) (same-waits a.state.host)

      due : b.asked ≡ None → (q : Asking) → AsksIn q b.pending → q.purpose.intf ≡ i
          → is_power_step q.purpose.step ≡ true
          → (q.purpose.step ≡ steps.EnableVsys) ⊎ HasNoStale i b
      due = due-still i a b back asked (λ q j. subst (AsksIn q) pending j) h

      level-same : level_of i ports ≡ level_of i a.state.ports → IsCool i b
      level-same e = cool-still i a back (ap (level_of i) now ∙ e)
          (λ n s x. subst (λ y. AreStarts (enums i y)) (sym bus) x) fewer due h

      -- where the level is known for what is stale
      level-low : ((n : ℕ) → StaleAt i n a → (level_of i ports ≤ 1)
          × (level_of i ports ≡ 1 → AreStarts (enums i a.state.bus))) → IsCool i b
      level-low low = record {
        low = λ n s. subst (λ ps. level_of i ps ≤ 1) (sym now) (low n (back n s)).0;
        starts = λ n s one. subst (λ y. AreStarts (enums i y)) (sym bus)
            ((low n (back n s)).1 (sym (ap (level_of i) now) ∙ one));
        waits = λ x j at w e p n s. let was = fewer x j w e in
            h.waits was.was was.known (was.intf ∙ at) w (was.awaits ∙ e) p n (back n s);
        due = due;
      }

      step : (q : Incoming) → IsServing m a.state q
          → ports ≡ (svc_step m.before.ports q.kind q.payload).ports
          → StepOn i q.kind q.payload (level_of i m.before.ports)
          (level_of i (svc_step m.before.ports q.kind q.payload).ports) → IsCool i b
      step q w e (nothing_changes g) =
          level-same (ap (level_of i) e ∙ g ∙ sym (ap (level_of i) w.ports))
      step q w e (by_record ask read l) = enumerating (enumerates i (Ok ask)) refl
        where
          whole : enumerates i (Ok ask) ≡ true → enums i m.before.bus ≡ (
            (serving m basis links there a q w).number,
            (serving m basis links there a q w).request,
          ) ∷ enums_of i m.before.bus (behind_first (svc_items side.Far m.before.bus))
          whole g =
              let v = serving m basis links there a q w in
              let is = ap (λ k. enumerates i (read_svc_ask k v.request.payload)) v.kind
              ∙ ap (λ x. enumerates i (read_svc_ask q.kind x)) v.payload
              ∙ ap (enumerates i) read ∙ g in
              ap (enums_of i m.before.bus) v.front ∙ ap (λ o. enum_of i v.number o
              ++ enums_of i m.before.bus (behind_first (svc_items side.Far m.before.bus))) v.made
              ∙ ap (λ t. cond t ((v.number, v.request) ∷ []) []
              ++ enums_of i m.before.bus (behind_first (svc_items side.Far m.before.bus))) is

          tail : enumerates i (Ok ask) ≡ true → AreStarts (enums i a.state.bus)
          tail g = subst AreStarts (sym ((serving m basis links there a q w).rest i))
              (subst (λ es. AreStarts (behind_first es)) (whole g) restarts)

          became : level_of i ports ≡ level_of i (svc_step m.before.ports q.kind q.payload).ports
          became = ap (level_of i) e

          none-one : (n : ℕ) → n ≡ 0 → n ≡ 1 → ⊥
          none-one n zero one = omega (arith, zero, one)

          begins : enumerates i (Ok ask) ≡ true → (t : Bool) → starts i ask ≡ t → IsCool i b
          begins g true u = level-low (λ n s.
              let low = start.low n (before-stale a q w since n s) in (
                subst (λ k. k ≤ 1) (sym became) (l.low u low),
                λ one. tail g,
              ))
          begins g false u = level-low (λ n s.
              let was = before-stale a q w since n s in
              ⊎_elim (λ zero. let none = became ∙ l.zero zero u in (
                subst (λ k. k ≤ 1) (sym none) (omega arith),
                λ one. absurd (none-one (level_of i ports) none one),
              )) (λ one. absurd (not-both (starts i ask) (start-kind i q.kind q.payload ask read g
              (sym (serving m basis links there a q w).kind
              ∙ (subst AreStarts (whole g) (start.starts n was one)).0)) u))
              (at-most_one (level_of i m.before.ports) (start.low n was)))

          enumerating : (t : Bool) → enumerates i (Ok ask) ≡ t → IsCool i b
          enumerating false g =
              level-same (became ∙ l.same g ∙ sym (ap (level_of i) w.ports))
          enumerating true g = begins g (starts i ask) refl

      lost : (q : Incoming) (j : ℕ) → IsServing m a.state q
          → (svc_step m.before.ports q.kind q.payload).served ≡ Unroute j
          → ports ≡ unrouted j (svc_step m.before.ports q.kind q.payload).ports
          → (t : Bool) → (i == j) ≡ t → IsCool i b
      lost q j w is e false f = level-same (ap (level_of i) e
          ∙ unrouted-other m.before.ports q.kind q.payload i j is f
          ∙ sym (ap (level_of i) w.ports))
      lost q j w is e true f =
          level-low (λ n s. absurd (unrouted-low m.before.ports q.kind q.payload i j is f
          (start.low n (before-stale a q w since n s))))

      by : PortsFrom m a.state ports → IsCool i b
      by (as_before e) = level-same (ap (level_of i) e)
      by (served q w e) = step q w e (step-levels i m.before.ports)
      by (loses_route q j w is e unwired) = lost q j w is e (i == j) refl
