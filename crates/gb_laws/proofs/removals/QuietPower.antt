-- What is said of an enumeration while a removal waits is kept where power levels change.
use Rattle.std.proofs.Common.{Bool, List, None, ap, arith, cond, false, inl, refl, subst, sym, true}
use Rattle.std.proofs.Common.{ℕ, ⊎_elim, [], ◌++◌, ◌∙◌, ◌∷◌, ◌≡◌, ◌≤◌}
use Rattle.std.specs.Prelude.{Ok, ◌==◌}
use Rattle.gb_base.specs.declared.end.Side.TheVariants as side
use Rattle.gb_formats.specs.SvcRecords.{read_svc_ask}
use Rattle.gb_machine.specs.Bus.{Ask, Connection, Item, Raw, RawReply, Reply, Request, request_of}
use Rattle.gb_machine.specs.Ports.{level_of, unrouted}
use Rattle.gb_machine.specs.SvcQueues.{enumerates, is_enumeration_request, is_reply_to, items_in}
use Rattle.gb_machine.specs.SvcQueues.{svc_items}
use Rattle.gb_machine.specs.{Host.Host, Incoming.Incoming, LawsBus.is_awaited, LawsBus.is_item_of}
use Rattle.gb_machine.specs.{Lists.behind_first, Members.IsIn, Runs.Moment, State.Port}
use Rattle.gb_machine.specs.{SvcTable.Unroute, SvcTable.svc_step}
use Rattle.gb_invariants.proofs.Awaiting.{none-some, not-both, same-some}
use Rattle.gb_invariants.proofs.{Counts.times-some, Counts.total-some, Outcomes.is-same}
use Rattle.gb_invariants.specs.Facts.{times_on}
use Rattle.gb_laws.proofs.enumerations.Enums.{AreStarts, clean-none, enum-waits, enum_of, enums}
use Rattle.gb_laws.proofs.enumerations.Enums.{enums_of}
use Rattle.gb_laws.proofs.svc.Levels.{StepOn, by_record, nothing_changes, starts, step-levels}
use Rattle.gb_laws.proofs.points.PointParts.{Basis, Point, resting}
use Rattle.gb_laws.proofs.points.Points.{IsIdle, IsServing, PortsFrom, as_before, loses_route}
use Rattle.gb_laws.proofs.points.Points.{served}
use Rattle.gb_laws.proofs.removals.Quiet.{IsLast, IsQuiet, IsUnanswered, SameView, is_removed}
use Rattle.gb_laws.proofs.removals.Quiet.{last-behind}
use Rattle.gb_laws.proofs.removals.Quiet.{clean-same, last-in, none, off, quiet-still, removed-same}
use Rattle.gb_laws.proofs.removals.Quiet.{starts-behind}
use Rattle.gb_laws.proofs.removals.QuietEnums.{at-most_one, start-kind, unrouted-low}
use Rattle.gb_laws.proofs.removals.QuietEnums.{unrouted-other}
use Rattle.gb_laws.proofs.{enumerations.AskedWaits.AsksIn, enumerations.AskedWaits.no-asks}
use Rattle.gb_laws.proofs.{links.LinkFrom.Linked}
use Rattle.gb_laws.proofs.{removals.QuietBuses.svc-found, removals.QuietKept.none-hand}
use Rattle.gb_laws.proofs.{removals.QuietKept.view-rest}
use Rattle.gb_laws.proofs.{removals.QuietServed.IsServed, removals.QuietServed.serving}
use Rattle.gb_laws.proofs.{svc.SvcThere.There}

-- where the bus stays
removed-back : (i : ℕ) (a b : Point) → b.state.bus ≡ a.state.bus
    → b.state.past.pulled ≡ a.state.past.pulled → is_removed i b.state ≡ is_removed i a.state
removed-back i a b bus pulled = removed-same i a b (ap (svc_items side.Ap) bus) pulled

module _ (m : Moment) (i : ℕ) (basis : Basis (resting m.told m.before))
    (links : Linked m.before.bus m.before.host []) (there : There m.before.bus)
    (start : IsQuiet i (resting m.told m.before)) where
  -- a request that waits to be served isn't answered
  unreplied-yet : (n : ℕ) (r : Request) → IsIn (n, r) (enums i m.before.bus) → (x : Item)
      → IsIn x (svc_items side.Ap m.before.bus) → is_reply_to n x ≡ false
  unreplied-yet n r j x k =
      let c = svc-found basis there in
      let w = enum-waits i m.before.bus (svc_items side.Far m.before.bus) (n, r) j in
      by x c.0 c.3 (subst (λ o. IsIn (Ask n) (items_in side.Far o)) c.1 w.0)
      (subst (λ o. IsIn x (items_in side.Ap o)) c.1 k)
    where
      by : (y : Item) (c : Connection) → IsIn c m.before.bus.connections
          → IsIn (Ask n) c.to_far → IsIn y c.to_ap → is_reply_to n y ≡ false
      by (Ask q) c live far near = refl
      by (Raw bytes) c live far near = refl
      by (RawReply label kind result payload) c live far near = refl
      by (Reply q result payload) c live far near = test (q == n) refl
        where
          test : (t : Bool) → (q == n) ≡ t → t ≡ false
          test false e = refl
          test true e =
              let most = basis.bus.ones n in
              let here = total-some (times_on (is_item_of n)) m.before.bus.connections c live in
              let one = times-some (is_item_of n) c.to_far (Ask n) far (is-same n) in
              let two = times-some (is_item_of n) c.to_ap (Reply q result payload) near e in
              absurd (omega (arith, most, here, one, two))

  -- where it is one of an enumeration: what waits for another is still the last, and isn't answered
  started : (a b : Point) (q : Incoming) (w : IsServed m a q) → b.state.bus ≡ a.state.bus
      → b.state.past.pulled ≡ a.state.past.pulled → b.state.host ≡ m.before.host → b.hand ≡ None
      → b.pending ≡ [] → b.asked ≡ None
      → is_enumeration_request i w.request ≡ true
      → (is_removed i m.before ≡ true → level_of i b.state.ports ≤ 1) → IsQuiet i b
  started a b q w bus pulled host hand pending asked is low = record {
    low = record {
      restarts = subst (λ es. AreStarts (behind_first es)) (sym rest) (starts-behind later tail);
      low = λ r. low (sym (w.removed i) ∙ sym (removed-back i a b bus pulled) ∙ r);
      starts = λ hot. subst AreStarts (sym rest) tail;
    };
    waits = λ x j at v e s.
        let was = start.waits x (subst (λ (g : Host). IsIn x g.interfaces) host j) at v e s in
        let last = subst (IsLast v.0) whole was.last in record {
          last = subst (IsLast v.0) (sym rest) (last-behind v.0 ((w.number, w.request)
              ∷ enums_of i m.before.bus (behind_first (svc_items side.Far m.before.bus))) last);
          quiet = λ hot. unanswered v.0 last;
        };
    due = λ e r j at s. absurd (no-asks (subst (AsksIn r) pending j));
    made = λ r n e at s. absurd (none-some (sym asked ∙ e));
  }
    where
      later : List (ℕ × Request)
      later = enums_of i m.before.bus (behind_first (svc_items side.Far m.before.bus))

      rest : enums i b.state.bus
          ≡ enums_of i m.before.bus (behind_first (svc_items side.Far m.before.bus))
      rest = ap (enums i) bus ∙ w.rest i

      whole : enums i m.before.bus ≡ (w.number, w.request)
          ∷ enums_of i m.before.bus (behind_first (svc_items side.Far m.before.bus))
      whole = ap (enums_of i m.before.bus) w.front ∙ ap (λ o. enum_of i w.number o
          ++ enums_of i m.before.bus (behind_first (svc_items side.Far m.before.bus))) w.made
          ∙ ap (λ t. cond t ((w.number, w.request) ∷ []) []
          ++ enums_of i m.before.bus (behind_first (svc_items side.Far m.before.bus))) is

      tail : AreStarts (enums_of i m.before.bus (behind_first (svc_items side.Far m.before.bus)))
      tail = subst (λ es. AreStarts (behind_first es)) whole start.low.restarts

      unanswered : (n : ℕ) → IsLast n ((w.number, w.request)
          ∷ enums_of i m.before.bus (behind_first (svc_items side.Far m.before.bus)))
          → IsUnanswered i n b
      unanswered n last =
          let r = last-in n (w.number, w.request)
          (enums_of i m.before.bus (behind_first (svc_items side.Far m.before.bus))) last in
          let member = subst (λ es. IsIn (n, r.0) es) (sym whole) r.1 in
          let waits = enum-waits i m.before.bus (svc_items side.Far m.before.bus) (n, r.0) member in
          let c = svc-found basis there in
          let queued = subst (λ o. IsIn (Ask n) (items_in side.Far o)) c.1 waits.0 in
          let own = basis.bus.items.own c.0 side.Far (Ask n) c.3 queued in
          let same = same-some own.0 r.0 (sym own.1 ∙ waits.1) in
          let svc = links.svc c.0 c.3 c.4 in record {
            clean = clean-same n i a b (ap (svc_items side.Ap) bus) pulled
                (w.clean n i (clean-none n i m.before.past.pulled (svc_items side.Ap m.before.bus)
                (unreplied-yet n r.0 member)));
            hand = λ h e. none-hand b hand (λ x. is_reply_to n x.item ≡ false) h e;
            request = r.0;
            made = ap (request_of n) bus ∙ w.requests n ∙ waits.1;
            on = ap (λ (x : Request). x.connection) (sym same) ∙ own.2 ∙ c.4;
            by_ap = ap (λ (x : Request). x.side) (sym same) ∙ own.3;
            awaited = ap (is_awaited n) bus ∙ w.awaited n
                ∙ (basis.bus.items.answerable c.0 side.Far (Ask n) c.3 queued).due svc.clean
                (λ f. svc.shut) r.0 waits.1 r.2;
          }

  -- ---- all changes of levels

  pub quiet-ports : (a : Point) {b : Point} (ports : List Port) → Basis a → PortsFrom m a.state
      ports → IsIdle a → b.state.bus ≡ a.state.bus
      → b.state.past.pulled ≡ a.state.past.pulled → b.state.host ≡ a.state.host
      → b.state.ports ≡ ports → b.hand ≡ a.hand → b.pending ≡ a.pending → b.asked ≡ a.asked
      → IsQuiet i a → IsQuiet i b
  quiet-ports a {b} ports here from idle bus pulled host now hand pending asked h = by from
    where
      still : SameView i a b → IsQuiet i b
      still v = quiet-still v (λ x j w e. record {
        was = x;
        known = subst (λ (g : Host). IsIn x g.interfaces) host j;
        intf = refl;
        awaits = refl;
      }) asked (λ q j. subst (AsksIn q) pending j) h

      level-same : level_of i ports ≡ level_of i a.state.ports → IsQuiet i b
      level-same e =
          still (view-rest here bus (ap (level_of i) now ∙ e) pulled (λ x f. sym hand ∙ f))

      no-power : level_of i ports ≡ 0 → IsQuiet i b
      no-power e = still (record {
        enums = inl (ap (enums i) bus);
        power = off (ap (level_of i) now ∙ e);
      })

      no-removal : (is_removed i a.state ≡ true → ⊥) → IsQuiet i b
      no-removal f = still (record {
        enums = inl (ap (enums i) bus);
        power = none (λ r. f (sym (removed-back i a b bus pulled) ∙ r));
      })

      step : (q : Incoming) → IsServing m a.state q
          → (p : List Port) → ports ≡ p → p ≡ (svc_step m.before.ports q.kind q.payload).ports
          → StepOn i q.kind q.payload (level_of i m.before.ports)
          (level_of i (svc_step m.before.ports q.kind q.payload).ports) → IsQuiet i b
      step q w p e f (nothing_changes g) =
          level-same (ap (level_of i) e ∙ ap (level_of i) f ∙ g ∙ sym (ap (level_of i) w.ports))
      step q w p e f (by_record ask read l) = enumerating (enumerates i (Ok ask)) refl
        where
          s : IsServed m a q
          s = serving m basis links there a q w

          becomes : level_of i ports ≡ level_of i (svc_step m.before.ports q.kind q.payload).ports
          becomes = ap (level_of i) e ∙ ap (level_of i) f

          is-enumeration : enumerates i (Ok ask) ≡ true
              → is_enumeration_request i (serving m basis links there a q w).request ≡ true
          is-enumeration g =
              ap (λ k. enumerates i (read_svc_ask k
              (serving m basis links there a q w).request.payload))
              (serving m basis links there a q w).kind
              ∙ ap (λ x. enumerates i (read_svc_ask q.kind x))
              (serving m basis links there a q w).payload ∙ ap (enumerates i) read ∙ g

          first-kind : enumerates i (Ok ask) ≡ true → AreStarts (enums i m.before.bus)
              → q.kind ≡ 0x21
          first-kind g all =
              sym (serving m basis links there a q w).kind
              ∙ (subst AreStarts (ap (enums_of i m.before.bus)
              (serving m basis links there a q w).front
              ∙ ap (λ o. enum_of i (serving m basis links there a q w).number o
              ++ enums_of i m.before.bus (behind_first (svc_items side.Far m.before.bus)))
              (serving m basis links there a q w).made ∙ ap (λ t. cond t ((
                (serving m basis links there a q w).number,
                (serving m basis links there a q w).request,
              ) ∷ []) []
              ++ enums_of i m.before.bus (behind_first (svc_items side.Far m.before.bus)))
              (is-enumeration g)) all).0

          removed : is_removed i a.state ≡ true → is_removed i m.before ≡ true
          removed r = sym ((serving m basis links there a q w).removed i) ∙ r

          later : enumerates i (Ok ask) ≡ true → starts i ask ≡ false
              → (t : Bool) → is_removed i m.before ≡ t → IsQuiet i b
          later g u false r = no-removal (λ k. not-both (is_removed i m.before) (removed k) r)
          later g u true r = ⊎_elim (λ zero. no-power (becomes ∙ l.zero zero u))
              (λ one. absurd (not-both (starts i ask) (start-kind i q.kind q.payload ask read g
              (first-kind g (start.low.starts (r, one)))) u))
              (at-most_one (level_of i m.before.ports) (start.low.low r))

          begins : enumerates i (Ok ask) ≡ true → (t : Bool) → starts i ask ≡ t → IsQuiet i b
          begins g true u = started a b q (serving m basis links there a q w) bus pulled
              (host ∙ w.host) (hand ∙ idle.hand) (pending ∙ idle.pending)
              (asked ∙ idle.asked) (is-enumeration g)
              (λ r. subst (λ n. n ≤ 1) (sym (ap (level_of i) now ∙ becomes))
              (l.low u (start.low.low r)))
          begins g false u = later g u (is_removed i m.before) refl

          enumerating : (t : Bool) → enumerates i (Ok ask) ≡ t → IsQuiet i b
          enumerating false g =
              level-same (becomes ∙ l.same g ∙ sym (ap (level_of i) w.ports))
          enumerating true g = begins g (starts i ask) refl

      lost : (q : Incoming) (j : ℕ) → IsServing m a.state q
          → (svc_step m.before.ports q.kind q.payload).served ≡ Unroute j
          → ports ≡ unrouted j (svc_step m.before.ports q.kind q.payload).ports
          → (t : Bool) → (i == j) ≡ t → IsQuiet i b
      lost q j w is e false f = level-same (ap (level_of i) e
          ∙ unrouted-other m.before.ports q.kind q.payload i j is f
          ∙ sym (ap (level_of i) w.ports))
      lost q j w is e true f =
          no-removal (λ r. unrouted-low m.before.ports q.kind q.payload i j is f
          (start.low.low (sym ((serving m basis links there a q w).removed i) ∙ r)))

      by : PortsFrom m a.state ports → IsQuiet i b
      by (as_before e) = level-same (ap (level_of i) e)
      by (served q w e) = step q w (svc_step m.before.ports q.kind q.payload).ports e refl
          (step-levels i m.before.ports)
      by (loses_route q j w is e unwired) = lost q j w is e (i == j) refl
