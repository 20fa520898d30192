-- Each end by cancelling, timeout or disconnection has its cause at its moment.
use Rattle.std.proofs.Common.{List, None, Some, ap, append-nil, append_assoc, false, inl, inr, map}
use Rattle.std.proofs.Common.{refl, subst, sym, true, ℕ, [], ◌++◌, ◌∙◌, ◌∷◌, ◌≡◌, ◌≢◌, ◌≤◌, ◌⊎◌}
use Rattle.std.specs.List.{find}
use Rattle.gb_base.specs.declared.bridge.Reading.TheVariants as reading
use Rattle.gb_base.specs.declared.end.Side.{Side}
use Rattle.gb_base.specs.declared.end.End.TheVariants as end
use Rattle.gb_base.specs.declared.end.Side.TheVariants as side
use Rattle.gb_base.specs.declared.entry.Entry.{Entry}
use Rattle.gb_base.specs.declared.entry.Entry.TheVariants as entry
use Rattle.gb_base.specs.declared.outcome.Outcome.{Outcome}
use Rattle.gb_base.specs.declared.outcome.Outcome.TheVariants as outcome
use Rattle.gb_machine.specs.Bus.{Connection, Request, connection_of, has_number}
use Rattle.gb_machine.specs.Runs.{IsMoment, Moment, after, told_at}
use Rattle.gb_machine.specs.{LawsEnds.HasItsCause, LawsEnds.IsDisconnection, Members.Each}
use Rattle.gb_machine.specs.{Members.IsIn, Requests.open_on, Wires.disconnected_told}
use Rattle.gb_machine.specs.LawsEnds.{IsDisconnect, IsRemovalOf}
use Rattle.gb_invariants.proofs.Lists.{each-append, each-in, each-weaker}
use Rattle.gb_invariants.proofs.{Awaiting.same-some, Found.changed-in, Numbers.found-by_number}
use Rattle.gb_invariants.proofs.{Selves.module-no-svc}
use Rattle.gb_laws.proofs.ends.EndCauses.{IsCutOn, IsFine, Start, ended-fine, fine-on}
use Rattle.gb_laws.proofs.ends.EndCauses.{quiet-all-fine}
use Rattle.gb_laws.proofs.ends.EndCauses.{quiet-fine, sent-fine, shut-cause}
use Rattle.gb_laws.proofs.links.LinkRuns.{LinkedTo, linked-throughout, start-absent}
use Rattle.gb_laws.proofs.points.PointParts.{Basis, IsGivenUpFor, Point, Wired, asked_told, resting}
use Rattle.gb_laws.proofs.points.Points.{Change, IsLive, Law, acts_failed, acts_made, acts_shut}
use Rattle.gb_laws.proofs.points.Points.{acts_told, answers, asks, changed, drops, gives_up}
use Rattle.gb_laws.proofs.points.Points.{injects}
use Rattle.gb_laws.proofs.points.Points.{names, replies, tells, unwires, upon}
use Rattle.gb_laws.proofs.{ends.Answering.same-rest, links.LinkFrom.Linked, links.LinkLaw.link_law}
use Rattle.gb_laws.proofs.{points.PointToPoint.stays-to}
use Rattle.gb_laws.proofs.{runs.Runs.HoldsAtMoments, runs.Runs.at_each, points.Silent.silent-quiet}
use Rattle.gb_laws.proofs.{steps.Steps.over-step}

-- ---- what was told at the moment so far

record IsSoFar (m : Moment) (a : Point) : Type 0 where
  new : List Entry
  told : a.told ≡ m.told ++ new
  fine : Each (IsFine m a) new
  wired : a.wires ≢ Wired → (d : Connection) → IsIn d a.state.bus.connections → d.wired ≡ true
      → (c : Connection) × IsIn c m.before.bus.connections × (c.number ≡ d.number)
      × (c.wired ≡ true)

-- more is told, and it is fine
so-far : {m : Moment} {a : Point} (x : Change m a) (es : List Entry)
    → (changed m a x).told ≡ a.told ++ es
    → Each (IsFine m (changed m a x)) es → IsSoFar m a → IsSoFar m (changed m a x)
so-far {m} {a} x es told fine h = let on = stays-to m a x in record {
  new = h.new ++ es;
  told = told ∙ ap (λ l. l ++ es) h.told ∙ append_assoc m.told h.new es;
  fine = each-append (IsFine m (changed m a x)) h.new es
      (each-weaker (IsFine m a) (IsFine m (changed m a x)) h.new
      (λ e. fine-on m a (changed m a x) e on) h.fine) fine;
  wired = λ n d live wired.
      let back = on.back n in
      let was = back.1 d live wired in
      let first = h.wired back.0 was.0 was.1 was.3 in
      (first.0, first.1, first.2 ∙ sym was.2.number, first.3);
}

unwires-fine : (m : Moment) (a : Point) (k : ℕ) (free : a.hand ≡ None) (before : a.wires ≢ Wired)
    (live : IsLive k true a.state.bus)
    → Basis a → Linked a.state.bus a.state.host a.pending → IsSoFar m a
    → Each (IsFine m (changed m a (unwires k free before live)))
    (map disconnected_told (open_on k side.Far a.state.bus))
unwires-fine m a k free before live basis links h =
    ended-fine m (changed m a (unwires k free before live)) side.Far k a.state.bus
    (λ n r made. made)
    (λ e. not-svc (links.svc live.connection live.live (live.number ∙ e)).peer) (record {
      wires = refl;
      was = was.0;
      before = was.1;
      was_number = was.2 ∙ live.number;
      was_wired = was.3;
      now = record live.connection { wired = false; to_ap = []; to_far = [] };
      live = changed-in (has_number k) (λ c. record c { wired = false; to_ap = []; to_far = [] })
          a.state.bus.connections live.connection
          (subst (λ n. find (has_number n) a.state.bus.connections ≡ Some live.connection)
          live.number
          (found-by_number a.state.bus.connections live.connection basis.bus.numbers.rise
          live.live));
      number = live.number;
      wired = refl;
    })
  where
    was : (c : Connection) × IsIn c m.before.bus.connections × (c.number ≡ live.connection.number)
        × (c.wired ≡ true)
    was = h.wired before live.connection live.live live.wired

    not-svc : live.connection.peer ≡ end.Svc → ⊥
    not-svc e = module-no-svc (sym live.peer ∙ e)

so-far-kept : (m : Moment) (start : Start m) (a : Point) (x : Change m a) → Basis a
    → Linked a.state.bus a.state.host a.pending → IsSoFar m a → IsSoFar m (changed m a x)
so-far-kept m start a (tells e quiet) basis links h =
    so-far (tells e quiet) (e ∷ []) refl
    (quiet-fine m (changed m a (tells e quiet)) e (silent-quiet e quiet), tt) h
so-far-kept m start a (asks d c label free live drawn who) basis links h =
    so-far (asks d c label free live drawn who) (asked_told d c label a.state.bus) refl
    (sent-fine m _ d c label a.state.bus) h
so-far-kept m start a (names name d c label free live drawn host) basis links h =
    so-far (names name d c label free live drawn host) (asked_told d c label a.state.bus) refl
    (sent-fine m _ d c label a.state.bus) h
so-far-kept m start a drops basis links h = so-far drops [] (sym (append-nil a.told)) tt h
so-far-kept m start a (replies x q r is made twoway) basis links h =
    so-far (replies x q r is made twoway) (_ ∷ []) refl (tt, tt) h
so-far-kept m start a (answers x n result payload is says which) basis links h =
    so-far (answers x n result payload is says which) (_ ∷ []) refl (tt, tt) h
so-far-kept m start a (gives_up n how free unended cause) basis links h =
    so-far (gives_up n how free unended cause) (entry.Ended n how reading.Nothing ∷ []) refl
    (given_up-after how cause, tt) h
  where
    given_up-after : (o : Outcome) → IsGivenUpFor m a.state o n
        → IsFine m (changed m a (gives_up n how free unended cause))
        (entry.Ended n o reading.Nothing)
    given_up-after outcome.Cancelled c = c
    given_up-after outcome.Timeout c =
        record {
          millis = c.millis;
          request = c.request;
          event = c.event;
          made = c.made;
          due = c.due;
        }
    given_up-after outcome.Disconnected c = absurd c
    given_up-after outcome.Sent c = absurd c
    given_up-after (outcome.Answered result payload) c = absurd c
so-far-kept m start a (unwires k free before live) basis links h =
    so-far (unwires k free before live) (map disconnected_told (open_on k side.Far a.state.bus))
    refl (unwires-fine m a k free before live basis links h) h
so-far-kept m start a (injects i c p bytes free named) basis links h =
    so-far (injects i c p bytes free named) (_ ∷ []) refl (tt, tt) h
so-far-kept m start a (acts_told e rest is quiet) basis links h =
    so-far (acts_told e rest is quiet) (e ∷ []) refl
    (quiet-fine m (changed m a (acts_told e rest is quiet)) e quiet, tt) h
so-far-kept m start a (acts_shut k rest free is cause) basis links h =
    so-far (acts_shut k rest free is cause)
    (map disconnected_told (open_on k side.Ap a.state.bus)) refl
    (by (shut-cause m k a.state.bus start cause)) h
  where
    after : Point
    after = changed m a (acts_shut k rest free is cause)

    by : ((k ≢ 1) × (IsDisconnect m k ⊎ IsRemovalOf m k)) ⊎ (open_on k side.Ap a.state.bus ≡ [])
        → Each (IsFine m after) (map disconnected_told (open_on k side.Ap a.state.bus))
    by (inl why) = ended-fine m after side.Ap k a.state.bus (λ n r made. made) why.0 why.1
    by (inr none) =
        subst (λ ns. Each (IsFine m after) (map disconnected_told ns)) (sym none) tt
so-far-kept m start a (acts_made w q rest free is) basis links h =
    so-far (acts_made w q rest free is) (_ ∷ []) refl (tt, tt) h
so-far-kept m start a (acts_failed q rest is quiet) basis links h =
    so-far (acts_failed q rest is quiet) _ refl
    (quiet-all-fine m (changed m a (acts_failed q rest is quiet)) _ quiet) h
so-far-kept m start a x basis links h =
    so-far x [] refl tt h

-- ---- the law

abbrev cause_law : (m : Moment) → Start m → Law m
cause_law m start = upon (link_law m (start-absent m start)) (IsSoFar m)
    (λ a x g h. so-far-kept m start a x g.0 g.1 h)

has-cause : (m : Moment) → IsMoment m.event → Start m → HasItsCause m
has-cause m one start = record {
  cancelled = λ n read i. let c = fine (entry.Ended n outcome.Cancelled read) i in
      (c.name, c.event, c.named);
  timeout = λ n read r i made. let c = fine (entry.Ended n outcome.Timeout read) i in
      let same = same-some c.request r (sym c.made ∙ made) in
      (c.millis, c.event, subst (λ (q : Request). q.deadline ≤ (after m).now) same c.due);
  disconnected = λ n read r i made. let c = fine (entry.Ended n outcome.Disconnected read) i in
      subst (λ (q : Request). (q.connection ≢ 1) × IsDisconnection m q.side q.connection)
      (same-some c.request r (sym c.made ∙ made))
      (c.other, cut c.request.side c.request.connection c.cut);
}
  where
    over : (w : _) × (cause_law m start).holds
        (record (resting (m.told ++ told_at m) (after m)) { wires = w })
    over = over-step m (cause_law m start) one (
      (start.0, start.1),
      record {
        new = [];
        told = sym (append-nil m.told);
        fine = tt;
        wired = λ n d live wired. (d, live, refl, wired);
      },
    )

    point : Point
    point = record (resting (m.told ++ told_at m) (after m)) { wires = over.0 }

    fine : (e : Entry) → IsIn e (told_at m)
        → IsFine m (record (resting (m.told ++ told_at m) (after m)) { wires = over.0 }) e
    fine e i =
        let h = over.1.1 in
        each-in (IsFine m (record (resting (m.told ++ told_at m) (after m)) { wires = over.0 }))
        h.new e h.fine (subst (IsIn e) (same-rest m.told (told_at m) h.new h.told) i)

    cut : (s : Side) (k : ℕ) → IsCutOn m
        (record (resting (m.told ++ told_at m) (after m)) { wires = over.0 }) s k
        → IsDisconnection m s k
    cut side.Ap k c = c
    cut side.Far k c = (
      c.was,
      c.now,
      subst (λ n. connection_of n m.before.bus ≡ Some c.was) c.was_number
          (found-by_number m.before.bus.connections c.was start.0.bus.numbers.rise c.before),
      subst (λ n. connection_of n (after m).bus ≡ Some c.now) c.number
          (found-by_number (after m).bus.connections c.now over.1.0.0.bus.numbers.rise c.live),
      c.was_wired,
      c.wired,
    )

-- A request is cancelled, times out or is disconnected only where that came.
pub causes-at_moments : HoldsAtMoments HasItsCause
causes-at_moments = at_each LinkedTo HasItsCause linked-throughout has-cause
