-- A request is remembered at the moment at which it is made, for a connection that is live then
-- and stays live for the rest of the step.
use Rattle.std.proofs.Common.{Bool, List, None, Option, Some, ap, arith, cond, false, inl, inr}
use Rattle.std.proofs.Common.{length, length-append, refl, subst, sym, true, ℕ, ⊎_elim, [], ◌++◌}
use Rattle.std.proofs.Common.{suc, zero, ◌+◌, ◌<◌, ◌∙◌, ◌∷◌, ◌≡◌, ◌≤◌, ◌⊎◌}
use Rattle.std.specs.Prelude.{is_some}
use Rattle.std.specs.List.{slice_get}
use Rattle.gb_base.specs.declared.entry.Entry.{Entry}
use Rattle.gb_base.specs.declared.interface.Link.{Link}
use Rattle.gb_machine.specs.Bus.{Bus, Request, connection_of}
use Rattle.gb_machine.specs.Host.{Host, is_link, link_at}
use Rattle.gb_machine.specs.Runs.{IsMoment, Moment, after, told_at}
use Rattle.gb_machine.specs.Turns.{Act, Asking}
use Rattle.gb_machine.proofs.Lists.{nth-past}
use Rattle.gb_machine.specs.{HostActs.made_for, HostActs.with_awaited}
use Rattle.gb_machine.specs.LawsHotPlug.{IsMadeWhileLive, RememberedWhileLive}
use Rattle.gb_machine.specs.{Lists.nth, Members.IsIn, Sending.requested}
use Rattle.gb_machine.specs.{SequenceSteps.is_for_connection, State.State, Waits.awaits}
use Rattle.gb_machine.specs.{Wiring.next_connection}
use Rattle.gb_invariants.proofs.Lists.{each-from, found-in, in-front, in-pushed}
use Rattle.gb_invariants.proofs.{Awaiting.none-some, Awaiting.same-some, Numbers.found-by_number}
use Rattle.gb_invariants.specs.Facts.{NumbersRise}
use Rattle.gb_invariants.proofs.HostChanges.{Notice, turn_of}
use Rattle.gb_laws.proofs.links.LinkKept.{InsertsAbsent, LinkedAt, allowed}
use Rattle.gb_laws.proofs.links.LinkTurns.{turn-fits}
use Rattle.gb_laws.proofs.links.LinkLeaves.{WhyLeft, closed, removed, why-left}
use Rattle.gb_laws.proofs.links.LinkRuns.{LinkedTo, linked-over, linked-throughout, start-absent}
use Rattle.gb_laws.proofs.links.Links.{ArePending, HostFits, IsFollowed, leaves, stays}
use Rattle.gb_laws.proofs.points.PointParts.{Basis, IsCaused, Point}
use Rattle.gb_laws.proofs.points.Points.{Change, IsAskedBy, IsOver, Law, acts_asked, acts_made}
use Rattle.gb_laws.proofs.points.Points.{asks}
use Rattle.gb_laws.proofs.points.Points.{awaited_by, by_far, by_host, by_loader, changed, names}
use Rattle.gb_laws.proofs.points.Points.{turns}
use Rattle.gb_laws.proofs.creations.Remembering.{RemembersAt, RemembersTo, remembers-first}
use Rattle.gb_laws.proofs.creations.Remembering.{remembers-kept}
use Rattle.gb_laws.proofs.creations.Remembering.{remembers-over}
use Rattle.gb_laws.proofs.runs.Runs.{HoldsAtMoments, HoldsByMoments, at_each, throughout}
use Rattle.gb_laws.proofs.{points.Awaited.awaited-rest, points.ChangeHosts.stay-kept}
use Rattle.gb_laws.proofs.{links.LinkActs.awaited-host}
use Rattle.gb_laws.proofs.{links.LinkActs.awaits-fits, links.LinkBuses.new_link}
use Rattle.gb_laws.proofs.{links.LinkFrom.Linked}
use Rattle.gb_laws.proofs.{links.LinkHosts.Stay, links.LinkHosts.same-link, links.LinkLaw.link_law}
use Rattle.gb_laws.proofs.{links.LinkLives.AreAlive, links.LinkLives.alive-kept}
use Rattle.gb_laws.proofs.{steps.Steps.over-step}

-- the application processor knows connection k
pub record IsLinked (k : ℕ) (h : Host) : Type 0 where
  pub link : Link
  pub known : IsIn link h.links
  pub number : link.connection ≡ k

-- Requests since a moment come behind those before it, and what is remembered since is of them, for
-- a connection that is known.
pub record RemembersSince (m : Moment) (a : Point) : Type 0 where
  pub more : length m.before.bus.requests ≤ length a.state.bus.requests
  pub asked : (q : Asking) (n : ℕ) → a.asked ≡ Some (q, n) → length m.before.bus.requests < n
  pub new : (n k : ℕ) → IsIn (n, k) a.state.past.made_for → IsIn (n, k) m.before.past.made_for
      ⊎ ((length m.before.bus.requests < n) × IsLinked k a.state.host)

-- ---- connections stay known

linked-stay : (k : ℕ) {h g : Host} → Stay h.links g.links → IsLinked k h → IsLinked k g
linked-stay k stay x =
    let y = stay x.link x.known in
    record { link = y.0; known = y.1; number = y.2.connection ∙ x.number }

-- but where a turn gives them up, and no request was made since
stays-known : (m : Moment) (e : Notice) (b : Bus) (h : Host) (k : ℕ) → HostFits b h
    → IsOver m e b → IsIn (Act.Leave k) (turn_of e h).acts
    → b.requests ≡ m.before.bus.requests
stays-known m e b h k fits over j = by (why-left b e h k fits j)
  where
    by : WhyLeft h e k → b.requests ≡ m.before.bus.requests
    by (removed i l is known at on) = subst (λ f. IsOver m f b) is over
    by (closed n result payload l is known waits on) =
        ((subst (λ f. IsOver m f b) is over) result payload refl).1

-- where a request is new, a turn keeps its connection known
linked-turned : (m : Moment) → InsertsAbsent m → (e : Notice) {b : Bus} {h : Host} (n k : ℕ)
    → Linked b h [] → IsCaused m e h → IsOver m e b → length m.before.bus.requests < n
    → n ≤ length b.requests → IsLinked k h → IsLinked k (turn_of e h).host
linked-turned m absent e {b} {h} n k links cause over new made x =
    by ((turn-fits e (allowed m absent e h cause) links.host).followed x.link x.known)
  where
    by : IsFollowed x.link (turn_of e h).host.links (turn_of e h).acts
        → IsLinked k (turn_of e h).host
    by (stays l i same) =
        record { link = l; known = i; number = same.connection ∙ x.number }
    by (leaves i) =
        let same = ap length (stays-known m e b h x.link.connection links.host over i) in
        absurd (omega (arith, new, made, same))

-- ---- each single change

-- as many requests, and the same is remembered
since-stay : (m : Moment) (a : Point) {b : Point} → b.state.bus.requests ≡ a.state.bus.requests
    → b.state.past.made_for ≡ a.state.past.made_for → b.asked ≡ a.asked
    → Stay a.state.host.links b.state.host.links → RemembersSince m a → RemembersSince m b
since-stay m a requests past asked stay h = record {
  more = subst (λ rs. length m.before.bus.requests ≤ length rs) (sym requests) h.more;
  asked = λ q n e. h.asked q n (sym asked ∙ e);
  new = λ n k i. ⊎_elim (λ o. inl o) (λ w. inr (w.0, linked-stay k stay w.1))
      (h.new n k (subst (λ ps. IsIn (n, k) ps) past i));
}

-- a request more
since-sent : (m : Moment) (a : Point) {b : Point} (r : Request)
    → b.state.bus.requests ≡ a.state.bus.requests ++ r ∷ []
    → b.state.past.made_for ≡ a.state.past.made_for → b.state.host ≡ a.state.host
    → ((q : Asking) (n : ℕ) → b.asked ≡ Some (q, n)
    → (a.asked ≡ Some (q, n)) ⊎ (n ≡ length a.state.bus.requests + 1))
    → RemembersSince m a → RemembersSince m b
since-sent m a r requests past host asked h = record {
  more = let old = h.more in
      let count = ap length requests ∙ length-append a.state.bus.requests (r ∷ []) in
      omega (arith, old, count);
  asked = λ q n e. ⊎_elim (λ o. h.asked q n o) (λ f. let old = h.more in omega (arith, old, f))
      (asked q n e);
  new = λ n k i. ⊎_elim (λ o. inl o) (λ w. inr (w.0, subst (IsLinked k) (sym host) w.1))
      (h.new n k (subst (λ ps. IsIn (n, k) ps) past i));
}

pub since-kept : (m : Moment) → InsertsAbsent m → (a : Point) (x : Change m a) → Basis a
    → LinkedAt a → RemembersAt a → RemembersSince m a → RemembersSince m (changed m a x)
since-kept m absent a (asks d c label free live drawn who) basis links r h =
    since-sent m a (requested d label) refl refl refl (λ q n e. by who q n e) h
  where
    by : (w : IsAskedBy m a c d) (q : Asking) (n : ℕ) → awaited_by m a c d w ≡ Some (q, n)
        → (a.asked ≡ Some (q, n)) ⊎ (n ≡ length a.state.bus.requests + 1)
    by (by_host p rest is draft none) q n e =
        inr (sym (ap (λ (w : Asking × ℕ). w.1)
        (same-some (p, length a.state.bus.requests + 1) (q, n) e)))
    by (by_far far on unloaded) q n e = inl e
    by (by_loader x going far on) q n e = inl e
since-kept m absent a (names name d c label free live drawn host) basis links r h =
    since-sent m a (requested d label) refl refl refl (λ q n e. inl e) h
since-kept m absent a (turns e free untouched none cause) basis links r h = record {
  more = h.more;
  asked = h.asked;
  new = λ n k i. ⊎_elim (λ o. inl o) (λ w. inr (
    w.0,
    linked-turned m absent e n k
        (subst (Linked a.state.bus a.state.host) none links) cause untouched.1 w.0 (r.below n k i)
        w.1,
  )) (h.new n k i);
}
since-kept m absent a (acts_made w q rest free is) basis links r h =
    since-stay m a refl refl refl (λ l i. (
      l,
      in-front l a.state.host.links (new_link (next_connection a.state.bus) w ∷ []) i,
      same-link l,
    )) h
since-kept m absent a (acts_asked q n rest is) basis links r h = record {
  more = subst (λ (b : Bus). length m.before.bus.requests ≤ length b.requests)
      (sym (awaited-rest q.purpose n).bus) h.more;
  asked = λ p k e. absurd (none-some e);
  new = subst (λ g. (j k : ℕ) → IsIn (j, k) (with_awaited q.purpose n a.state).past.made_for
      → IsIn (j, k) m.before.past.made_for ⊎ ((length m.before.bus.requests < j) × IsLinked k g))
      (sym (awaited-host q.purpose n a.state))
      (by (is_for_connection q.purpose.step) (link_at q.purpose.intf q.purpose.cport g) refl);
}
  where
    g : Host
    g = awaits q.purpose n a.state.host

    stay : Stay a.state.host.links (awaits q.purpose n a.state.host).links
    stay = (awaits-fits q.purpose n links.host
        (subst (ArePending a.state.host) is.0 links.pending).0.0).1

    News : List (ℕ × ℕ) → Type 0
    News pairs = (j k : ℕ) → IsIn (j, k) pairs → IsIn (j, k) m.before.past.made_for
        ⊎ ((length m.before.bus.requests < j) × IsLinked k (awaits q.purpose n a.state.host))

    old : News a.state.past.made_for
    old j k i = ⊎_elim (λ o. inl o) (λ w. inr (w.0, linked-stay k stay w.1)) (h.new j k i)

    by : (t : Bool) (o : Option Link)
        → link_at q.purpose.intf q.purpose.cport (awaits q.purpose n a.state.host) ≡ o
        → News (cond t (made_for n o (record a.state { host = awaits q.purpose n a.state.host }))
        (record a.state { host = awaits q.purpose n a.state.host })).past.made_for
    by true None e = old
    by true (Some l) e = λ j k i. ⊎_elim (λ o. old j k o) (λ f. inr (
      subst (λ x. length m.before.bus.requests < x) (sym (ap (λ (w : ℕ × ℕ). w.0) f))
          (h.asked q n is.1),
      record {
        link = l;
        known = (found-in (is_link q.purpose.intf q.purpose.cport)
            (awaits q.purpose n a.state.host).links l e).0;
        number = sym (ap (λ (w : ℕ × ℕ). w.1) f);
      },
    )) (in-pushed (j, k) a.state.past.made_for (n, l.connection) i)
    by false o e = old
since-kept m absent a x basis links r h =
    since-stay m a refl refl refl (stay-kept m a x tt links) h

-- ---- the law

abbrev since_law : (m : Moment) → InsertsAbsent m → Law m
since_law m absent = record {
  holds = λ a. (
      ((Basis a × LinkedAt a) × AreAlive a.state.bus.connections a.state.host) × RemembersAt a)
      × RemembersSince m a;
  basis = λ a h. h.0.0.0.0;
  kept = λ a x h. (
    (
      ((link_law m absent).kept a x h.0.0.0, alive-kept m a x h.0.0.0.1 h.0.0.1),
      remembers-kept m a x h.0.1,
    ),
    since-kept m absent a x h.0.0.0.0 h.0.0.0.1 h.0.1 h.1,
  );
}

-- what it stands on
pub record SinceTo (told : List Entry) (s : State) : Type 0 where
  pub links : LinkedTo told s
  pub there : AreAlive s.bus.connections s.host
  pub remembers : RemembersTo told s

-- there is a request of each number from 1 to their count
request-there : {A : Type 0} (n : ℕ) (xs : List A) → 1 ≤ n → n ≤ length xs
    → is_some (nth n xs) ≡ true
request-there zero xs low high = absurd (omega (arith, low))
request-there (suc k) xs low high = within k xs (omega (arith, high))
  where
    within : {A : Type 0} (k : ℕ) (xs : List A) → k < length xs → is_some (slice_get xs k) ≡ true
    within k [] h = absurd (omega (arith, h))
    within zero (x ∷ xs) h = refl
    within (suc k) (x ∷ xs) h = within k xs (omega (arith, h))

pub since-over : (m : Moment) → IsMoment m.event → SinceTo m.told m.before
    → SinceTo (m.told ++ told_at m) (after m) × RememberedWhileLive m
since-over m one h =
    let r = (over-step m (since_law m (start-absent m h.links)) one (
      (((h.links.0, h.links.1), h.there), h.remembers.1),
      record {
        more = omega arith;
        asked = λ q n e. absurd (none-some e);
        new = λ n k i. inl i;
      },
    )).1 in (
      record {
        links = linked-over m one h.links;
        there = r.0.0.1;
        remembers = remembers-over m one h.remembers;
      },
      each-from (λ (p : ℕ × ℕ). IsIn p m.before.past.made_for ⊎ IsMadeWhileLive m p.0 p.1)
          (after m).past.made_for (λ p i. ⊎_elim (λ o. inl o) (λ w. inr (record {
            unmade = nth-past p.0 m.before.bus.requests w.0;
            made = request-there p.0 (after m).bus.requests (let new = w.0 in omega (arith, new))
                (r.0.1.below p.0 p.1 i);
            live = found p.1 w.1 r.0.0.1 r.0.0.0.0.bus.numbers;
          })) (r.1.new p.0 p.1 i)),
    )
  where
    found : (k : ℕ) → IsLinked k (after m).host → AreAlive (after m).bus.connections (after m).host
        → NumbersRise (after m).bus → is_some (connection_of k (after m).bus) ≡ true
    found k x there numbers =
        let c = there x.link x.known in
        ap is_some (subst (λ n. connection_of n (after m).bus ≡ Some c.connection)
        (c.number ∙ x.number)
        (found-by_number (after m).bus.connections c.connection numbers.rise c.live))

pub since-throughout : HoldsByMoments SinceTo
since-throughout = throughout SinceTo (record {
  links = linked-throughout [] tt;
  there = λ l i. absurd i;
  remembers = remembers-first;
}) (λ m one h. (since-over m one h).0)

-- What is remembered at a moment is of a request that is made then, for a connection that
-- is live then.
pub remembered-while_live : HoldsAtMoments RememberedWhileLive
remembered-while_live = at_each SinceTo RememberedWhileLive since-throughout
    (λ m one h. (since-over m one h).1)
