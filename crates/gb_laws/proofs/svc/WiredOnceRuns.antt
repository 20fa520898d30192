-- Each connection is wired once at most, and by its own request, in each run.
use Rattle.std.proofs.Common.{Bool, List, None, Option, Some, ap, arith, cond, false, inl, inr}
use Rattle.std.proofs.Common.{refl, subst, suc, sym, true, zero, ℕ, ⊎_elim, [], ◌++◌, ◌∙◌, ◌∷◌, ◌≡◌}
use Rattle.std.proofs.Common.{◌≢◌, ◌⊎◌}
use Rattle.gb_base.specs.declared.entry.Entry.{Entry}
use Rattle.gb_base.specs.declared.interface.Link.{Link}
use Rattle.gb_machine.specs.Bus.{Connection, Request, connection_of}
use Rattle.gb_machine.specs.LawsHotPlug.{IsOwnCreation, WiredByItsRequest, WiredOnce}
use Rattle.gb_machine.specs.Runs.{IsMoment, Moment, after, told_at}
use Rattle.gb_machine.specs.{Host.link_at, HostActs.made_for, Lists.first, Lists.nth, Members.IsIn}
use Rattle.gb_machine.specs.{Sending.is_wired, SequenceSteps.is_for_connection, State.Past}
use Rattle.gb_machine.specs.{State.State, Waits.awaits}
use Rattle.gb_invariants.proofs.{Awaiting.not-both, Awaiting.same-some, Lists.each-from}
use Rattle.gb_invariants.proofs.{Lists.in-front, Numbers.found-by_number, Numbers.found-number}
use Rattle.gb_invariants.proofs.{Wires.WiredAreSo, Wires.wires_of}
use Rattle.gb_laws.proofs.points.PointParts.{Point, Wires, resting}
use Rattle.gb_laws.proofs.points.Points.{Change, Law, acts_asked, changed, wires}
use Rattle.gb_laws.proofs.runs.Runs.{HoldsAtMoments, HoldsByMoments, at_each, throughout, weaker}
use Rattle.gb_laws.proofs.creations.StaleRuns.{StaleTo, stale-over, stale-throughout, start-base}
use Rattle.gb_laws.proofs.svc.WiredOnce.{WiringsFit, none-before, wirings-more, wirings-on}
use Rattle.gb_laws.proofs.svc.WiredRemembered.{AreRemembered, remembered-first, remembered-kept}
use Rattle.gb_laws.proofs.svc.WiredRemembered.{so-kept}
use Rattle.gb_laws.proofs.{points.ChangeBuses.bus_change, points.ChangeBuses.keeps-requests}
use Rattle.gb_laws.proofs.{creations.CreatingFacts.CreatesFit, creations.CreatingKept.CreatesAll}
use Rattle.gb_laws.proofs.{creations.CreatingKept.creates-kept, links.LinkRuns.start-absent}
use Rattle.gb_laws.proofs.{creations.OwnCreation.IsCreation}
use Rattle.gb_laws.proofs.{creations.OwnCreation.creation-at, removals.QuietServed.IsServed}
use Rattle.gb_laws.proofs.{removals.QuietServed.serving}
use Rattle.gb_laws.proofs.{creations.Remembering.waiting-wired, creations.StaleBase.StaleBase}
use Rattle.gb_laws.proofs.{creations.StaleBase.base-kept}
use Rattle.gb_laws.proofs.{steps.Steps.over-step, svc.SvcMoves.far-moves}

-- ---- what is remembered

-- What is remembered stays so.
pub pairs-more : (m : Moment) (a : Point) (x : Change m a) (n k : ℕ)
    → IsIn (n, k) a.state.past.made_for → IsIn (n, k) (changed m a x).state.past.made_for
pairs-more m a (acts_asked q j rest is) n k i =
    by (is_for_connection q.purpose.step)
    (link_at q.purpose.intf q.purpose.cport (awaits q.purpose j a.state.host))
  where
    by : (t : Bool) (o : Option Link) → IsIn (n, k) (cond t
        (made_for j o (record a.state { host = awaits q.purpose j a.state.host }))
        (record a.state { host = awaits q.purpose j a.state.host })).past.made_for
    by true None = i
    by true (Some l) = in-front (n, k) a.state.past.made_for ((j, l.connection) ∷ []) i
    by false o = i
pairs-more m a _ n k i = i

-- ---- each single change

abbrev pub WiringsAt : Point → Type 0
WiringsAt a = WiringsFit a.state.bus a.state.past.made_for a.state.past.wired

-- a connection was wired before a moment
pub record WasWired (m : Moment) (k : ℕ) : Type 0 where
  pub connection : Connection
  pub live : IsIn connection m.before.bus.connections
  pub number : connection.number ≡ k
  pub wired : connection.wired ≡ true

-- what is wired was, or is wired by its own request
abbrev pub IsOwn : Moment → ℕ → Type 0
IsOwn m k = WasWired m k ⊎ IsCreation m k

-- what is known in each state
pub record WiringTo (told : List Entry) (s : State) : Type 0 where
  pub stale : StaleTo told s
  pub creates : CreatesFit s.bus.requests s.host.links s.past.made_for None
  pub wirings : WiringsFit s.bus s.past.made_for s.past.wired
  pub remembered : AreRemembered s.bus.connections s.past.wired

module _ (m : Moment) (start : WiringTo m.told m.before) where
  pub wirings-kept : (a : Point) (x : Change m a) → StaleBase m a → WiringsAt a
      → WiringsAt (changed m a x)
  wirings-kept a (wires k free untouched live powered) f h =
      wirings-on (far-moves m (wires k free untouched live powered) f.basis f.links f.there)
      (keeps-requests m a (wires k free untouched live powered)) f.remembers.below (λ n j i. i)
      (subst (λ (p : Past). WiringsFit a.state.bus p.made_for (p.wired ++ k ∷ []))
      (sym powered.2.serving.past) (wirings-more m k
      (creation-at m start.stale start.creates a k live powered.0 powered.1 powered.2)
      start.creates start.stale.order.rise start.wirings served.far served.requests))
    where
      served : IsServed m a powered.2.incoming
      served = serving m start.stale.since.links.0 start.stale.since.links.1
          start.stale.since.links.3 a powered.2.incoming powered.2.serving
  wirings-kept a (acts_asked q n rest is) f h =
      subst (WiringsFit (changed m a (acts_asked q n rest is)).state.bus
      (changed m a (acts_asked q n rest is)).state.past.made_for)
      (sym (waiting-wired q.purpose n a.state))
      (wirings-on (far-moves m (acts_asked q n rest is) f.basis f.links f.there)
      (keeps-requests m a (acts_asked q n rest is)) f.remembers.below
      (pairs-more m a (acts_asked q n rest is)) h)
  wirings-kept a x f h =
      wirings-on (far-moves m x f.basis f.links f.there)
      (keeps-requests m a x) f.remembers.below (λ n k i. i) h

  -- what a change wires is wired by its own request
  pub own-new : (a : Point) (x : Change m a) (k : ℕ) → wires_of (bus_change x) ≡ Some k → IsOwn m k
  own-new a (wires k free untouched live powered) n e = inr (subst (IsCreation m) (same-some k n e)
      (creation-at m start.stale start.creates a k live powered.0 powered.1 powered.2))
  own-new a _ n e = absurd cc

  abbrev pub wiring_law : Law m
  wiring_law = record {
    holds = λ a. (((StaleBase m a × CreatesAll a) × WiringsAt a)
        × WiredAreSo (IsOwn m) a.state.bus.connections)
        × AreRemembered a.state.bus.connections a.state.past.wired;
    basis = λ a h. h.0.0.0.0.basis;
    kept = λ a x h.
        let base = base-kept m (start-absent m start.stale.since.links) a x h.0.0.0.0 in (
          (
            (
              (
                base,
                creates-kept m a x h.0.0.0.0.links h.0.0.0.0.remembers h.0.0.0.0.pairs base.links
                    h.0.0.0.1,
              ),
              wirings-kept a x h.0.0.0.0 h.0.0.1,
            ),
            so-kept (IsOwn m) m a x (own-new a x) h.0.1,
          ),
          remembered-kept m a x h.1,
        );
  }

  pub wiring-start : wiring_law.holds (resting m.told m.before)
  wiring-start = (
    (
      (
        (start-base m start.stale, record { fit = start.creates; ready = tt }),
        start.wirings,
      ),
      λ c live on. inl (record { connection = c; live = live; number = refl; wired = on }),
    ),
    start.remembered,
  )

  over : IsMoment m.event → (w : Wires)
      × wiring_law.holds (record (resting (m.told ++ told_at m) (after m)) { wires = w })
  over one = over-step m wiring_law one wiring-start

  pub wiring-over : IsMoment m.event → WiringTo (m.told ++ told_at m) (after m)
  wiring-over one = record {
    stale = stale-over m start.stale one;
    creates = (over one).1.0.0.0.1.fit;
    wirings = (over one).1.0.0.1;
    remembered = (over one).1.1;
  }

  -- ---- what is wired at a moment

  own-wired : IsMoment m.event → (k : ℕ) → is_wired (connection_of k m.before.bus) ≡ false
      → is_wired (connection_of k (after m).bus) ≡ true → IsOwnCreation m k
  own-wired one k unwired on = by (connection_of k (after m).bus) refl on
    where
      before : WasWired m k → ⊥
      before w = not-both (is_wired (connection_of k m.before.bus))
          (ap is_wired (subst (λ n. connection_of n m.before.bus ≡ Some w.connection) w.number
          (found-by_number m.before.bus.connections w.connection
          start.stale.since.links.0.bus.numbers.rise w.live)) ∙ w.wired) unwired

      -- it isn't that of the supervisory controller
      other : k ≢ 1
      other e = before (record {
        connection = start.stale.since.links.3.connection;
        live = start.stale.since.links.3.live;
        number = start.stale.since.links.3.number ∙ sym e;
        wired = start.stale.since.links.3.wired;
      })

      made : IsIn k (after m).past.wired → IsCreation m k → IsOwnCreation m k
      made kept c = record {
        number = c.number;
        request = c.request;
        connection = c.connection;
        intf = c.intf;
        cport = c.cport;
        is = c.is;
        front = ap first c.front;
        made = c.made;
        creates = (c.tc, c.flags, c.creates);
        own = c.own;
        live = c.live;
        peer = c.peer;
        plugged = c.plugged;
        routed = c.routed;
        first = none-before m k c start.creates start.stale.order.rise start.wirings;
        remembered = kept;
      }

      by : (o : Option Connection) → connection_of k (after m).bus ≡ o → is_wired o ≡ true
          → IsOwnCreation m k
      by None e f = absurd cc
      by (Some c) e f =
          let i = found-number k (after m).bus c e in
          let kept = subst (λ n. n ≢ 1 → IsIn n (after m).past.wired) i.1
          ((over one).1.1 c i.0 f) other in
          ⊎_elim (λ w. absurd (before w)) (λ w. made kept w)
          (subst (IsOwn m) i.1 ((over one).1.0.1 c i.0 f))

-- ---- throughout

pub wiring-throughout : HoldsByMoments WiringTo
wiring-throughout = throughout WiringTo (record {
  stale = stale-throughout [] tt;
  creates = record {
    own = λ n r made. absurd (unmade n r made);
    ends = λ n l r live. absurd live;
    first = λ n j k r i. absurd i;
  };
  wirings = record { spent = λ k i. absurd i; once = λ k. omega arith };
  remembered = remembered-first;
}) (λ m one h. wiring-over m h one)
  where
    unmade : (n : ℕ) (r : Request) → nth n [] ≡ Some r → ⊥
    unmade zero r e = absurd cc
    unmade (suc n) r e = absurd cc

-- Each connection is remembered as wired once at most, and each that is wired is.
pub wired-once_by_moments : HoldsByMoments WiredOnce
wired-once_by_moments = weaker WiringTo WiredOnce (λ told s h. record {
  once = h.wirings.once;
  remembered = each-from (λ c. c.wired ≡ true → c.number ≢ 1 → IsIn c.number s.past.wired)
      s.bus.connections (λ c live. h.remembered c live);
}) wiring-throughout

-- What is wired at a moment is wired by its own request.
pub own-request_at_moments : HoldsAtMoments WiredByItsRequest
own-request_at_moments = at_each WiringTo WiredByItsRequest wiring-throughout
    (λ m one h k unwired on. own-wired m h one k unwired on)
