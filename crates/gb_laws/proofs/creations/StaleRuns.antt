-- Requests for connections that are gone find their interface without a route, in each state
-- of a run.
use Rattle.std.proofs.Common.{List, None, Some, arith, inl, refl, subst, sym, ℕ, [], ◌++◌, ◌∙◌, ◌≡◌}
use Rattle.gb_base.specs.declared.entry.Entry.{Entry}
use Rattle.gb_machine.specs.Runs.{IsMoment, Moment, after, told_at}
use Rattle.gb_machine.specs.{Bus.connection_of, LawsSvc.StaleIsLow, State.State}
use Rattle.gb_invariants.proofs.{Awaiting.none-some, Numbers.found-by_number}
use Rattle.gb_laws.proofs.enumerations.AwaitsOwn.{OwnTo, own-over, own-throughout}
use Rattle.gb_laws.proofs.removals.QuietRuns.{QuietTo, quiet-moment, quiet-throughout}
use Rattle.gb_laws.proofs.creations.RememberedLive.{SinceTo, since-over, since-throughout}
use Rattle.gb_laws.proofs.runs.Runs.{HoldsByMoments, throughout, weaker}
use Rattle.gb_laws.proofs.creations.StaleBase.{NoticedStill, StaleBase, base-kept, noticed-kept}
use Rattle.gb_laws.proofs.{enumerations.AskedWaits.no-asks, links.LinkRuns.start-absent}
use Rattle.gb_laws.proofs.{creations.Pairs.PairsFit}
use Rattle.gb_laws.proofs.{points.PointParts.Wires, points.PointParts.resting, points.Points.Law}
use Rattle.gb_laws.proofs.{creations.Stale.IsCool}
use Rattle.gb_laws.proofs.{creations.StaleLaw.cool-kept, steps.Steps.over-step}
use Rattle.gb_laws.proofs.{svc.SvcOrder.SvcOrder}

-- with what it stands on
pub record StaleTo (told : List Entry) (s : State) : Type 0 where
  pub quiet : QuietTo told s
  pub own : OwnTo told s
  pub since : SinceTo told s
  pub pairs : PairsFit s.bus s.host s.past.made_for None
  pub order : SvcOrder s.bus
  pub cool : (i : ℕ) → IsCool i (resting told s)

pub start-base : (m : Moment) → StaleTo m.told m.before → StaleBase m (resting m.told m.before)
start-base m h = record {
  basis = h.since.links.0;
  links = h.since.links.1;
  there = h.since.links.3;
  remembers = h.since.remembers.1;
  since = record {
    more = omega arith;
    asked = λ q n e. absurd (none-some e);
    new = λ n k i. inl i;
  };
  pairs = h.pairs;
  order = h.order;
  own = h.own.own;
}

module _ (m : Moment) (h : StaleTo m.told m.before) where
  abbrev stale_law : ℕ → Law m
  stale_law i = record {
    holds = λ a. (StaleBase m a × NoticedStill m i a) × IsCool i a;
    basis = λ a f. f.0.0.basis;
    kept = λ a x f. (
      (
        base-kept m (start-absent m h.since.links) a x f.0.0,
        noticed-kept m i a x f.0.0 f.0.1,
      ),
      cool-kept m (start-absent m h.since.links) i h.since.links.2 (start-base m h) (h.cool i)
          (h.quiet.quiet i) a x
          f.0.0 f.0.1 f.1,
    );
  }

  pub stale-over : IsMoment m.event → StaleTo (m.told ++ told_at m) (after m)
  stale-over one = record {
    quiet = quiet-moment m one h.quiet;
    own = own-over m one h.own;
    since = (since-over m one h.since).0;
    pairs = (over 0).1.0.0.pairs;
    order = (over 0).1.0.0.order;
    cool = λ i. let c = (over i).1.1 in
        record { low = c.low; starts = c.starts; waits = c.waits; due = c.due };
  }
    where
      over : (i : ℕ) → (w : Wires) × (stale_law i).holds
          (record (resting (m.told ++ told_at m) (after m)) { wires = w })
      over i = over-step m (stale_law i) one
          ((start-base m h, λ e n. (refl, λ same all. all)), h.cool i)

pub stale-throughout : HoldsByMoments StaleTo
stale-throughout = throughout StaleTo (record {
  quiet = quiet-throughout [] tt;
  own = own-throughout [] tt;
  since = since-throughout [] tt;
  pairs = record {
    made = λ n k i. absurd i;
    given = λ n k i. absurd i;
    of = λ n i l r live. absurd live;
    bound = λ l live. absurd live;
    asks = λ q n e. absurd (none-some e);
  };
  order = record {
    rise = tt;
    later = λ n k r made on own low i. absurd i;
  };
  cool = λ i. record {
    low = λ n s. absurd s.pair;
    starts = λ n s. absurd s.pair;
    waits = λ x j. absurd j;
    due = λ e q j. absurd (no-asks j);
  };
}) (λ m one h. stale-over m h one)

-- ---- the law

stale-low : (told : List Entry) (s : State) → StaleTo told s → StaleIsLow told s
stale-low told s h i n k r waits pair gone made speaks =
    let low = (h.cool i).low n (record {
      connection = k;
      pair = pair;
      waits = waits;
      unknown = λ l live on. let c = h.since.there l live in
          none-some (sym gone ∙ subst (λ j. connection_of j s.bus ≡ Some c.connection)
          (c.number ∙ on) (found-by_number s.bus.connections c.connection
          h.since.links.0.bus.numbers.rise c.live));
      request = r;
      made = made;
      speaks = speaks;
    }) in
    omega (arith, low)

-- What waits for a connection that is gone finds its interface without a route.
pub stale-low_by_moments : HoldsByMoments StaleIsLow
stale-low_by_moments = weaker StaleTo StaleIsLow stale-low stale-throughout
