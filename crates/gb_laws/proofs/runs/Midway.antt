-- Midway through an event: what holds of every state of a run holds at each point that single
-- changes lead to from there.
use Rattle.std.proofs.Common.{List, []}
use Rattle.gb_base.specs.declared.entry.Entry.{Entry}
use Rattle.gb_machine.specs.{Reached.OfARun, Runs.Moment, State.State}
use Rattle.gb_laws.proofs.links.LinkLives.{AreAlive, alive-kept}
use Rattle.gb_laws.proofs.links.LinkRuns.{LinkedTo, start-absent, there_law}
use Rattle.gb_laws.proofs.points.Points.{Basis, Law, Point, resting, upon}
use Rattle.gb_laws.proofs.{links.LinkKept.LinkedAt, runs.Noticing.knows-reached}
use Rattle.gb_laws.proofs.{runs.OfStates.reached-told}
use Rattle.gb_laws.proofs.{svc.SvcThere.There}

-- what is known at rest, whatever was told
pub rests : (told : List Entry) (s : State) → LinkedTo [] s → LinkedTo told s
rests told s h = (
  record { bus = h.0.bus; names = h.0.names; drains = h.0.drains; hand = h.0.hand },
  h.1,
  h.2,
  h.3,
)

-- What is known at a point: the bus keeps its facts with what is in no queue, names name requests,
-- the application processor's connections go with the bus and are live, and the supervisory
-- controller's is there.
pub record KnownAt (a : Point) : Type 0 where
  pub basis : Basis a
  pub links : LinkedAt a
  pub there : There a.state.bus
  pub alive : AreAlive a.state.bus.connections a.state.host

-- the law that says it
abbrev pub known_law : (m : Moment) → OfARun m.before → Law m
known_law m run =
    upon (there_law m (start-absent m (rests m.told m.before (reached-told m.before run))))
    (λ a. AreAlive a.state.bus.connections a.state.host)
    (λ a x g h. alive-kept m a x g.0.1 h)

-- it holds at a state of a run,
pub known-resting : (m : Moment) (run : OfARun m.before)
    → (known_law m run).holds (resting m.told m.before)
known-resting m run =
    let start = rests m.told m.before (reached-told m.before run) in
    (((start.0, start.1), start.3), (knows-reached m.before run).alive)

-- and where it holds, that is known.
pub known-held : (m : Moment) (run : OfARun m.before) (b : Point) → (known_law m run).holds b
    → KnownAt b
known-held m run b now = record {
  basis = now.0.0.0;
  links = now.0.0.1;
  there = now.0.1;
  alive = now.1;
}
