-- Each open request of the application processor is on a live connection, and its side of that
-- isn't closed, in each state of a run.
use Rattle.std.proofs.Common.{List, None, Option, Some, ap, false, refl, ℕ, [], ◌≡◌}
use Rattle.std.specs.Prelude.{option_map, ◌||◌}
use Rattle.gb_base.specs.declared.entry.Entry.{Entry}
use Rattle.gb_machine.specs.Bus.{Bus, Connection, connection_of}
use Rattle.gb_machine.specs.{LawsHotPlug.OpenIsLive, Requests.is_given_up, Runs.Moment, State.State}
use Rattle.gb_invariants.proofs.Awaiting.{same-some}
use Rattle.gb_laws.proofs.links.LinkRuns.{LinkedTo, linked-over, linked-throughout, start-absent}
use Rattle.gb_laws.proofs.runs.Runs.{HoldsByMoments, throughout, weaker}
use Rattle.gb_laws.proofs.{basis.Basics.none-made, links.LinkKept.InsertsAbsent}
use Rattle.gb_laws.proofs.{links.LinkLaw.link_law}
use Rattle.gb_laws.proofs.{links.LinkSides.is_shut, links.LinkSides.shut_of}
use Rattle.gb_laws.proofs.{opened.OpenKept.opens-kept, opened.Opens.Opens}
use Rattle.gb_laws.proofs.{points.Points.Law, points.Points.upon, steps.Steps.over-step}

-- what is known of connections, with the requests that are upon them
abbrev pub opens_law : (m : Moment) → InsertsAbsent m → Law m
opens_law m absent = upon (link_law m absent)
    (λ a. Opens a.state.bus a.state.host a.pending) (λ a x g h. opens-kept m a x g.0 g.1 h)

pub record OpensTo (told : List Entry) (s : State) : Type 0 where
  pub links : LinkedTo told s
  pub opens : Opens s.bus s.host []

pub opens-throughout : HoldsByMoments OpensTo
opens-throughout = throughout OpensTo (record {
  links = linked-throughout [] tt;
  opens = record {
    upon = λ n r made w ap_side. absurd (none-made n r made);
    closing = λ n x. absurd x.live;
  };
}) (λ m one h. record {
  links = linked-over m one h.links;
  opens = (over-step m (opens_law m (start-absent m h.links)) one
      ((h.links.0, h.links.1), h.opens)).1.1;
})

-- a connection whose side isn't closed is there
pub open-there : (k : ℕ) (b : Bus) → shut_of k b ≡ Some false
    → (c : Connection) × (connection_of k b ≡ Some c) × (c.shut ≡ false)
open-there k b open_ = by (connection_of k b) refl open_
  where
    by : (o : Option Connection) → connection_of k b ≡ o → option_map is_shut o ≡ Some false
        → (c : Connection) × (connection_of k b ≡ Some c) × (c.shut ≡ false)
    by None e f = absurd cc
    by (Some c) e f = (c, e, same-some c.shut false f)

-- Each open request of the application processor is on a live connection, and its side of that
-- isn't closed.
pub open-live_in : (told : List Entry) (s : State) → OpensTo told s → OpenIsLive told s
open-live_in told s h n r made unended ap_side =
    open-there r.connection s.bus (h.opens.upon n r made
    (ap (λ t. t || is_given_up n s.bus) unended) ap_side).open_

pub open-live_by_moments : HoldsByMoments OpenIsLive
open-live_by_moments = weaker OpensTo OpenIsLive open-live_in opens-throughout
