-- No open request of the application processor is on a connection that ever named an interface that
-- is absent.
use Rattle.std.proofs.Common.{List, ap, false, refl, true, [], ◌∙◌, ◌≡◌}
use Rattle.gb_base.specs.declared.entry.Entry.{Entry}
use Rattle.gb_base.specs.declared.entry.Entry.TheVariants as entry
use Rattle.gb_machine.specs.Runs.{Moment, state_by, told_by}
use Rattle.gb_machine.specs.{Bus.is_open, State.State, Wiring.is_at}
use Rattle.gb_invariants.proofs.{Awaiting.not-both, Lists.each-in, Numbers.found-number}
use Rattle.gb_invariants.proofs.{Outcomes.is-same}
use Rattle.gb_laws.proofs.links.LinkRuns.{LinkedTo, linked-over, linked-throughout, start-absent}
use Rattle.gb_laws.proofs.opened.ToldLinks.{Matches, ToldAt, ToldIn, told-links_kept}
use Rattle.gb_laws.proofs.{together.Absent.unconnected, runs.AllRuns.SeesHappenings}
use Rattle.gb_laws.proofs.{points.Happened.happened-told}
use Rattle.gb_laws.proofs.{points.Happened.told-happened, links.LinkKept.InsertsAbsent}
use Rattle.gb_laws.proofs.{links.LinkLaw.link_law}
use Rattle.gb_laws.proofs.{opened.OpenRuns.open-live_in, opened.OpenRuns.opens-throughout}
use Rattle.gb_laws.proofs.{points.Points.Law}
use Rattle.gb_laws.proofs.{points.Points.upon, runs.Runs.HoldsByMoments, runs.Runs.throughout}
use Rattle.gb_laws.proofs.{steps.Steps.over-step}
use Rattle.gb_laws.specs.OwnSide.{AbsentHasNoOpenOfAp}

abbrev pub told_law : (m : Moment) → InsertsAbsent m → Law m
told_law m absent =
    upon (link_law m absent) ToldAt (λ a x g h. told-links_kept m a x g.0 g.1 h)

pub record ToldTo (told : List Entry) (s : State) : Type 0 where
  pub links : LinkedTo told s
  pub said : ToldIn s.bus told []

-- What was told of a connection names its far end, where it is live.
pub told-throughout : HoldsByMoments ToldTo
told-throughout = throughout ToldTo (record {
  links = linked-throughout [] tt;
  said = record { told = tt; acts = tt };
}) (λ m one h. record {
  links = linked-over m one h.links;
  said = let now = (over-step m (told_law m (start-absent m h.links)) one
      ((h.links.0, h.links.1), h.said)).1.1 in record { told = now.told; acts = now.acts };
})

-- Nothing that the application processor asked there is open.
pub absent-open_by_moments : HoldsByMoments AbsentHasNoOpenOfAp
absent-open_by_moments es are i k own c n state r absent said made on ap_side =
    by (is_open n (state_by es).bus) refl
  where
    by : (t : _) → is_open n (state_by es).bus ≡ t → t ≡ false
    by false e = refl
    by true e =
        let h = opens-throughout es are in
        let links = (told-throughout es are).links.1 in
        let live = open-live_in (told_by es) (state_by es) h n r made e ap_side in
        let x = found-number r.connection (state_by es).bus live.0 live.1 in
        let names = (each-in (Matches (state_by es).bus) (told_by es)
        (entry.Connection k own i c state) (told-throughout es are).said.told said).1
        live.0 x.0 (x.1 ∙ on) in
        absurd (not-both (is_at i live.0.peer) (ap (is_at i) names ∙ is-same i)
        (unconnected i (state_by es) links absent live.0 x.0))

-- What was told of connections is among what happened.
pub absent-seen : SeesHappenings AbsentHasNoOpenOfAp
absent-seen = record {
  there = λ told s h i k own c n state r absent said. h i k own c n state r absent
      (happened-told (entry.Connection k own i c state) told said);
  back = λ told s h i k own c n state r absent said. h i k own c n state r absent
      (told-happened (entry.Connection k own i c state) told refl said);
}
