-- Each live connection but that of the supervisory controller was told as opening,
-- between its ends.
use Rattle.std.proofs.Common.{List, Some, ap, inl, inr, refl, subst, sym, [], ◌∙◌, ◌∷◌, ◌≡◌, ◌≢◌}
use Rattle.gb_base.specs.declared.entry.Entry.{Entry}
use Rattle.gb_base.specs.declared.entry.ConnState.TheVariants as state
use Rattle.gb_base.specs.declared.entry.Entry.TheVariants as entry
use Rattle.gb_machine.specs.Bus.{Bus, Connection, first_bus}
use Rattle.gb_machine.specs.{LawsHotPlug.WasOpened, LawsHotPlug.WereOpened, Members.IsIn}
use Rattle.gb_machine.specs.{Runs.Moment, State.State}
use Rattle.gb_invariants.proofs.BusChanges.{Was, came, made_by, stayed, was, went}
use Rattle.gb_invariants.proofs.Lists.{each-from, each-weaker, in-behind, in-front}
use Rattle.gb_invariants.proofs.{Apart.SameEnds, Awaiting.none-some, Awaiting.same-some}
use Rattle.gb_laws.proofs.basis.Basics.{Based, basis, basis-first, rested}
use Rattle.gb_laws.proofs.points.Points.{Change, Law, acts_made, changed, drops, upon}
use Rattle.gb_laws.proofs.runs.Runs.{HoldsByMoments, throughout, weaker}
use Rattle.gb_laws.proofs.{runs.AllRuns.SeesHappenings, points.ChangeBuses.bus_change}
use Rattle.gb_laws.proofs.{points.ChangeBuses.by-bus}
use Rattle.gb_laws.proofs.{points.Happened.happened-told, points.Happened.told-happened}
use Rattle.gb_laws.proofs.{points.PointParts.Point}
use Rattle.gb_laws.proofs.{steps.Steps.over-step}

-- where it was told so, it is told still, also of a connection with the same ends
opened-more : (told more : List Entry) (c d : Connection) → SameEnds c d
    → ((e : Entry) → IsIn e told → IsIn e more) → WasOpened told c → WasOpened more d
opened-more told more c d ends front w = (
  w.0,
  w.1,
  ends.peer ∙ w.2,
  subst (λ k. IsIn (entry.Connection k d.ap w.0 w.1 state.Opening) more) (sym ends.number)
      (subst (λ n. IsIn (entry.Connection c.number n w.0 w.1 state.Opening) more) (sym ends.ap)
      (front _ w.3)),
)

abbrev pub OpenedIn : List Entry → Bus → Type 0
OpenedIn told b = (c : Connection) → IsIn c b.connections → c.number ≢ 1 → WasOpened told c

-- what was told stays
pub told-stays : (m : Moment) (a : Point) (x : Change m a) (e : Entry) → IsIn e a.told
    → IsIn e (changed m a x).told
told-stays m a drops e i = i
told-stays m a x e i = in-front e a.told _ i

opened-kept : (m : Moment) (a : Point) (x : Change m a) → OpenedIn a.told a.state.bus
    → OpenedIn (changed m a x).told (changed m a x).state.bus
opened-kept m a x h = by-bus (OpenedIn (changed m a x).told) x
    (λ c live other. by c other (was (bus_change x) a.state.bus c live))
  where
    new : (x : Change m a) (c : Connection) → made_by (bus_change x) a.state.bus ≡ Some c
        → WasOpened (changed m a x).told c
    new (acts_made w q rest free is) c e = subst (WasOpened _) (same-some _ c e)
        (w.intf, w.cport, refl, in-behind _ a.told (_ ∷ []) (inl refl))
    new _ c e = absurd (none-some e)

    by : (c : Connection) → c.number ≢ 1 → Was (bus_change x) a.state.bus c
        → WasOpened (changed m a x).told c
    by c other (stayed o) = opened-more a.told (changed m a x).told c c
        (record { number = refl; ap = refl; peer = refl }) (told-stays m a x) (h c o other)
    by c other (went d o at is g) = opened-more a.told (changed m a x).told d c g.ends
        (told-stays m a x) (h d o (λ e. other (g.ends.number ∙ e)))
    by c other (came e) = new x c e

abbrev opened_law : (m : Moment) → Law m
opened_law m = upon (basis m) (λ a. OpenedIn a.told a.state.bus)
    (λ a x g h. opened-kept m a x h)

abbrev OpenedTo : List Entry → State → Type 0
OpenedTo told s = Based told s × OpenedIn told s.bus

-- Each live connection was told so.
pub opened-by_moments : HoldsByMoments WereOpened
opened-by_moments = weaker OpenedTo WereOpened
    (λ told s h. each-from (λ c. c.number ≢ 1 → WasOpened told c) s.bus.connections h.1)
    (throughout OpenedTo (basis-first, first)
    (λ m one h. let r = over-step m (opened_law m) one h in (rested _ _ r.0 r.1.0, r.1.1)))
  where
    first : OpenedIn [] first_bus
    first c (inl e) other = absurd (other (ap (λ (x : Connection). x.number) e))
    first c (inr i) other = absurd i

-- It is among what happened.
pub opened-seen : SeesHappenings WereOpened
opened-seen = record {
  there = λ told s h. each-weaker _ _ s.bus.connections (λ c w other. let x = w other in
      (x.0, x.1, x.2, told-happened _ told refl x.3)) h;
  back = λ told s h. each-weaker _ _ s.bus.connections (λ c w other. let x = w other in
      (x.0, x.1, x.2, happened-told _ told x.3)) h;
}
