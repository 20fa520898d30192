-- What a far side asked and is open is on a connection that is live and wired, in each state of a
-- run: one that leaves isn't wired.
use Rattle.std.proofs.Common.{Bool, List, Some, ap, false, inl, inr, refl, subst, suc, sym, true}
use Rattle.std.proofs.Common.{zero, ℕ, ⊎_elim, [], ◌++◌, ◌∙◌, ◌≡◌, ◌⊎◌}
use Rattle.std.specs.Prelude.{◌&&◌, ◌||◌}
use Rattle.gb_base.specs.declared.end.Side.TheVariants as side
use Rattle.gb_base.specs.declared.entry.Entry.{Entry}
use Rattle.gb_base.specs.declared.entry.Entry.TheVariants as entry
use Rattle.gb_formats.specs.SvcRecords.{read_svc_ask}
use Rattle.gb_machine.specs.Bus.{Bus, Item, Request, is_open}
use Rattle.gb_machine.specs.Runs.{IsMoment, Moment, after, state_by, told_at, told_by}
use Rattle.gb_machine.specs.{Delivery.popped, Delivery.replied, LawsBus.is_awaited, Lists.nth}
use Rattle.gb_machine.specs.{Members.IsIn, Requests.is_given_up, State.State, Turns.Act}
use Rattle.gb_machine.specs.{Wiring.is_at, Wiring.is_wired_to}
use Rattle.gb_invariants.proofs.{Awaiting.not-both, BusChanges.BusChange, Lists.each-in}
use Rattle.gb_invariants.proofs.{Numbers.found-number, Outcomes.is-same, Wires.IsAlive}
use Rattle.gb_laws.proofs.opened.FarOpenKept.{FarAt, GoesWell, WaitsKinds, far-kept, kinds-kept}
use Rattle.gb_laws.proofs.opened.FarOpenLeft.{IsDestroying, IsStillWired, IsWiredIn, LeavesWell}
use Rattle.gb_laws.proofs.opened.FarOpenLeft.{leaves-kept, still-kept}
use Rattle.gb_laws.proofs.creations.GoneRuns.{GoneTo, gone-base, gone-over, gone-start}
use Rattle.gb_laws.proofs.creations.GoneRuns.{gone-throughout}
use Rattle.gb_laws.proofs.creations.GoneRuns.{gone_law}
use Rattle.gb_laws.proofs.points.PointParts.{Point, Wires, resting}
use Rattle.gb_laws.proofs.points.Points.{Change, Law, acts_left}
use Rattle.gb_laws.proofs.runs.Runs.{HoldsAtMoments, HoldsByMoments, at_each, throughout, weaker}
use Rattle.gb_laws.proofs.steps.ServedDestroy.{IsDestroyed, cut, destroyed-bus, uncut}
use Rattle.gb_laws.proofs.{together.Absent.unconnected, runs.AllRuns.SeesHappenings}
use Rattle.gb_laws.proofs.{opened.FarOpen.FarFits}
use Rattle.gb_laws.proofs.{opened.FarOpen.far-after, creations.Gone.IsDestroy}
use Rattle.gb_laws.proofs.{creations.Gone.destroy-is}
use Rattle.gb_laws.proofs.{points.Happened.happened-told, points.Happened.told-happened}
use Rattle.gb_laws.proofs.{removals.QuietRuns.leaves}
use Rattle.gb_laws.proofs.{removals.QuietRuns.waits-before, steps.Steps.over-step}
use Rattle.gb_laws.proofs.{opened.ToldLinks.Matches}
use Rattle.gb_laws.proofs.{opened.ToldRuns.told-throughout}
use Rattle.gb_laws.specs.OwnSide.{AbsentHasNoOpenOfModule, FindsNoneOpen, UnwiredHasNoOpenOfFar}

-- what is known in each state
pub record FarTo (told : List Entry) (s : State) : Type 0 where
  pub gone : GoneTo told s
  pub kinds : WaitsKinds s.bus s.host
  pub far : FarFits s.bus

module _ (m : Moment) (start : FarTo m.told m.before) where
  -- ---- each single change

  goes-well : (a : Point) (x : Change m a) → IsStillWired m a → LeavesWell m a
      → GoesWell m a x ⊎ IsDestroying m
  goes-well a (acts_left k rest free untouched is) still h = ⊎_elim
      (λ off. inl (λ c live on wired. off (subst (λ n. IsWiredIn n m.before.bus.connections) on
      (still untouched c live wired)))) (λ d. inr d)
      (h k (subst (λ acts. IsIn (Act.Leave k) acts) (sym is) (inl refl)))
  goes-well a _ still h = inl tt

  abbrev far_law : Law m
  far_law = record {
    holds = λ a. ((((gone_law m start.gone).holds a × WaitsKinds a.state.bus a.state.host)
        × IsStillWired m a) × LeavesWell m a) × (FarAt a ⊎ IsDestroying m);
    basis = λ a h. (gone-base m start.gone a h.0.0.0.0).basis;
    kept = λ a x h. let f = gone-base m start.gone a h.0.0.0.0 in (
      (
        (
          (
            (gone_law m start.gone).kept a x h.0.0.0.0,
            kinds-kept m a x f.links f.pairs h.0.0.0.1,
          ),
          still-kept m start.gone a x h.0.0.1,
        ),
        leaves-kept m start.gone a x h.0.0.0.0 h.0.0.0.1 h.0.1,
      ),
      ⊎_elim (λ far. ⊎_elim (λ goes. inl (far-kept m a x f.basis goes far)) (λ d. inr d)
          (goes-well a x h.0.0.1 h.0.1)) (λ d. inr d) h.1,
    );
  }

  -- where a request to destroy a connection is served, a connection is unwired, or none
  far-destroyed : IsDestroying m → FarFits (after m).bus
  far-destroyed d = by (destroyed-bus m start.gone.wiring.stale.since.links.1 start.gone.unheld
      d.number d.front d.request d.made d.twoway r.i1 r.a r.i r.c r.is)
    where
      r : IsDestroy (read_svc_ask d.request.kind d.request.payload)
      r = destroy-is (read_svc_ask d.request.kind d.request.payload) d.destroys

      k : ℕ
      k = d.front.place.connection.number

      answered : (item : Item) → FarFits (replied k side.Ap item (popped k side.Far m.before.bus))
      answered item = far-after (BusChange.puts k side.Ap item) (popped k side.Far m.before.bus) tt
          (far-after (BusChange.takes k side.Far) m.before.bus tt start.far)

      by : IsDestroyed k r.i1 r.a r.i r.c (popped k side.Far m.before.bus) (after m).bus
          → FarFits (after m).bus
      by (cut item x e is) = subst FarFits (sym is) (far-after (BusChange.unwires x.number)
          (replied k side.Ap item (popped k side.Far m.before.bus)) tt (answered item))
      by (uncut item none is) = subst FarFits (sym is) (answered item)

  far-over : IsMoment m.event → FarTo (m.told ++ told_at m) (after m)
  far-over one = record {
    gone = gone-over m start.gone one;
    kinds = over.1.0.0.0.1;
    far = ⊎_elim (λ far. far) far-destroyed over.1.1;
  }
    where
      over : (w : Wires) × far_law.holds
          (record (resting (m.told ++ told_at m) (after m)) { wires = w })
      over = over-step m far_law one (
        (
          (
            (gone-start m start.gone, start.kinds),
            λ e c live on. record { connection = c; live = live; number = refl; wired = on },
          ),
          λ k i. absurd i,
        ),
        inl start.far,
      )

-- ---- throughout

pub far-throughout : HoldsByMoments FarTo
far-throughout = throughout FarTo (record {
  gone = gone-throughout [] tt;
  kinds = λ l live. absurd live;
  far = λ n r made. absurd (unmade n r made);
}) (λ m one h. far-over m h one)
  where
    unmade : (n : ℕ) (r : Request) → nth n [] ≡ Some r → ⊥
    unmade zero r e = absurd cc
    unmade (suc n) r e = absurd cc

open-awaited : (n : ℕ) (b : Bus) → is_open n b ≡ true → is_awaited n b ≡ true
open-awaited n b e = ap (λ t. t || is_given_up n b) e

unwired-none : (told : List Entry) (s : State) → FarTo told s → UnwiredHasNoOpenOfFar told s
unwired-none told s h n r c made far live off = by (is_open n s.bus) refl
  where
    by : (t : Bool) → is_open n s.bus ≡ t → t ≡ false
    by false e = refl
    by true e =
        let x = found-number r.connection s.bus c live in
        absurd (not-both c.wired
        ((h.far n r made (open-awaited n s.bus e) far).wired c x.0 x.1) off)

-- What isn't wired has no open request of its far side.
pub unwired-open_by_moments : HoldsByMoments UnwiredHasNoOpenOfFar
unwired-open_by_moments = weaker FarTo UnwiredHasNoOpenOfFar unwired-none far-throughout

-- A removal that is handled finds none open that the module asked.
pub none-open_at_moments : HoldsAtMoments FindsNoneOpen
none-open_at_moments = at_each FarTo FindsNoneOpen far-throughout
    (λ m one h i n r c removal made far live at.
    let x = found-number r.connection m.before.bus c live in
    let cold = each-in (λ y. is_wired_to i y ≡ false) m.before.bus.connections c
    ((leaves m.told m.before h.gone.wiring.stale.quiet).unwired i (waits-before i m removal)) x.0 in
    unwired-none m.told m.before h n r c made far live (off c.wired (is_at i c.peer) at cold))
  where
    off : (t u : Bool) → u ≡ true → t && u ≡ false → t ≡ false
    off true true e f = absurd cc
    off true false e f = absurd cc
    off false u e f = refl

-- Where an interface is absent, no request of a module is open on a connection that named it.
pub module-open_by_moments : HoldsByMoments AbsentHasNoOpenOfModule
module-open_by_moments es are i k own c n state r absent said made on far =
    by (is_open n (state_by es).bus) refl
  where
    gone : IsAlive r.connection (state_by es).bus.connections → ⊥
    gone t =
        let links = (told-throughout es are).links.1 in
        let names = (each-in (Matches (state_by es).bus) (told_by es)
        (entry.Connection k own i c state) (told-throughout es are).said.told said).1
        t.connection t.live (t.number ∙ on) in
        not-both (is_at i t.connection.peer) (ap (is_at i) names ∙ is-same i)
        (unconnected i (state_by es) links absent t.connection t.live)

    by : (t : Bool) → is_open n (state_by es).bus ≡ t → t ≡ false
    by false e = refl
    by true e = absurd (gone ((far-throughout es are).far n r made
        (open-awaited n (state_by es).bus e) far).there)

-- What was told of connections is among what happened.
pub module-seen : SeesHappenings AbsentHasNoOpenOfModule
module-seen = record {
  there = λ told s h i k own c n state r absent said. h i k own c n state r absent
      (happened-told (entry.Connection k own i c state) told said);
  back = λ told s h i k own c n state r absent said. h i k own c n state r absent
      (told-happened (entry.Connection k own i c state) told refl said);
}
