-- While a removal of an interface waits, its power level is at most 1 and nothing of it is wired.
use Rattle.std.proofs.Common.{Bool, List, Some, ap, arith, false, refl, true, ℕ, [], ◌++◌, ◌∙◌, ◌∷◌}
use Rattle.std.proofs.Common.{◌≡◌, ◌≤◌}
use Rattle.std.specs.List.{list_any}
use Rattle.std.specs.Prelude.{◌&&◌, ◌||◌}
use Rattle.gb_base.specs.declared.end.End.{End}
use Rattle.gb_base.specs.declared.end.End.TheVariants as end
use Rattle.gb_base.specs.declared.end.Side.TheVariants as side
use Rattle.gb_base.specs.declared.entry.Entry.{Entry}
use Rattle.gb_machine.specs.Bus.{Ask, Connection, Item}
use Rattle.gb_machine.specs.LawsSvc.{FindsUnwired, LeavesNothingWired, awaits_removal}
use Rattle.gb_machine.specs.Runs.{IsMoment, Moment, after, told_at}
use Rattle.gb_machine.specs.SvcQueues.{HandlesRemoval, is_removal_in, svc_items}
use Rattle.gb_machine.specs.{Lists.first, Members.IsIn, Ports.level_of, State.State}
use Rattle.gb_machine.specs.{State.first_state, Wiring.is_at, Wiring.is_wired_to}
use Rattle.gb_invariants.proofs.{Awaiting.not-both, Awaiting.same-some, Lists.each-from}
use Rattle.gb_invariants.proofs.{Outcomes.same-number}
use Rattle.gb_laws.proofs.points.Pulls.{PulledAt, pulled-kept, pulled-made}
use Rattle.gb_laws.proofs.runs.Runs.{HoldsAtMoments, HoldsByMoments, Keeps, at_each, throughout}
use Rattle.gb_laws.proofs.runs.Runs.{weaker}
use Rattle.gb_laws.proofs.svc.WiredRuns.{WiredTo, wired-over, wired-throughout}
use Rattle.gb_laws.proofs.{enumerations.AskedWaits.no-asks, enumerations.AskedWaits.same-waits}
use Rattle.gb_laws.proofs.{links.LinkRuns.start-absent}
use Rattle.gb_laws.proofs.{links.LinkRuns.there_law, points.PointParts.resting, points.Points.Law}
use Rattle.gb_laws.proofs.{points.Points.upon}
use Rattle.gb_laws.proofs.{removals.Quiet.IsQuiet, removals.Quiet.quiet-still}
use Rattle.gb_laws.proofs.{removals.QuietKept.view-rest}
use Rattle.gb_laws.proofs.{removals.QuietLaw.quiet-kept, steps.Steps.over-step}

-- ---- throughout

-- with what it stands on
pub record QuietTo (told : List Entry) (s : State) : Type 0 where
  pub wired : WiredTo told s
  pub quiet : (i : ℕ) → IsQuiet i (resting told s)

module _ (m : Moment) (start : QuietTo m.told m.before) where
  abbrev told_law : Law m
  told_law = upon (there_law m (start-absent m start.wired.links)) PulledAt
      (λ a x g h. pulled-kept m a x h)

  abbrev pub quiet_law : ℕ → Law m
  quiet_law i = upon told_law (IsQuiet i)
      (λ a x g h. quiet-kept m i start.wired.links.0 start.wired.links.1 start.wired.links.3
      (start.quiet i) a x g.0.0.0 g.0.0.1 g.0.1 g.1 h)

  -- what is known where the moment begins
  pub quiet-start : (i : ℕ) → (quiet_law i).holds (resting m.told m.before)
  quiet-start i = let l = start.wired.links in (
    (((l.0, l.1), l.3), pulled-made m.before.past.pulled m.before.bus l.2.pulled),
    start.quiet i,
  )

  quiet-over : IsMoment m.event → (i : ℕ) → IsQuiet i (resting (m.told ++ told_at m) (after m))
  quiet-over one i =
      let r = over-step m (quiet_law i) one (quiet-start i) in
      quiet-still (view-rest r.1.0.0.0.0 refl refl refl (λ h e. e))
      (same-waits (after m).host) refl (λ q j. j) r.1.1

quiet-first : (i : ℕ) → IsQuiet i (resting [] first_state)
quiet-first i = record {
  low = record {
    restarts = tt;
    low = λ r. absurd (not-both false r refl);
    starts = λ hot. tt;
  };
  waits = λ x j. absurd j;
  due = λ e q j. absurd (no-asks j);
  made = λ q n e. absurd cc;
}

pub quiet-moment : Keeps QuietTo
quiet-moment m one h = record { wired = wired-over m one h.wired; quiet = quiet-over m h one }

pub quiet-throughout : HoldsByMoments QuietTo
quiet-throughout =
    throughout QuietTo (record { wired = wired-throughout [] tt; quiet = quiet-first }) quiet-moment

-- ---- the law

pub leaves : (told : List Entry) (s : State) → QuietTo told s → LeavesNothingWired told s
leaves told s h = record {
  low = low;
  unwired = λ i r. each-from (λ c. is_wired_to i c ≡ false) s.bus.connections
      (λ c live. none i r c live (is_wired_to i c) refl);
}
  where
    low : (i : ℕ) → awaits_removal i s ≡ true → level_of i s.ports ≤ 1
    low i r = (h.quiet i).low.low r

    at-intf : (i : ℕ) (e : End) → is_at i e ≡ true → (p : ℕ) × (e ≡ end.Module i p)
    at-intf i (end.Module j p) e = (p, ap (λ n. end.Module n p) (same-number j i e))
    at-intf i (end.Ap a) e = absurd cc
    at-intf i end.Svc e = absurd cc

    both : (t u : Bool) → t && u ≡ true → (t ≡ true) × (u ≡ true)
    both true true e = (refl, refl)
    both true false e = absurd cc
    both false u e = absurd cc

    none : (i : ℕ) → awaits_removal i s ≡ true → (c : Connection) → IsIn c s.bus.connections
        → (t : Bool) → is_wired_to i c ≡ t → t ≡ false
    none i r c live false e = refl
    none i r c live true e =
        let w = both c.wired (is_at i c.peer) e in
        let at = at-intf i c.peer w.1 in
        let six = h.wired.wired.routed c live w.0 i at.0 at.1 in
        let one = low i r in
        absurd (omega (arith, six, one))

pub leaves-by_moments : HoldsByMoments LeavesNothingWired
leaves-by_moments = weaker QuietTo LeavesNothingWired leaves quiet-throughout

-- a removal that is handled waits before
pub waits-before : (i : ℕ) (m : Moment) → HandlesRemoval i m → awaits_removal i m.before ≡ true
waits-before i m h = by (svc_items side.Ap m.before.bus) h.front
  where
    by : (xs : List Item) → first xs ≡ Some (Ask h.number)
        → list_any (is_removal_in i m.before.past.pulled) xs ≡ true
    by [] e = absurd cc
    by (x ∷ xs) e =
        ap (λ y. is_removal_in i m.before.past.pulled y
        || list_any (is_removal_in i m.before.past.pulled) xs) (same-some x (Ask h.number) e)
        ∙ ap (λ t. t || list_any (is_removal_in i m.before.past.pulled) xs) h.told

pub finds-at_moments : HoldsAtMoments FindsUnwired
finds-at_moments = at_each QuietTo FindsUnwired quiet-throughout
    (λ m one h i r. (leaves m.told m.before h).unwired i (waits-before i m r))
