-- A settle is stepped as the machine does.
use Rattle.std.proofs.Common.{◌≡◌, ◌<◌, ℕ, suc, ◌+◌, ◌-◌, Some, None, Err, List, [], ◌∷◌, ◌++◌}
use Rattle.std.proofs.Common.{Result, append_assoc, refl, sym, ap, ◌∙◌, subst, arith}
use Rattle.std.proofs.lemmas.Result.{err_from_is_err_and}
use Rattle.std.specs.Result.{IsErrAnd}
use Rattle.gb_base.specs.declared.end.End.{End}
use Rattle.gb_base.specs.declared.entry.Entry.{Entry}
use Rattle.gb_base.specs.declared.entry.Entry.TheVariants as entry
use Rattle.gb_base.specs.declared.event.Event.TheVariants as event
use Rattle.gb_laws.proofs.runs.Reached.{reached-delivery, reached-waiting}
use Rattle.gb_machine.proofs.Opened.{machine_opened}
use Rattle.gb_machine.proofs.Steps.{settles-end, settles-none, told, told_before}
use Rattle.gb_machine.specs.Actions.{◌▸◌}
use Rattle.gb_machine.specs.Arriving.{delivers}
use Rattle.gb_machine.specs.Events.{does}
use Rattle.gb_machine.specs.Reached.{OfARun}
use Rattle.gb_machine.specs.Settling.{settles_at, settles_from}
use Rattle.gb_machine.specs.State.{State}
use Rattle.gb_machine.specs.Waiting.{first_waiting}
use Rattle.gb_system.proofs.Arrivals.{does-deliver}
use Rattle.gb_system.proofs.Doings.{does-as, does-is}
use Rattle.gb_system.proofs.Midways.{Midway, midway-as, midway-first, midway-here, midway-more}
use Rattle.gb_system.specs.Doing.{EventAs, IsDone}
use Rattle.gb_system.specs.Stands.{PartiesStand}
use Rattle.gb_system.specs.declared.parties.Parties.{Parties}
use Rattle.gb_system.specs.declared.stop.Stop.{Stop}
use Rattle.gb_system.specs.declared.stop.Stop.TheVariants as stop

-- what a settle does as an event
does-settle : (most : ℕ) (s : State) → does (event.Settle most) s ≡ settles_from most 0 s
unfolding machine_opened
does-settle most s = refl

-- A settle of at most so many deliveries midway, after so many, in a state of a run.
pub record IsSettling (x : Parties) (s : State) (most settled : ℕ) (before told : List Entry)
    : Type 0 where
  pub midway : Midway x (settles_from most 0) (settles_from (most - settled) settled) s before told
  pub run : OfARun midway.state

-- at first nothing is settled
pub settling-first : {x : Parties} {s : State} {a : List Entry} (most : ℕ) → PartiesStand x s
    → IsSettling x s most 0 a a
settling-first most st =
    let all : most ≡ most - 0 = omega arith in record {
      midway = midway-as (settles_from (most - 0) 0) (ap (λ n. settles_from n 0) all)
          (midway-first (settles_from most 0) st.parts);
      run = st.run;
    }

-- a delivery, and then the rest
goes-on : (s : State) (left done : ℕ) (at : End) → first_waiting s.bus ≡ Some at
    → settles_from (suc left) done s ≡ (delivers at ▸ settles_from left (done + 1)) s
unfolding machine_opened
goes-on s left done at waits =
    ap (λ o. settles_at o done (settles_from left (done + 1)) s) waits

-- one more delivery
pub settling-more : {x y : Parties} {s : State} {most count : ℕ} {before so_far more : List Entry}
    (at : End) → count < most → (m : IsSettling x s most count before so_far)
    → first_waiting m.midway.state.bus ≡ Some at
    → IsDone y m.midway.state (event.Deliver at) so_far more
    → IsSettling y s most (count + 1) before more
settling-more {most = most} {count = count} at low m waits d =
    let here = m.midway.state in
    let rest = settles_from (most - (count + 1)) (count + 1) in
    let left : most - count ≡ suc (most - (count + 1)) = omega arith in record {
      midway = midway-more (delivers at) rest
          (midway-here (delivers at ▸ rest) m.midway
          (ap (λ n. settles_from n count here) left
          ∙ goes-on here (most - (count + 1)) count at waits))
          (does-as (does-deliver at here) d.done);
      run = reached-delivery here at (reached-waiting here at m.run waits).is_end d.allowed m.run;
    }

-- a delivery of what waits isn't refused
pub settling-stopped : {x : Parties} {s : State} {most count : ℕ} {before so_far : List Entry}
    (y : Parties) (more : List Entry) (at : End) (how : Stop) (r : Result Unit Stop)
    → IsErrAnd r (λ given. given ≡ how) → (m : IsSettling x s most count before so_far)
    → first_waiting m.midway.state.bus ≡ Some at
    → EventAs y m.midway.state (event.Deliver at) so_far more (Err how)
    → EventAs y s (event.Settle most) before more r
settling-stopped y more at (stop.Refused why) r is m waits stopped =
    let due = reached-waiting m.midway.state at m.run waits in
    absurd (let both : None ≡ Some why = sym due.free ∙ stopped.refused in cc)
settling-stopped {s = s} {most = most} {before = before} y more at (stop.Memory refused) r is m
    waits stopped =
    let p = err_from_is_err_and r is in
    subst (EventAs y s (event.Settle most) before more) (sym (p.1 ∙ ap Err p.2)) tt

-- the settle ends here
ended : {y : Parties} {s : State} {most count : ℕ} {before so_far more : List Entry}
    (m : IsSettling y s most count before so_far) (n : ℕ)
    → settles_from (most - count) count m.midway.state ≡ told m.midway.state (entry.Settled n ∷ [])
    → more ≡ so_far ++ entry.Settled n ∷ [] → IsDone y s (event.Settle most) before more
ended {s = s} {most = most} {before = before} m n rest is = record {
  allowed = refl;
  done = does-is m.midway.state (m.midway.entries ++ entry.Settled n ∷ [])
      (does-settle most s ∙ m.midway.is ∙ ap (told_before m.midway.entries) rest)
      (is ∙ ap (λ es. es ++ entry.Settled n ∷ []) m.midway.told_is
      ∙ append_assoc before m.midway.entries (entry.Settled n ∷ []))
      m.midway.stand;
}

-- nothing waits any more
pub settling-none : {y : Parties} {s : State} {most count : ℕ} {before so_far more : List Entry}
    → count < most → (m : IsSettling y s most count before so_far)
    → first_waiting m.midway.state.bus ≡ None → more ≡ so_far ++ entry.Settled count ∷ []
    → IsDone y s (event.Settle most) before more
settling-none {most = most} {count = count} low m waits is =
    let left : most - count ≡ suc (most - (count + 1)) = omega arith in
    ended m count
    (ap (λ n. settles_from n count m.midway.state) left
    ∙ settles-none m.midway.state (most - (count + 1)) count waits) is

-- as many deliveries were made as there may be
pub settling-end : {y : Parties} {s : State} {most count : ℕ} {before so_far more : List Entry}
    → count ≡ most → IsSettling y s most count before so_far
    → more ≡ so_far ++ entry.Settled most ∷ [] → IsDone y s (event.Settle most) before more
settling-end {most = most} {count = count} {so_far = so_far} all m is =
    let left : most - count ≡ 0 = omega (arith, all) in
    ended m count
    (ap (λ n. settles_from n count m.midway.state) left ∙ settles-end m.midway.state count)
    (is ∙ ap (λ n. so_far ++ entry.Settled n ∷ []) (sym all))
