-- A settle is its deliveries, where in each state of a run of moments nothing that
-- waits is refused.
use Rattle.std.proofs.Common.{Bool, List, None, Option, Some, ap, append-nil, append_assoc, cond}
use Rattle.std.proofs.Common.{false, refl, subst, suc, sym, true, zero, ℕ, [], ◌++◌, ◌+◌, ◌∙◌, ◌∷◌}
use Rattle.std.proofs.Common.{◌≡◌}
use Rattle.gb_base.specs.declared.end.{End.End, Side.Side}
use Rattle.gb_base.specs.declared.end.End.TheVariants as end
use Rattle.gb_base.specs.declared.end.Side.TheVariants as side
use Rattle.gb_base.specs.declared.entry.Entry.{Entry}
use Rattle.gb_base.specs.declared.entry.Entry.TheVariants as entry
use Rattle.gb_base.specs.declared.event.Event.{Event}
use Rattle.gb_base.specs.declared.event.Event.TheVariants as event
use Rattle.gb_formats.specs.ValidEvents.{IsEnd, IsValid}
use Rattle.gb_machine.proofs.Opened.{machine_opened}
use Rattle.gb_machine.specs.Events.{decided, last_state, step, trace_from}
use Rattle.gb_machine.specs.Runs.{AreMoments, AreValid, IsMoment, SettlesAreDeliveries, deliveries}
use Rattle.gb_machine.specs.Runs.{delivery_then, happenings, is_happening, moments_of, state_by}
use Rattle.gb_machine.specs.Runs.{told_in, unsettled}
use Rattle.gb_machine.specs.{Arriving.delivers, Bus.Connection, Bus.end_of, Members.IsIn}
use Rattle.gb_machine.specs.{Refusals.refusal, Settling.settles_at, Settling.settles_from}
use Rattle.gb_machine.specs.{State.State, State.first_state, Waiting.first_waiting}
use Rattle.gb_invariants.proofs.Lists.{each-append}
use Rattle.gb_laws.proofs.{runs.Runs.HoldsByMoments, runs.SettleQueues.IsDeliverable}
use Rattle.gb_laws.proofs.{runs.SettleQueues.first-waits}

-- What a state has where each delivery of what waits is a valid event that isn't refused.
pub record IsSettleable (s : State) : Type 0 where
  pub deliverable : IsDeliverable s
  pub ends : (c : Connection) → IsIn c s.bus.connections → c.wired ≡ true → IsEnd (end.Ap c.ap)
      × IsEnd c.peer

-- ---- runs, one after another

pub last-append : (xs ys : List Event) (s : State)
    → last_state s (trace_from s (xs ++ ys)) ≡ last_state (last_state s (trace_from s xs))
    (trace_from (last_state s (trace_from s xs)) ys)
last-append [] ys s = refl
last-append (x ∷ xs) ys s = last-append xs ys (step s x).state

pub told-append : (xs ys : List Event) (s : State)
    → told_in (trace_from s (xs ++ ys)) ≡ told_in (trace_from s xs) ++ told_in
    (trace_from (last_state s (trace_from s xs)) ys)
told-append [] ys s = refl
told-append (x ∷ xs) ys s =
    ap (λ es. (step s x).entries ++ es) (told-append xs ys (step s x).state)
    ∙ sym (append_assoc (step s x).entries (told_in (trace_from (step s x).state xs))
    (told_in (trace_from (last_state (step s x).state (trace_from (step s x).state xs)) ys)))

happen-append : (xs ys : List Entry) → happenings (xs ++ ys) ≡ happenings xs ++ happenings ys
happen-append [] ys = refl
happen-append (x ∷ xs) ys = by (is_happening x) (happen-append xs ys)
  where
    by : (t : Bool) → happenings (xs ++ ys) ≡ happenings xs ++ happenings ys
        → cond t (x ∷ happenings (xs ++ ys)) (happenings (xs ++ ys)) ≡ cond t (x ∷ happenings xs)
        (happenings xs) ++ happenings ys
    by true h = ap (λ es. x ∷ es) h
    by false h = h

-- a state that a run of moments leads to
record Reached (s : State) : Type 0 where
  run : List Event
  moments : AreMoments run
  is : state_by run ≡ s

-- one more moment
reach : (s : State) (e : Event) → IsMoment e → Reached s → Reached (step s e).state
reach s e one r = record {
  run = r.run ++ e ∷ [];
  moments = each-append IsMoment r.run (e ∷ []) r.moments (one, tt);
  is = last-append r.run (e ∷ []) first_state ∙ ap (λ t. (step t e).state) r.is;
}

-- ---- one settle

-- a run of moments does what an action does
record DoesAs (es : List Event) (s after : State) (told : List Entry) : Type 0 where
  moments : AreMoments es
  state : last_state s (trace_from s es) ≡ after
  happens : happenings (told_in (trace_from s es)) ≡ happenings told

-- what a delivery that isn't refused does
delivered : (s : State) (at : End) → refusal s (event.Deliver at) ≡ None
    → ((step s (event.Deliver at)).state ≡ (delivers at s).state)
    × ((step s (event.Deliver at)).entries ≡ entry.Done ∷ (delivers at s).entries)
unfolding machine_opened
delivered s at free = (
  ap (λ o. (decided o (event.Deliver at) s).state) free,
  ap (λ o. (decided o (event.Deliver at) s).entries) free,
)

-- a moment does what it does
itself : (e : Event) {s : State} → IsMoment e
    → DoesAs (e ∷ []) s (step s e).state (step s e).entries
itself e {s} one = record {
  moments = (one, tt);
  state = refl;
  happens = ap happenings (append-nil (step s e).entries);
}

-- a run behind another leads to what that leads to
reach-all : (es : List Event) {s : State} → AreMoments es → Reached s
    → Reached (last_state s (trace_from s es))
reach-all [] all r = r
reach-all (e ∷ es) {s} all r = reach-all es all.1 (reach s e all.0 r)

module _ (all : HoldsByMoments (λ told s. IsSettleable s)) where
  settleable : (s : State) → Reached s → IsSettleable s
  settleable s r = subst IsSettleable r.is (all r.run r.moments)

  settle-does : (left done : ℕ) (s : State) → Reached s
      → DoesAs (deliveries left s) s (settles_from left done s).state
      (settles_from left done s).entries
  unfolding machine_opened deliveries
  settle-does zero done s r = record { moments = tt; state = refl; happens = refl }
  settle-does (suc left) done s r = by (settle-does left (done + 1)) (first_waiting s.bus) refl
    where
      by : ((t : State) → Reached t → DoesAs (deliveries left t) t
          (settles_from left (done + 1) t).state (settles_from left (done + 1) t).entries)
          → (o : Option End) → first_waiting s.bus ≡ o
          → DoesAs (delivery_then o s (λ t. deliveries left t)) s
          (settles_at o done (settles_from left (done + 1)) s).state
          (settles_at o done (settles_from left (done + 1)) s).entries
      by rec None e = record { moments = tt; state = refl; happens = refl }
      by rec (Some at) e =
          let h = settleable s r in
          let f = first-waits s at h.deliverable e in
          let valid : IsEnd at = subst IsEnd f.at_end
          (ended f.connection f.side (h.ends f.connection f.live f.wired)) in
          let d = delivered s at f.free in
          let rest = rec (step s (event.Deliver at)).state (reach s (event.Deliver at) valid r) in
          record {
            moments = (valid, rest.moments);
            state = rest.state ∙ ap (λ t. (settles_from left (done + 1) t).state) d.0;
            happens = happen-append (step s (event.Deliver at)).entries _
                ∙ ap (λ es. happenings (step s (event.Deliver at)).entries ++ es)
                (rest.happens ∙ ap (λ t. happenings (settles_from left (done + 1) t).entries) d.0)
                ∙ ap (λ es. happenings es ++ happenings
                (settles_from left (done + 1) (delivers at s).state).entries) d.1
                ∙ sym (happen-append (delivers at s).entries
                (settles_from left (done + 1) (delivers at s).state).entries);
          }
        where
          ended : (c : Connection) (t : Side) → IsEnd (end.Ap c.ap) × IsEnd c.peer
              → IsEnd (end_of t c)
          ended c side.Ap h = h.0
          ended c side.Far h = h.1

  -- ---- runs

  one-does : (e : Event) (s : State) → IsValid e → Reached s
      → DoesAs (moments_of e s) s (step s e).state (step s e).entries
  unfolding machine_opened
  one-does (event.Settle most) s valid r =
      let d = settle-does most 0 s r in
      record { moments = d.moments; state = d.state; happens = d.happens }
  one-does e s valid r = itself e valid

  run-does : (es : List Event) {s : State} → AreValid es → Reached s
      → DoesAs (unsettled s es) s (last_state s (trace_from s es)) (told_in (trace_from s es))
  run-does [] valid r = record { moments = tt; state = refl; happens = refl }
  run-does (e ∷ es) {s} valid r =
      let d = one-does e s valid.0 r in
      let t = (step s e).state in
      let rest = run-does es valid.1
      (subst Reached d.state (reach-all (moments_of e s) d.moments r)) in record {
        moments = each-append IsMoment (moments_of e s) (unsettled t es) d.moments rest.moments;
        state = last-append (moments_of e s) (unsettled t es) s
            ∙ ap (λ u. last_state u (trace_from u (unsettled t es))) d.state ∙ rest.state;
        happens = ap happenings (told-append (moments_of e s) (unsettled t es) s)
            ∙ happen-append (told_in (trace_from s (moments_of e s))) _
            ∙ ap (λ u. happenings (told_in (trace_from s (moments_of e s))) ++ happenings
            (told_in (trace_from u (unsettled t es)))) d.state
            ∙ ap (λ xs. xs ++ happenings (told_in (trace_from t (unsettled t es)))) d.happens
            ∙ ap (λ xs. happenings (step s e).entries ++ xs) rest.happens
            ∙ sym (happen-append (step s e).entries (told_in (trace_from t es)));
      }

  -- Every settle is its deliveries, where nothing that waits is refused in any state of a
  -- run of moments.
  pub settles-if_settleable : SettlesAreDeliveries
  settles-if_settleable es valid =
      let d = run-does es valid (record { run = []; moments = tt; is = refl }) in
      record { moments = d.moments; state = d.state; told = d.happens }
