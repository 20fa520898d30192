-- Where a connection closes uncut in a row of moments, each request of the application processor
-- that was open on it before came to an end of its own.
use Rattle.std.proofs.Common.{Bool, List, None, Option, Some, ℕ, ap, false, inl, inr, refl, subst}
use Rattle.std.proofs.Common.{sym, true, [], ◌++◌, ◌∙◌, ◌∷◌, ◌≡◌, ◌≢◌}
use Rattle.std.specs.Prelude.{is_none, is_some, ◌&&◌, ◌||◌}
use Rattle.gb_base.specs.declared.bridge.{Reading.Reading}
use Rattle.gb_base.specs.declared.entry.{Entry.Entry}
use Rattle.gb_base.specs.declared.event.{Event.Event}
use Rattle.gb_base.specs.declared.outcome.{Outcome.Outcome}
use Rattle.gb_base.specs.declared.refusal.{Refusal.Refusal}
use Rattle.gb_base.specs.declared.end.Side.TheVariants as side
use Rattle.gb_base.specs.declared.entry.Entry.TheVariants as entry
use Rattle.gb_base.specs.declared.event.Event.TheVariants as event
use Rattle.gb_base.specs.declared.outcome.Outcome.TheVariants as outcome
use Rattle.gb_formats.specs.{ValidEvents.IsValid}
use Rattle.gb_machine.specs.Bus.{Bus, Request, is_open, or_else, outcome_of, request_of}
use Rattle.gb_machine.specs.Events.{decided, step}
use Rattle.gb_machine.specs.LawsEnds.{HasItsCause, IsDisconnection}
use Rattle.gb_machine.specs.Members.{Each, IsIn}
use Rattle.gb_machine.specs.Runs.{IsMoment, Moment, after, moments_from, told_at, unsettled}
use Rattle.gb_machine.specs.State.{State, first_state}
use Rattle.gb_machine.proofs.{Opened.machine_opened}
use Rattle.gb_machine.specs.{LawsBus.is_awaited, Reached.OfARun, Refusals.refusal}
use Rattle.gb_machine.specs.{Requests.is_given_up}
use Rattle.gb_invariants.proofs.Awaiting.{is-open, not-both}
use Rattle.gb_invariants.proofs.{Lists.each-weaker}
use Rattle.gb_invariants.specs.{Facts.OutcomesFit}
use Rattle.gb_laws.proofs.runs.OfStates.{reached-told}
use Rattle.gb_laws.proofs.runs.Reached.{reached-step}
use Rattle.gb_laws.proofs.tickets.TicketEnds.{end-there, ends-as_told}
use Rattle.gb_laws.proofs.tickets.Tickets.{grows-moment, twoway-never_sent}
use Rattle.gb_machine.specs.LawsDraining.{CameToAnEnd, ClosesUncut, ClosingLeavesNoneOpen}
use Rattle.gb_machine.specs.LawsDraining.{DrainedComeToAnEnd, IsUncut, begun}
use Rattle.gb_laws.proofs.{runs.AllRuns.at-all, ends.Causes.causes-at_moments}
use Rattle.gb_laws.proofs.{opened.ClosingTold.closing-none_open}
use Rattle.gb_laws.proofs.{runs.Runs.HoldsAtMoments}
use Rattle.gb_laws.specs.{Tickets.end_in}

-- ---- moments of a run

-- what is known of a moment of a run
record IsOfRun (m : Moment) : Type 0 where
  reached : OfARun m.before
  one : IsMoment m.event
  causes : HasItsCause m
  closing : ClosingLeavesNoneOpen m

moment-valid : (e : Event) → IsMoment e → IsValid e
moment-valid (event.Settle most) one = absurd one
moment-valid e one = one

are-of_run : HoldsAtMoments IsOfRun
are-of_run es e are one = record {
  reached = record {
    events = es;
    valid = each-weaker IsMoment IsValid es moment-valid are;
    is = refl;
  };
  one = one;
  causes = causes-at_moments es e are one;
  closing = closing-none_open es e are one;
}

-- moments follow one another, from a state on
abbrev Follow : State → List Moment → Type 0
Follow s [] = Unit {0}
Follow s (m ∷ ms) = (m.before ≡ s) × Follow (after m) ms

follow-from : (told : List Entry) (s : State) (es : List Event) → Follow s (moments_from told s es)
follow-from told s [] = tt
follow-from told s (e ∷ es) =
    (refl, follow-from (told ++ (step s e).entries) (step s e).state es)

-- those behind others
follow-behind : (s : State) (front rest : List Moment) → Follow s (front ++ rest)
    → (t : State) × Follow t rest
follow-behind s [] rest h = (s, h)
follow-behind s (m ∷ ms) rest h = follow-behind (after m) ms rest h.1

each-behind : (front rest : List Moment) → Each IsOfRun (front ++ rest) → Each IsOfRun rest
each-behind [] rest h = h
each-behind (m ∷ ms) rest h = each-behind ms rest h.1

-- ---- one moment

-- where an event is refused, that alone is told
refused-told : (m : Moment) (why : Refusal) → refusal m.before m.event ≡ Some why
    → told_at m ≡ entry.Refused why ∷ []
unfolding machine_opened
refused-told m why e = ap (λ o. (decided o m.event m.before).entries) e

-- so where an end is told, it isn't refused
unrefused : (m : Moment) (n : ℕ) (how : Outcome) (read : Reading)
    → IsIn (entry.Ended n how read) (told_at m) → refusal m.before m.event ≡ None
unrefused m n how read i = by (refusal m.before m.event) refl
  where
    other : (why : Refusal) → IsIn (entry.Ended n how read) (entry.Refused why ∷ []) → ⊥
    other why (inl e) = absurd cc
    other why (inr j) = j

    by : (o : Option Refusal) → refusal m.before m.event ≡ o → o ≡ None
    by None e = refl
    by (Some why) e = absurd (other why
        (subst (IsIn (entry.Ended n how read)) (refused-told m why e) i))

-- an outcome is none yet, or an end of its own
abbrev IsWell : Option Outcome → Type 0
IsWell None = Unit {0}
IsWell (Some how) = CameToAnEnd (Some how)

-- request n was made as this one, and has no outcome yet or came to an end of its own
record GoesWell (n : ℕ) (r : Request) (b : Bus) : Type 0 where
  made : request_of n b ≡ Some r
  well : IsWell (outcome_of n b)

over-moment : (m : Moment) → IsOfRun m → (n : ℕ) (r : Request) → r.side ≡ side.Ap
    → r.oneway ≡ false → IsUncut r.connection m → GoesWell n r m.before.bus
    → GoesWell n r (after m).bus
over-moment m of n r ap_side twoway uncut h = record {
  made = made;
  well = subst IsWell (sym goes) (by (outcome_of n m.before.bus) refl h.well);
}
  where
    valid : IsValid m.event
    valid = moment-valid m.event of.one

    made : request_of n (after m).bus ≡ Some r
    made = grows-moment m.before m.event of.reached of.one n r h.made

    goes : outcome_of n (after m).bus
        ≡ or_else (outcome_of n m.before.bus) (end_in n (told_at m))
    goes = ends-as_told m.before m.event of.reached valid n
        (record { request = r; made = h.made; twoway = twoway })

    unsent : outcome_of n (after m).bus ≢ Some outcome.Sent
    unsent = twoway-never_sent (after m) (reached-step m.before m.event valid of.reached) n
        (record { request = r; made = made; twoway = twoway })

    ended : (how : Outcome) (read : Reading) → outcome_of n (after m).bus ≡ Some how
        → IsIn (entry.Ended n how read) (told_at m) → CameToAnEnd (Some how)
    ended (outcome.Answered result payload) read is i = tt
    ended outcome.Cancelled read is i = tt
    ended outcome.Timeout read is i = tt
    ended outcome.Sent read is i = unsent is
    ended outcome.Disconnected read is i =
        uncut (unrefused m n outcome.Disconnected read i)
        (subst (λ s. IsDisconnection m s r.connection) ap_side
        (of.causes.disconnected n read r i made).1)

    now : (o : Option Outcome) → end_in n (told_at m) ≡ o → outcome_of n (after m).bus ≡ o
        → IsWell o
    now None told is = tt
    now (Some how) told is =
        let w = end-there n how (told_at m) told in ended how w.0 is w.1

    by : (o : Option Outcome) → outcome_of n m.before.bus ≡ o → IsWell o
        → IsWell (or_else o (end_in n (told_at m)))
    by None e well = now (end_in n (told_at m)) refl
        (goes ∙ ap (λ o. or_else o (end_in n (told_at m))) e)
    by (Some how) e well = well

-- ---- a row of moments

over-row : (row : List Moment) (last : Moment) (back : List Moment) (s : State) (n : ℕ)
    (r : Request) → r.side ≡ side.Ap → r.oneway ≡ false → Each IsOfRun (row ++ last ∷ back)
    → Follow s (row ++ last ∷ back) → ClosesUncut r.connection row last → GoesWell n r s.bus
    → GoesWell n r (after last).bus
over-row [] last back s n r ap_side twoway of follow closes h =
    over-moment last of.0 n r ap_side twoway closes.uncut_last
    (subst (λ (t : State). GoesWell n r t.bus) (sym follow.0) h)
over-row (m ∷ ms) last back s n r ap_side twoway of follow closes h =
    over-row ms last back (after m) n r ap_side twoway of.1 follow.1 (record {
      uncut = closes.uncut.1;
      uncut_last = closes.uncut_last;
      closing = closes.closing;
    }) (over-moment m of.0 n r ap_side twoway closes.uncut.0
    (subst (λ (t : State). GoesWell n r t.bus) (sym follow.0) h))

-- the state before it is that from which it follows, and one of a run
begun-is : (row : List Moment) (last : Moment) (back : List Moment) (s : State)
    → Follow s (row ++ last ∷ back) → begun row last ≡ s
begun-is [] last back s follow = follow.0
begun-is (m ∷ ms) last back s follow = follow.0

begun-reached : (row : List Moment) (last : Moment) (back : List Moment)
    → Each IsOfRun (row ++ last ∷ back) → OfARun (begun row last)
begun-reached [] last back of = of.0.reached
begun-reached (m ∷ ms) last back of = of.0.reached

-- its last moment
last-of : (row : List Moment) (last : Moment) (back : List Moment)
    → Each IsOfRun (row ++ last ∷ back) → IsOfRun last
last-of [] last back of = of.0
last-of (m ∷ ms) last back of = last-of ms last back of.1

-- ---- what is open

open-free : (o : Option Request) (p : Option Outcome) → (is_some o && is_none p) ≡ true
    → p ≡ None
open-free None p e = absurd cc
open-free (Some r) None e = refl
open-free (Some r) (Some how) e = absurd cc

open-well : (n : ℕ) (r : Request) (b : Bus) → request_of n b ≡ Some r → is_open n b ≡ true
    → GoesWell n r b
open-well n r b made open_ = record {
  made = made;
  well = subst IsWell (sym (open-free (request_of n b) (outcome_of n b) open_)) tt;
}

open-twoway : (n : ℕ) (r : Request) (b : Bus) → OutcomesFit b → request_of n b ≡ Some r
    → is_open n b ≡ true → r.oneway ≡ false
open-twoway n r b fits made open_ = by r.oneway refl
  where
    by : (t : Bool) → r.oneway ≡ t → t ≡ false
    by false e = refl
    by true e = absurd (not-both (is_awaited n b) (ap (λ t. t || is_given_up n b) open_)
        (fits.oneway n r made e))

-- what goes well and isn't open came to an end of its own
closed-ended : (n : ℕ) (r : Request) (b : Bus) → GoesWell n r b → is_open n b ≡ false
    → CameToAnEnd (outcome_of n b)
closed-ended n r b h closed = by (outcome_of n b) refl h.well
  where
    by : (o : Option Outcome) → outcome_of n b ≡ o → IsWell o → CameToAnEnd o
    by None e well = absurd (not-both (is_open n b) (is-open n b r h.made e) closed)
    by (Some how) e well = well

-- ---- the law

-- Where a connection closes uncut, each request of the application processor that was open on it
-- before came to an end of its own.
pub drained-come_to_an_end : DrainedComeToAnEnd
drained-come_to_an_end es valid front row back last split k closes n r made open_ on ap_side =
    closed-ended n r (after last).bus end
    ((last-of row last back of).closing r.connection n r uncut.closing end.made refl ap_side)
  where
    of : Each IsOfRun (row ++ last ∷ back)
    of = each-behind front (row ++ last ∷ back)
        (subst (Each IsOfRun) split (at-all IsOfRun are-of_run es valid))

    follow : (t : State) × Follow t (row ++ last ∷ back)
    follow = follow-behind first_state front (row ++ last ∷ back)
        (subst (Follow first_state) split (follow-from [] first_state (unsettled first_state es)))

    uncut : ClosesUncut r.connection row last
    uncut = subst (λ j. ClosesUncut j row last) (sym on) closes

    fits : OutcomesFit (begun row last).bus
    fits = (reached-told (begun row last) (begun-reached row last back of)).0.bus.outcomes

    end : GoesWell n r (after last).bus
    end = over-row row last back follow.0 n r ap_side
        (open-twoway n r (begun row last).bus fits made open_) of follow.1 uncut
        (subst (λ (t : State). GoesWell n r t.bus) (begun-is row last back follow.0 follow.1)
        (open-well n r (begun row last).bus made open_))
