-- After an event a request's outcome is the one that it had, or else the one that is told.
use Rattle.std.proofs.Common.{◌≡◌, ◌≤◌, ℕ, ◌+◌, Bool, true, false, cond, Option, Some, None, List}
use Rattle.std.proofs.Common.{[], ◌∷◌, ◌++◌, refl, sym, ap, ◌∙◌, inl, inr, ⊎_elim, subst}
use Rattle.std.proofs.Common.{append-nil, arith}
use Rattle.std.specs.Prelude.{◌==◌, is_some}
use Rattle.gb_base.specs.declared.bridge.Reading.{Reading}
use Rattle.gb_base.specs.declared.entry.Entry.{Entry}
use Rattle.gb_base.specs.declared.entry.Entry.TheVariants as entry
use Rattle.gb_base.specs.declared.event.Event.{Event}
use Rattle.gb_base.specs.declared.outcome.Outcome.{Outcome}
use Rattle.gb_base.specs.declared.outcome.Outcome.TheVariants as outcome
use Rattle.gb_formats.specs.ValidEvents.{IsValid}
use Rattle.gb_invariants.proofs.Counts.{times-some}
use Rattle.gb_invariants.proofs.Lists.{each-append, in-append, in-behind, in-front}
use Rattle.gb_invariants.proofs.Outcomes.{is-same, same-number}
use Rattle.gb_laws.proofs.together.EveryRun.{ends-are-told, ends-at-most-once}
use Rattle.gb_laws.proofs.runs.Reached.{reached-step}
use Rattle.gb_laws.proofs.runs.Settles.{last-append, told-append}
use Rattle.gb_laws.proofs.tickets.Tickets.{twoway-never_sent, twoway-stays}
use Rattle.gb_laws.specs.Tickets.{EndsAsTold, IsTwoway, end_by, end_in}
use Rattle.gb_machine.specs.Bus.{or_else, outcome_of}
use Rattle.gb_machine.specs.Events.{step}
use Rattle.gb_machine.specs.LawsEnds.{EndOnce, EndsTold, is_outcome_of}
use Rattle.gb_machine.specs.Lists.{lookup}
use Rattle.gb_machine.specs.Members.{IsIn, times}
use Rattle.gb_machine.specs.Reached.{OfARun}
use Rattle.gb_machine.specs.Runs.{AreValid, state_by, told_by}
use Rattle.gb_machine.specs.State.{State, first_state}

-- ---- outcomes

-- what is found is there
found-there : (n : ℕ) (how : Outcome) (outs : List (ℕ × Outcome)) → lookup n outs ≡ Some how
    → IsIn (n, how) outs
found-there n how [] h = absurd cc
found-there n how (p ∷ ps) h = by (p.0 == n) refl h (found-there n how ps)
  where
    by : (t : Bool) → (p.0 == n) ≡ t → cond t (Some p.1) (lookup n ps) ≡ Some how
        → (lookup n ps ≡ Some how → IsIn (n, how) ps) → IsIn (n, how) (p ∷ ps)
    by true is h rec =
        let number = same-number p.0 n is in
        let same : p.1 ≡ how = cc in
        inl (λ i. (sym number i, sym same i))
    by false is h rec = inr (rec h)

-- what is there is found, where it is alone
there-found : (n : ℕ) (how : Outcome) (outs : List (ℕ × Outcome))
    → times (is_outcome_of n) outs ≤ 1 → IsIn (n, how) outs → lookup n outs ≡ Some how
there-found n how [] one i = absurd i
there-found n how (p ∷ ps) one (inl e) =
    ap (λ t. cond t (Some p.1) (lookup n ps))
    (ap (λ (q : ℕ × Outcome). q.0 == n) (sym e) ∙ is-same n)
    ∙ ap (λ (q : ℕ × Outcome). Some q.1) (sym e)
there-found n how (p ∷ ps) one (inr i) = by (p.0 == n) refl one (there-found n how ps)
  where
    least : 1 ≤ times (is_outcome_of n) ps
    least = times-some (is_outcome_of n) ps (n, how) i (is-same n)

    by : (t : Bool) → (p.0 == n) ≡ t
        → cond t (times (is_outcome_of n) ps + 1) (times (is_outcome_of n) ps) ≤ 1
        → (times (is_outcome_of n) ps ≤ 1 → IsIn (n, how) ps → lookup n ps ≡ Some how)
        → cond t (Some p.1) (lookup n ps) ≡ Some how
    by true is one rec = absurd (omega (arith, least, one))
    by false is one rec = rec one i

-- ---- ends that are told

-- an end that entries tell is one of them
pub end-there : (n : ℕ) (how : Outcome) (es : List Entry) → end_in n es ≡ Some how
    → (read : Reading) × IsIn (entry.Ended n how read) es
end-there n how [] h = absurd cc
end-there n how (entry.Ended m w read ∷ es) h = by (m == n) refl h (end-there n how es)
  where
    by : (t : Bool) → (m == n) ≡ t → or_else (cond t (Some w) None) (end_in n es) ≡ Some how
        → (end_in n es ≡ Some how → (r : Reading) × IsIn (entry.Ended n how r) es)
        → (r : Reading) × IsIn (entry.Ended n how r) (entry.Ended m w read ∷ es)
    by true is h rec =
        let number = same-number m n is in
        let same : w ≡ how = cc in
        (read, inl (λ i. entry.Ended (sym number i) (sym same i) read))
    by false is h rec = let r = rec h in (r.0, inr r.1)
end-there n how (entry.Done ∷ es) h = let r = end-there n how es h in (r.0, inr r.1)
end-there n how (e ∷ es) h = let r = end-there n how es h in (r.0, inr r.1)

-- and one of them is told
there-end : (n : ℕ) (how : Outcome) (read : Reading) (es : List Entry)
    → IsIn (entry.Ended n how read) es → is_some (end_in n es) ≡ true
there-end n how read [] i = absurd i
there-end n how read (e ∷ es) (inl is) =
    ap (λ x. is_some (or_else (end_by n x) (end_in n es))) (sym is)
    ∙ ap (λ t. is_some (or_else (cond t (Some how) None) (end_in n es))) (is-same n)
there-end n how read (e ∷ es) (inr i) = by (end_by n e) (there-end n how read es i)
  where
    by : (o : Option Outcome) → is_some (end_in n es) ≡ true
        → is_some (or_else o (end_in n es)) ≡ true
    by None h = h
    by (Some w) h = refl

-- ---- one step

-- the laws of ends, and that this request never ends as Sent, before a step and after it
record AreTold (told : List Entry) (s : State) (n : ℕ) : Type 0 where
  ends : EndsTold told s
  once : EndOnce told s
  unsent : outcome_of n s.bus ≡ Some outcome.Sent → ⊥

-- an outcome was told
was-told : (told : List Entry) (s : State) (n : ℕ) (how : Outcome) → AreTold told s n
    → outcome_of n s.bus ≡ Some how → (read : Reading) × IsIn (entry.Ended n how read) told
was-told told s n how h is =
    h.ends.said n how (found-there n how s.bus.outcomes is)
    (λ e. h.unsent (is ∙ ap (λ w. Some w) e))

-- what was told is the outcome
is-told : (told : List Entry) (s : State) (n : ℕ) (how : Outcome) (read : Reading)
    → AreTold told s n → IsIn (entry.Ended n how read) told → outcome_of n s.bus ≡ Some how
is-told told s n how read h i =
    there-found n how s.bus.outcomes (h.once.outcomes n) (h.ends.kept n how read i)

goes-on : (told new : List Entry) (s t : State) (n : ℕ) → AreTold told s n
    → AreTold (told ++ new) t n → outcome_of n t.bus ≡ or_else (outcome_of n s.bus) (end_in n new)
goes-on told new s t n h k = before (outcome_of n s.bus) refl
  where
    none : None ≡ outcome_of n s.bus → end_in n new ≡ None → (o : Option Outcome)
        → outcome_of n t.bus ≡ o → outcome_of n t.bus ≡ None
    none free still None is = is
    none free still (Some how) is =
        let w = was-told (told ++ new) t n how k is in
        ⊎_elim
        (λ (i : IsIn (entry.Ended n how w.0) told).
        absurd (let e = free ∙ is-told told s n how w.0 h i in cc))
        (λ (i : IsIn (entry.Ended n how w.0) new).
        absurd (let e = there-end n how w.0 new i in cc (e, ap is_some still)))
        (in-append (entry.Ended n how w.0) told new w.1)

    now : None ≡ outcome_of n s.bus → (o : Option Outcome) → end_in n new ≡ o
        → outcome_of n t.bus ≡ o
    now free None is = none free is (outcome_of n t.bus) refl
    now free (Some how) is =
        let w = end-there n how new is in
        is-told (told ++ new) t n how w.0 k (in-behind (entry.Ended n how w.0) told new w.1)

    before : (o : Option Outcome) → o ≡ outcome_of n s.bus
        → outcome_of n t.bus ≡ or_else o (end_in n new)
    before None is = now is (end_in n new) refl
    before (Some how) is =
        let w = was-told told s n how h (sym is) in
        is-told (told ++ new) t n how w.0 k (in-front (entry.Ended n how w.0) told new w.1)

-- after a run, and one more event
by-run : (es : List Event) (e : Event) → AreValid es → IsValid e → (n : ℕ)
    → IsTwoway n (state_by es).bus
    → outcome_of n (step (state_by es) e).state.bus
    ≡ or_else (outcome_of n (state_by es).bus) (end_in n (step (state_by es) e).entries)
by-run es e valid one n twoway =
    goes-on (told_by es) (step s e).entries s t n
    (record {
      ends = ends-are-told es valid;
      once = ends-at-most-once es valid;
      unsent = twoway-never_sent s r n twoway;
    })
    (record {
      ends = subst (λ ts. EndsTold ts t) told (subst (EndsTold (told_by more)) state
          (ends-are-told more all));
      once = subst (λ ts. EndOnce ts t) told (subst (EndOnce (told_by more)) state
          (ends-at-most-once more all));
      unsent = twoway-never_sent t (reached-step s e one r) n (twoway-stays s e r one n twoway);
    })
  where
    s : State
    s = state_by es

    t : State
    t = (step s e).state

    r : OfARun s
    r = record { events = es; valid = valid; is = refl }

    more : List Event
    more = es ++ e ∷ []

    all : AreValid more
    all = each-append IsValid es (e ∷ []) valid (one, tt)

    state : state_by more ≡ t
    state = last-append es (e ∷ []) first_state

    told : told_by more ≡ told_by es ++ (step s e).entries
    told = told-append es (e ∷ []) first_state
        ∙ ap (λ ts. told_by es ++ ts) (append-nil (step s e).entries)

pub ends-as_told : EndsAsTold
ends-as_told s e r valid n twoway =
    subst
    (λ x. IsTwoway n x.bus
    → outcome_of n (step x e).state.bus
    ≡ or_else (outcome_of n x.bus) (end_in n (step x e).entries))
    r.is (λ w. by-run r.events e r.valid valid n w) twoway
