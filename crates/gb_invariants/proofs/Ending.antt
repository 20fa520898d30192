-- Each request has one outcome at most, whatever becomes of the bus.
use Rattle.std.proofs.Common.{Bool, None, Option, Some, ap, arith, cond, false, is_some, not, refl}
use Rattle.std.proofs.Common.{sym, true, ℕ, ⊎_elim, ◌==◌, ◌∙◌, ◌∷◌, ◌≡◌}
use Rattle.gb_base.specs.declared.end.Side.{Side}
use Rattle.gb_base.specs.declared.outcome.Outcome.{Outcome}
use Rattle.gb_base.specs.declared.outcome.Outcome.TheVariants as outcome
use Rattle.gb_machine.proofs.Lists.{nth-within}
use Rattle.gb_machine.specs.Bus.{Bus, Request, is_open, next_number, outcome_of, request_of}
use Rattle.gb_machine.specs.Requests.{gave_up, is_of, open_on, passes}
use Rattle.gb_machine.specs.{Delivery.ended, Delivery.forgotten, LawsBus.is_awaited, Lists.lookup}
use Rattle.gb_machine.specs.{Lists.nth, Sending.Draft, Sending.sent, Wiring.side_ended}
use Rattle.gb_invariants.proofs.Awaiting.{AwaitsFewer, ended-before, forgotten-before}
use Rattle.gb_invariants.proofs.Awaiting.{gave_up-before, not-both, opened, sent-before, sent-made}
use Rattle.gb_invariants.proofs.Awaiting.{sent-new, sent-request, side_ended-before, unasked}
use Rattle.gb_invariants.proofs.Awaiting.{unended}
use Rattle.gb_invariants.proofs.Lists.{each-from, in-filter, in-pushed, in-without}
use Rattle.gb_invariants.proofs.Outcomes.{AtMostOnce, any-in, found-all, in-any, in-open_requests}
use Rattle.gb_invariants.proofs.Outcomes.{once-all, once-more, open_requests-rise, pair-there}
use Rattle.gb_invariants.proofs.Outcomes.{same-number, there-after, there-all}
use Rattle.gb_invariants.specs.Facts.{OutcomesFit}

-- a unidirectional request isn't awaited, where fewer are
oneway-fewer : (b after : Bus) → AwaitsFewer b after → OutcomesFit b → (n : ℕ) (r : Request)
    → request_of n after ≡ Some r → r.oneway ≡ true → is_awaited n after ≡ false
oneway-fewer b after fewer h n r made oneway = by (is_awaited n after) refl
  where
    by : (t : Bool) → is_awaited n after ≡ t → is_awaited n after ≡ false
    by false e = e
    by true e = absurd (not-both (is_awaited n b) (fewer.before n e)
        (h.oneway n r (ap (nth n) (sym fewer.same) ∙ made) oneway))

-- an open request ends
pub fits-ended : (m : ℕ) (how : Outcome) (b : Bus) → is_open m b ≡ true → OutcomesFit b
    → OutcomesFit (ended m how b)
fits-ended m how b unended h = let o = opened m b unended in record {
  once = once-more m how b.outcomes o.2 h.once;
  made = λ n there. by n o.0 o.1 (m == n) refl there;
  given = λ n g. there-after m n how b.outcomes (h.given n g);
  oneway = oneway-fewer b (ended m how b) (ended-before m how b) h;
}
  where
    by : (n : ℕ) (r : Request) → request_of m b ≡ Some r → (t : Bool) → (m == n) ≡ t
        → is_some (cond t (Some how) (lookup n b.outcomes)) ≡ true → is_some (request_of n b) ≡ true
    by n r made true e there = ap (λ k. is_some (request_of k b)) (sym (same-number m n e)) ∙ ap
        is_some made
    by n r made false e there = h.made n there

-- a request is forgotten
pub fits-forgotten : (m : ℕ) (b : Bus) → OutcomesFit b → OutcomesFit (forgotten m b)
fits-forgotten m b h = record {
  once = h.once;
  made = h.made;
  given = λ n g. h.given n (in-any n b.given_up
      (in-filter (λ k. not (k == m)) b.given_up n (any-in n (forgotten m b).given_up g)).0);
  oneway = oneway-fewer b (forgotten m b) (forgotten-before m b) h;
}

-- a request is given up
pub fits-gave_up : (m : ℕ) (how : Outcome) (b : Bus) → is_open m b ≡ true → OutcomesFit b
    → OutcomesFit (gave_up m how b)
fits-gave_up m how b unended h = let e = fits-ended m how b unended h in record {
  once = e.once;
  made = e.made;
  given = λ n g. ⊎_elim (λ i. there-after m n how b.outcomes (h.given n (in-any n b.given_up i)))
      (λ is. ap (λ k. is_some (lookup k ((m, how) ∷ b.outcomes))) is ∙ ap is_some
      (pair-there m how b.outcomes))
      (in-pushed n b.given_up m (any-in n (gave_up m how b).given_up g));
  oneway = oneway-fewer b (gave_up m how b) (gave_up-before m how b unended) h;
}

-- a side of a connection ends
pub fits-side_ended : (k : ℕ) (at : Side) (b : Bus) → OutcomesFit b
    → OutcomesFit (side_ended k at b)
fits-side_ended k at b h = record {
  once = once-all (open_on k at b) outcome.Disconnected b.outcomes
      (open_requests-rise (is_of k at) b)
      (each-from (λ n. lookup n b.outcomes ≡ None) (open_on k at b)
      (λ n i. (in-open_requests (is_of k at) b n i).3)) h.once;
  made = λ n there. ⊎_elim (λ old. h.made n old)
      (λ i. ap is_some (in-open_requests (is_of k at) b n i).1)
      (found-all (open_on k at b) n outcome.Disconnected b.outcomes there);
  given = λ n g. there-all (open_on k at b) n outcome.Disconnected b.outcomes
      (h.given n (in-any n b.given_up (in-without (passes (is_of k at) b) b.given_up n
      (any-in n (side_ended k at b).given_up g)).0));
  oneway = oneway-fewer b (side_ended k at b) (side_ended-before k at b) h;
}

-- a request is made
pub fits-sent : (d : Draft) (label : ℕ) (b : Bus) → OutcomesFit b → OutcomesFit (sent d label b)
fits-sent d label b h = record {
  once = once d.oneway;
  made = λ n there. made n d.oneway there;
  given = λ n g. given n d.oneway (h.given n g);
  oneway = λ n r made one. by n r made one (is_awaited n (sent d label b)) refl;
}
  where
    once : (t : Bool) → AtMostOnce (cond t ((next_number b, outcome.Sent) ∷ b.outcomes) b.outcomes)
    once true = once-more (next_number b) outcome.Sent b.outcomes (unended b h) h.once
    once false = h.once

    kept : (n : ℕ) (o : Option Request) → request_of n b ≡ o → is_some o ≡ true
        → is_some (request_of n (sent d label b)) ≡ true
    kept n None e there = absurd cc
    kept n (Some r) e there = ap is_some (sent-request d label b n r e)

    made : (n : ℕ) (t : Bool) → is_some (lookup n (cond t ((next_number b, outcome.Sent)
        ∷ b.outcomes) b.outcomes)) ≡ true → is_some (request_of n (sent d label b)) ≡ true
    made n false there = kept n (request_of n b) refl (h.made n there)
    made n true there = new (next_number b == n) refl there
      where
        new : (t : Bool) → (next_number b == n) ≡ t
            → is_some (cond t (Some outcome.Sent) (lookup n b.outcomes)) ≡ true
            → is_some (request_of n (sent d label b)) ≡ true
        new true e there =
            ap (λ k. is_some (request_of k (sent d label b)))
            (sym (same-number (next_number b) n e)) ∙ ap is_some (sent-new d label b)
        new false e there = kept n (request_of n b) refl (h.made n there)

    given : (n : ℕ) (t : Bool) → is_some (outcome_of n b) ≡ true
        → is_some (lookup n (cond t ((next_number b, outcome.Sent) ∷ b.outcomes) b.outcomes)) ≡ true
    given n true there = there-after (next_number b) n outcome.Sent b.outcomes there
    given n false there = there

    by : (n : ℕ) (r : Request) → request_of n (sent d label b) ≡ Some r → r.oneway ≡ true
        → (t : Bool) → is_awaited n (sent d label b) ≡ t → is_awaited n (sent d label b) ≡ false
    by n r m one false e = e
    by n r m one true e =
        ⊎_elim (λ old. ⊎_elim (λ was. absurd (not-both (is_awaited n b) old (h.oneway n r was one)))
        (λ new. absurd (not-both (is_awaited n b) old (ap (λ k. is_awaited k b) new.0 ∙ unasked b
        h))) (sent-made d label b n r m)) (λ new. ⊎_elim
        (λ was. absurd (omega (arith, nth-within n b.requests r was, new.0)))
        (λ is. absurd (not-both d.oneway (ap (λ (q : Request). q.oneway) (sym is.1) ∙ one) new.1))
        (sent-made d label b n r m)) (sent-before d label b n h e)
