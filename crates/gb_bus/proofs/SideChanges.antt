-- What one side of a connection keeps stays what the machine has, where a request of it changes.
use Rattle.std.proofs.Common.{◌≡◌, ◌⊎◌, ℕ, Bool, true, false, ◌&&◌, ◌||◌, Option, Some, None}
use Rattle.std.proofs.Common.{is_some, is_none, refl, sym, ap, ◌∙◌, inl, inr}
use Rattle.std.proofs.lemmas.Bool.{cases_eq}
use Rattle.gb_base.specs.declared.end.Side.{Side}
use Rattle.gb_base.specs.declared.outcome.Outcome.{Outcome}
use Rattle.gb_bus.proofs.SideLists.{not-none}
use Rattle.gb_bus.proofs.SideStates.{IsPending, Tells, asked, closed-over, keeps-by, mark-forgotten}
use Rattle.gb_bus.proofs.SideStates.{mark-gave_up, mark-gone, mark-new, open-awaited, tells}
use Rattle.gb_bus.specs.Stands.{IsHolder, KeepsSide, holding}
use Rattle.gb_invariants.proofs.Awaiting.{ended-after, ended-before, forgotten-after}
use Rattle.gb_invariants.proofs.Awaiting.{forgotten-before, gave_up-after, gave_up-before, not-both}
use Rattle.gb_invariants.proofs.Awaiting.{same-some}
use Rattle.gb_invariants.proofs.Outcomes.{lookup-past, pair-there}
use Rattle.gb_invariants.specs.Facts.{OutcomesFit}
use Rattle.gb_machine.specs.Bus.{Bus, Request, is_open, outcome_of, request_of}
use Rattle.gb_machine.specs.Delivery.{ended, forgotten}
use Rattle.gb_machine.specs.LawsBus.{is_awaited}
use Rattle.gb_machine.specs.Requests.{gave_up, is_given_up, is_of}
use Rattle.gb_machine.specs.Wiring.{side_ended}
use Rattle.gb_ops.specs.Calls.{Ends, Forgets, GivesUp, emptied}
use Rattle.gb_ops.specs.Operations.{Operations, holder_of, pending_at}
use Rattle.gb_ops.specs.declared.entries.Holder.{Holder}
use Rattle.gb_ops.specs.declared.entries.Pending.{Pending}

-- ---- what is said of one request

-- what is in use for two requests is in use for one
one-number : (x : Operations) (label : ℕ) (h g : Holder) → holder_of x label ≡ Some h
    → holder_of x label ≡ Some g → h.number ≡ g.number
one-number x label h g e f = ap (λ (y : Holder). y.number) (same-some h g (sym e ∙ f))

-- a request has one identifier
one-label : (b : Bus) (n : ℕ) (r q : Request) → request_of n b ≡ Some r → request_of n b ≡ Some q
    → r.label ≡ q.label
one-label b n r q e f = ap (λ (y : Request). y.label) (same-some r q (sym e ∙ f))

-- identifiers that are in use for requests that aren't one differ
other-label : (x : Operations) (l m : ℕ) (h g : Holder) → holder_of x l ≡ Some h
    → holder_of x m ≡ Some g → (h.number ≡ g.number → ⊥) → l ≡ m → ⊥
other-label x l m h g e f other is = other (one-number x m h g (ap (holder_of x) (sym is) ∙ e) f)

-- a request that is open hasn't been given up
pub open-unmarked : (n : ℕ) (b : Bus) → OutcomesFit b → is_open n b ≡ true
    → is_given_up n b ≡ false
open-unmarked n b fits unended = by (is_given_up n b) refl
  where
    clash : (s t : Bool) → s && is_none (outcome_of n b) ≡ true
        → is_some (outcome_of n b) ≡ true → ⊥
    clash s t h k = both (outcome_of n b) s h k
      where
        both : (o : Option Outcome) (s : Bool) → s && is_none o ≡ true → is_some o ≡ true → ⊥
        both None s h k = absurd (not-both false k refl)
        both (Some how) true h k = absurd (not-both false h refl)
        both (Some how) false h k = absurd (not-both false h refl)

    by : (t : Bool) → is_given_up n b ≡ t → is_given_up n b ≡ false
    by false e = e
    by true e = absurd (clash (is_some (request_of n b)) true unended (fits.given n e))

-- nothing but its outcome says that it isn't open
over-is : (n : ℕ) (b : Bus) (how : Outcome) → outcome_of n b ≡ Some how → is_open n b ≡ false
over-is n b how e =
    ap (λ o. is_some (request_of n b) && is_none o) e ∙ last (is_some (request_of n b))
  where
    last : (t : Bool) → t && false ≡ false
    last true = refl
    last false = refl

-- one that was given up isn't open
pub marked-over : (n : ℕ) (b : Bus) → OutcomesFit b → is_given_up n b ≡ true
    → is_open n b ≡ false
marked-over n b fits mark = by (outcome_of n b) refl (fits.given n mark)
  where
    by : (o : Option Outcome) → outcome_of n b ≡ o → is_some (outcome_of n b) ≡ true
        → is_open n b ≡ false
    by None e s = absurd (not-both (is_some (outcome_of n b)) s (ap is_some e))
    by (Some how) e s = over-is n b how e

-- one that has neither is over
unawaited : (n : ℕ) (b : Bus) → is_open n b ≡ false → is_given_up n b ≡ false
    → is_awaited n b ≡ false
unawaited n b e f = λ i. e i || f i

-- another request is open as before
open-past : (n : ℕ) (how : Outcome) (b : Bus) (m : ℕ) → (n ≡ m → ⊥)
    → is_open m (ended n how b) ≡ is_open m b
open-past n how b m other =
    ap (λ o. is_some (request_of m b) && is_none o) (lookup-past n m how b.outcomes other)

-- ---- it ends

-- the open requests once one is over, whether it ends or is given up
entered-over : (k : ℕ) (at : Side) (x : Operations) (b : Bus) (n : ℕ) (how : Outcome)
    → Tells k at x b → (m : ℕ) (r : Request) → request_of m b ≡ Some r → is_of k at r ≡ true
    → is_open m (ended n how b) ≡ true → (n ≡ m → ⊥) × (pending_at x m ≡ Some (asked r))
entered-over k at x b n how t m r made own unended = (
  other,
  t.entered m r made own (sym (open-past n how b m other) ∙ unended),
)
  where
    other : n ≡ m → ⊥
    other is =
        not-both (is_open m (ended n how b)) unended
        (over-is m (ended n how b) how
        (ap (λ j. outcome_of j (ended n how b)) (sym is) ∙ pair-there n how b.outcomes))

pending-over : (k : ℕ) (at : Side) (x : Operations) (b : Bus) (n : ℕ) (how : Outcome)
    → Tells k at x b → (m : ℕ) (p : Pending) → pending_at x m ≡ Some p → (n ≡ m → ⊥)
    → IsPending k at m p (ended n how b)
pending-over k at x b n how t m p h other =
    let q = t.pending m p h in record {
      request = q.request;
      made = q.made;
      own = q.own;
      unended = open-past n how b m other ∙ q.unended;
      is = q.is;
    }

pub side-ends : (k : ℕ) (at : Side) (x y : Operations) (last : ℕ) (b : Bus) (label n : ℕ)
    (how : Outcome)
    → OutcomesFit b → Ends x y label n → KeepsSide k at x last b
    → KeepsSide k at y last (ended n how b)
side-ends k at x y last b label n how fits ends keeps =
    keeps-by k at y last (ended n how b) (ends.last ∙ keeps.last_is) (record {
      entered = λ m r made own unended.
          let e = entered-over k at x b n how t m r made own unended in
          ends.pending.others m (λ is. e.0 (sym is)) ∙ e.1;
      pending = λ m p h. pending m p h (cases_eq m n);
      held = λ m r made own awaited. held m r made own awaited (cases_eq m n);
      used = λ l h e. used l h e (cases_eq l label);
    })
  where
    t : Tells k at x b
    t = tells k at x last b keeps

    was : IsPending k at n ends.found b
    was = t.pending n ends.found ends.there

    holder : IsHolder k at label (record { number = n; given_up = false }) b
    holder = t.used label (record { number = n; given_up = false }) ends.held

    pending : (m : ℕ) (p : Pending) → pending_at y m ≡ Some p → (m ≡ n) ⊎ (m ≡ n → ⊥)
        → IsPending k at m p (ended n how b)
    pending m p h (inl is) =
        absurd (not-none p (sym ends.pending.here ∙ ap (pending_at y) (sym is) ∙ h))
    pending m p h (inr other) =
        pending-over k at x b n how t m p (sym (ends.pending.others m other) ∙ h)
        (λ is. other (sym is))

    over : is_awaited n (ended n how b) ≡ false
    over = unawaited n (ended n how b)
        (over-is n (ended n how b) how (pair-there n how b.outcomes))
        (open-unmarked n b fits was.unended)

    held : (m : ℕ) (r : Request) → request_of m b ≡ Some r → is_of k at r ≡ true
        → is_awaited m (ended n how b) ≡ true → (m ≡ n) ⊎ (m ≡ n → ⊥)
        → holder_of y r.label ≡ Some (holding m b)
    held m r made own awaited (inl is) =
        absurd (not-both (is_awaited m (ended n how b)) awaited
        (ap (λ j. is_awaited j (ended n how b)) is ∙ over))
    held m r made own awaited (inr other) =
        let before = t.held m r made own ((ended-before n how b).before m awaited) in
        ends.holder.others r.label
        (other-label x r.label label (holding m b) (record { number = n; given_up = false })
        before ends.held other) ∙ before

    used : (l : ℕ) (h : Holder) → holder_of y l ≡ Some h → (l ≡ label) ⊎ (l ≡ label → ⊥)
        → IsHolder k at l h (ended n how b)
    used l h e (inl is) =
        absurd (not-none h (sym ends.holder.here ∙ ap (holder_of y) (sym is) ∙ e))
    used l h e (inr other) =
        let q = t.used l h (sym (ends.holder.others l other) ∙ e) in record {
          request = q.request;
          made = q.made;
          own = q.own;
          label_is = q.label_is;
          awaited = ended-after n how b h.number
              (λ is. other (sym q.label_is
              ∙ one-label b h.number q.request holder.request q.made
              (ap (λ j. request_of j b) (sym is) ∙ holder.made) ∙ holder.label_is)) q.awaited;
          is = q.is;
        }

-- ---- it is forgotten

pub side-forgets : (k : ℕ) (at : Side) (x y : Operations) (last : ℕ) (b : Bus) (label n : ℕ)
    → OutcomesFit b → Forgets x y label n → KeepsSide k at x last b
    → KeepsSide k at y last (forgotten n b)
side-forgets k at x y last b label n fits forgets keeps = record {
  last_is = forgets.last ∙ keeps.last_is;
  pending = λ m. same m ∙ keeps.pending m;
  held = λ m r made own awaited. held m r made own awaited (cases_eq m n);
  used = λ l h e. used l h e (cases_eq l label);
}
  where
    late : Holder
    late = record { number = n; given_up = true }

    same : (m : ℕ) → pending_at y m ≡ pending_at x m
    same m = ap (λ es. pending_at (record x { pending = es }) m) forgets.pending

    holder : IsHolder k at label late b
    holder = keeps.used label late forgets.held

    over : is_awaited n (forgotten n b) ≡ false
    over =
        unawaited n (forgotten n b)
        (marked-over n b fits (sym (ap (λ (h : Holder). h.given_up) holder.is)))
        (mark-gone n b)

    held : (m : ℕ) (r : Request) → request_of m b ≡ Some r → is_of k at r ≡ true
        → is_awaited m (forgotten n b) ≡ true → (m ≡ n) ⊎ (m ≡ n → ⊥)
        → holder_of y r.label ≡ Some (holding m (forgotten n b))
    held m r made own awaited (inl is) =
        absurd (not-both (is_awaited m (forgotten n b)) awaited
        (ap (λ j. is_awaited j (forgotten n b)) is ∙ over))
    held m r made own awaited (inr other) =
        let before = keeps.held m r made own ((forgotten-before n b).before m awaited) in
        forgets.holder.others r.label
        (other-label x r.label label (holding m b) late before forgets.held other) ∙ before
        ∙ ap (λ g. Some (record { number = m; given_up = g }))
        (sym (mark-forgotten n b m (λ is. other (sym is))))

    used : (l : ℕ) (h : Holder) → holder_of y l ≡ Some h → (l ≡ label) ⊎ (l ≡ label → ⊥)
        → IsHolder k at l h (forgotten n b)
    used l h e (inl is) =
        absurd (not-none h (sym forgets.holder.here ∙ ap (holder_of y) (sym is) ∙ e))
    used l h e (inr other) =
        let q = keeps.used l h (sym (forgets.holder.others l other) ∙ e) in
        let differs : n ≡ h.number → ⊥ = λ is. other (sym q.label_is
        ∙ one-label b h.number q.request holder.request q.made
        (ap (λ j. request_of j b) (sym is) ∙ holder.made) ∙ holder.label_is) in record {
          request = q.request;
          made = q.made;
          own = q.own;
          label_is = q.label_is;
          awaited = forgotten-after n b h.number differs q.awaited;
          is = q.is ∙ ap (λ g. record { number = h.number; given_up = g })
              (sym (mark-forgotten n b h.number differs));
        }

-- ---- it is given up

pub side-gives_up : (k : ℕ) (at : Side) (x y : Operations) (last : ℕ) (b : Bus) (n : ℕ)
    (how : Outcome)
    → GivesUp x y n → KeepsSide k at x last b → KeepsSide k at y last (gave_up n how b)
side-gives_up k at x y last b n how gives keeps =
    keeps-by k at y last (gave_up n how b) (gives.last ∙ keeps.last_is) (record {
      entered = λ m r made own unended.
          let e = entered-over k at x b n how t m r made own unended in
          gives.pending.others m (λ is. e.0 (sym is)) ∙ e.1;
      pending = λ m p h. pending m p h (cases_eq m n);
      held = λ m r made own awaited. held m r made own awaited (cases_eq m n);
      used = λ l h e. used l h e (cases_eq l gives.found.label);
    })
  where
    t : Tells k at x b
    t = tells k at x last b keeps

    late : Holder
    late = record { number = n; given_up = true }

    was : IsPending k at n gives.found b
    was = t.pending n gives.found gives.there

    label_is : was.request.label ≡ gives.found.label
    label_is = ap (λ (p : Pending). p.label) was.is

    held_before : holder_of x gives.found.label ≡ Some (holding n b)
    held_before = ap (holder_of x) (sym label_is)
        ∙ t.held n was.request was.made was.own (open-awaited n b was.unended)

    late_is : late ≡ holding n (gave_up n how b)
    late_is = ap (λ g. record { number = n; given_up = g }) (sym (mark-new n how b))

    pending : (m : ℕ) (p : Pending) → pending_at y m ≡ Some p → (m ≡ n) ⊎ (m ≡ n → ⊥)
        → IsPending k at m p (gave_up n how b)
    pending m p h (inl is) =
        absurd (not-none p (sym gives.pending.here ∙ ap (pending_at y) (sym is) ∙ h))
    pending m p h (inr other) =
        let q = pending-over k at x b n how t m p (sym (gives.pending.others m other) ∙ h)
        (λ is. other (sym is)) in record {
          request = q.request;
          made = q.made;
          own = q.own;
          unended = q.unended;
          is = q.is;
        }

    held : (m : ℕ) (r : Request) → request_of m b ≡ Some r → is_of k at r ≡ true
        → is_awaited m (gave_up n how b) ≡ true → (m ≡ n) ⊎ (m ≡ n → ⊥)
        → holder_of y r.label ≡ Some (holding m (gave_up n how b))
    held m r made own awaited (inl is) =
        ap (holder_of y)
        (one-label b m r was.request made (ap (λ j. request_of j b) is ∙ was.made) ∙ label_is)
        ∙ gives.holder.here ∙ ap Some late_is
        ∙ ap (λ j. Some (holding j (gave_up n how b))) (sym is)
    held m r made own awaited (inr other) =
        let before = t.held m r made own
        ((gave_up-before n how b was.unended).before m awaited) in
        gives.holder.others r.label
        (other-label x r.label gives.found.label (holding m b) (holding n b) before held_before
        other) ∙ before
        ∙ ap (λ g. Some (record { number = m; given_up = g }))
        (sym (mark-gave_up n how b m (λ is. other (sym is))))

    used : (l : ℕ) (h : Holder) → holder_of y l ≡ Some h
        → (l ≡ gives.found.label) ⊎ (l ≡ gives.found.label → ⊥)
        → IsHolder k at l h (gave_up n how b)
    used l h e (inl is) =
        let same : late ≡ h = same-some late h
        (sym gives.holder.here ∙ ap (holder_of y) (sym is) ∙ e) in
        let number : n ≡ h.number = ap (λ (g : Holder). g.number) same in record {
          request = was.request;
          made = ap (λ j. request_of j b) (sym number) ∙ was.made;
          own = was.own;
          label_is = label_is ∙ sym is;
          awaited = gave_up-after n how b h.number
              (ap (λ j. is_awaited j b) (sym number) ∙ open-awaited n b was.unended);
          is = sym same ∙ late_is ∙ ap (λ j. holding j (gave_up n how b)) number;
        }
    used l h e (inr other) =
        let q = t.used l h (sym (gives.holder.others l other) ∙ e) in
        let differs : n ≡ h.number → ⊥ = λ is. other (sym q.label_is
        ∙ one-label b h.number q.request was.request q.made
        (ap (λ j. request_of j b) (sym is) ∙ was.made) ∙ label_is) in record {
          request = q.request;
          made = q.made;
          own = q.own;
          label_is = q.label_is;
          awaited = gave_up-after n how b h.number q.awaited;
          is = q.is ∙ ap (λ g. record { number = h.number; given_up = g })
              (sym (mark-gave_up n how b h.number differs));
        }

-- ---- the side is closed

pub side-closes : (k : ℕ) (at : Side) (x : Operations) (last : ℕ) (b : Bus) → x.last ≡ last
    → KeepsSide k at (emptied x) last (side_ended k at b)
side-closes k at x last b is =
    keeps-by k at (emptied x) last (side_ended k at b) is (record {
      entered = λ m r made own unended.
          absurd (not-both (is_awaited m (side_ended k at b))
          (open-awaited m (side_ended k at b) unended) (closed-over k at b m r made own));
      pending = λ m p h. absurd (not-none p h);
      held = λ m r made own awaited.
          absurd (not-both (is_awaited m (side_ended k at b)) awaited
          (closed-over k at b m r made own));
      used = λ l h e. absurd (not-none h e);
    })
