-- What the operations of one side tell, and for which states they tell the same.
use Rattle.std.proofs.Common.{◌≡◌, ◌⊎◌, ℕ, Bool, true, false, not, cond, eqb, ◌&&◌, ◌||◌, Option}
use Rattle.std.proofs.Common.{Some, None, is_some, is_none, List, [], ◌∷◌, ◌++◌, refl, sym, ap, ◌∙◌}
use Rattle.std.proofs.Common.{inl, inr}
use Rattle.std.proofs.lemmas.Map.Views.{any-filter_same}
use Rattle.std.specs.List.{list_any}
use Rattle.gb_base.specs.declared.end.Side.{Side}
use Rattle.gb_base.specs.declared.outcome.Outcome.{Outcome}
use Rattle.gb_base.specs.declared.outcome.Outcome.TheVariants as outcome
use Rattle.gb_bus.proofs.SideLists.{not-none}
use Rattle.gb_bus.specs.Stands.{IsHolder, KeepsSide, holding, pending_by, pending_of}
use Rattle.gb_invariants.proofs.Awaiting.{not-both, same-some}
use Rattle.gb_invariants.proofs.Outcomes.{both-true, in-open_requests, is-same, lookup-past}
use Rattle.gb_invariants.proofs.Outcomes.{lookup-past-all, open_requests-in, pair-there}
use Rattle.gb_invariants.proofs.Outcomes.{same-number, there-all}
use Rattle.gb_machine.specs.Bus.{Bus, Request, is_open, outcome_of, request_of}
use Rattle.gb_machine.specs.Delivery.{ended, forgotten}
use Rattle.gb_machine.specs.LawsBus.{is_awaited}
use Rattle.gb_machine.specs.Lists.{lookup, nth}
use Rattle.gb_machine.specs.Members.{IsIn}
use Rattle.gb_machine.specs.Requests.{gave_up, is_given_up, is_of, made_passes, open_on, passes}
use Rattle.gb_machine.specs.Wiring.{all_ended, side_ended}
use Rattle.gb_ops.specs.Operations.{Operations, holder_of, pending_at}
use Rattle.gb_ops.specs.declared.entries.Holder.{Holder}
use Rattle.gb_ops.specs.declared.entries.Pending.{Pending}

-- ---- open requests

-- what is kept of an open request
abbrev pub asked : Request → Pending
asked r = record { label = r.label; deadline = r.deadline }

-- request n is an open one of a side, of which this is kept
pub record IsPending (k : ℕ) (at : Side) (n : ℕ) (p : Pending) (b : Bus) : Type 0 where
  pub request : Request
  pub made : request_of n b ≡ Some request
  pub own : is_of k at request ≡ true
  pub unended : is_open n b ≡ true
  pub is : asked request ≡ p

pub pending-is : (k : ℕ) (at : Side) (n : ℕ) (b : Bus) (r : Request) → request_of n b ≡ Some r
    → is_of k at r ≡ true → is_open n b ≡ true → pending_of k at n b ≡ Some (asked r)
pending-is k at n b r made own unended =
    ap (pending_by k at (is_open n b)) made ∙ ap (λ u. pending_by k at u (Some r)) unended
    ∙ ap (λ t. cond t (Some (asked r)) None) own

pub is-pending : (k : ℕ) (at : Side) (n : ℕ) (p : Pending) (b : Bus)
    → pending_of k at n b ≡ Some p → IsPending k at n p b
is-pending k at n p b h = by (request_of n b) refl h
  where
    tests : (r : Request) → request_of n b ≡ Some r → (t : Bool)
        → (is_open n b && is_of k at r) ≡ t
        → cond t (Some (asked r)) None ≡ Some p → IsPending k at n p b
    tests r made true e f =
        let both = both-true (is_open n b) (is_of k at r) e in record {
          request = r;
          made = made;
          own = both.1;
          unended = both.0;
          is = same-some (asked r) p f;
        }
    tests r made false e f = absurd (not-none p f)

    by : (o : Option Request) → request_of n b ≡ o → pending_by k at (is_open n b) o ≡ Some p
        → IsPending k at n p b
    by None e f = absurd (not-none p f)
    by (Some r) e f = tests r e (is_open n b && is_of k at r) refl f

pub open-awaited : (n : ℕ) (b : Bus) → is_open n b ≡ true → is_awaited n b ≡ true
open-awaited n b h = ap (λ t. t || is_given_up n b) h

-- ---- what operations tell

-- The open requests of a side are those that are kept, and its identifiers are in use as they are.
pub record Tells (k : ℕ) (at : Side) (x : Operations) (b : Bus) : Type 0 where
  pub entered : (n : ℕ) (r : Request) → request_of n b ≡ Some r → is_of k at r ≡ true
      → is_open n b ≡ true → pending_at x n ≡ Some (asked r)
  pub pending : (n : ℕ) (p : Pending) → pending_at x n ≡ Some p → IsPending k at n p b
  pub held : (n : ℕ) (r : Request) → request_of n b ≡ Some r → is_of k at r ≡ true
      → is_awaited n b ≡ true → holder_of x r.label ≡ Some (holding n b)
  pub used : (label : ℕ) (h : Holder) → holder_of x label ≡ Some h → IsHolder k at label h b

same-option : {A : Type 0} (o p : Option A) → ((x : A) → o ≡ Some x → p ≡ Some x)
    → ((x : A) → p ≡ Some x → o ≡ Some x) → o ≡ p
same-option None None f g = refl
same-option None (Some x) f g = g x refl
same-option (Some x) p f g = sym (f x refl)

pub keeps-by : (k : ℕ) (at : Side) (x : Operations) (last : ℕ) (b : Bus) → x.last ≡ last
    → Tells k at x b → KeepsSide k at x last b
keeps-by k at x last b is t = record {
  last_is = is;
  pending = λ n. same-option (pending_at x n) (pending_of k at n b)
      (λ p h.
      let q = t.pending n p h in
      pending-is k at n b q.request q.made q.own q.unended ∙ ap Some q.is)
      (λ p h.
      let q = is-pending k at n p b h in
      t.entered n q.request q.made q.own q.unended ∙ ap Some q.is);
  held = t.held;
  used = t.used;
}

pub tells : (k : ℕ) (at : Side) (x : Operations) (last : ℕ) (b : Bus) → KeepsSide k at x last b
    → Tells k at x b
tells k at x last b keeps = record {
  entered = λ n r made own unended. keeps.pending n ∙ pending-is k at n b r made own unended;
  pending = λ n p h. is-pending k at n p b (sym (keeps.pending n) ∙ h);
  held = keeps.held;
  used = keeps.used;
}

-- ---- states that are the same for a side

-- request n is as it was
pub record IsAlike (n : ℕ) (r : Request) (b after : Bus) : Type 0 where
  pub made : request_of n after ≡ Some r
  pub unended : is_open n after ≡ is_open n b
  pub mark : is_given_up n after ≡ is_given_up n b

-- The requests of a side are as they were. One that is new isn't awaited.
pub record SameSide (k : ℕ) (at : Side) (b after : Bus) : Type 0 where
  pub stays : (n : ℕ) (r : Request) → request_of n b ≡ Some r → is_of k at r ≡ true
      → IsAlike n r b after
  pub back : (n : ℕ) (r : Request) → request_of n after ≡ Some r → is_of k at r ≡ true
      → (request_of n b ≡ Some r) ⊎ (is_awaited n after ≡ false)

alike-awaited : (n : ℕ) (r : Request) (b after : Bus) → IsAlike n r b after
    → is_awaited n after ≡ is_awaited n b
alike-awaited n r b after h = λ i. h.unended i || h.mark i

alike-holding : (n : ℕ) (r : Request) (b after : Bus) → IsAlike n r b after
    → holding n b ≡ holding n after
alike-holding n r b after h = ap (λ t. record { number = n; given_up = t }) (sym h.mark)

pub same-tells : (k : ℕ) (at : Side) (x : Operations) (b after : Bus) → SameSide k at b after
    → Tells k at x b → Tells k at x after
same-tells k at x b after same t = record {
  entered = λ n r made own unended. entered n r own unended (same.back n r made own);
  pending = λ n p h.
      let q = t.pending n p h in
      let a = same.stays n q.request q.made q.own in record {
        request = q.request;
        made = a.made;
        own = q.own;
        unended = a.unended ∙ q.unended;
        is = q.is;
      };
  held = λ n r made own awaited. held n r own awaited (same.back n r made own);
  used = λ label h e.
      let q = t.used label h e in
      let a = same.stays h.number q.request q.made q.own in record {
        request = q.request;
        made = a.made;
        own = q.own;
        label_is = q.label_is;
        awaited = alike-awaited h.number q.request b after a ∙ q.awaited;
        is = q.is ∙ alike-holding h.number q.request b after a;
      };
}
  where
    entered : (n : ℕ) (r : Request) → is_of k at r ≡ true → is_open n after ≡ true
        → (request_of n b ≡ Some r) ⊎ (is_awaited n after ≡ false)
        → pending_at x n ≡ Some (asked r)
    entered n r own unended (inl made) =
        t.entered n r made own (sym (same.stays n r made own).unended ∙ unended)
    entered n r own unended (inr not) =
        absurd (not-both (is_awaited n after) (open-awaited n after unended) not)

    held : (n : ℕ) (r : Request) → is_of k at r ≡ true → is_awaited n after ≡ true
        → (request_of n b ≡ Some r) ⊎ (is_awaited n after ≡ false)
        → holder_of x r.label ≡ Some (holding n after)
    held n r own awaited (inl made) =
        let a = same.stays n r made own in
        t.held n r made own (sym (alike-awaited n r b after a) ∙ awaited)
        ∙ ap Some (alike-holding n r b after a)
    held n r own awaited (inr not) = absurd (not-both (is_awaited n after) awaited not)

pub keeps-same : (k : ℕ) (at : Side) (x : Operations) (last : ℕ) (b after : Bus)
    → SameSide k at b after → KeepsSide k at x last b → KeepsSide k at x last after
keeps-same k at x last b after same keeps =
    keeps-by k at x last after keeps.last_is
    (same-tells k at x b after same (tells k at x last b keeps))

-- a mark and an outcome that stay, where requests stay
pub same-side : (k : ℕ) (at : Side) (b after : Bus) → after.requests ≡ b.requests
    → ((n : ℕ) (r : Request) → request_of n b ≡ Some r → is_of k at r ≡ true
    → (outcome_of n after ≡ outcome_of n b) × (is_given_up n after ≡ is_given_up n b))
    → SameSide k at b after
same-side k at b after same f = record {
  stays = λ n r made own.
      let h = f n r made own in record {
        made = ap (nth n) same ∙ made;
        unended = λ i. is_some (nth n (same i)) && is_none (h.0 i);
        mark = h.1;
      };
  back = λ n r made own. inl (ap (nth n) (sym same) ∙ made);
}

-- a request of a side isn't one of another
pub apart : (b : Bus) (k : ℕ) (at : Side) (n m : ℕ) (r q : Request) → request_of n b ≡ Some r
    → is_of k at r ≡ false → request_of m b ≡ Some q → is_of k at q ≡ true → n ≡ m → ⊥
apart b k at n m r q made other there own is =
    not-both (is_of k at q) own
    (ap (is_of k at) (same-some q r (sym there ∙ ap (λ j. request_of j b) (sym is) ∙ made)) ∙ other)

pub not-same : (m n : ℕ) → (m ≡ n → ⊥) → eqb m n ≡ false
not-same m n other = by (eqb m n) refl
  where
    by : (t : Bool) → eqb m n ≡ t → t ≡ false
    by true e = absurd (other (same-number m n e))
    by false e = refl

pub same-ended : (k : ℕ) (at : Side) (b : Bus) (n : ℕ) (how : Outcome) (r : Request)
    → request_of n b ≡ Some r → is_of k at r ≡ false → SameSide k at b (ended n how b)
same-ended k at b n how r made other =
    same-side k at b (ended n how b) refl
    (λ m q there own.
    (lookup-past n m how b.outcomes (apart b k at n m r q made other there own), refl))

-- ---- marks

-- another request stays given up
pub mark-forgotten : (n : ℕ) (b : Bus) (m : ℕ) → (n ≡ m → ⊥)
    → is_given_up m (forgotten n b) ≡ is_given_up m b
mark-forgotten n b m other =
    any-filter_same (λ j. eqb j m) (λ j. not (eqb j n)) true
    (λ j e. ap not (ap (λ i. eqb i n) (same-number j m e) ∙ not-same m n (λ is. other (sym is))))
    b.given_up

-- the one that is forgotten isn't
pub mark-gone : (n : ℕ) (b : Bus) → is_given_up n (forgotten n b) ≡ false
mark-gone n b =
    any-filter_same (λ m. eqb m n) (λ m. not (eqb m n)) false (λ m h. ap not h) b.given_up

any-pushed : (n m : ℕ) (ns : List ℕ) (t : Bool) → eqb m n ≡ t
    → list_any (λ j. eqb j n) (ns ++ m ∷ []) ≡ (t || list_any (λ j. eqb j n) ns)
any-pushed n m [] true e = ap (λ b. b || false) e
any-pushed n m [] false e = ap (λ b. b || false) e
any-pushed n m (k ∷ ns) t e =
    ap (λ b. eqb k n || b) (any-pushed n m ns t e)
    ∙ swap (eqb k n) t (list_any (λ j. eqb j n) ns)
  where
    swap : (a b c : Bool) → a || (b || c) ≡ (b || (a || c))
    swap true true c = refl
    swap true false c = refl
    swap false true c = refl
    swap false false c = refl

pub mark-gave_up : (n : ℕ) (how : Outcome) (b : Bus) (m : ℕ) → (n ≡ m → ⊥)
    → is_given_up m (gave_up n how b) ≡ is_given_up m b
mark-gave_up n how b m other = any-pushed m n b.given_up false (not-same n m other)

pub mark-new : (n : ℕ) (how : Outcome) (b : Bus) → is_given_up n (gave_up n how b) ≡ true
mark-new n how b = any-pushed n n b.given_up true (is-same n)

pub same-forgotten : (k : ℕ) (at : Side) (b : Bus) (n : ℕ) (r : Request)
    → request_of n b ≡ Some r → is_of k at r ≡ false → SameSide k at b (forgotten n b)
same-forgotten k at b n r made other =
    same-side k at b (forgotten n b) refl
    (λ m q there own. (refl, mark-forgotten n b m (apart b k at n m r q made other there own)))

pub same-gave_up : (k : ℕ) (at : Side) (b : Bus) (n : ℕ) (how : Outcome) (r : Request)
    → request_of n b ≡ Some r → is_of k at r ≡ false → SameSide k at b (gave_up n how b)
same-gave_up k at b n how r made other =
    same-side k at b (gave_up n how b) refl
    (λ m q there own.
    let differ = apart b k at n m r q made other there own in
    (lookup-past n m how b.outcomes differ, mark-gave_up n how b m differ))

-- ---- a side is closed

mark-closed : (k : ℕ) (at : Side) (b : Bus) (n : ℕ) (t : Bool) → passes (is_of k at) b n ≡ t
    → is_given_up n (side_ended k at b) ≡ (not t && is_given_up n b)
mark-closed k at b n t e =
    any-filter_same (λ m. eqb m n) (λ m. not (passes (is_of k at) b m)) (not t)
    (λ m h. ap not (ap (passes (is_of k at) b) (same-number m n h) ∙ e)) b.given_up

ended-all : (ns : List ℕ) (n : ℕ) (how : Outcome) (outs : List (ℕ × Outcome)) → IsIn n ns
    → is_some (lookup n (all_ended ns how outs)) ≡ true
ended-all [] n how outs i = absurd i
ended-all (m ∷ ns) n how outs (inl e) =
    there-all ns n how ((m, how) ∷ outs)
    (ap is_some (ap (λ j. lookup j ((m, how) ∷ outs)) e ∙ pair-there m how outs))
ended-all (m ∷ ns) n how outs (inr i) = ended-all ns n how ((m, how) ∷ outs) i

-- nothing of another side ends
pub same-closed : (j : ℕ) (on : Side) (k : ℕ) (at : Side) (b : Bus)
    → ((r : Request) → is_of j on r ≡ true → is_of k at r ≡ false)
    → SameSide j on b (side_ended k at b)
same-closed j on k at b elsewhere =
    same-side j on b (side_ended k at b) refl
    (λ n r made own. (
      lookup-past-all (open_on k at b) n outcome.Disconnected b.outcomes
          (out n r made (elsewhere r own)),
      mark-closed k at b n false (ap (made_passes (is_of k at)) made ∙ elsewhere r own),
    ))
  where
    out : (n : ℕ) (r : Request) → request_of n b ≡ Some r → is_of k at r ≡ false
        → IsIn n (open_on k at b) → ⊥
    out n r made other i =
        let q = in-open_requests (is_of k at) b n i in
        not-both (is_of k at r) (ap (is_of k at) (same-some r q.0 (sym made ∙ q.1)) ∙ q.2) other

-- a request of the side isn't awaited any more
pub closed-over : (k : ℕ) (at : Side) (b : Bus) (n : ℕ) (r : Request) → request_of n b ≡ Some r
    → is_of k at r ≡ true → is_awaited n (side_ended k at b) ≡ false
closed-over k at b n r made own = λ i. unended i || mark i
  where
    over : (o : Option Outcome) → outcome_of n b ≡ o
        → is_some (outcome_of n (side_ended k at b)) ≡ true
    over None free =
        ended-all (open_on k at b) n outcome.Disconnected b.outcomes
        (open_requests-in (is_of k at) b n r made own free)
    over (Some how) e =
        there-all (open_on k at b) n outcome.Disconnected b.outcomes (ap is_some e)

    closed : (o : Option Outcome) → is_some o ≡ true → is_none o ≡ false
    closed None h = absurd (not-both false h refl)
    closed (Some how) h = refl

    unended : is_open n (side_ended k at b) ≡ false
    unended =
        ap (λ o. is_some o && is_none (outcome_of n (side_ended k at b))) made
        ∙ closed (outcome_of n (side_ended k at b)) (over (outcome_of n b) refl)

    mark : is_given_up n (side_ended k at b) ≡ false
    mark = mark-closed k at b n true (ap (made_passes (is_of k at)) made ∙ own)
