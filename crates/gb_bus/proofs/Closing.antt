-- What slots say once a side of a connection is closed.
use Rattle.std.proofs.Common.{◌≡◌, ℕ, Bool, true, false, cond, eqb, ◌&&◌, ◌||◌, Option, Some, None}
use Rattle.std.proofs.Common.{option_and_then, is_none, is_some, List, [], ◌∷◌, refl, sym, ap, ◌∙◌}
use Rattle.std.proofs.Common.{inl, inr, arith, nat_lt, ◌<◌}
use Rattle.gb_base.specs.declared.end.Side.{Side}
use Rattle.gb_base.specs.declared.outcome.Outcome.{Outcome}
use Rattle.gb_base.specs.declared.outcome.Outcome.TheVariants as outcome
use Rattle.gb_bus.proofs.Counted.{tells-ended, tells-same}
use Rattle.gb_bus.proofs.Endings.{not-open, same-test}
use Rattle.gb_bus.proofs.Listed.{those-are}
use Rattle.gb_bus.specs.Counting.{Tells, one_ended}
use Rattle.gb_bus.specs.Listing.{AreThose, Rises, count, stands_in}
use Rattle.gb_bus.specs.Slots.{AreOpen, SlotsKept, all_disconnected, closes, is_late_on, is_on}
use Rattle.gb_bus.specs.Slots.{is_open_on, is_open_slot, slot_at}
use Rattle.gb_bus.specs.Stands.{kept, kept_of, slot_of}
use Rattle.gb_bus.specs.declared.slots.Slot.{Slot}
use Rattle.gb_bus.specs.declared.tally.Tally.{Tally}
use Rattle.gb_invariants.proofs.Awaiting.{is-open, not-both, same-some, side_ended-after}
use Rattle.gb_invariants.proofs.Awaiting.{side_ended-before}
use Rattle.gb_invariants.proofs.Lists.{in-without}
use Rattle.gb_invariants.proofs.Outcomes.{any-in, in-any, in-open_requests, lookup-past}
use Rattle.gb_invariants.proofs.Outcomes.{lookup-past-all, open_requests-in, open_requests-rise}
use Rattle.gb_invariants.proofs.Outcomes.{pair-there}
use Rattle.gb_machine.specs.Bus as machine
use Rattle.gb_machine.specs.Bus.{Request, is_open, outcome_of, request_of}
use Rattle.gb_machine.specs.Delivery.{ended}
use Rattle.gb_machine.specs.LawsBus.{is_awaited}
use Rattle.gb_machine.specs.Lists.{lookup, without}
use Rattle.gb_machine.specs.Members.{Each, IsIn}
use Rattle.gb_machine.specs.Requests.{is_given_up, is_of, made_passes, open_on, open_requests}
use Rattle.gb_machine.specs.Requests.{passes}
use Rattle.gb_machine.specs.Wiring.{all_ended, side_ended}

-- ---- how they end

stays-ended : (ns : List ℕ) (n : ℕ) (how : Outcome) (outs : List (ℕ × Outcome)) → lookup n outs
    ≡ Some how
    → lookup n (all_ended ns how outs) ≡ Some how
stays-ended [] n how outs h = h
stays-ended (m ∷ ns) n how outs h = stays-ended ns n how ((m, how) ∷ outs) (by (eqb m n))
  where
    by : (t : Bool) → cond t (Some how) (lookup n outs) ≡ Some how
    by true = refl
    by false = h

ended-all : (ns : List ℕ) (n : ℕ) (how : Outcome) (outs : List (ℕ × Outcome)) → IsIn n ns
    → lookup n (all_ended ns how outs) ≡ Some how
ended-all [] n how outs i = absurd i
ended-all (m ∷ ns) n how outs (inl e) =
    stays-ended ns n how ((m, how) ∷ outs)
    (ap (λ j. lookup j ((m, how) ∷ outs)) e ∙ pair-there m how outs)
ended-all (m ∷ ns) n how outs (inr i) = ended-all ns n how ((m, how) ∷ outs) i

-- of another side nothing ends
other-ends : (k : ℕ) (at : Side) (b : machine.Bus) (n : ℕ) (r : Request) → request_of n b ≡ Some r
    → is_of k at r ≡ false
    → outcome_of n (side_ended k at b) ≡ outcome_of n b
other-ends k at b n r made other =
    lookup-past-all (open_on k at b) n outcome.Disconnected b.outcomes out
  where
    out : IsIn n (open_on k at b) → ⊥
    out i =
        let q = in-open_requests (is_of k at) b n i in
        not-both (is_of k at r) (ap (is_of k at) (same-some r q.0 (sym made ∙ q.1)) ∙ q.2) other

-- of the side the open ones end
own-ends : (k : ℕ) (at : Side) (b : machine.Bus) (n : ℕ) (r : Request) → request_of n b ≡ Some r
    → is_of k at r ≡ true → outcome_of n b ≡ None
    → outcome_of n (side_ended k at b) ≡ Some outcome.Disconnected
own-ends k at b n r made own free =
    ended-all (open_on k at b) n outcome.Disconnected b.outcomes
    (open_requests-in (is_of k at) b n r made own free)

-- and those that had ended stay so
stays-so : (k : ℕ) (at : Side) (b : machine.Bus) (n : ℕ) (o : Outcome) → outcome_of n b ≡ Some o
    → outcome_of n (side_ended k at b) ≡ Some o
stays-so k at b n o e =
    lookup-past-all (open_on k at b) n outcome.Disconnected b.outcomes
    (λ i. clash o (sym (in-open_requests (is_of k at) b n i).3 ∙ e)) ∙ e
  where
    clash : (o : Outcome) → None ≡ Some o → ⊥
    clash o e = absurd cc

-- ---- what is awaited then

-- of the side nothing is
own-unawaited : (k : ℕ) (at : Side) (b : machine.Bus) (n : ℕ) (r : Request) (v : Outcome)
    → request_of n b ≡ Some r → is_of k at r ≡ true
    → outcome_of n (side_ended k at b) ≡ Some v → is_awaited n (side_ended k at b) ≡ false
own-unawaited k at b n r v made own over =
    ap (λ t. t || is_given_up n (side_ended k at b)) (not-open (side_ended k at b) n v over)
    ∙ by (is_given_up n (side_ended k at b)) (λ i. is_given_up n (side_ended k at b))
  where
    by : (t : Bool) → is_given_up n (side_ended k at b) ≡ t → t ≡ false
    by false e = refl
    by true e =
        let i = any-in n (without (passes (is_of k at) b) b.given_up) e in
        absurd (not-both (passes (is_of k at) b n)
        (ap (made_passes (is_of k at)) made ∙ own)
        (in-without (passes (is_of k at) b) b.given_up n i).1)

-- of another side the same is
other-awaited : (k : ℕ) (at : Side) (b : machine.Bus) (n : ℕ) (r : Request)
    → request_of n b ≡ Some r → is_of k at r ≡ false
    → is_awaited n (side_ended k at b) ≡ is_awaited n b
other-awaited k at b n r made other =
    same-test (is_awaited n (side_ended k at b)) (is_awaited n b)
    ((side_ended-before k at b).before n) (side_ended-after k at b n r made other)

-- ---- which slots are of the side

-- a test of the slot of a request that was made
pub slot-of-made : {A : Type 0} (names : List ℕ) (b : machine.Bus) (n : ℕ) (r : Request)
    (f : Option Slot → A) → request_of n b ≡ Some r
    → f (slot_of names n b)
    ≡ f (kept_of n (is_awaited n b) (count n names) (outcome_of n b) (Some r))
slot-of-made names b n r f made =
    ap (λ o. f (kept_of n (is_awaited n b) (count n names) (outcome_of n b) o)) made

-- the slots of open requests of a side are of those
pub open-on-is : (names : List ℕ) (b : machine.Bus) (k n : ℕ) (at : Side)
    → is_open_on k at (slot_of names n b) ≡ true → IsIn n (open_on k at b)
open-on-is names b k n at h = by (request_of n b) (λ i. request_of n b)
  where
    by-slot : (r : Request) → request_of n b ≡ Some r → (o : Option Outcome) → outcome_of n b ≡ o
        → (t : Bool) → is_open_on k at (cond t (Some (kept n (is_awaited n b) (count n names) o r))
        None) ≡ true → IsIn n (open_on k at b)
    by-slot r made None free true g =
        open_requests-in (is_of k at) b n r made (left (is_of k at r) g) free
      where
        left : (u : Bool) → u && true ≡ true → u ≡ true
        left true e = refl
        left false e = e
    by-slot r made (Some v) free true g = absurd (never (is_of k at r) g)
      where
        never : (u : Bool) → u && false ≡ true → ⊥
        never true e = absurd cc
        never false e = absurd cc
    by-slot r made o free false g = absurd cc

    by : (o : Option Request) → request_of n b ≡ o → IsIn n (open_on k at b)
    by None e =
        absurd (not-both (is_open_on k at (slot_of names n b)) h
        (ap (λ o. is_open_on k at (kept_of n (is_awaited n b) (count n names) (outcome_of n b) o))
        e))
    by (Some r) e =
        by-slot r e (outcome_of n b) (λ i. outcome_of n b)
        (is_awaited n b || nat_lt 0 (count n names))
        (sym (slot-of-made names b n r (is_open_on k at) e) ∙ h)

pub is-open-on : (names : List ℕ) (b : machine.Bus) (k n : ℕ) (at : Side) (r : Request)
    → request_of n b ≡ Some r → is_of k at r ≡ true → outcome_of n b ≡ None
    → is_open_on k at (slot_of names n b) ≡ true
is-open-on names b k n at r made own free =
    slot-of-made names b n r (is_open_on k at) made
    ∙ ap (λ a. is_open_on k at (kept_of n a (count n names) (outcome_of n b) (Some r)))
    (ap (λ t. t || is_given_up n b) (is-open n b r made free))
    ∙ ap (λ o. is_open_on k at (kept_of n true (count n names) o (Some r))) free
    ∙ ap (λ t. t && true) own

-- The open requests of a side that the slots list are those that the machine has.
pub opened-on : (x : SlotsKept) (names : List ℕ) (b : machine.Bus) (k : ℕ) (at : Side) (ns : List ℕ)
    → ((n : ℕ) → slot_at x n ≡ slot_of names n b)
    → AreThose (λ n. is_open_on k at (slot_at x n)) ns → ns ≡ open_on k at b
opened-on x names b k at ns tell h =
    those-are (λ n. is_open_on k at (slot_at x n)) ns (open_on k at b) h
    (open_requests-rise (is_of k at) b)
    (λ n e. open-on-is names b k n at (sym (ap (is_open_on k at) (tell n)) ∙ e))
    (λ n i. let q = in-open_requests (is_of k at) b n i in
    ap (is_open_on k at) (tell n) ∙ is-open-on names b k n at q.0 q.1 q.2 q.3)

-- ---- the slots once the side is closed

pub tell_closed : (old new : SlotsKept) (names : List ℕ) (b : machine.Bus) (k : ℕ) (at : Side)
    (unended late : List ℕ)
    → ((n : ℕ) → stands_in n unended ≡ is_open_on k at (slot_at old n))
    → ((n : ℕ) → stands_in n late ≡ is_late_on k at (slot_at old n))
    → ((n : ℕ) → slot_at old n ≡ slot_of names n b)
    → ((n : ℕ) → slot_at new n
    ≡ option_and_then (closes (stands_in n unended) (stands_in n late)) (slot_at old n))
    → (n : ℕ) → slot_at new n ≡ slot_of names n (side_ended k at b)
tell_closed old new names b k at unended late opens lates tell closed n =
    closed n
    ∙ ap (λ t. option_and_then (closes t (stands_in n late)) (slot_at old n))
    (opens n ∙ ap (is_open_on k at) (tell n))
    ∙ ap (λ t. option_and_then (closes (is_open_on k at (slot_of names n b)) t) (slot_at old n))
    (lates n ∙ ap (is_late_on k at) (tell n))
    ∙ ap (option_and_then (closes (is_open_on k at (slot_of names n b))
    (is_late_on k at (slot_of names n b)))) (tell n)
    ∙ by (request_of n b) (λ i. request_of n b)
  where
    c : ℕ
    c = count n names

    a : Bool
    a = is_awaited n b

    close : Option Slot → Option Slot
    close s = option_and_then (closes (is_open_on k at s) (is_late_on k at s)) s

    -- it is of the side
    own : (r : Request) → is_of k at r ≡ true → (u : Bool) (o : Option Outcome)
        → (o ≡ None → u ≡ true)
        → (w : Option Outcome) → (o ≡ None → w ≡ Some outcome.Disconnected)
        → ((v : Outcome) → o ≡ Some v → w ≡ Some v)
        → close (kept_of n u c o (Some r)) ≡ kept_of n false c w (Some r)
    own r is true None on w ends stays =
        ap (λ t. option_and_then (closes (t && true) (t && (false && true)))
        (Some (kept n true c None r))) is
        ∙ sym (ap (λ x. kept_of n false c x (Some r)) (ends refl))
    own r is false None on w ends stays = absurd (clash (on refl))
      where
        clash : false ≡ true → ⊥
        clash e = absurd cc
    own r is true (Some v) on w ends stays =
        ap (λ t. option_and_then (closes (t && false) (t && (true && true)))
        (Some (kept n true c (Some v) r))) is
        ∙ sym (ap (λ x. kept_of n false c x (Some r)) (stays v refl))
    own r is false (Some v) on w ends stays =
        same (nat_lt 0 c) ∙ sym (ap (λ x. kept_of n false c x (Some r)) (stays v refl))
      where
        slot : Slot
        slot = kept n false c (Some v) r

        same : (t : Bool) → close (cond t (Some slot) None) ≡ cond t (Some slot) None
        same false = refl
        same true =
            ap (λ u. option_and_then (closes (u && false) (u && (true && false))) (Some slot)) is

    -- it is of another
    other : (r : Request) → is_of k at r ≡ false → (u : Bool) (o : Option Outcome)
        → close (kept_of n u c o (Some r)) ≡ kept_of n u c o (Some r)
    other r isnt u o = same (u || nat_lt 0 c)
      where
        slot : Slot
        slot = kept n u c o r

        same : (t : Bool) → close (cond t (Some slot) None) ≡ cond t (Some slot) None
        same false = refl
        same true =
            ap (λ t. option_and_then (closes (t && is_none o) (t && (is_some o && u)))
            (Some slot)) isnt

    mine : (r : Request) → request_of n b ≡ Some r → (t : Bool) → is_of k at r ≡ t
        → close (kept_of n a c (outcome_of n b) (Some r))
        ≡ kept_of n (is_awaited n (side_ended k at b)) c (outcome_of n (side_ended k at b)) (Some r)
    mine r made true e =
        own r e a (outcome_of n b)
        (λ f. ap (λ t. t || is_given_up n b) (is-open n b r made f))
        (outcome_of n (side_ended k at b)) (own-ends k at b n r made e)
        (λ v f. stays-so k at b n v f)
        ∙ sym (ap (λ t. kept_of n t c (outcome_of n (side_ended k at b)) (Some r))
        (over (outcome_of n b) (λ i. outcome_of n b)))
      where
        over : (o : Option Outcome) → outcome_of n b ≡ o
            → is_awaited n (side_ended k at b) ≡ false
        over None f =
            own-unawaited k at b n r outcome.Disconnected made e (own-ends k at b n r made e f)
        over (Some v) f = own-unawaited k at b n r v made e (stays-so k at b n v f)
    mine r made false e =
        other r e a (outcome_of n b)
        ∙ sym (ap (λ t. kept_of n t c (outcome_of n (side_ended k at b)) (Some r))
        (other-awaited k at b n r made e)
        ∙ ap (λ o. kept_of n a c o (Some r)) (other-ends k at b n r made e))

    by : (o : Option Request) → request_of n b ≡ o
        → close (slot_of names n b) ≡ slot_of names n (side_ended k at b)
    by None e =
        ap (λ o. close (kept_of n a c (outcome_of n b) o)) e
        ∙ sym (ap (λ o. kept_of n (is_awaited n (side_ended k at b)) c
        (outcome_of n (side_ended k at b)) o) e)
    by (Some r) e =
        ap (λ o. close (kept_of n a c (outcome_of n b) o)) e
        ∙ mine r e (is_of k at r) (λ i. is_of k at r)
        ∙ sym (ap (λ o. kept_of n (is_awaited n (side_ended k at b)) c
        (outcome_of n (side_ended k at b)) o) e)

-- ---- the counts then

-- each of these is open
abbrev Unended : machine.Bus → List ℕ → Type 0
Unended b ns = Each (λ n. is_open n b ≡ true) ns

still-open : (b : machine.Bus) (n : ℕ) (ns : List ℕ) → Each (λ m. n < m) ns → Unended b ns
    → Unended (ended n outcome.Disconnected b) ns
still-open b n [] above all = tt
still-open b n (m ∷ ns) above all = (
  ap (λ o. is_some (request_of m b) && is_none o)
      (lookup-past n m outcome.Disconnected b.outcomes
      (λ e. let low = above.0 in absurd (omega (arith, low, e)))) ∙ all.0,
  still-open b n ns above.1 all.1,
)

pub tells-closed : (ns : List ℕ) (s : Tally) (b : machine.Bus) → Rises ns → Unended b ns
    → Tells s b
    → Tells (all_disconnected ns s)
    (record b { outcomes = all_ended ns outcome.Disconnected b.outcomes })
tells-closed [] s b rises all tells = tells
tells-closed (n ∷ ns) s b rises all tells =
    tells-closed ns (one_ended outcome.Disconnected s) (ended n outcome.Disconnected b) rises.1
    (still-open b n ns rises.0 all.1)
    (tells-ended s (one_ended outcome.Disconnected s) b (ended n outcome.Disconnected b) n
    outcome.Disconnected all.0 refl (pair-there n outcome.Disconnected b.outcomes)
    (λ m other. lookup-past n m outcome.Disconnected b.outcomes (λ e. other (sym e))) refl tells)

-- the open requests of a side are open
side-unended : (b : machine.Bus) (ns : List ℕ) (test : Request → Bool)
    → ((n : ℕ) → IsIn n ns → IsIn n (open_requests test b)) → Unended b ns
side-unended b [] test all = tt
side-unended b (n ∷ ns) test all =
    let q = in-open_requests test b n (all n (inl refl)) in
    (is-open n b q.0 q.1 q.3, side-unended b ns test (λ m i. all m (inr i)))

-- The counts once a side is closed.
pub tells-side : (s : Tally) (b : machine.Bus) (k : ℕ) (at : Side) → Tells s b
    → Tells (all_disconnected (open_on k at b) s) (side_ended k at b)
tells-side s b k at tells =
    tells-same (all_disconnected (open_on k at b) s)
    (record b { outcomes = all_ended (open_on k at b) outcome.Disconnected b.outcomes })
    (side_ended k at b) refl (λ m. refl)
    (tells-closed (open_on k at b) s b (open_requests-rise (is_of k at) b)
    (side-unended b (open_on k at b) (is_of k at) (λ n i. i)) tells)

-- the slots of these say that they are open
pub are-open : (x : SlotsKept) (names : List ℕ) (b : machine.Bus) (k : ℕ) (at : Side) (ns : List ℕ)
    → ((n : ℕ) → slot_at x n ≡ slot_of names n b)
    → AreThose (λ n. is_open_on k at (slot_at x n)) ns → AreOpen ns x
are-open x names b k at ns tell h = record {
  rises = h.rises;
  each = by ns (λ n i. h.each n ∙ refl) (λ n i. i);
}
  where
    weaker : (o : Option Slot) → is_open_on k at o ≡ true → is_open_slot o ≡ true
    weaker None e = absurd cc
    weaker (Some s) e = right (is_on k at s) (is_none s.outcome) e
      where
        right : (u v : Bool) → u && v ≡ true → v ≡ true
        right true v e = e
        right false v e = absurd cc

    by : (ms : List ℕ) → ((n : ℕ) → IsIn n ms → stands_in n ns ≡ is_open_on k at (slot_at x n))
        → ((n : ℕ) → IsIn n ms → IsIn n ns) → Each (λ n. is_open_slot (slot_at x n) ≡ true) ms
    by [] e all = tt
    by (m ∷ ms) e all = (
      weaker (slot_at x m) (sym (e m (inl refl)) ∙ in-any m ns (all m (inl refl))),
      by ms (λ n i. e n (inr i)) (λ n i. all n (inr i)),
    )
