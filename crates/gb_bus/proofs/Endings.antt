-- What the slots say of a request, and once it ended.
use Rattle.std.proofs.Common.{◌≡◌, ◌≢◌, ◌<◌, ◌⊎◌, ℕ, Bool, true, false, cond, ◌&&◌, ◌||◌, not}
use Rattle.std.proofs.Common.{is_none, is_some, Option, Some, None, option_and_then, List, [], ◌∷◌}
use Rattle.std.proofs.Common.{refl, sym, ap, ◌∙◌, eqb, arith, subst, nat_lt}
use Rattle.std.proofs.lemmas.Bool.Decides.{nat_tests}
use Rattle.std.specs.List.{filter, list_any}
use Rattle.gb_base.specs.declared.outcome.Outcome.{Outcome}
use Rattle.gb_bus.proofs.Counted.{tells-ended, tells-same}
use Rattle.gb_bus.proofs.SlotLaws.{here-ends, here-forgets, here-gives_up, tell_moved}
use Rattle.gb_bus.proofs.Standing.{AreShown}
use Rattle.gb_bus.specs.Counting.{Tells, one_ended}
use Rattle.gb_bus.specs.Listing.{count}
use Rattle.gb_bus.specs.Slots.{SlotsKept, MovesAt, ended_at, ends_so, forgets, gives_up_so}
use Rattle.gb_bus.specs.Slots.{is_open_slot}
use Rattle.gb_bus.specs.Slots.{open_place, slot_at}
use Rattle.gb_bus.specs.Stands.{KeepSides, Shows, kept, kept_of, slot_of}
use Rattle.gb_bus.specs.Taking.{open_kind}
use Rattle.gb_bus.specs.declared.bus.Bus.{Bus}
use Rattle.gb_bus.specs.Connection.{Connection}
use Rattle.gb_invariants.proofs.Awaiting.{ended-after, ended-before, forgotten-after}
use Rattle.gb_invariants.proofs.Awaiting.{forgotten-before, gave_up-after, gave_up-before, is-open}
use Rattle.gb_invariants.proofs.Awaiting.{not-both, opened}
use Rattle.gb_invariants.proofs.Lists.{in-filter}
use Rattle.gb_invariants.proofs.Outcomes.{any-in, is-same, lookup-past, pair-there}
use Rattle.gb_invariants.specs.Facts.{OutcomesFit}
use Rattle.gb_machine.specs.Bus as machine
use Rattle.gb_machine.specs.Bus.{Request, is_open, outcome_of, request_of}
use Rattle.gb_machine.specs.Delivery.{ended, forgotten}
use Rattle.gb_machine.specs.LawsBus.{is_awaited}
use Rattle.gb_machine.specs.Lists.{lookup}
use Rattle.gb_machine.specs.Requests.{gave_up, is_given_up}

-- ---- one number

-- numbers that aren't one
pub apart-tests : (m n : ℕ) → n < m ⊎ m < n → eqb m n ≡ false
apart-tests m n h = grind (arith, nat_tests, h)

-- behind a new pair a lookup of another number goes on
pub lookup-other : (m n : ℕ) (v : Outcome) (outs : List (ℕ × Outcome)) → n < m ⊎ m < n
    → lookup n ((m, v) ∷ outs) ≡ lookup n outs
lookup-other m n v outs h = ap (λ b. cond b (Some v) (lookup n outs)) (apart-tests m n h)

pub lookup-same : (n : ℕ) (v : Outcome) (outs : List (ℕ × Outcome)) → lookup n ((n, v) ∷ outs)
    ≡ Some v
lookup-same n v outs = pair-there n v outs

-- two tests say the same where each passes with the other
pub same-test : (a b : Bool) → (a ≡ true → b ≡ true) → (b ≡ true → a ≡ true) → a ≡ b
same-test true b f g = sym (f refl)
same-test false true f g = absurd (clash (g refl))
  where
    clash : false ≡ true → ⊥
    clash e = absurd cc
same-test false false f g = refl

-- ---- what is awaited

-- a request that has an outcome is not open
pub not-open : (b : machine.Bus) (n : ℕ) (v : Outcome) → outcome_of n b ≡ Some v
    → is_open n b ≡ false
not-open b n v e = by (is_some (request_of n b)) ∙ ap (λ o. is_none o && is_none o) e
  where
    by : (t : Bool) → t && is_none (outcome_of n b)
        ≡ (is_none (outcome_of n b) && is_none (outcome_of n b))
    by true = both (is_none (outcome_of n b))
      where
        both : (u : Bool) → u ≡ u && u
        both true = refl
        both false = refl
    by false = sym (ap (λ o. is_none o && is_none o) e)

-- an open request wasn't given up
pub not-given_up : (b : machine.Bus) (n : ℕ) → OutcomesFit b → is_open n b ≡ true
    → is_given_up n b ≡ false
not-given_up b n fits unended = by (is_given_up n b) (λ i. is_given_up n b)
  where
    by : (t : Bool) → is_given_up n b ≡ t → t ≡ false
    by false e = refl
    by true e =
        absurd (not-both (is_some (outcome_of n b)) (fits.given n e)
        (ap is_some (opened n b unended).2))

pub ended-unawaited : (b : machine.Bus) (n : ℕ) (how : Outcome) → OutcomesFit b
    → is_open n b ≡ true → is_awaited n (ended n how b) ≡ false
ended-unawaited b n how fits unended =
    ap (λ t. t || is_given_up n b) (not-open (ended n how b) n how (pair-there n how b.outcomes))
    ∙ not-given_up b n fits unended

pub ended-others : (b : machine.Bus) (n : ℕ) (how : Outcome) (m : ℕ) → m ≢ n
    → is_awaited m (ended n how b) ≡ is_awaited m b
ended-others b n how m other =
    same-test (is_awaited m (ended n how b)) (is_awaited m b) ((ended-before n how b).before m)
    (ended-after n how b m (λ e. other (sym e)))

pub gave_up-awaited : (b : machine.Bus) (n : ℕ) (how : Outcome) → is_open n b ≡ true
    → is_awaited n (gave_up n how b) ≡ true
gave_up-awaited b n how unended =
    gave_up-after n how b n (ap (λ t. t || is_given_up n b) unended)

pub gave_up-others : (b : machine.Bus) (n : ℕ) (how : Outcome) → is_open n b ≡ true → (m : ℕ)
    → is_awaited m (gave_up n how b) ≡ is_awaited m b
gave_up-others b n how unended m =
    same-test (is_awaited m (gave_up n how b)) (is_awaited m b)
    ((gave_up-before n how b unended).before m) (gave_up-after n how b m)

pub forgotten-unawaited : (b : machine.Bus) (n : ℕ) → is_open n b ≡ false
    → is_awaited n (forgotten n b) ≡ false
forgotten-unawaited b n over =
    ap (λ t. t || is_given_up n (forgotten n b)) over
    ∙ by (is_given_up n (forgotten n b)) (λ i. is_given_up n (forgotten n b))
  where
    by : (t : Bool) → is_given_up n (forgotten n b) ≡ t → t ≡ false
    by false e = refl
    by true e =
        let i = any-in n (filter (λ m. not (eqb m n)) b.given_up) e in
        absurd (not-both (not (eqb n n)) (in-filter (λ m. not (eqb m n)) b.given_up n i).1
        (ap not (is-same n)))

pub forgotten-others : (b : machine.Bus) (n m : ℕ) → m ≢ n
    → is_awaited m (forgotten n b) ≡ is_awaited m b
forgotten-others b n m other =
    same-test (is_awaited m (forgotten n b)) (is_awaited m b) ((forgotten-before n b).before m)
    (forgotten-after n b m (λ e. other (sym e)))

-- ---- what the slots say

-- the slot of an open request is that
open-slot : (names : List ℕ) (b : machine.Bus) (n : ℕ) → is_open n b ≡ true
    → is_open_slot (slot_of names n b) ≡ true
open-slot names b n unended =
    let w = opened n b unended in
    ap (λ a. is_open_slot (kept_of n a (count n names) (outcome_of n b) (request_of n b)))
    (ap (λ t. t || is_given_up n b) unended)
    ∙ ap (λ o. is_open_slot (kept_of n true (count n names) o (request_of n b))) w.2
    ∙ ap (λ o. is_open_slot (kept_of n true (count n names) None o)) w.1

-- the counts once an open request ended
counts-are : (names : List ℕ) (x : SlotsKept) (y : SlotsKept) (b : machine.Bus) (n : ℕ)
    (how : Outcome)
    → is_open n b ≡ true → slot_at x n ≡ slot_of names n b → y.tally ≡ ended_at n how x
    → y.tally ≡ one_ended how x.tally
counts-are names x y b n how unended is counts =
    counts
    ∙ ap (λ t. cond t (one_ended how x.tally) x.tally)
    (ap is_open_slot is ∙ open-slot names b n unended)

-- a request ended, and with it what its side keeps
pub shows-ended : (names : List ℕ) (x : Bus) (b : machine.Bus) (n : ℕ) (how : Outcome)
    (xs : List Connection) (y : SlotsKept) → OutcomesFit b → is_open n b ≡ true
    → AreShown b.requests xs b.connections → KeepSides xs (ended n how b)
    → MovesAt n (ends_so how) (ended_at n how x.slots) x.slots y → Shows names x b
    → Shows names (record x { connections = xs; slots = y }) (ended n how b)
shows-ended names x b n how xs y fits unended shown sides moves s = record {
  made = s.made;
  connections = shown;
  sides = sides;
  slots = tell_moved x.slots y n (ends_so how) names names b.requests (λ m. is_awaited m b)
      (λ m. is_awaited m (ended n how b)) (λ m. outcome_of m b)
      (λ m. outcome_of m (ended n how b)) (record {
        here = λ r made. here-ends n (count n names) (is_awaited n b)
            (is_awaited n (ended n how b)) (outcome_of n b) (outcome_of n (ended n how b)) how r
            (ap (λ t. t || is_given_up n b) unended) (opened n b unended).2
            (ended-unawaited b n how fits unended) (pair-there n how b.outcomes);
        awaits = ended-others b n how;
        counts = λ m other. refl;
        ends = λ m other. lookup-past n m how b.outcomes (λ e. other (sym e));
      }) moves.at s.slots;
  tally = tells-ended x.slots.tally y.tally b (ended n how b) n how unended refl
      (pair-there n how b.outcomes)
      (λ m other. lookup-past n m how b.outcomes (λ e. other (sym e)))
      (counts-are names x.slots y b n how unended (s.slots n) moves.tally_is) s.tally;
}

-- or was given up
pub shows-gave_up : (names : List ℕ) (x : Bus) (b : machine.Bus) (n : ℕ) (how : Outcome)
    (xs : List Connection) (y : SlotsKept) → is_open n b ≡ true
    → AreShown b.requests xs b.connections → KeepSides xs (gave_up n how b)
    → MovesAt n (gives_up_so how) (ended_at n how x.slots) x.slots y → Shows names x b
    → Shows names (record x { connections = xs; slots = y }) (gave_up n how b)
shows-gave_up names x b n how xs y unended shown sides moves s = record {
  made = s.made;
  connections = shown;
  sides = sides;
  slots = tell_moved x.slots y n (gives_up_so how) names names b.requests (λ m. is_awaited m b)
      (λ m. is_awaited m (gave_up n how b)) (λ m. outcome_of m b)
      (λ m. outcome_of m (gave_up n how b)) (record {
        here = λ r made. here-gives_up n (count n names) (is_awaited n b)
            (is_awaited n (gave_up n how b)) (outcome_of n b) (outcome_of n (gave_up n how b))
            how r (ap (λ t. t || is_given_up n b) unended) (opened n b unended).2
            (gave_up-awaited b n how unended) (pair-there n how b.outcomes);
        awaits = λ m other. gave_up-others b n how unended m;
        counts = λ m other. refl;
        ends = λ m other. lookup-past n m how b.outcomes (λ e. other (sym e));
      }) moves.at s.slots;
  tally = tells-ended x.slots.tally y.tally b (gave_up n how b) n how unended refl
      (pair-there n how b.outcomes)
      (λ m other. lookup-past n m how b.outcomes (λ e. other (sym e)))
      (counts-are names x.slots y b n how unended (s.slots n) moves.tally_is) s.tally;
}

-- or was forgotten, having ended
pub shows-forgotten : (names : List ℕ) (x : Bus) (b : machine.Bus) (n : ℕ) (xs : List Connection)
    (y : SlotsKept) → is_open n b ≡ false
    → AreShown b.requests xs b.connections → KeepSides xs (forgotten n b)
    → MovesAt n forgets x.slots.tally x.slots y → Shows names x b
    → Shows names (record x { connections = xs; slots = y }) (forgotten n b)
shows-forgotten names x b n xs y over shown sides moves s = record {
  made = s.made;
  connections = shown;
  sides = sides;
  slots = tell_moved x.slots y n forgets names names b.requests (λ m. is_awaited m b)
      (λ m. is_awaited m (forgotten n b)) (λ m. outcome_of m b)
      (λ m. outcome_of m (forgotten n b)) (record {
        here = λ r made. by (outcome_of n b) (λ i. outcome_of n b) r made;
        awaits = forgotten-others b n;
        counts = λ m other. refl;
        ends = λ m other. refl;
      }) moves.at s.slots;
  tally = subst (λ t. Tells t (forgotten n b)) (sym moves.tally_is)
      (tells-same x.slots.tally b (forgotten n b) refl (λ m. refl) s.tally);
}
  where
    by : (o : Option Outcome) → outcome_of n b ≡ o → (r : Request) → request_of n b ≡ Some r
        → option_and_then forgets
        (kept_of n (is_awaited n b) (count n names) (outcome_of n b) (Some r))
        ≡ kept_of n (is_awaited n (forgotten n b)) (count n names) (outcome_of n b) (Some r)
    by None e r made =
        absurd (not-both (is_open n b) (is-open n b r made e) over)
    by (Some v) e r made =
        here-forgets n (count n names) (is_awaited n b) (is_awaited n (forgotten n b))
        (outcome_of n b) (outcome_of n b) v r e (forgotten-unawaited b n over) refl

-- a request that wasn't given up isn't forgotten
pub nothing-forgotten : (b : machine.Bus) (n : ℕ) → is_given_up n b ≡ false → forgotten n b ≡ b
nothing-forgotten b n h = ap (λ ns. record b { given_up = ns }) (all-stay b.given_up h)
  where
    all-stay : (ns : List ℕ) → list_any (λ m. eqb m n) ns ≡ false
        → filter (λ m. not (eqb m n)) ns ≡ ns
    all-stay [] e = refl
    all-stay (m ∷ ns) e = by (eqb m n) e (all-stay ns)
      where
        by : (t : Bool) → t || list_any (λ j. eqb j n) ns ≡ false
            → (list_any (λ j. eqb j n) ns ≡ false → filter (λ j. not (eqb j n)) ns ≡ ns)
            → cond (not t) (m ∷ filter (λ j. not (eqb j n)) ns) (filter (λ j. not (eqb j n)) ns)
            ≡ m ∷ ns
        by true e later = absurd cc
        by false e later = ap (λ js. m ∷ js) (later e)

-- ---- what is said of a request by its slot

pub data Said (names : List ℕ) (b : machine.Bus) (n : ℕ) : Type 0 where
  still : (r : Request) → request_of n b ≡ Some r → is_open n b ≡ true
      → open_kind (slot_of names n b) ≡ Some r.kind
      → open_place (slot_of names n b) ≡ Some (r.connection, r.side) → Said names b n
  over : is_open n b ≡ false → open_kind (slot_of names n b) ≡ None
      → open_place (slot_of names n b) ≡ None → Said names b n

said_by : (names : List ℕ) (b : machine.Bus) (n : ℕ) (o : Option Request) → request_of n b ≡ o
    → (w : Option Outcome) → outcome_of n b ≡ w → Said names b n
said_by names b n None e w f =
    over (ap (λ o. is_some o && is_none (outcome_of n b)) e)
    (ap (λ o. open_kind (kept_of n (is_awaited n b) (count n names) (outcome_of n b) o)) e)
    (ap (λ o. open_place (kept_of n (is_awaited n b) (count n names) (outcome_of n b) o)) e)
said_by names b n (Some r) e None f =
    let unended : is_open n b ≡ true = is-open n b r e f in
    let is : slot_of names n b ≡ Some (kept n true (count n names) None r) =
    ap (λ a. kept_of n a (count n names) (outcome_of n b) (request_of n b))
    (ap (λ t. t || is_given_up n b) unended)
    ∙ ap (λ w. kept_of n true (count n names) w (request_of n b)) f
    ∙ ap (λ o. kept_of n true (count n names) None o) e in
    still r e unended (ap open_kind is) (ap open_place is)
said_by names b n (Some r) e (Some v) f =
    let is : slot_of names n b ≡ kept_of n (is_awaited n b) (count n names) (Some v) (Some r) =
    ap (λ w. kept_of n (is_awaited n b) (count n names) w (request_of n b)) f
    ∙ ap (λ o. kept_of n (is_awaited n b) (count n names) (Some v) o) e in
    over (ap (λ o. is_some o && is_none (outcome_of n b)) e ∙ ap is_none f)
    (ap open_kind is ∙ no-kind (is_awaited n b || nat_lt 0 (count n names)))
    (ap open_place is ∙ no-place (is_awaited n b || nat_lt 0 (count n names)))
  where
    no-kind : (t : Bool)
        → open_kind (cond t (Some (kept n (is_awaited n b) (count n names) (Some v) r)) None)
        ≡ None
    no-kind true = refl
    no-kind false = refl

    no-place : (t : Bool)
        → open_place (cond t (Some (kept n (is_awaited n b) (count n names) (Some v) r)) None)
        ≡ None
    no-place true = refl
    no-place false = refl

pub said : (names : List ℕ) (b : machine.Bus) (n : ℕ) → Said names b n
said names b n = said_by names b n (request_of n b) refl (outcome_of n b) refl
