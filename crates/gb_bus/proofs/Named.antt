-- What names do, and what is told of a request that something asks for.
use Rattle.std.proofs.Common.{◌≡◌, ◌≢◌, ◌≤◌, ◌<◌, ℕ, ◌+◌, ◌-◌, Bool, true, false, cond, Option}
use Rattle.std.proofs.Common.{Some, None, option_and_then, is_some, List, [], ◌∷◌, length, eqb}
use Rattle.std.proofs.Common.{refl, sym, ap, ◌∙◌, arith, subst}
use Rattle.std.proofs.lemmas.Bool.Decides.{nat_tests}
use Rattle.gb_bus.proofs.SlotLaws.{here-named, here-unnamed, tell_moved}
use Rattle.gb_bus.specs.Counting.{Tells}
use Rattle.gb_bus.specs.Listing.{count}
use Rattle.gb_bus.specs.Naming.{KeepsAs, asked_for, is_asked_for, with_name, without_name}
use Rattle.gb_bus.specs.Naming.{without_one}
use Rattle.gb_bus.specs.Slots.{SlotsKept, MovesAt, gets_name, loses_name, most_names}
use Rattle.gb_bus.specs.Stands.{AreMade, Around, Stands, around_of, kept, kept_of, slot_of}
use Rattle.gb_bus.specs.declared.bus.Bus.{Bus}
use Rattle.gb_bus.specs.declared.slots.Slot.{Slot}
use Rattle.gb_invariants.proofs.Outcomes.{is-same}
use Rattle.gb_machine.specs.Bus as machine
use Rattle.gb_machine.specs.Bus.{Request, outcome_of, request_of}
use Rattle.gb_machine.specs.LawsBus.{is_awaited}

-- ---- how often a number stands in a list

count-most : (n : ℕ) (ns : List ℕ) → count n ns ≤ length ns
count-most n [] = omega arith
count-most n (m ∷ ns) = by (eqb m n) (count-most n ns)
  where
    by : (t : Bool) → count n ns ≤ length ns
        → cond t (count n ns + 1) (count n ns) ≤ length (m ∷ ns)
    by true h = omega (arith, h)
    by false h = omega (arith, h)

count-first : (n : ℕ) (ns : List ℕ) → count n (n ∷ ns) ≡ count n ns + 1
count-first n ns = ap (λ t. cond t (count n ns + 1) (count n ns)) (is-same n)

count-other : (n m : ℕ) (ns : List ℕ) → m ≢ n → count m (n ∷ ns) ≡ count m ns
count-other n m ns other =
    let t : eqb n m ≡ false = grind (arith, nat_tests, other) in
    ap (λ u. cond u (count m ns + 1) (count m ns)) t

count-less : (n : ℕ) (ns : List ℕ) → count n (without_one n ns) ≡ count n ns - 1
count-less n [] = refl
count-less n (m ∷ ns) = by (eqb m n) (λ i. eqb m n) (count-less n ns)
  where
    by : (t : Bool) → eqb m n ≡ t → count n (without_one n ns) ≡ count n ns - 1
        → count n (cond t ns (m ∷ without_one n ns))
        ≡ cond t (count n ns + 1) (count n ns) - 1
    by true e later = omega arith
    by false e later =
        ap (λ u. cond u (count n (without_one n ns) + 1) (count n (without_one n ns))) e ∙ later

count-still : (n m : ℕ) (ns : List ℕ) → m ≢ n → count m (without_one n ns) ≡ count m ns
count-still n m [] other = refl
count-still n m (k ∷ ns) other = by (eqb k n) (λ i. eqb k n) (count-still n m ns other)
  where
    by : (t : Bool) → eqb k n ≡ t → count m (without_one n ns) ≡ count m ns
        → count m (cond t ns (k ∷ without_one n ns)) ≡ count m (k ∷ ns)
    by true e later =
        let u : eqb k m ≡ false = grind (arith, nat_tests, other, e) in
        sym (ap (λ t. cond t (count m ns + 1) (count m ns)) u)
    by false e later = ap (λ c. cond (eqb k m) (c + 1) c) later

fewer-made : (n : ℕ) (ns : List ℕ) (b : machine.Bus) → AreMade ns b
    → AreMade (without_one n ns) b
fewer-made n [] b made = tt
fewer-made n (m ∷ ns) b made = by (eqb m n) (fewer-made n ns b made.1)
  where
    by : (t : Bool) → AreMade (without_one n ns) b → AreMade (cond t ns (m ∷ without_one n ns)) b
    by true later = made.1
    by false later = (made.0, later)

-- ---- a name more

-- the slots where a request that is asked for has one more name
named-more : (around : Around) (x : Bus) (y : SlotsKept) (b : machine.Bus) (n : ℕ)
    → Stands around x b
    → length around.names < most_names → MovesAt n gets_name x.slots.tally x.slots y
    → is_some (asked_for around.names n b) ≡ true
    → Stands (with_name n around) (record x { slots = y }) b
named-more around x y b n s room moves asked = record {
  shows = record {
    made = s.shows.made;
    connections = s.shows.connections;
    sides = s.shows.sides;
    slots = tell_moved x.slots y n gets_name around.names (n ∷ around.names) b.requests
        (λ m. is_awaited m b) (λ m. is_awaited m b) (λ m. outcome_of m b) (λ m. outcome_of m b)
        (record {
          here = λ r made. here-named n (count n around.names) (count n (n ∷ around.names))
              (is_awaited n b) (outcome_of n b) r (asks (is_asked_for around.names n b) asked)
              (let most = count-most n around.names in omega (arith, most, room))
              (count-first n around.names);
          awaits = λ m other. refl;
          counts = λ m other. count-other n m around.names other;
          ends = λ m other. refl;
        }) moves.at s.shows.slots;
    tally = subst (λ t. Tells t b) (sym moves.tally_is) s.shows.tally;
  };
  named = (made (is_asked_for around.names n b) asked, s.named);
  facts = s.facts;
}
  where
    asks : (t : Bool) → is_some (cond t (request_of n b) None) ≡ true → t ≡ true
    asks true e = refl
    asks false e = absurd cc

    made : (t : Bool) → is_some (cond t (request_of n b) None) ≡ true
        → is_some (request_of n b) ≡ true
    made true e = e
    made false e = absurd cc

-- a request that isn't asked for has no slot
no-slot : (names : List ℕ) (b : machine.Bus) (n : ℕ) → is_some (asked_for names n b) ≡ false
    → slot_of names n b ≡ None
no-slot names b n h = by (request_of n b) (λ i. request_of n b)
  where
    none : (r : Request) (t : Bool) → is_some (cond t (Some r) None) ≡ false
        → cond t (Some (kept n (is_awaited n b) (count n names) (outcome_of n b) r)) None ≡ None
    none r true e = absurd cc
    none r false e = refl

    by : (o : Option Request) → request_of n b ≡ o → slot_of names n b ≡ None
    by None e =
        ap (kept_of n (is_awaited n b) (count n names) (outcome_of n b)) e
    by (Some r) e =
        ap (kept_of n (is_awaited n b) (count n names) (outcome_of n b)) e
        ∙ none r (is_asked_for names n b)
        (sym (ap (λ o. is_some (cond (is_asked_for names n b) o None)) e) ∙ h)

-- nothing changes where it isn't
named-none : (around : Around) (x : Bus) (y : SlotsKept) (b : machine.Bus) (n : ℕ)
    → Stands around x b → MovesAt n gets_name x.slots.tally x.slots y
    → is_some (asked_for around.names n b) ≡ false → Stands around (record x { slots = y }) b
named-none around x y b n s moves none = record {
  shows = record {
    made = s.shows.made;
    connections = s.shows.connections;
    sides = s.shows.sides;
    slots = tell_moved x.slots y n gets_name around.names around.names b.requests
        (λ m. is_awaited m b) (λ m. is_awaited m b) (λ m. outcome_of m b) (λ m. outcome_of m b)
        (record {
          here = λ r made. same (kept_of n (is_awaited n b) (count n around.names)
              (outcome_of n b) (Some r)) (slot-none r made);
          awaits = λ m other. refl;
          counts = λ m other. refl;
          ends = λ m other. refl;
        }) moves.at s.shows.slots;
    tally = subst (λ t. Tells t b) (sym moves.tally_is) s.shows.tally;
  };
  named = s.named;
  facts = s.facts;
}
  where
    slot-none : (r : Request) → request_of n b ≡ Some r
        → kept_of n (is_awaited n b) (count n around.names) (outcome_of n b) (Some r) ≡ None
    slot-none r made =
        sym (ap (kept_of n (is_awaited n b) (count n around.names) (outcome_of n b)) made)
        ∙ no-slot around.names b n none

    same : (o : Option Slot) → o ≡ None → option_and_then gets_name o ≡ o
    same None e = refl
    same (Some slot) e = absurd cc

pub keeps : (around : Around) (x : Bus) (y : SlotsKept) (b : machine.Bus) (n : ℕ)
    → Stands around x b
    → MovesAt n gets_name x.slots.tally x.slots y → KeepsAs around (record x { slots = y }) n b
keeps around x y b n s moves room =
    by (is_some (asked_for around.names n b)) (λ i. is_some (asked_for around.names n b))
  where
    by : (t : Bool) → is_some (asked_for around.names n b) ≡ t
        → Stands (cond t (with_name n around) around) (record x { slots = y }) b
    by true e = named-more around x y b n s room moves e
    by false e = named-none around x y b n s moves e

-- ---- a name less

pub looses : (around : Around) (x : Bus) (y : SlotsKept) (b : machine.Bus) (n : ℕ)
    → Stands around x b
    → MovesAt n loses_name x.slots.tally x.slots y
    → Stands (without_name n around) (record x { slots = y }) b
looses around x y b n s moves = record {
  shows = record {
    made = s.shows.made;
    connections = s.shows.connections;
    sides = s.shows.sides;
    slots = tell_moved x.slots y n loses_name around.names (without_one n around.names) b.requests
        (λ m. is_awaited m b) (λ m. is_awaited m b) (λ m. outcome_of m b) (λ m. outcome_of m b)
        (record {
          here = λ r made. here-unnamed n (count n around.names)
              (count n (without_one n around.names)) (is_awaited n b) (outcome_of n b) r
              (count-less n around.names);
          awaits = λ m other. refl;
          counts = λ m other. count-still n m around.names other;
          ends = λ m other. refl;
        }) moves.at s.shows.slots;
    tally = subst (λ t. Tells t b) (sym moves.tally_is) s.shows.tally;
  };
  named = fewer-made n around.names b s.named;
  facts = s.facts;
}

-- ---- names that are alike

-- A bus stands for the same with other names, where each number stands in them as often.
pub alike : (around : Around) (names : List ℕ) (x : Bus) (b : machine.Bus)
    → ((n : ℕ) → count n names ≡ count n around.names) → AreMade names b → Stands around x b
    → Stands (around_of around.items names) x b
alike around names x b same made s = record {
  shows = record {
    made = s.shows.made;
    connections = s.shows.connections;
    sides = s.shows.sides;
    slots = λ n. s.shows.slots n
        ∙ ap (λ c. kept_of n (is_awaited n b) c (outcome_of n b) (request_of n b)) (sym (same n));
    tally = s.shows.tally;
  };
  named = made;
  facts = s.facts;
}
