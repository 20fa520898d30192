-- An answer that goes by the number of its request, on a clean connection.
use Rattle.std.proofs.Common.{◌≡◌, ℕ, ◌==◌, Bool, true, false, cond, ◌||◌, inl, not, Option, Some}
use Rattle.std.proofs.Common.{None, option_and_then, List, ◌∷◌, refl, sym, ap, ◌∙◌, arith, subst}
use Rattle.std.specs.List.{find}
use Rattle.gb_base.specs.declared.end.Side.{Side}
use Rattle.gb_bus.proofs.Cancels.{is-own}
use Rattle.gb_bus.proofs.Endings.{Said, nothing-forgotten, over, said, still}
use Rattle.gb_bus.proofs.Loosening.{fits-without}
use Rattle.gb_bus.proofs.ConnectionChanges.{shown-changed}
use Rattle.gb_bus.proofs.Sides.{match-late, match-none, match-open, sides-ended, sides-forgotten}
use Rattle.gb_bus.proofs.Standing.{AreShown}
use Rattle.gb_bus.proofs.Taken.{Taken, loose_at, stands-ended, stands-forgotten}
use Rattle.gb_bus.specs.Connection.{Connection}
use Rattle.gb_bus.specs.Delivering.{Brings, taken_at}
use Rattle.gb_bus.specs.Moving.{Answers, ChangesRequest}
use Rattle.gb_bus.specs.Parts.{numbered, ops_of}
use Rattle.gb_bus.specs.Sides.{ChangesSide, IsNotOf, MatchesIn, is_other}
use Rattle.gb_bus.specs.Slots.{ended_at, ends_so, forgets, slot_at}
use Rattle.gb_bus.specs.Stands.{Around, KeepSides, slot_of}
use Rattle.gb_bus.specs.Taking.{open_kind, shown}
use Rattle.gb_bus.specs.declared.answers.Arrival.{Arrival}
use Rattle.gb_bus.specs.declared.answers.Arrival.TheVariants as arrival
use Rattle.gb_bus.specs.declared.bus.Bus.{Bus}
use Rattle.gb_invariants.proofs.Awaiting.{not-both, same-some}
use Rattle.gb_invariants.proofs.Changes.{none-counted-answers}
use Rattle.gb_invariants.proofs.Counts.{one, times-cons}
use Rattle.gb_invariants.proofs.ItemChanges.{NoneAnswers}
use Rattle.gb_invariants.proofs.Outcomes.{is-same, same-number}
use Rattle.gb_invariants.specs.Facts.{BusFits, Loose, times_in}
use Rattle.gb_machine.specs.Bus as machine
use Rattle.gb_machine.specs.Bus.{Place, Request, is_open, request_of}
use Rattle.gb_machine.specs.Delivery.{answered, forgotten}
use Rattle.gb_machine.specs.LawsBus.{is_awaited, is_item_of}
use Rattle.gb_machine.specs.Requests.{is_given_up, is_of}
use Rattle.gb_ops.specs.Calls.{Ends, Forgets}
use Rattle.gb_ops.specs.Operations.{Operations, holder_of}
use Rattle.gb_ops.specs.declared.entries.Matched.{Matched}
use Rattle.gb_ops.specs.declared.entries.Matched.TheVariants as matched

-- no other item has the number of the one that was taken
alone : (loose : List Loose) (p : Place) (b : machine.Bus) (n code : ℕ) (bytes : List ℕ)
    → BusFits (loose_at p (machine.Reply n code bytes) ∷ loose) (taken_at p b)
    → times_in (is_item_of n) loose (taken_at p b) ≡ 0
alone loose p b n code bytes h =
    let most = h.ones n in
    let first_one = times-cons (λ (l : Loose). is_item_of n l.item)
    (loose_at p (machine.Reply n code bytes)) loose in
    let it : one (λ (l : Loose). is_item_of n l.item) (loose_at p (machine.Reply n code bytes))
    ≡ 1 =
    ap (λ t. cond t 1 0) (is-same n) in
    omega (arith, most, first_one, it)

-- nothing that was taken answers the request of a reply any more
none-answers : (around : Around) (y : Bus) (p : Place) (b : machine.Bus) (n r : ℕ)
    (bytes : List ℕ) → Taken around y p b (machine.Reply n r bytes)
    → NoneAnswers around.items (taken_at p b) n
none-answers around y p b n r bytes t =
    none-counted-answers around.items (taken_at p b) n (alone around.items p b n r bytes t.fits)

-- the same change, for the request that was asked for
of-asked : (xs ys : List Connection) (k : ℕ) (at : Side) (n j : ℕ)
    (R : ℕ → Operations → Operations → Type 0)
    → ChangesSide xs ys k at (λ u v. (is_other (Some n) j ≡ false) × R j u v)
    → ChangesSide xs ys k at (R n)
of-asked xs ys k at n j R d =
    let same : n ≡ j = equal (n == j) d.did.0 refl in record {
      connection = d.connection;
      after = d.after;
      found = d.found;
      did = subst (λ i. R i (ops_of at d.connection) d.after) (sym same) d.did.1;
      rest = d.rest;
    }
  where
    equal : (t : Bool) → not t ≡ false → (n == j) ≡ t → n ≡ j
    equal true e f = same-number n j f
    equal false e f = absurd cc

-- an answer ended its request
answers-open : (around : Around) (y z : Bus) (b : machine.Bus) (p : Place) (n label r : ℕ)
    (bytes : List ℕ) (q : Request) (a : Arrival)
    → Taken around y p b (machine.Reply n r bytes) → p.connection.clean ≡ true
    → request_of n b ≡ Some q → is_open n b ≡ true
    → ChangesSide y.connections z.connections p.connection.number p.side (λ u v. Ends u v label n)
    → a ≡ arrival.Ended n q.kind r (shown r bytes)
    → ChangesRequest y z n (ends_so (answered r bytes)) (ended_at n (answered r bytes) y.slots)
    → Brings around z true p b (machine.Reply n r bytes) a
answers-open around y z b p n label r bytes q a t clean made unanswered changes is_ended after =
    let k = p.connection.number in
    let how = answered r bytes in
    let item = machine.Reply n r bytes in
    let answer : Brings around z true p b item (arrival.Ended n q.kind r (shown r bytes)) = (
      refl,
      inl (record {
        bytes = bytes;
        request = q;
        item_is = refl;
        clean = clean;
        still_open = unanswered;
        made = made;
        kind_is = refl;
        outcome_is = refl;
        stands = stands-ended around y z b p item n how t unanswered
            (shown-changed b.requests y.connections z.connections (taken_at p b).connections k
            p.side (λ u v. Ends u v label n) t.shows.connections changes)
            (sides-ended around.items y.connections z.connections (taken_at p b) k p.side n label
            how t.shows.connections (fits-without (loose_at p item) around.items (taken_at p b)
            t.fits) changes t.shows.sides)
            (none-answers around y p b n r bytes t) after;
      }),
    ) in
    subst (λ (w : Arrival). Brings around z true p b item w) (sym is_ended) answer

-- an answer came to a request that had ended
answers-late : (around : Around) (y z : Bus) (b : machine.Bus) (p : Place) (n r : ℕ)
    (bytes : List ℕ) (a : Arrival)
    → Taken around y p b (machine.Reply n r bytes) → p.connection.clean ≡ true
    → is_open n b ≡ false
    → AreShown b.requests z.connections (taken_at p b).connections
    → KeepSides z.connections (forgotten n (taken_at p b))
    → a ≡ arrival.Late n → ChangesRequest y z n forgets y.slots.tally
    → Brings around z true p b (machine.Reply n r bytes) a
answers-late around y z b p n r bytes a t clean closed seen sides is_late after =
    let item = machine.Reply n r bytes in
    let answer : Brings around z true p b item (arrival.Late n) = (
      refl,
      record {
        result = r;
        bytes = bytes;
        item_is = refl;
        clean = clean;
        closed = closed;
        stands = stands-forgotten around y z b p item n t closed seen sides
            (none-answers around y p b n r bytes t) after;
      },
    ) in
    subst (λ (w : Arrival). Brings around z true p b item w) (sym is_late) answer

-- a request that isn't awaited isn't open, and wasn't given up
neither : (u v : Bool) → u || v ≡ false → (u ≡ false) × (v ≡ false)
neither true v e = absurd cc
neither false v e = (refl, e)

-- the identifier isn't in use for the request: it isn't awaited
unawaited : (around : Around) (y : Bus) (b : machine.Bus) (p : Place) (n label r : ℕ)
    (bytes : List ℕ) (q : Request)
    → Taken around y p b (machine.Reply n r bytes) → request_of n b ≡ Some q → q.label ≡ label
    → IsNotOf (Some n) (option_and_then (λ c. holder_of (ops_of p.side c) label)
    (find (numbered p.connection.number) y.connections))
    → is_awaited n b ≡ false
unawaited around y b p n label r bytes q t made label_is other =
    let own = t.fits.items.own_loose (loose_at p (machine.Reply n r bytes)) (inl refl) in
    let same : own.0 ≡ q = same-some own.0 q (sym own.1 ∙ made) in
    let on : q.connection ≡ p.connection.number =
    ap (λ (v : Request). v.connection) (sym same) ∙ own.2 in
    let side_is : q.side ≡ p.side = ap (λ (v : Request). v.side) (sym same) ∙ own.3 in
    match-none y.connections (taken_at p b) p.connection.number p.side n q t.found
    t.shows.connections made (is-on q p.connection.number p.side on side_is) t.there
    (subst (λ l. IsNotOf (Some n) (holder_of (ops_of p.side t.found) l)) (sym label_is)
    (subst (λ (o : Option Connection). IsNotOf (Some n)
    (option_and_then (λ c. holder_of (ops_of p.side c) label) o)) t.there other))
    t.shows.sides
  where
    is-on : (q : Request) (k : ℕ) (at : Side) → q.connection ≡ k → q.side ≡ at
        → is_of k at q ≡ true
    is-on q k at e f =
        subst (λ j. is_of j at q ≡ true) e (subst (λ s. is_of q.connection s q ≡ true) f (is-own q))

-- an answer ends its request where that is open
pub answers : (around : Around) (y z : Bus) (b : machine.Bus) (p : Place) (n label r : ℕ)
    (bytes : List ℕ) (q : Request) (m : Matched) (a : Arrival)
    → Taken around y p b (machine.Reply n r bytes) → p.connection.clean ≡ true
    → request_of n b ≡ Some q → q.label ≡ label
    → MatchesIn y.connections z.connections p.connection.number p.side (Some n) label m
    → Answers y z n r bytes m (open_kind (slot_at y.slots n)) a
    → Brings around z true p b (machine.Reply n r bytes) a
answers around y z b p n label r bytes q m a t clean made label_is = by m (said around.names b n)
  where
    k : ℕ
    k = p.connection.number

    Goal : Type 0
    Goal = Brings around z true p b (machine.Reply n r bytes) a

    told : (m : Matched) (o : Option ℕ) → open_kind (slot_of around.names n b) ≡ o
        → Answers y z n r bytes m (open_kind (slot_at y.slots n)) a → Answers y z n r bytes m o a
    told m o e h = subst (λ v. Answers y z n r bytes m v a) (ap open_kind (t.shows.slots n) ∙ e) h

    by : (m : Matched) → Said around.names b n
        → MatchesIn y.connections z.connections k p.side (Some n) label m
        → Answers y z n r bytes m (open_kind (slot_at y.slots n)) a → Goal
    by (matched.Open j) (still v there unanswered kind_is place_is) d h =
        let w = told (matched.Open j) (Some v.kind) kind_is h in
        answers-open around y z b p n label r bytes v a t clean there unanswered
        (of-asked y.connections z.connections k p.side n j (λ i u x. Ends u x label i) d) w.0 w.1
    by (matched.Open j) (over closed unkind nowhere) d h =
        absurd (not-both (is_open n b) (match-open y.connections z.connections (taken_at p b) k
        p.side n label t.shows.connections
        (of-asked y.connections z.connections k p.side n j (λ i u x. Ends u x label i) d)
        t.shows.sides) closed)
    by (matched.Late j) (still v there unanswered kind_is place_is) d h =
        absurd (not-both (is_open n b) unanswered (match-late around.items y.connections
        z.connections (taken_at p b) k p.side n label t.shows.connections
        (fits-without (loose_at p (machine.Reply n r bytes)) around.items (taken_at p b) t.fits)
        (of-asked y.connections z.connections k p.side n j (λ i u x. Forgets u x label i) d)
        t.shows.sides))
    by (matched.Late j) (over closed unkind nowhere) d h =
        let w = told (matched.Late j) None unkind h in
        let changes = of-asked y.connections z.connections k p.side n j
        (λ i u x. Forgets u x label i) d in
        answers-late around y z b p n r bytes a t clean closed
        (shown-changed b.requests y.connections z.connections (taken_at p b).connections k p.side
        (λ u x. Forgets u x label n) t.shows.connections changes)
        (sides-forgotten around.items y.connections z.connections (taken_at p b) k p.side n label
        t.shows.connections
        (fits-without (loose_at p (machine.Reply n r bytes)) around.items (taken_at p b) t.fits)
        changes t.shows.sides) w.0 w.1
    by matched.Unknown (still v there unanswered kind_is place_is) d h =
        absurd (not-both (is_open n b) unanswered (neither (is_open n b) (is_given_up n b)
        (unawaited around y b p n label r bytes q t made label_is d.0)).0)
    by matched.Unknown (over closed unkind nowhere) d h =
        let w = told matched.Unknown None unkind h in
        let free = neither (is_open n b) (is_given_up n b)
        (unawaited around y b p n label r bytes q t made label_is d.0) in
        answers-late around y z b p n r bytes a t clean closed
        (subst (λ (ys : List Connection). AreShown b.requests ys (taken_at p b).connections)
        (sym d.1) t.shows.connections)
        (subst (λ (ys : List Connection). KeepSides ys (forgotten n (taken_at p b))) (sym d.1)
        (subst (λ (v : machine.Bus). KeepSides y.connections v)
        (sym (nothing-forgotten (taken_at p b) n free.1)) t.shows.sides)) w.0 w.1
