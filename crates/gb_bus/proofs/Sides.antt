-- What is kept of the sides of connections stays what the machine has, at each change.
use Rattle.std.proofs.Common.{◌≡◌, ℕ, ◌==◌, Bool, true, false, not, Option, Some, None, List, []}
use Rattle.std.proofs.Common.{◌∷◌, ◌++◌, refl, sym, ap, ◌∙◌, inl, inr, subst, arith}
use Rattle.gb_base.specs.declared.end.End.TheVariants as end
use Rattle.gb_base.specs.declared.end.Side.{Side}
use Rattle.gb_base.specs.declared.end.Side.TheVariants as side
use Rattle.gb_base.specs.declared.outcome.Outcome.{Outcome}
use Rattle.gb_bus.proofs.Finding.{no-twin, twin}
use Rattle.gb_bus.proofs.SideChanges.{marked-over, side-closes, side-ends, side-forgets}
use Rattle.gb_bus.proofs.SideChanges.{side-gives_up}
use Rattle.gb_bus.proofs.SideLists.{find-behind, find-front, find-left, find-one, not-none}
use Rattle.gb_bus.proofs.SideMoves.{before, changed, changes-side, combine, elsewhere, moved}
use Rattle.gb_bus.proofs.SideMoves.{same-requests, unchanged}
use Rattle.gb_bus.proofs.Changing.{twice}
use Rattle.gb_bus.proofs.ConnectionChanges.{ops-number, put-number, put-ops}
use Rattle.gb_bus.proofs.SideParts.{asking, asking-number, asking-oneway, asking-other, asking-own}
use Rattle.gb_bus.proofs.SideParts.{new-last, new-ops, with_ops-other, with_ops-own}
use Rattle.gb_bus.proofs.SideSends.{next-is, same-sent, side-begins}
use Rattle.gb_bus.proofs.SideStates.{is-pending, keeps-by, keeps-same, same-closed, same-ended}
use Rattle.gb_bus.proofs.SideStates.{same-forgotten, same-gave_up, same-side}
use Rattle.gb_bus.proofs.Standing.{AreShown}
use Rattle.gb_bus.specs.Parts.{new_connection, numbered, ops_of, put, with_ops}
use Rattle.gb_bus.specs.Sides.{ChangesSide, IsNotOf}
use Rattle.gb_bus.specs.Stands.{KeepSides, KeepsSide}
use Rattle.gb_bus.specs.Connection.{Connection}
use Rattle.gb_bus.specs.declared.queue.Item.{Item}
use Rattle.gb_invariants.proofs.Awaiting.{is_of-is, not-both, same-some}
use Rattle.gb_invariants.proofs.Outcomes.{is-same}
use Rattle.gb_invariants.specs.Facts.{BusFits, Loose, NumbersRise}
use Rattle.std.specs.List.{find}
use Rattle.gb_machine.specs.LawsBus.{is_awaited}
use Rattle.gb_machine.specs.Bus as machine
use Rattle.gb_machine.specs.Bus.{Ask, Request, connection_of, has_number, is_open, next_number}
use Rattle.gb_machine.specs.Bus.{other_side, request_of}
use Rattle.gb_machine.specs.Delivery.{ended, forgotten}
use Rattle.gb_machine.specs.Labels.{cyclic_label, last_label}
use Rattle.gb_machine.specs.Lists.{at_first, without}
use Rattle.gb_machine.specs.Requests.{gave_up, is_of}
use Rattle.gb_machine.specs.Sending.{Draft, sent}
use Rattle.gb_machine.specs.Wiring as wiring
use Rattle.gb_machine.specs.Wiring.{attached, detached, next_connection, side_ended}
use Rattle.gb_machine.specs.Wiring.{with_connection}
use Rattle.gb_ops.specs.Calls.{Begins, Ends, Forgets, GivesUp, emptied, no_operations}
use Rattle.gb_ops.specs.Operations.{Operations, holder_of, next_label}
use Rattle.gb_ops.specs.declared.entries.Holder.{Holder}

-- the identifier that comes next on a side is the machine's
pub next-side : (k : ℕ) (at : Side) (x : Operations) (c : machine.Connection) (b : machine.Bus)
    → KeepsSide k at x (last_label at c) b → next_label x ≡ cyclic_label k at b c
next-side k at x c b keeps = next-is k at x c b keeps

-- ---- connections

-- a connection changes, but for its number and for what was asked on it
pub sides-changed : (xs : List Connection) (b : machine.Bus) (k : ℕ) (f : Connection → Connection)
    (g : machine.Connection → machine.Connection)
    → ((x : Connection) → (f x).number ≡ x.number)
    → ((c : machine.Connection) → (g c).number ≡ c.number)
    → ((at : Side) (x : Connection) → ops_of at (f x) ≡ ops_of at x)
    → ((at : Side) (c : machine.Connection) → last_label at (g c) ≡ last_label at c)
    → KeepSides xs b → KeepSides (at_first (numbered k) f xs) (with_connection k g b)
sides-changed xs b k f g number same ops last keeps =
    combine xs b (with_connection k g b) k side.Ap f g number (λ on x other. ops on x)
    (λ on c other. last on c) (λ j c live. changed b k j g c same live)
    (λ x c found live.
    moved k k side.Ap side.Ap (ops_of side.Ap x) (ops_of side.Ap (f x)) (last_label side.Ap c)
    (last_label side.Ap (g c)) (with_connection k g b) refl refl (sym (ops side.Ap x))
    (sym (last side.Ap c))
    (keeps-same k side.Ap (ops_of side.Ap x) (last_label side.Ap c) b (with_connection k g b)
    (same-requests k side.Ap b (at_first (has_number k) g b.connections))
    (keeps k side.Ap x c found live)))
    (λ j on other. same-requests j on b (at_first (has_number k) g b.connections)) keeps

-- a connection is made, on which nothing was asked
pub sides-attached : (xs : List Connection) (b : machine.Bus) (a i c protocol : ℕ)
    → AreShown b.requests xs b.connections → NumbersRise b → KeepSides xs b
    → KeepSides (xs ++ new_connection (next_connection b) a (end.Module i c) protocol ∷ [])
    (attached a i c protocol b)
sides-attached xs b a i c protocol shown numbers keeps = λ j at x d found live.
    by j at x d found live (find (numbered j) xs) refl
  where
    after : machine.Bus
    after = attached a i c protocol b

    new : Connection
    new = new_connection (next_connection b) a (end.Module i c) protocol

    opposite : machine.Connection
    opposite = wiring.new_connection (next_connection b) a (end.Module i c) protocol

    -- nothing was asked on it
    unasked_on : (r : Request) (n j : ℕ) (at : Side) → next_connection b ≡ j
        → request_of n b ≡ Some r → is_of j at r ≡ true → ⊥
    unasked_on r n j at is made own =
        let low = numbers.on n r made in
        absurd (omega (arith, low, is, (is_of-is j at r own).0))

    empty : (j : ℕ) (at : Side) → next_connection b ≡ j → KeepsSide j at no_operations 0 after
    empty j at is = keeps-by j at no_operations 0 after refl (record {
      entered = λ n r made own unended. absurd (unasked_on r n j at is made own);
      pending = λ n p h. absurd (not-none p h);
      held = λ n r made own awaited. absurd (unasked_on r n j at is made own);
      used = λ label h e. absurd (not-none h e);
    })

    by : (j : ℕ) (at : Side) (x : Connection) (d : machine.Connection)
        → find (numbered j) (xs ++ new ∷ []) ≡ Some x
        → find (has_number j) (b.connections ++ opposite ∷ []) ≡ Some d
        → (o : Option Connection) → find (numbered j) xs ≡ o
        → KeepsSide j at (ops_of at x) (last_label at d) after
    by j at x d found live (Some y) e =
        let t = twin b.requests j xs b.connections y shown e in
        moved j j at at (ops_of at y) (ops_of at x) (last_label at t.connection) (last_label at d)
        after refl refl
        (ap (ops_of at)
        (same-some y x (sym (find-front (numbered j) xs (new ∷ []) y e) ∙ found)))
        (ap (last_label at)
        (same-some t.connection d
        (sym (find-front (has_number j) b.connections (opposite ∷ []) t.connection t.live)
        ∙ live)))
        (keeps-same j at (ops_of at y) (last_label at t.connection) b after
        (same-side j at b after refl (λ n r made own. (refl, refl)))
        (keeps j at y t.connection e t.live))
    by j at x d found live None e =
        let p = find-one (λ (y : Connection). y.number) j new x
        (sym (find-behind (numbered j) xs (new ∷ []) e) ∙ found) in
        let q = find-one (λ (y : machine.Connection). y.number) j opposite d
        (sym (find-behind (has_number j) b.connections (opposite ∷ [])
        (no-twin b.requests j xs b.connections shown e)) ∙ live) in
        moved j j at at no_operations (ops_of at x) 0 (last_label at d) after refl refl
        (new-ops at (next_connection b) a (end.Module i c) protocol ∙ ap (ops_of at) p.0)
        (new-last at (next_connection b) a (end.Module i c) protocol ∙ ap (last_label at) q.0)
        (empty j at p.1)

-- a connection is there no more
pub sides-detached : (xs : List Connection) (b : machine.Bus) (k : ℕ) → KeepSides xs b
    → KeepSides (without (numbered k) xs) (detached k b)
sides-detached xs b k keeps = λ j at x c found live.
    keeps-same j at (ops_of at x) (last_label at c) b (detached k b)
    (same-requests j at b (without (has_number k) b.connections))
    (keeps j at x c (find-left (λ (y : Connection). y.number) k j xs x found)
    (find-left (λ (y : machine.Connection). y.number) k j b.connections c live))

-- ---- a request is made

-- A request with an identifier: it is the last that was drawn on its side then.
pub sides-sent : (loose : List Loose) (xs ys : List Connection) (b : machine.Bus) (d : Draft)
    (label : ℕ) (i : Item)
    → AreShown b.requests xs b.connections → BusFits loose b → d.oneway ≡ false
    → ChangesSide xs ys d.connection d.side
    (λ x y. Begins x y (next_number b) d.deadline label)
    → KeepSides xs b
    → KeepSides (at_first (numbered d.connection) (put (other_side d.side) i) ys) (sent d label b)
sides-sent loose xs ys b d label i shown fits twoway changes keeps =
    subst (λ zs. KeepSides zs (sent d label b)) (sym both)
    (combine xs b (sent d label b) d.connection d.side f (asking d label (Ask (next_number b)))
    (λ x. put-number (other_side d.side) i (with_ops d.side changes.after x)
    ∙ ops-number d.side changes.after x)
    (λ on x other. put-ops (other_side d.side) i on (with_ops d.side changes.after x)
    ∙ with_ops-other d.side on changes.after x other)
    (λ on c other. asking-other on d label (Ask (next_number b)) c other)
    (λ j c live.
    changed b d.connection j (asking d label (Ask (next_number b))) c
    (asking-number d label (Ask (next_number b))) live)
    own
    (λ j on other. same-sent j on d label b fits.outcomes (inl other)) keeps)
  where
    f : Connection → Connection
    f x = put (other_side d.side) i (with_ops d.side changes.after x)

    both : at_first (numbered d.connection) (put (other_side d.side) i) ys
        ≡ at_first (numbered d.connection) f xs
    both =
        ap (at_first (numbered d.connection) (put (other_side d.side) i)) changes.rest
        ∙ twice (numbered d.connection) (put (other_side d.side) i)
        (with_ops d.side changes.after) xs
        (λ x. ap (λ n. n == d.connection) (ops-number d.side changes.after x))

    own : (x : Connection) (c : machine.Connection) → find (numbered d.connection) xs ≡ Some x
        → connection_of d.connection b ≡ Some c
        → KeepsSide d.connection d.side (ops_of d.side (f x))
        (last_label d.side (asking d label (Ask (next_number b)) c)) (sent d label b)
    own x c found live =
        moved d.connection d.connection d.side d.side changes.after (ops_of d.side (f x)) label
        (last_label d.side (asking d label (Ask (next_number b)) c)) (sent d label b) refl refl
        (sym (put-ops (other_side d.side) i d.side (with_ops d.side changes.after x)
        ∙ with_ops-own d.side changes.after x))
        (sym (asking-own d label (Ask (next_number b)) c twoway))
        (side-begins (ops_of d.side changes.connection) changes.after b c d label fits.outcomes
        twoway live changes.did
        (moved d.connection d.connection d.side d.side (ops_of d.side x)
        (ops_of d.side changes.connection) (last_label d.side c) (last_label d.side c) b refl refl
        (ap (ops_of d.side) (same-some x changes.connection (sym found ∙ changes.found))) refl
        (keeps d.connection d.side x c found live)))

-- a unidirectional one
pub sides-sent_oneway : (loose : List Loose) (xs : List Connection) (b : machine.Bus) (d : Draft)
    (label : ℕ) (i : Item)
    → BusFits loose b → d.oneway ≡ true → KeepSides xs b
    → KeepSides (at_first (numbered d.connection) (put (other_side d.side) i) xs) (sent d label b)
sides-sent_oneway loose xs b d label i fits oneway keeps =
    combine xs b (sent d label b) d.connection d.side (put (other_side d.side) i)
    (asking d label (Ask (next_number b))) (put-number (other_side d.side) i)
    (λ on x other. put-ops (other_side d.side) i on x)
    (λ on c other. asking-oneway on d label (Ask (next_number b)) c oneway)
    (λ j c live.
    changed b d.connection j (asking d label (Ask (next_number b))) c
    (asking-number d label (Ask (next_number b))) live)
    (λ x c found live.
    moved d.connection d.connection d.side d.side (ops_of d.side x)
    (ops_of d.side (put (other_side d.side) i x)) (last_label d.side c)
    (last_label d.side (asking d label (Ask (next_number b)) c)) (sent d label b) refl refl
    (sym (put-ops (other_side d.side) i d.side x))
    (sym (asking-oneway d.side d label (Ask (next_number b)) c oneway))
    (keeps-same d.connection d.side (ops_of d.side x) (last_label d.side c) b (sent d label b)
    (same-sent d.connection d.side d label b fits.outcomes (inr oneway))
    (keeps d.connection d.side x c found live)))
    (λ j on other. same-sent j on d label b fits.outcomes (inr oneway)) keeps

-- ---- a request ends, or is forgotten

-- an open request is answered
pub sides-ended : (loose : List Loose) (xs ys : List Connection) (b : machine.Bus) (k : ℕ)
    (at : Side) (n label : ℕ) (how : Outcome)
    → AreShown b.requests xs b.connections → BusFits loose b
    → ChangesSide xs ys k at (λ x y. Ends x y label n)
    → KeepSides xs b → KeepSides ys (ended n how b)
sides-ended loose xs ys b k at n label how shown fits changes keeps =
    let own = before xs b k at changes.connection shown changes.found keeps in
    let h = own.keeps.used label (record { number = n; given_up = false }) changes.did.held in
    changes-side xs ys b (ended n how b) k at (λ x y. Ends x y label n) refl changes
    (λ last kept.
    side-ends k at (ops_of at changes.connection) changes.after last b label n how fits.outcomes
    changes.did kept)
    (λ j on other.
    same-ended j on b n how h.request h.made (elsewhere k j at on h.request other h.own)) keeps

-- one that was given up is answered
pub sides-forgotten : (loose : List Loose) (xs ys : List Connection) (b : machine.Bus) (k : ℕ)
    (at : Side) (n label : ℕ)
    → AreShown b.requests xs b.connections → BusFits loose b
    → ChangesSide xs ys k at (λ x y. Forgets x y label n)
    → KeepSides xs b → KeepSides ys (forgotten n b)
sides-forgotten loose xs ys b k at n label shown fits changes keeps =
    let own = before xs b k at changes.connection shown changes.found keeps in
    let h = own.keeps.used label (record { number = n; given_up = true }) changes.did.held in
    changes-side xs ys b (forgotten n b) k at (λ x y. Forgets x y label n) refl changes
    (λ last kept.
    side-forgets k at (ops_of at changes.connection) changes.after last b label n fits.outcomes
    changes.did kept)
    (λ j on other.
    same-forgotten j on b n h.request h.made (elsewhere k j at on h.request other h.own)) keeps

-- one is given up
pub sides-gave_up : (loose : List Loose) (xs ys : List Connection) (b : machine.Bus) (k : ℕ)
    (at : Side) (n : ℕ) (how : Outcome)
    → AreShown b.requests xs b.connections → BusFits loose b
    → ChangesSide xs ys k at (λ x y. GivesUp x y n)
    → KeepSides xs b → KeepSides ys (gave_up n how b)
sides-gave_up loose xs ys b k at n how shown fits changes keeps =
    let own = before xs b k at changes.connection shown changes.found keeps in
    let h = is-pending k at n changes.did.found b
    (sym (own.keeps.pending n) ∙ changes.did.there) in
    changes-side xs ys b (gave_up n how b) k at (λ x y. GivesUp x y n) refl changes
    (λ last kept.
    side-gives_up k at (ops_of at changes.connection) changes.after last b n how changes.did kept)
    (λ j on other.
    same-gave_up j on b n how h.request h.made (elsewhere k j at on h.request other h.own)) keeps

-- one is given up whose connection isn't live
pub sides-gave_up_elsewhere : (xs : List Connection) (b : machine.Bus) (n : ℕ) (how : Outcome)
    (r : Request)
    → request_of n b ≡ Some r → is_open n b ≡ true → find (numbered r.connection) xs ≡ None
    → KeepSides xs b → KeepSides xs (gave_up n how b)
sides-gave_up_elsewhere xs b n how r made unended nowhere keeps = λ j at x c found live.
    keeps-same j at (ops_of at x) (last_label at c) b (gave_up n how b)
    (same-gave_up j at b n how r made (other j at x found (is_of j at r) refl))
    (keeps j at x c found live)
  where
    other : (j : ℕ) (at : Side) (x : Connection) → find (numbered j) xs ≡ Some x → (t : Bool)
        → is_of j at r ≡ t → t ≡ false
    other j at x found false e = refl
    other j at x found true e =
        absurd (not-none x
        (sym nowhere ∙ ap (λ m. find (numbered m) xs) (is_of-is j at r e).0 ∙ found))

-- a side is closed
pub sides-closed : (xs : List Connection) (b : machine.Bus) (k : ℕ) (at : Side) → KeepSides xs b
    → KeepSides (at_first (numbered k) (λ x. with_ops at (emptied (ops_of at x)) x) xs)
    (side_ended k at b)
sides-closed xs b k at keeps =
    combine xs b (side_ended k at b) k at (λ x. with_ops at (emptied (ops_of at x)) x) (λ c. c)
    (λ x. ops-number at (emptied (ops_of at x)) x)
    (λ on x other. with_ops-other at on (emptied (ops_of at x)) x other) (λ on c other. refl)
    (λ j c live. unchanged b k j c live)
    (λ x c found live.
    moved k k at at (emptied (ops_of at x)) (ops_of at (with_ops at (emptied (ops_of at x)) x))
    (last_label at c) (last_label at c) (side_ended k at b) refl refl
    (sym (with_ops-own at (emptied (ops_of at x)) x)) refl
    (side-closes k at (ops_of at x) (last_label at c) b (keeps k at x c found live).last_is))
    (λ j on other.
    same-closed j on k at b
    (λ r own. elsewhere j k on at r (λ e f. other (sym e) (sym f)) own)) keeps

-- ---- what an identifier is in use for

-- an identifier that is in use for an open request
pub match-open : (xs ys : List Connection) (b : machine.Bus) (k : ℕ) (at : Side) (n label : ℕ)
    → AreShown b.requests xs b.connections
    → ChangesSide xs ys k at (λ x y. Ends x y label n) → KeepSides xs b → is_open n b ≡ true
match-open xs ys b k at n label shown changes keeps =
    let own = before xs b k at changes.connection shown changes.found keeps in
    (is-pending k at n changes.did.found b (sym (own.keeps.pending n) ∙ changes.did.there)).unended

-- for one that was given up
pub match-late : (loose : List Loose) (xs ys : List Connection) (b : machine.Bus) (k : ℕ)
    (at : Side) (n label : ℕ)
    → AreShown b.requests xs b.connections → BusFits loose b
    → ChangesSide xs ys k at (λ x y. Forgets x y label n) → KeepSides xs b → is_open n b ≡ false
match-late loose xs ys b k at n label shown fits changes keeps =
    let own = before xs b k at changes.connection shown changes.found keeps in
    let h = own.keeps.used label (record { number = n; given_up = true }) changes.did.held in
    marked-over n b fits.outcomes (sym (ap (λ (g : Holder). g.given_up) h.is))

-- for another one, or none: then the request isn't awaited
pub match-none : (xs : List Connection) (b : machine.Bus) (k : ℕ) (at : Side) (n : ℕ) (r : Request)
    (x : Connection)
    → AreShown b.requests xs b.connections → request_of n b ≡ Some r → is_of k at r ≡ true
    → find (numbered k) xs ≡ Some x → IsNotOf (Some n) (holder_of (ops_of at x) r.label)
    → KeepSides xs b → is_awaited n b ≡ false
match-none xs b k at n r x shown made own found other keeps = by (is_awaited n b) refl
  where
    not-true : (t : Bool) → not t ≡ true → t ≡ false
    not-true false e = refl
    not-true true e = absurd cc

    by : (t : Bool) → is_awaited n b ≡ t → t ≡ false
    by false e = refl
    by true e =
        absurd (not-both (n == n) (is-same n) (not-true (n == n)
        (subst (IsNotOf (Some n))
        ((before xs b k at x shown found keeps).keeps.held n r made own e) other)))
