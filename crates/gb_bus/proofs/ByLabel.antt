-- A response that goes by its identifier alone, on an unclean connection.
use Rattle.std.proofs.Common.{◌≡◌, ℕ, ◌==◌, true, false, ◌||◌, Option, Some, None, is_some}
use Rattle.std.proofs.Common.{option_and_then, List, refl, sym, ap, ◌∙◌, inr, subst}
use Rattle.gb_base.specs.declared.end.Side.{Side}
use Rattle.gb_bus.proofs.Endings.{Said, over, said, still}
use Rattle.gb_bus.proofs.Loosening.{fits-without}
use Rattle.gb_bus.proofs.ConnectionChanges.{shown-changed}
use Rattle.gb_bus.proofs.SideMoves.{before}
use Rattle.gb_bus.proofs.Sides.{match-late, match-open, sides-ended, sides-forgotten}
use Rattle.gb_bus.proofs.Taken.{Taken, loose_at, settled, stands-ended}
use Rattle.gb_bus.proofs.Taken.{stands-forgotten, unclean-none}
use Rattle.gb_bus.specs.Connection.{Connection}
use Rattle.gb_bus.specs.Delivering.{Brings, Response, response, response_in, taken_at}
use Rattle.gb_bus.specs.Moving.{Labelled, Labels, EndsOpen, with_connections}
use Rattle.gb_bus.specs.Parts.{ops_of}
use Rattle.gb_bus.specs.Sides.{ChangesSide, IsNotOf, MatchesIn, is_other}
use Rattle.gb_bus.specs.Slots.{slot_at}
use Rattle.gb_bus.specs.Stands.{Around, IsHolder, KeepsSide, Stands, holding, slot_of}
use Rattle.gb_bus.specs.Taking.{open_kind, shown}
use Rattle.gb_bus.specs.declared.answers.Arrival.{Arrival}
use Rattle.gb_bus.specs.declared.answers.Arrival.TheVariants as arrival
use Rattle.gb_bus.specs.declared.bus.Bus.{Bus}
use Rattle.gb_invariants.proofs.Awaiting.{awaited, is_of-is, late, not-both, opened, same-some}
use Rattle.gb_invariants.proofs.Awaiting as awaiting
use Rattle.gb_invariants.proofs.Drawing.{awaited-used, given_up_with-is, open_with-in_use}
use Rattle.gb_invariants.proofs.ItemChanges.{NoneAnswers}
use Rattle.gb_invariants.proofs.Outcomes.{both-true, in-any, same-number}
use Rattle.gb_invariants.specs.Facts.{BusFits, OutcomesFit}
use Rattle.gb_machine.specs.Bus as machine
use Rattle.gb_machine.specs.Bus.{Place, Request, is_open, outcome_of, request_of}
use Rattle.gb_machine.specs.Delivery.{answered}
use Rattle.gb_machine.specs.LawsBus.{OwnLabels, is_awaited}
use Rattle.gb_machine.specs.Requests.{given_up_with, is_given_up, is_of, is_used, open_with}
use Rattle.gb_ops.specs.Calls.{Ends, Forgets}
use Rattle.gb_ops.specs.Operations.{Operations, holder_of}
use Rattle.gb_ops.specs.declared.entries.Holder.{Holder}
use Rattle.gb_ops.specs.declared.entries.Matched.{Matched}
use Rattle.gb_ops.specs.declared.entries.Matched.TheVariants as matched

-- ---- whose identifier it is

-- a request of a side that is awaited and has the identifier
record Owner (k : ℕ) (at : Side) (label n : ℕ) (b : machine.Bus) : Type 0 where
  request : Request
  made : request_of n b ≡ Some request
  own : is_of k at request ≡ true
  label_is : request.label ≡ label
  awaited : is_awaited n b ≡ true

-- there is one at most
owner-is : (k : ℕ) (at : Side) (label n m : ℕ) (b : machine.Bus) → OwnLabels b
    → Owner k at label n b → Owner k at label m b → n ≡ m
owner-is k at label n m b labels o q =
    let s = is_of-is k at o.request o.own in
    let t = is_of-is k at q.request q.own in
    labels.differ n m o.request q.request o.made q.made o.awaited q.awaited (s.0 ∙ sym t.0)
    (sym s.1 ∙ t.1) (o.label_is ∙ sym q.label_is)

-- the open request that is found with an identifier has it
open-owner : (k : ℕ) (at : Side) (label n : ℕ) (b : machine.Bus) → open_with k at label b ≡ Some n
    → Owner k at label n b × (is_open n b ≡ true)
open-owner k at label n b e =
    let w = open_with-in_use k at label b n e in
    let h = both-true (is_of k at w.0) (w.0.label == label) w.2 in (
      record {
        request = w.0;
        made = w.1;
        own = h.0;
        label_is = same-number w.0.label label h.1;
        awaited = awaited n b (awaiting.still w.0 w.1 w.3);
      },
      awaiting.is-open n b w.0 w.1 w.3,
    )

-- so has the one that was given up
late-owner : (k : ℕ) (at : Side) (label n : ℕ) (b : machine.Bus)
    → given_up_with k at label b ≡ Some n → Owner k at label n b × (is_given_up n b ≡ true)
late-owner k at label n b e =
    let w = given_up_with-is k at label b n e in
    let h = both-true (is_of k at w.1.0) (w.1.0.label == label) w.1.2 in (
      record {
        request = w.1.0;
        made = w.1.1;
        own = h.0;
        label_is = same-number w.1.0.label label h.1;
        awaited = awaited n b (late w.0);
      },
      in-any n b.given_up w.0,
    )

-- the identifier of an owner is in use
owner-used : (k : ℕ) (at : Side) (label n : ℕ) (b : machine.Bus) → Owner k at label n b
    → is_used k at b label ≡ true
owner-used k at label n b o =
    let s = is_of-is k at o.request o.own in
    subst (λ j. is_used j at b label ≡ true) s.0
    (subst (λ w. is_used o.request.connection w b label ≡ true) (sym s.1)
    (subst (λ l. is_used o.request.connection o.request.side b l ≡ true) o.label_is
    (awaited-used b n o.request o.made o.awaited)))

-- An open request that has an identifier is the one that is found with it.
open-found : (k : ℕ) (at : Side) (label n : ℕ) (b : machine.Bus) → OwnLabels b → OutcomesFit b
    → Owner k at label n b → is_open n b ≡ true → open_with k at label b ≡ Some n
open-found k at label n b labels outcomes o unended =
    by (open_with k at label b) refl (given_up_with k at label b) refl
  where
    by : (v : Option ℕ) → open_with k at label b ≡ v → (w : Option ℕ)
        → given_up_with k at label b ≡ w → open_with k at label b ≡ Some n
    by (Some m) e w f =
        e ∙ ap Some (owner-is k at label m n b labels (open-owner k at label m b e).0 o)
    by None e (Some m) f =
        let q = late-owner k at label m b f in
        let same = owner-is k at label m n b labels q.0 o in
        absurd (not-both (is_some (outcome_of n b))
        (outcomes.given n (ap (λ j. is_given_up j b) (sym same) ∙ q.1))
        (ap is_some (opened n b unended).2))
    by None e None f =
        absurd (not-both (is_used k at b label) (owner-used k at label n b o)
        (ap (λ (v : Option ℕ). is_some v || is_some (given_up_with k at label b)) e
        ∙ ap is_some f))

-- One that was given up is found so, and no open one is.
late-found : (k : ℕ) (at : Side) (label n : ℕ) (b : machine.Bus) → OwnLabels b
    → Owner k at label n b → is_open n b ≡ false
    → (open_with k at label b ≡ None) × (given_up_with k at label b ≡ Some n)
late-found k at label n b labels o closed =
    by (open_with k at label b) refl (given_up_with k at label b) refl
  where
    by : (v : Option ℕ) → open_with k at label b ≡ v → (w : Option ℕ)
        → given_up_with k at label b ≡ w
        → (open_with k at label b ≡ None) × (given_up_with k at label b ≡ Some n)
    by (Some m) e w f =
        let q = open-owner k at label m b e in
        let same = owner-is k at label m n b labels q.0 o in
        absurd (not-both (is_open n b) (ap (λ j. is_open j b) (sym same) ∙ q.1) closed)
    by None e (Some m) f =
        (e, f ∙ ap Some (owner-is k at label m n b labels (late-owner k at label m b f).0 o))
    by None e None f =
        absurd (not-both (is_used k at b label) (owner-used k at label n b o)
        (ap (λ (v : Option ℕ). is_some v || is_some (given_up_with k at label b)) e
        ∙ ap is_some f))

-- an identifier that isn't in use has no owner
no-owner : (k : ℕ) (at : Side) (label n : ℕ) (x : Operations) (last : ℕ) (b : machine.Bus)
    → KeepsSide k at x last b → holder_of x label ≡ None → Owner k at label n b → ⊥
no-owner k at label n x last b keeps none o =
    not-none (holder_of x label) none
    (subst (λ l. holder_of x l ≡ Some (holding n b)) o.label_is
    (keeps.held n o.request o.made o.own o.awaited))
  where
    not-none : (w : Option Holder) → w ≡ None → w ≡ Some (holding n b) → ⊥
    not-none None e f = cc
    not-none (Some h) e f = cc

-- So no request is found with it.
none-found : (k : ℕ) (at : Side) (label : ℕ) (x : Operations) (last : ℕ) (b : machine.Bus)
    → KeepsSide k at x last b → IsNotOf None (holder_of x label)
    → (open_with k at label b ≡ None) × (given_up_with k at label b ≡ None)
none-found k at label x last b keeps unused =
    (by-open (open_with k at label b) refl, by-late (given_up_with k at label b) refl)
  where
    free : (w : Option Holder) → IsNotOf None w → w ≡ None
    free None e = refl
    free (Some h) e = absurd cc

    none : holder_of x label ≡ None
    none = free (holder_of x label) unused

    by-open : (v : Option ℕ) → open_with k at label b ≡ v → v ≡ None
    by-open None e = refl
    by-open (Some m) e =
        absurd (no-owner k at label m x last b keeps none (open-owner k at label m b e).0)

    by-late : (v : Option ℕ) → given_up_with k at label b ≡ v → v ≡ None
    by-late None e = refl
    by-late (Some m) e =
        absurd (no-owner k at label m x last b keeps none (late-owner k at label m b e).0)

-- what holds an identifier owns it
holder-owner : (k : ℕ) (at : Side) (label : ℕ) (h : Holder) (b : machine.Bus)
    → IsHolder k at label h b → Owner k at label h.number b
holder-owner k at label h b i = record {
  request = i.request;
  made = i.made;
  own = i.own;
  label_is = i.label_is;
  awaited = i.awaited;
}

-- ---- what it comes to

-- the same change, without what it says of a number
plain : (xs ys : List Connection) (k : ℕ) (at : Side) (P : Type 0)
    (R : Operations → Operations → Type 0)
    → ChangesSide xs ys k at (λ u v. P × R u v) → ChangesSide xs ys k at R
plain xs ys k at P R d = record {
  connection = d.connection;
  after = d.after;
  found = d.found;
  did = d.did.1;
  rest = d.rest;
}

-- A response that goes by its identifier brings what the machine says.
pub labelled : (around : Around) (y z : Bus) (b : machine.Bus) (p : Place) (item : machine.Item)
    (label code : ℕ) (payload : List ℕ) (m : Matched) (a : Arrival)
    → Taken around y p b item → p.connection.clean ≡ false
    → response_in false item b ≡ Some (response label code payload)
    → MatchesIn y.connections z.connections p.connection.number p.side None label m
    → Labels y z label code payload m a
    → Brings around z true p b item a
labelled around y z b p item label code payload m a t unclean is = by m
  where
    k : ℕ
    k = p.connection.number

    came : Response
    came = response label code payload

    after : machine.Bus
    after = taken_at p b

    Goal : Type 0
    Goal = Brings around z true p b item a

    comes : response_in p.connection.clean item b ≡ Some came
    comes = ap (λ c. response_in c item b) unclean ∙ is

    fits : BusFits around.items after
    fits = fits-without (loose_at p item) around.items after t.fits

    to : (w : Arrival) → a ≡ w → Brings around z true p b item w → Goal
    to w e h = subst (λ (v : Arrival). Brings around z true p b item v) (sym e) h

    told : (n : ℕ) (o : Option ℕ) → open_kind (slot_of around.names n b) ≡ o
        → EndsOpen y z label n code payload (open_kind (slot_at y.slots n)) a
        → EndsOpen y z label n code payload o a
    told n o e h =
        subst (λ v. EndsOpen y z label n code payload v a) (ap open_kind (t.shows.slots n) ∙ e) h

    none : (n : ℕ) (r : Request) (o : Owner k p.side label n after) → request_of n b ≡ Some r
        → NoneAnswers around.items after n
    none n r o made =
        unclean-none around y p b item n r t unclean made
        (ap (λ (q : Request). q.connection) (same-some r o.request (sym made ∙ o.made))
        ∙ (is_of-is k p.side o.request o.own).0)

    opens : (n : ℕ)
        → ChangesSide y.connections z.connections k p.side (λ u v. Ends u v label n)
        → Said around.names b n
        → EndsOpen y z label n code payload (open_kind (slot_at y.slots n)) a → Goal
    opens n d (still v there unanswered kind_is place_is) h =
        let w = told n (Some v.kind) kind_is h in
        let how = answered code payload in
        let kept = before y.connections after k p.side d.connection t.shows.connections d.found
        t.shows.sides in
        let owner = holder-owner k p.side label (record { number = n; given_up = false }) after
        (kept.keeps.used label (record { number = n; given_up = false }) d.did.held) in
        to (arrival.Ended n v.kind code (shown code payload)) w.0 (
          refl,
          inr (record {
            came = came;
            request = v;
            is = comes;
            found = open-found k p.side label n after fits.labels fits.outcomes owner unanswered;
            made = there;
            kind_is = refl;
            outcome_is = refl;
            stands = stands-ended around y z b p item n how t unanswered
                (shown-changed b.requests y.connections z.connections after.connections k p.side
                (λ u x. Ends u x label n) t.shows.connections d)
                (sides-ended around.items y.connections z.connections after k p.side n label how
                t.shows.connections fits d t.shows.sides)
                (none n v owner there) w.1;
          }),
        )
    opens n d (over closed unkind nowhere) h =
        absurd (not-both (is_open n b) (match-open y.connections z.connections after k p.side n
        label t.shows.connections d t.shows.sides) closed)

    lates : (n : ℕ)
        → ChangesSide y.connections z.connections k p.side (λ u v. Forgets u v label n)
        → Labels y z label code payload (matched.Late n) a → Goal
    lates n d h =
        let closed = match-late around.items y.connections z.connections after k p.side n label
        t.shows.connections fits d t.shows.sides in
        let kept = before y.connections after k p.side d.connection t.shows.connections d.found
        t.shows.sides in
        let owner = holder-owner k p.side label (record { number = n; given_up = true }) after
        (kept.keeps.used label (record { number = n; given_up = true }) d.did.held) in
        let f = late-found k p.side label n after fits.labels owner closed in
        to (arrival.LateLabel label) h.0 (
          refl,
          record {
            came = came;
            number = n;
            is = comes;
            label_is = refl;
            unopened = f.0;
            found = f.1;
            stands = stands-forgotten around y z b p item n t closed
                (shown-changed b.requests y.connections z.connections after.connections k p.side
                (λ u x. Forgets u x label n) t.shows.connections d)
                (sides-forgotten around.items y.connections z.connections after k p.side n label
                t.shows.connections fits d t.shows.sides)
                (none n owner.request owner owner.made) h.1;
          },
        )

    by : (m : Matched) → MatchesIn y.connections z.connections k p.side None label m
        → Labels y z label code payload m a → Goal
    by (matched.Open n) d h =
        opens n (plain y.connections z.connections k p.side (is_other None n ≡ false)
        (λ u v. Ends u v label n) d) (said around.names b n) h
    by (matched.Late n) d h =
        lates n (plain y.connections z.connections k p.side (is_other None n ≡ false)
        (λ u v. Forgets u v label n) d) h
    by matched.Unknown d h =
        let kept = before y.connections after k p.side t.found t.shows.connections t.there
        t.shows.sides in
        let f = none-found k p.side label (ops_of p.side t.found) _ after kept.keeps
        (subst (λ (o : Option Connection). IsNotOf None
        (option_and_then (λ c. holder_of (ops_of p.side c) label) o)) t.there d.0) in
        let same : z ≡ y = h.1 ∙ ap (λ xs. with_connections xs y) d.1 in
        to (arrival.UnknownLabel label) h.0 (
          refl,
          record {
            came = came;
            is = comes;
            label_is = refl;
            unopened = f.0;
            kept = f.1;
            stands = subst (λ (w : Bus). Stands around w after) (sym same)
                (settled around y p b item t);
          },
        )

-- so does what the bus says of one
pub labelled-is : (around : Around) (y z : Bus) (b : machine.Bus) (p : Place)
    (item : machine.Item) (label code : ℕ) (payload : List ℕ) (a : Arrival)
    → Taken around y p b item → p.connection.clean ≡ false
    → response_in false item b ≡ Some (response label code payload)
    → Labelled y z p.connection.number p.side label code payload a
    → Brings around z true p b item a
labelled-is around y z b p item label code payload a t unclean is h =
    labelled around y z b p item label code payload h.matched a t unclean is h.matches h.answers
