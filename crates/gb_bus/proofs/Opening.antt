-- A response once its identifier is free.
use Rattle.std.proofs.Common.{◌≡◌, ℕ, Bool, true, false, Option, Some, None, Result, Ok, Err, List}
use Rattle.std.proofs.Common.{refl, sym, ap, ◌∙◌, subst}
use Rattle.gb_base.specs.declared.end.Side.{Side}
use Rattle.gb_bus.specs.Connection.{Connection}
use Rattle.gb_bus.specs.Moving.{Answers, AnswersAs, AnswersTo, LabelledAs, LabelsTo, EndsOpen}
use Rattle.gb_bus.specs.Moving.{ChangesRequest, IsMemory, RepliesTo, with_connections}
use Rattle.gb_bus.specs.Sides.{MatchesIn, asked_of}
use Rattle.gb_bus.specs.Slots.{MovesAt, forgets, slot_at}
use Rattle.gb_bus.specs.Taking.{open_kind}
use Rattle.gb_bus.specs.declared.answers.Arrival.{Arrival}
use Rattle.gb_bus.specs.declared.answers.Arrival.TheVariants as arrival
use Rattle.gb_bus.specs.declared.answers.DeliverFault.{DeliverFault}
use Rattle.gb_bus.specs.declared.bus.Bus.{Bus}
use Rattle.gb_ops.specs.declared.entries.Matched.{Matched}
use Rattle.gb_ops.specs.declared.entries.Matched.TheVariants as matched

pub same-ok : {A E : Type 0} (a b : A) (r : Result A E) → r ≡ Ok a → r ≡ Ok b → a ≡ b
same-ok a b r e f = cc

-- the connections are those that the match left
after-match : (old new : Bus) (xs : List Connection)
    → new ≡ record (with_connections xs old) { slots = new.slots } → xs ≡ new.connections
after-match old new xs e = sym (ap (λ (x : Bus). x.connections) e)

-- what is answered depends on the requests alone
by-kind : (old new : Bus) (xs : List Connection) (label n code : ℕ) (payload : List ℕ)
    (kind : Option ℕ) (a : Arrival)
    → EndsOpen (with_connections xs old) new label n code payload kind a
    → EndsOpen old new label n code payload kind a
by-kind old new xs label n code payload (Some kind) a h =
    (h.0, record { rest = h.1.rest; moves = h.1.moves })
by-kind old new xs label n code payload None a h = h

-- a response that goes by its identifier
pub labelled : (old new : Bus) (k : ℕ) (at : Side) (label code : ℕ) (payload : List ℕ)
    (xs : List Connection) (m : Matched) (r : Result Arrival DeliverFault)
    → MatchesIn old.connections xs k at None label m
    → LabelsTo (with_connections xs old) new label code payload m r
    → LabelledAs old new k at label code payload r
labelled old new k at label code payload xs (matched.Open n) (Err e) d h = h
labelled old new k at label code payload xs (matched.Open n) (Ok a) d h = record {
  matched = matched.Open n;
  matches = subst (λ ys. MatchesIn old.connections ys k at None label (matched.Open n))
      (after-match old new xs h.1) d;
  answers = by-kind old new xs label n code payload (open_kind (slot_at old.slots n)) a h.0;
}
labelled old new k at label code payload xs (matched.Late n) (Err e) d h = absurd (cc h.0)
labelled old new k at label code payload xs (matched.Late n) (Ok a) d h = record {
  matched = matched.Late n;
  matches = subst (λ ys. MatchesIn old.connections ys k at None label (matched.Late n))
      (after-match old new xs h.1) d;
  answers = (
    same-ok a (arrival.LateLabel label) (Ok a) refl h.0,
    record {
      rest = h.1 ∙ ap (λ ys. record old { connections = ys; slots = new.slots })
          (after-match old new xs h.1);
      moves = h.2;
    },
  );
}
labelled old new k at label code payload xs matched.Unknown (Err e) d h = absurd (cc h.0)
labelled old new k at label code payload xs matched.Unknown (Ok a) d h = record {
  matched = matched.Unknown;
  matches = subst (λ ys. MatchesIn old.connections ys k at None label matched.Unknown)
      (sym (ap (λ (x : Bus). x.connections) h.1)) d;
  answers = (
    same-ok a (arrival.UnknownLabel label) (Ok a) refl h.0,
    h.1 ∙ ap (λ ys. with_connections ys old) (sym (ap (λ (x : Bus). x.connections) h.1)),
  );
}

-- a response that goes by its number
late : (old new : Bus) (number : ℕ) (xs : List Connection) (a : Arrival)
    (r : Result Arrival DeliverFault) → r ≡ Ok a → r ≡ Ok (arrival.Late number)
    → new ≡ record (with_connections xs old) { slots = new.slots }
    → MovesAt number forgets old.slots.tally old.slots new.slots
    → (a ≡ arrival.Late number) × ChangesRequest old new number forgets old.slots.tally
late old new number xs a r is e rest moves = (
  same-ok a (arrival.Late number) r is e,
  record {
    rest = rest ∙ ap (λ ys. record old { connections = ys; slots = new.slots })
        (after-match old new xs rest);
    moves = moves;
  },
)

answers-by : (old new : Bus) (number code : ℕ) (payload : List ℕ) (xs : List Connection)
    (kind : Option ℕ) (m : Matched) (a : Arrival)
    → AnswersTo kind (with_connections xs old) new number code payload m (Ok a)
    → Answers old new number code payload m kind a × (xs ≡ new.connections)
answers-by old new number code payload xs (Some kind) (matched.Open j) a h = (
  (
    h.0,
    record {
      rest = h.1 ∙ ap (λ ys. record old { connections = ys; slots = new.slots })
          (after-match old new xs h.1);
      moves = h.2;
    },
  ),
  after-match old new xs h.1,
)
answers-by old new number code payload xs (Some kind) (matched.Late j) a h =
    (late old new number xs a (Ok a) refl h.0 h.1 h.2, after-match old new xs h.1)
answers-by old new number code payload xs (Some kind) matched.Unknown a h =
    (late old new number xs a (Ok a) refl h.0 h.1 h.2, after-match old new xs h.1)
answers-by old new number code payload xs None (matched.Open j) a h =
    (late old new number xs a (Ok a) refl h.0 h.1 h.2, after-match old new xs h.1)
answers-by old new number code payload xs None (matched.Late j) a h =
    (late old new number xs a (Ok a) refl h.0 h.1 h.2, after-match old new xs h.1)
answers-by old new number code payload xs None matched.Unknown a h =
    (late old new number xs a (Ok a) refl h.0 h.1 h.2, after-match old new xs h.1)

err-by : (old new : Bus) (number code : ℕ) (payload : List ℕ) (kind : Option ℕ) (m : Matched)
    (e : DeliverFault) → AnswersTo kind old new number code payload m (Err e) → IsMemory e
err-by old new number code payload (Some kind) (matched.Open j) e h = h
err-by old new number code payload (Some kind) (matched.Late j) e h = absurd (cc h.0)
err-by old new number code payload (Some kind) matched.Unknown e h = absurd (cc h.0)
err-by old new number code payload None m e h = absurd (cc h.0)

answered : (old new : Bus) (k : ℕ) (at : Side) (number label code : ℕ) (payload : List ℕ)
    (xs : List Connection) (m : Matched) (r : Result Arrival DeliverFault)
    → MatchesIn old.connections xs k at (Some number) label m
    → AnswersTo (open_kind (slot_at old.slots number)) (with_connections xs old) new number code
    payload m r
    → AnswersAs old new k at number label code payload r
answered old new k at number label code payload xs m (Err e) d h =
    err-by (with_connections xs old) new number code payload
    (open_kind (slot_at old.slots number)) m e h
answered old new k at number label code payload xs m (Ok a) d h =
    let w = answers-by old new number code payload xs (open_kind (slot_at old.slots number)) m a h
    in record {
      matched = m;
      matches = subst (λ ys. MatchesIn old.connections ys k at (Some number) label m) w.1 d;
      answers = w.0;
    }

-- a response to a request with a number, on a connection that is unclean or isn't
pub replied_unclean : (old new : Bus) (k : ℕ) (at : Side) (number label code : ℕ)
    (payload : List ℕ) (xs : List Connection) (unclean is : Bool) (m : Matched)
    (r : Result Arrival DeliverFault) → is ≡ true → is ≡ unclean
    → MatchesIn old.connections xs k at (asked_of is number) label m
    → LabelsTo (with_connections xs old) new label code payload m r
    → RepliesTo unclean old new k at number label code payload r
replied_unclean old new k at number label code payload xs true true m r e f d h =
    labelled old new k at label code payload xs m r d h
replied_unclean old new k at number label code payload xs true false m r e f d h = absurd (cc e)
replied_unclean old new k at number label code payload xs false is m r e f d h =
    absurd (cc (e, f))

pub replied_clean : (old new : Bus) (k : ℕ) (at : Side) (number label code : ℕ)
    (payload : List ℕ) (xs : List Connection) (unclean is : Bool) (m : Matched)
    (r : Result Arrival DeliverFault) → is ≡ false → is ≡ unclean
    → MatchesIn old.connections xs k at (asked_of is number) label m
    → AnswersTo (open_kind (slot_at old.slots number)) (with_connections xs old) new number code
    payload m r
    → RepliesTo unclean old new k at number label code payload r
replied_clean old new k at number label code payload xs false false m r e f d h =
    answered old new k at number label code payload xs m r d h
replied_clean old new k at number label code payload xs false true m r e f d h = absurd (cc e)
replied_clean old new k at number label code payload xs true is m r e f d h = absurd (cc (e, f))
