-- What becomes of the basis of all laws: names, loose items, replies and answers.
use Rattle.std.proofs.Common.{Bool, List, None, Option, Some, ap, arith, cond, false, inr, map}
use Rattle.std.proofs.Common.{refl, subst, sym, true, ℕ, ⊎_elim, ◌∙◌, ◌∷◌, ◌≡◌}
use Rattle.std.specs.Prelude.{Err, Ok, Result, is_some, option_map, ◌==◌}
use Rattle.gb_base.specs.declared.end.Side.{Side}
use Rattle.gb_base.specs.declared.end.Side.TheVariants as side
use Rattle.gb_base.specs.declared.reasons.RawFault.{RawFault}
use Rattle.gb_base.specs.declared.name.Name.{Name}
use Rattle.gb_formats.specs.{Message.Message, Wire.raw_message}
use Rattle.gb_machine.specs.Bus.{Ask, Bus, Connection, Item, Raw, RawReply, Reply, Request}
use Rattle.gb_machine.specs.Bus.{has_number, other_side, request_of}
use Rattle.gb_machine.specs.Delivery.{popped, replied, without_front}
use Rattle.gb_machine.specs.Incoming.{Incoming, incoming, incoming_raw, is_request, raw_request}
use Rattle.gb_machine.specs.Incoming.{reply_item, request_in}
use Rattle.gb_machine.specs.{LawsBus.NameRequests, LawsBus.is_item_of, Members.Each, Members.IsIn}
use Rattle.gb_machine.specs.{Requests.has_label, Requests.is_of, Sending.Draft, Sending.sent}
use Rattle.gb_machine.specs.{Serving.Answer}
use Rattle.gb_invariants.proofs.Awaiting.{is_of-is, none-some, same-some, sent-request}
use Rattle.gb_invariants.proofs.Changes.{loose-keeps, none-counted-answers, raw-new, replied-keeps}
use Rattle.gb_invariants.proofs.Changes.{reply-new, unclean-answers}
use Rattle.gb_invariants.proofs.Items.{Lies, answers as numbers, hangs, waits}
use Rattle.gb_invariants.proofs.{Counts.times-cons, Drawing.given_up_with-is}
use Rattle.gb_invariants.proofs.{Drawing.open_with-in_use, ItemChanges.NoneAnswers}
use Rattle.gb_invariants.proofs.{Lists.at_first-back, Lists.each-weaker, OneItem.none-other}
use Rattle.gb_invariants.proofs.{Outcomes.both-true, Selves.front-self}
use Rattle.gb_invariants.specs.Facts.{BusFits, Loose}
use Rattle.gb_laws.proofs.points.PointParts.{Basis, Hand, IsStill, Point, loose, loose_hand}
use Rattle.gb_laws.proofs.points.PointParts.{loose_held}
use Rattle.gb_laws.proofs.points.Points.{Answers, Forgets, by_label, by_number}
use Rattle.gb_laws.proofs.basis.Loosening.{Fewer, fewer-tail}
use Rattle.gb_laws.proofs.links.Draining.{FirstDrains}

-- ---- names

-- requests that were made stay
abbrev Remains : Bus → Bus → Type 0
Remains b after = (n : ℕ) → is_some (request_of n b) ≡ true → is_some (request_of n after) ≡ true

pub names-remain : (ps : List (Name × ℕ)) (b after : Bus) → Remains b after
    → Each (λ (p : Name × ℕ). is_some (request_of p.1 b) ≡ true) ps
    → Each (λ (p : Name × ℕ). is_some (request_of p.1 after) ≡ true) ps
names-remain ps b after remain h =
    each-weaker (λ (p : Name × ℕ). is_some (request_of p.1 b) ≡ true)
    (λ (p : Name × ℕ). is_some (request_of p.1 after) ≡ true) ps (λ p. remain p.1) h

pub sent-remains : (d : Draft) (label : ℕ) (b : Bus) → Remains b (sent d label b)
sent-remains d label b n h = by (request_of n b) refl h
  where
    by : (o : Option Request) → request_of n b ≡ o → is_some o ≡ true
        → is_some (request_of n (sent d label b)) ≡ true
    by None e h = absurd cc
    by (Some r) e h = ap is_some (sent-request d label b n r e)

-- ---- what becomes of the basis

-- where the bus, what is held, the names and what is being handled stay
pub basis-same : (a after : Point) → after.hand ≡ a.hand → after.state.bus ≡ a.state.bus
    → after.state.held ≡ a.state.held → after.state.names ≡ a.state.names
    → FirstDrains after.state.host.links → Basis a → Basis after
basis-same a after hand bus held named_same drains h = record {
  bus = subst (λ l. BusFits l after.state.bus)
      (ap (λ o. loose_hand o (map loose_held a.state.held)) (sym hand)
      ∙ ap (λ hs. loose_hand after.hand (map loose_held hs)) (sym held))
      (subst (BusFits (loose a)) (sym bus) h.bus);
  names = subst (λ ns. Each (λ (p : Name × ℕ). is_some (request_of p.1 after.state.bus) ≡ true) ns)
      (sym named_same)
      (subst (λ b. Each (λ (p : Name × ℕ). is_some (request_of p.1 b) ≡ true) a.state.names)
      (sym bus) h.names);
  drains = drains;
  hand = λ x e. subst (IsStill x.connection) (sym bus) (h.hand x (sym hand ∙ e));
}

-- where nothing is being handled
pub free-bus : {a : Point} → a.hand ≡ None → Basis a
    → BusFits (map loose_held a.state.held) a.state.bus
free-bus {a} free h =
    subst (λ o. BusFits (loose_hand o (map loose_held a.state.held)) a.state.bus) free h.bus

pub free-basis : {a : Point} → a.hand ≡ None → BusFits (map loose_held a.state.held) a.state.bus
    → NameRequests a.state → FirstDrains a.state.host.links → Basis a
free-basis {a} free fits made drains = record {
  bus = subst (λ o. BusFits (loose_hand o (map loose_held a.state.held)) a.state.bus) (sym free)
      fits;
  names = made;
  drains = drains;
  hand = λ x e. absurd (none-some (sym free ∙ e));
}

-- where something is being handled
pub held-bus : (a : Point) (x : Hand) → a.hand ≡ Some x → Basis a
    → BusFits (record { connection = x.connection.number; side = x.side; item = x.item } ∷ map
    loose_held a.state.held) a.state.bus
held-bus a x is h =
    subst (λ o. BusFits (loose_hand o (map loose_held a.state.held)) a.state.bus) is h.bus

-- a connection of which an item is taken is what it was
pub still-popped : {c : Connection} (at : Side) (b : Bus) → IsIn c b.connections
    → IsStill c (popped c.number at b)
still-popped {c} at b live =
    ⊎_elim (λ i. record {
      now = c;
      live = i;
      self = record { number = refl; clean = refl; shut = refl; ap = refl; peer = refl };
    }) (λ i. record { now = without_front at c; live = i; self = front-self at c })
    (at_first-back (has_number c.number) (without_front at) b.connections c live)

pub keeps-fewer : {loose : List Loose} (later : List Loose) {b : Bus} → Fewer later loose → BusFits
    loose b → BusFits later b
keeps-fewer {loose} later {b} fewer h =
    loose-keeps loose later b fewer.within
    (λ n. let less = fewer.counts (is_item_of n) in omega (arith, less)) h

-- an item in hand, as a loose one
abbrev pub loose_of : Hand → Loose
loose_of x = record { connection = x.connection.number; side = x.side; item = x.item }

-- toward the far side it is as a held one
pub taken-is : (k j : ℕ) (at : Side) (item : Item) → j ≡ k → at ≡ side.Far
    → record { connection = k; side = at; item = item } ≡ loose_held
    (record { connection = j; item = item })
taken-is k j at item on far =
    ap (λ (s : Side). let l : Loose = record { connection = k; side = s; item = item } in l) far
    ∙ ap (λ (n : ℕ). let l : Loose = record { connection = n; side = side.Far; item = item } in l)
    (sym on)

-- ---- replies and answers

-- the reply to a request, where the request was in hand
asked-fits : (rest : List Loose) (b : Bus) (k n : ℕ) (at : Side) (x : Request) (r : Answer)
    → BusFits (record { connection = k; side = at; item = Ask n } ∷ rest) b
    → request_of n b ≡ Some x → x.oneway ≡ false
    → BusFits rest (replied k (other_side at) (reply_item (incoming n x) r) b)
asked-fits rest b k n at x r fits made twoway =
    replied-keeps (hand ∷ rest) rest k (other_side at) (Reply n r.result r.payload) b
    (fewer-tail hand).within (reply-new rest b k n r.result r.payload at x made twoway fits)
    (λ j. let c = times-cons (λ (l : Loose). is_item_of j l.item) hand rest in omega (arith, c))
    fits
  where
    hand : Loose
    hand = record { connection = k; side = at; item = Ask n }

-- the reply to raw bytes
raw-fits : (rest : List Loose) (b : Bus) (k : ℕ) (bytes : List ℕ) (at : Side) (x : Message)
    (r : Answer) → BusFits (record { connection = k; side = at; item = Raw bytes } ∷ rest) b
    → BusFits rest (replied k (other_side at) (reply_item (incoming_raw x) r) b)
raw-fits rest b k bytes at x r fits =
    replied-keeps (hand ∷ rest) rest k (other_side at) (RawReply x.id x.kind r.result r.payload) b
    (fewer-tail hand).within (raw-new rest b k x.id x.kind r.result bytes r.payload at fits)
    (λ j. let c = times-cons (λ (l : Loose). is_item_of j l.item) hand rest in omega (arith, c))
    fits
  where
    hand : Loose
    hand = record { connection = k; side = at; item = Raw bytes }

pub replied-fits : {rest : List Loose} {b : Bus} (k : ℕ) (at : Side) (item : Item) (q : Incoming)
    (r : Answer) → BusFits (record { connection = k; side = at; item = item } ∷ rest) b
    → request_in item b ≡ Some q → q.oneway ≡ false
    → BusFits rest (replied k (other_side at) (reply_item q r) b)
replied-fits {rest} {b} k at (Ask n) q r fits made twoway = by (request_of n b) refl made
  where
    by : (o : Option Request) → request_of n b ≡ o → option_map (incoming n) o ≡ Some q
        → BusFits rest (replied k (other_side at) (reply_item q r) b)
    by None e f = absurd cc
    by (Some x) e f =
        let is = same-some (incoming n x) q f in
        subst (λ z. BusFits rest (replied k (other_side at) (reply_item z r) b)) is
        (asked-fits rest b k n at x r fits e (ap (λ (z : Incoming). z.oneway) is ∙ twoway))
replied-fits {rest} {b} k at (Raw bytes) q r fits made twoway = by (raw_message bytes) made
  where
    by : (o : Result Message RawFault) → raw_request o ≡ Some q
        → BusFits rest (replied k (other_side at) (reply_item q r) b)
    by (Err fault) f = absurd cc
    by (Ok x) f = asks_by (is_request x) f
      where
        asks_by : (t : Bool) → cond t (Some (incoming_raw x)) None ≡ Some q
            → BusFits rest (replied k (other_side at) (reply_item q r) b)
        asks_by false f = absurd cc
        asks_by true f =
            subst (λ z. BusFits rest (replied k (other_side at) (reply_item z r) b))
            (same-some (incoming_raw x) q f) (raw-fits rest b k bytes at x r fits)
replied-fits k at (Reply n result payload) q r fits made twoway = absurd cc
replied-fits k at (RawReply label kind result payload) q r fits made twoway = absurd cc

lies-more : (rest : List Loose) (l : Loose) (c : Connection) (at : Side) (item : Item)
    → Lies rest c at item → Lies (l ∷ rest) c at item
lies-more rest l c at item (waits i) = waits i
lies-more rest l c at item (hangs x i on toward is) = hangs x (inr i) on toward is

-- no other item on a clean connection has its number
label-none : (rest : List Loose) (b : Bus) (x : Hand) (n label : ℕ) (r : Request)
    → BusFits (loose_of x ∷ rest) b
    → IsStill x.connection b → x.connection.clean ≡ false → request_of n b ≡ Some r
    → has_label x.connection.number x.side label r ≡ true → NoneAnswers rest b n
label-none rest b x n label r fits still dirty made has c at item live clean lies number =
    let p = both-true (is_of x.connection.number x.side r) (r.label == label) has in
    let q = is_of-is x.connection.number x.side r p.0 in
    unclean-answers (loose_of x ∷ rest) b n r still.now fits made still.live
    (q.0 ∙ sym still.self.number) (still.self.clean ∙ dirty)
    c at item live clean (lies-more rest (loose_of x) c at item lies) number

number-none : (rest : List Loose) (b : Bus) (x : Hand) (n result : ℕ) (payload : List ℕ)
    → BusFits (loose_of x ∷ rest) b → x.item ≡ Reply n result payload → NoneAnswers rest b n
number-none rest b x n result payload fits is =
    none-counted-answers rest b n (none-other (loose_of x) rest b n fits.ones
    (numbers result payload is))

pub answers-none : (rest : List Loose) {b : Bus} (x : Hand) (n : ℕ) → BusFits (loose_of x ∷ rest) b
    → IsStill x.connection b → Answers x n b → NoneAnswers rest b n
answers-none rest {b} x n fits still (by_number result payload is clean unended) =
    number-none rest b x n result payload fits is
answers-none rest {b} x n fits still (by_label label dirty is) =
    let o = open_with-in_use x.connection.number x.side label b n is in label-none rest b x n label
    o.0 fits still dirty o.1 o.2

pub forgets-none : (rest : List Loose) {b : Bus} (x : Hand) (n : ℕ) → BusFits (loose_of x ∷ rest) b
    → IsStill x.connection b → Forgets x n b → NoneAnswers rest b n
forgets-none rest {b} x n fits still (by_number result payload is clean) =
    number-none rest b x n result payload fits is
forgets-none rest {b} x n fits still (by_label label dirty is) =
    let g = given_up_with-is x.connection.number x.side label b n is in label-none rest b x n label
    g.1.0 fits still dirty g.1.1 g.1.2
