-- What becomes of items by each single change of the bus.
use Rattle.std.proofs.Common.{Bool, List, Some, ap, arith, false, inl, inr, refl, subst, sym, true}
use Rattle.std.proofs.Common.{ℕ, ⊎_elim, [], ◌∙◌, ◌∷◌, ◌≡◌, ◌⊎◌}
use Rattle.gb_base.specs.declared.end.Side.{Side}
use Rattle.gb_base.specs.declared.end.End.TheVariants as end
use Rattle.gb_base.specs.declared.end.Side.TheVariants as side
use Rattle.gb_base.specs.declared.outcome.Outcome.{Outcome}
use Rattle.gb_machine.specs.Bus.{Ask, Bus, Connection, Item, Request, has_number, next_number}
use Rattle.gb_machine.specs.Bus.{other_side, queue, request_of}
use Rattle.gb_machine.specs.Delivery.{ended, forgotten, popped, replied, without_front}
use Rattle.gb_machine.specs.Lists.{at_first, first, nth}
use Rattle.gb_machine.specs.Sending.{Draft, drawn, put, requested, sent}
use Rattle.gb_machine.specs.Wiring.{attached, detached, new_connection, next_connection, side_ended}
use Rattle.gb_machine.specs.Wiring.{with_connection}
use Rattle.gb_machine.specs.{LawsBus.is_awaited, Members.IsIn, Requests.gave_up, Requests.is_of}
use Rattle.gb_invariants.proofs.Awaiting.{ended-after, forgotten-after, gave_up-after, is_of-is}
use Rattle.gb_invariants.proofs.Awaiting.{same-some, sent-after, sent-awaited, sent-new}
use Rattle.gb_invariants.proofs.Awaiting.{sent-request, side_ended-after}
use Rattle.gb_invariants.proofs.Items.{HasNumber, IsNew, IsNewLoose, Lies, Source, answers, asks}
use Rattle.gb_invariants.proofs.Items.{due-same, fit-changed, own-same, unchanged}
use Rattle.gb_invariants.proofs.Lists.{each-in, in-pushed, in-without}
use Rattle.gb_invariants.proofs.Selves.{SameBody, SameSelf, both-self, drawn-body, drawn-queue}
use Rattle.gb_invariants.proofs.Selves.{front-queue, front-self, put-body, put-queue, put-self}
use Rattle.gb_invariants.proofs.{Labels.asked_on, Numbers.in-changed, Numbers.same-connection}
use Rattle.gb_invariants.specs.Facts.{IsAnswerable, IsDue, IsMade, IsOwn, ItemsFit, Loose}
use Rattle.gb_invariants.specs.Facts.{NumbersRise, OutcomesFit, asker}

-- ---- connections that come from those before

-- what can be answered on a connection depends on what it is alone
pub answerable-self : (b after : Bus) (c d : Connection) (at : Side) (item : Item) → SameSelf c d
    → (IsDue b item → IsDue after item) → IsAnswerable b c at item → IsAnswerable after d at item
answerable-self b after c d at item h due a = record {
  numbered = λ e. a.numbered (sym h.clean ∙ e);
  due = λ e unshut. due (a.due (sym h.clean ∙ e) (λ f. sym h.shut ∙ unshut f));
}

-- items that a connection has then come from those before, or are new
abbrev ItemsCome : Bus → Connection → Connection → Type 0
ItemsCome after c d = (at : Side) (item : Item) → IsIn item (queue at d) → IsIn item (queue at c)
    ⊎ IsNew after d at item

self-source : (b after : Bus) (c d : Connection) → IsIn c b.connections → SameSelf c d
    → ItemsCome after c d → Source b after d
self-source b after c d live h items = record {
  was = c;
  live = live;
  number = sym h.number;
  clean = λ e. sym h.clean ∙ e;
  shut = λ e. sym h.shut ∙ e;
  items = items;
}

-- where one connection changes
changed-source : (b after : Bus) (k : ℕ) (change : Connection → Connection) → NumbersRise b
    → ((c : Connection) → SameSelf c (change c))
    → ((c : Connection) → IsIn c b.connections → c.number ≡ k → ItemsCome after c (change c))
    → (c : Connection) → IsIn c (at_first (has_number k) change b.connections) → Source b after c
changed-source b after k change numbers self items c live =
    ⊎_elim (λ h. unchanged b after c h.0)
    (λ h. subst (λ x. Source b after x) (sym h.3) (self-source b after h.0 (change h.0) h.1
    (self h.0) (items h.0 h.1 h.2))) (in-changed b.connections k change c numbers.rise live)

-- ---- a request is made

-- what becomes of the connection of a new request
pub asked_on-body : (d : Draft) (label : ℕ) (b : Bus) (c : Connection)
    → SameBody c (asked_on d label b c)
asked_on-body d label b c =
    let h = drawn-body d label c in
    let k = put-body (other_side d.side) (Ask (next_number b)) (drawn d label c) in record {
      self = both-self c (drawn d label c) (asked_on d label b c) h.self k.self;
      wired = k.wired ∙ h.wired;
      protocol = k.protocol ∙ h.protocol;
    }

pub asked_on-self : (d : Draft) (label : ℕ) (b : Bus) (c : Connection)
    → SameSelf c (asked_on d label b c)
asked_on-self d label b c = (asked_on-body d label b c).self

pub other-other : (s : Side) → other_side (other_side s) ≡ s
other-other side.Ap = refl
other-other side.Far = refl

-- the new item
new-ask : (d : Draft) (label : ℕ) (b : Bus) (c : Connection) → OutcomesFit b
    → c.number ≡ d.connection → IsNew (sent d label b) c (other_side d.side) (Ask (next_number b))
new-ask d label b c fits on = record {
  own = (requested d label, sent-new d label b, sym on, sym (other-other d.side));
  answerable = record {
    numbered = λ e. refl;
    due = λ e unshut r made twoway. sent-awaited d label b fits
        (ap (λ (q : Request). q.oneway) (same-some (requested d label) r
        (sym (sent-new d label b) ∙ made)) ∙ twoway);
  };
}

pub items-sent : (loose : List Loose) (d : Draft) (label : ℕ) (b : Bus) → NumbersRise b
    → OutcomesFit b → ItemsFit loose b → ItemsFit loose (sent d label b)
items-sent loose d label b numbers fits h = fit-changed loose loose b (sent d label b) (record {
  came = changed-source b (sent d label b) d.connection (asked_on d label b) numbers
      (asked_on-self d label b) come;
  made = omega arith;
  hung = λ l i. inl i;
  own = own-same b (sent d label b) (sent-request d label b);
  due = λ c at item live lies own clean unshut. due-same b (sent d label b) item
      (λ n r made has. was c at item own n r made has) (λ n has. sent-after d label b n);
}) h
  where
    come : (c : Connection) → IsIn c b.connections → c.number ≡ d.connection
        → ItemsCome (sent d label b) c (asked_on d label b c)
    come c live on at item i =
        ⊎_elim (λ old. inl (subst (λ is. IsIn item is) (drawn-queue at d label c) old))
        (λ new. inr (subst (λ s. IsNew (sent d label b) (asked_on d label b c) s item) (sym new.0)
        (subst (λ x. IsNew (sent d label b) (asked_on d label b c) (other_side d.side) x)
        (sym new.1)
        (new-ask d label b (asked_on d label b c) fits ((asked_on-self d label b c).number ∙ on)))))
        (put-queue at (other_side d.side) (Ask (next_number b)) item (drawn d label c) i)

    same : (n : ℕ) (q r : Request) → request_of n b ≡ Some q
        → request_of n (sent d label b) ≡ Some r → request_of n b ≡ Some r
    same n q r old made = old ∙ sym (sent-request d label b n q old) ∙ made

    was : (c : Connection) (at : Side) (item : Item) → IsOwn b c.number at item
        → (n : ℕ) (r : Request)
        → request_of n (sent d label b) ≡ Some r → HasNumber n item → request_of n b ≡ Some r
    was c at item own n r made (asks e) =
        let o = subst (λ x. IsOwn b c.number at x) e own in same n o.0 r o.1 made
    was c at item own n r made (answers result payload e) =
        let o = subst (λ x. IsOwn b c.number at x) e own in same n o.0 r o.1 made

-- ---- an item is put on a connection

-- requests and outcomes are the same, and what a connection is; loose items are some
-- of those before
pub items-replied : (loose later : List Loose) (k : ℕ) (at : Side) (item : Item) (b : Bus)
    → NumbersRise b → ((l : Loose) → IsIn l later → IsIn l loose)
    → ((c : Connection) → IsIn c b.connections → c.number ≡ k → IsNew b c at item)
    → ItemsFit loose b → ItemsFit later (replied k at item b)
items-replied loose later k at item b numbers fewer new h = fit-changed loose later b
    (replied k at item b) (record {
      came = changed-source b (replied k at item b) k (put at item) numbers (put-self at item) come;
      made = omega arith;
      hung = λ l i. inl (fewer l i);
      own = λ j s x o. o;
      due = λ c s x live lies own clean unshut d. d;
    }) h
  where
    put-new : (c : Connection) → IsNew b c at item
        → IsNew (replied k at item b) (put at item c) at item
    put-new c n = record {
      own = subst (λ j. IsOwn b j at item) (sym (put-self at item c).number) n.own;
      answerable = answerable-self b (replied k at item b) c (put at item c) at item
          (put-self at item c) (λ e. e) n.answerable;
    }

    come : (c : Connection) → IsIn c b.connections → c.number ≡ k
        → ItemsCome (replied k at item b) c (put at item c)
    come c live on s x i =
        ⊎_elim (λ old. inl old)
        (λ e. inr (subst (λ t. IsNew (replied k at item b) (put at item c) t x) (sym e.0)
        (subst (λ y. IsNew (replied k at item b) (put at item c) at y) (sym e.1)
        (put-new c (new c live on))))) (put-queue s at item x c i)

-- ---- the front item is taken

pub first-in : (is : List Item) (item : Item) → first is ≡ Some item → IsIn item is
first-in [] item h = absurd cc
first-in (i ∷ is) item h = inl (sym (same-some i item h))

-- the item that is taken is loose then
pub items-popped : (loose : List Loose) (at : Side) (item : Item) (c : Connection) (b : Bus)
    → NumbersRise b → IsIn c b.connections → first (queue at c) ≡ Some item
    → ItemsFit loose b → ItemsFit (record { connection = c.number; side = at; item = item } ∷ loose)
    (popped c.number at b)
items-popped loose at item c b numbers live front h =
    fit-changed loose (record { connection = c.number; side = at; item = item } ∷ loose) b
    (popped c.number at b) (record {
      came = changed-source b (popped c.number at b) c.number (without_front at) numbers
          (front-self at) (λ d i e s x j. inl (front-queue s at x d j));
      made = omega arith;
      hung = λ l i. ⊎_elim (λ is. inr (hand l is)) (λ later. inl later) i;
      own = λ j s x o. o;
      due = λ d s x i lies own clean unshut k. k;
    }) h
  where
    waiting : IsIn item (queue at c)
    waiting = first-in (queue at c) item front

    here : IsNewLoose (popped c.number at b) (record {
      connection = c.number;
      side = at;
      item = item;
    })
    here = record {
      own = h.own c at item live waiting;
      made = (each-in (IsMade b) b.connections c numbers.range live).1;
      answerable = λ d i e. ⊎_elim (λ o. absurd (o.1 e))
          (λ w. let is = same-connection b.connections w.0 c numbers.rise w.1 live w.2 in
          answerable-self b (popped c.number at b) c d at item
          (subst (λ x. SameSelf c x) (ap (without_front at) (sym is) ∙ sym w.3) (front-self at c))
          (λ e. e) (h.answerable c at item live waiting))
          (in-changed b.connections c.number (without_front at) d numbers.rise i);
    }

    hand : (l : Loose) → l ≡ record { connection = c.number; side = at; item = item }
        → IsNewLoose (popped c.number at b) l
    hand l e = subst (λ x. IsNewLoose (popped c.number at b) x) (sym e) here

-- ---- a request ends, is forgotten or is given up

-- what has to be known where a request isn't awaited any more: no item has its number, but for such
-- on connections that aren't clean
abbrev pub NoneAnswers : List Loose → Bus → ℕ → Type 0
NoneAnswers loose b m =
    (c : Connection) (at : Side) (item : Item) → IsIn c b.connections → c.clean ≡ true
    → Lies loose c at item → HasNumber m item → ⊥

-- connections and requests are the same, and one request isn't awaited any more
items-without : (loose later : List Loose) (m : ℕ) (b after : Bus)
    → after.connections ≡ b.connections → after.requests ≡ b.requests → after.made ≡ b.made
    → ((n : ℕ) → (m ≡ n → ⊥) → is_awaited n b ≡ true → is_awaited n after ≡ true)
    → ((l : Loose) → IsIn l later → IsIn l loose) → NoneAnswers later b m
    → ItemsFit loose b → ItemsFit later after
items-without loose later m b after same_connections same_requests same_made keeps fewer none h =
    fit-changed loose later b after (record {
      came = λ c live. unchanged b after c (subst (λ cs. IsIn c cs) same_connections live);
      made = omega (arith, same_made);
      hung = λ l i. inl (fewer l i);
      own = own-same b after (λ n r made. ap (nth n) same_requests ∙ made);
      due = λ c at item live lies own clean unshut. due-same b after item
          (λ n r made has. ap (nth n) (sym same_requests) ∙ made)
          (λ n has. keeps n (λ e. none c at item (subst (λ cs. IsIn c cs) same_connections live)
          clean lies (subst (λ k. HasNumber k item) (sym e) has)));
    }) h

pub items-ended : (loose later : List Loose) (m : ℕ) (how : Outcome) (b : Bus)
    → ((l : Loose) → IsIn l later → IsIn l loose) → NoneAnswers later b m
    → ItemsFit loose b → ItemsFit later (ended m how b)
items-ended loose later m how b fewer none h =
    items-without loose later m b (ended m how b) refl refl refl (λ n. ended-after m how b n) fewer
    none h

pub items-forgotten : (loose later : List Loose) (m : ℕ) (b : Bus)
    → ((l : Loose) → IsIn l later → IsIn l loose) → NoneAnswers later b m
    → ItemsFit loose b → ItemsFit later (forgotten m b)
items-forgotten loose later m b fewer none h =
    items-without loose later m b (forgotten m b) refl refl refl (λ n. forgotten-after m b n) fewer
    none h

-- loose items may be let go
pub items-fewer : (loose later : List Loose) (b : Bus) → ((l : Loose) → IsIn l later → IsIn l loose)
    → ItemsFit loose b → ItemsFit later b
items-fewer loose later b fewer h = record {
  own = h.own;
  own_loose = λ l i. h.own_loose l (fewer l i);
  made_loose = λ l i. h.made_loose l (fewer l i);
  answerable = h.answerable;
  answerable_loose = λ c l live i. h.answerable_loose c l live (fewer l i);
}

pub items-gave_up : (loose : List Loose) (m : ℕ) (how : Outcome) (b : Bus) → ItemsFit loose b
    → ItemsFit loose (gave_up m how b)
items-gave_up loose m how b h = fit-changed loose loose b (gave_up m how b) (record {
  came = λ c live. unchanged b (gave_up m how b) c live;
  made = omega arith;
  hung = λ l i. inl i;
  own = λ k at item o. o;
  due = λ c at item live lies own clean unshut. due-same b (gave_up m how b) item
      (λ n r made has. made) (λ n has. gave_up-after m how b n);
}) h

-- ---- a side ends

-- Nothing has to be answered to a side of a connection any more: no item of its requests lies
-- there, or it is the application processor's and closed.
abbrev pub SideIsOver : List Loose → Bus → ℕ → Side → Type 0
SideIsOver loose b k at =
    (c : Connection) (s : Side) (item : Item) → IsIn c b.connections → c.number ≡ k → Lies loose c s
    item → asker s item ≡ at → (asker s item ≡ side.Ap → c.shut ≡ false) → ⊥

pub items-side_ended : (loose : List Loose) (k : ℕ) (at : Side) (b : Bus) → SideIsOver loose b k at
    → ItemsFit loose b → ItemsFit loose (side_ended k at b)
items-side_ended loose k at b over h = fit-changed loose loose b (side_ended k at b) (record {
  came = λ c live. unchanged b (side_ended k at b) c live;
  made = omega arith;
  hung = λ l i. inl i;
  own = λ j s item o. o;
  due = λ c s item live lies own clean unshut. due-same b (side_ended k at b) item
      (λ n r made has. made) (λ n has w. still c s item live lies own unshut n has w);
}) h
  where
    -- the request of an item is of the item's connection and asker
    is : (c : Connection) (s : Side) (item : Item) (n : ℕ) → IsOwn b c.number s item
        → HasNumber n item → (r : Request) × (request_of n b ≡ Some r) × (r.connection ≡ c.number)
        × (r.side ≡ asker s item)
    is c s item n own (asks e) =
        let o = subst (λ x. IsOwn b c.number s x) e own in (
          o.0,
          o.1,
          o.2,
          o.3 ∙ ap (asker s) (sym e),
        )
    is c s item n own (answers result payload e) =
        let o = subst (λ x. IsOwn b c.number s x) e own in (
          o.0,
          o.1,
          o.2,
          o.3 ∙ ap (asker s) (sym e),
        )

    still : (c : Connection) (s : Side) (item : Item) → IsIn c b.connections → Lies loose c s item
        → IsOwn b c.number s item → (asker s item ≡ side.Ap → c.shut ≡ false) → (n : ℕ)
        → HasNumber n item → is_awaited n b ≡ true → is_awaited n (side_ended k at b) ≡ true
    still c s item live lies own unshut n has w =
        let o = is c s item n own has in
        by o.0 o.1 o.2 o.3 (is_of k at o.0) refl
      where
        by : (r : Request) → request_of n b ≡ Some r → r.connection ≡ c.number
            → r.side ≡ asker s item
            → (t : Bool) → is_of k at r ≡ t → is_awaited n (side_ended k at b) ≡ true
        by r made on from false e = side_ended-after k at b n r made e w
        by r made on from true e =
            let q = is_of-is k at r e in
            absurd (over c s item live (sym on ∙ q.0) lies (sym from ∙ sym q.1) unshut)

-- ---- a connection is wired, unwired, closed, made or gone, or bytes are injected

-- where a connection changes otherwise: it stays clean or not, and has fewer items, or new ones
pub items-changed : (loose later : List Loose) (k : ℕ) (change : Connection → Connection) (b : Bus)
    → NumbersRise b → ((l : Loose) → IsIn l later → IsIn l loose)
    → ((c : Connection) → (change c).number ≡ c.number)
    → ((c : Connection) → (change c).clean ≡ true → c.clean ≡ true)
    → ((c : Connection) → (change c).shut ≡ false → c.shut ≡ false)
    → ((c : Connection) (at : Side) (item : Item) → IsIn item (queue at (change c))
    → IsIn item (queue at c) ⊎ IsNew (with_connection k change b) (change c) at item)
    → ItemsFit loose b → ItemsFit later (with_connection k change b)
items-changed loose later k change b numbers fewer number clean shut items h =
    fit-changed loose later b (with_connection k change b) (record {
      came = λ c live. ⊎_elim (λ o. unchanged b (with_connection k change b) c o.0)
          (λ w. subst (λ x. Source b (with_connection k change b) x) (sym w.3) (record {
            was = w.0;
            live = w.1;
            number = sym (number w.0);
            clean = clean w.0;
            shut = shut w.0;
            items = items w.0;
          })) (in-changed b.connections k change c numbers.rise live);
      made = omega arith;
      hung = λ l i. inl (fewer l i);
      own = λ j s item o. o;
      due = λ c s item live lies own is unshut d. d;
    }) h

pub items-attached : (loose : List Loose) (b : Bus) (a i c protocol : ℕ) → ItemsFit loose b
    → ItemsFit loose (attached a i c protocol b)
items-attached loose b a i c protocol h = record {
  own = λ x at item live j. ⊎_elim (λ old. h.own x at item old j)
      (λ e. absurd (empty at item (subst (λ y. IsIn item (queue at y)) e j)))
      (in-pushed x b.connections new live);
  own_loose = h.own_loose;
  made_loose = λ l j. let low = h.made_loose l j in omega (arith, low);
  answerable = λ x at item live j. ⊎_elim (λ old. same x at item (h.answerable x at item old j))
      (λ e. absurd (empty at item (subst (λ y. IsIn item (queue at y)) e j)))
      (in-pushed x b.connections new live);
  answerable_loose = λ x l live j is. ⊎_elim (λ old. same x l.side l.item
      (h.answerable_loose x l old j is)) (λ e. let low = h.made_loose l j in
      absurd (omega (arith, low, is, ap (λ (y : Connection). y.number) e)))
      (in-pushed x b.connections new live);
}
  where
    new : Connection
    new = new_connection (next_connection b) a (end.Module i c) protocol

    empty : (at : Side) (item : Item)
        → IsIn item (queue at (new_connection (next_connection b) a (end.Module i c) protocol)) → ⊥
    empty side.Ap item j = j
    empty side.Far item j = j

    same : (x : Connection) (at : Side) (item : Item) → IsAnswerable b x at item
        → IsAnswerable (attached a i c protocol b) x at item
    same x at item k = record { numbered = k.numbered; due = k.due }

pub items-detached : (loose : List Loose) (b : Bus) (k : ℕ) → ItemsFit loose b
    → ItemsFit loose (detached k b)
items-detached loose b k h = fit-changed loose loose b (detached k b) (record {
  came = λ c live. unchanged b (detached k b) c (in-without (has_number k) b.connections c live).0;
  made = omega arith;
  hung = λ l i. inl i;
  own = λ j s item o. o;
  due = λ c s item live lies own is unshut d. d;
}) h
