-- Each single change of the bus keeps its facts.
use Rattle.std.proofs.Common.{List, Some, ap, arith, false, inl, inr, refl, subst, sym, true, ℕ}
use Rattle.std.proofs.Common.{⊎_elim, [], ◌+◌, ◌∙◌, ◌∷◌, ◌≡◌, ◌≤◌, ◌⊎◌}
use Rattle.gb_base.specs.declared.end.Side.{Side}
use Rattle.gb_base.specs.declared.end.Side.TheVariants as side
use Rattle.gb_base.specs.declared.outcome.Outcome.{Outcome}
use Rattle.gb_machine.specs.Bus.{Ask, Bus, Connection, Item, Raw, RawReply, Reply, Request}
use Rattle.gb_machine.specs.Bus.{connection_of, is_open, other_side, queue, request_of}
use Rattle.gb_machine.specs.Delivery.{ended, forgotten, popped, replied, without_front}
use Rattle.gb_machine.specs.Sending.{Draft, label_for, put, queued, sent}
use Rattle.gb_machine.specs.Wiring.{attached, detached, injected, next_connection, shut_down}
use Rattle.gb_machine.specs.Wiring.{side_ended, unwired, wired, with_connection}
use Rattle.gb_machine.specs.{LawsBus.is_item_of, Lists.first, Members.IsIn, Requests.gave_up}
use Rattle.gb_invariants.proofs.Awaiting.{AwaitsFewer, ended-before, forgotten-before}
use Rattle.gb_invariants.proofs.Awaiting.{gave_up-before, not-both, same-some, side_ended-before}
use Rattle.gb_invariants.proofs.Counts.{attached-counts, changed-counts, detached-counts}
use Rattle.gb_invariants.proofs.Counts.{injected-counts, one, popped-counts, replied-counts}
use Rattle.gb_invariants.proofs.Counts.{times-cons}
use Rattle.gb_invariants.proofs.Ending.{fits-ended, fits-forgotten, fits-gave_up, fits-sent}
use Rattle.gb_invariants.proofs.Ending.{fits-side_ended}
use Rattle.gb_invariants.proofs.ItemChanges.{NoneAnswers, SideIsOver, items-attached, items-changed}
use Rattle.gb_invariants.proofs.ItemChanges.{items-detached, items-ended, items-fewer}
use Rattle.gb_invariants.proofs.ItemChanges.{items-forgotten, items-gave_up, items-popped}
use Rattle.gb_invariants.proofs.ItemChanges.{items-replied, items-sent, items-side_ended}
use Rattle.gb_invariants.proofs.Items.{HasNumber, IsNew, Lies, answers, asks, hangs, waits}
use Rattle.gb_invariants.proofs.Labels.{asked_on, asked_on-number, label_for-drawn, labels-fewer}
use Rattle.gb_invariants.proofs.Labels.{labels-sent, put-number}
use Rattle.gb_invariants.proofs.Numbers.{found-by_number, found-number, in-changed, rise-attached}
use Rattle.gb_invariants.proofs.Numbers.{rise-changed, rise-detached, rise-sent, same-connection}
use Rattle.gb_invariants.proofs.{Lists.in-pushed, OneItem.lies-counted, OneItem.ones-sent}
use Rattle.gb_invariants.proofs.{Selves.front-self}
use Rattle.gb_invariants.specs.Facts.{BusFits, IsOwn, Loose, OneEach, OutcomesFit, times_in}
use Rattle.gb_invariants.specs.Facts.{times_on}

-- ---- a request is made

pub sent-keeps : (loose : List Loose) (d : Draft) (label : ℕ) (c : Connection) (b : Bus)
    → connection_of d.connection b ≡ Some c → label_for d b ≡ Some label
    → BusFits loose b → BusFits loose (sent d label b)
sent-keeps loose d label c b live drawn h =
    let f = found-number d.connection b c live in record {
      numbers = rise-sent b d label (asked_on d label b) c (asked_on-number d label b) f.0 f.1
          h.numbers;
      outcomes = fits-sent d label b h.outcomes;
      labels = labels-sent d label b h.outcomes (label_for-drawn d label b drawn) h.labels;
      items = items-sent loose d label b h.numbers h.outcomes h.items;
      ones = ones-sent loose d label b h.items h.ones;
    }

-- ---- connections change, and requests stay

-- what is awaited is no matter of connections
stays : (b : Bus) (made : ℕ) (cs : List Connection)
    → AwaitsFewer b (record b { made = made; connections = cs })
stays b made cs = record { same = refl; before = λ n h. h }

outcomes-stay : (b : Bus) (made : ℕ) (cs : List Connection) → OutcomesFit b
    → OutcomesFit (record b { made = made; connections = cs })
outcomes-stay b made cs h = record {
  once = h.once;
  made = h.made;
  given = h.given;
  oneway = h.oneway;
}

-- fewer items of each number, or as many
abbrev pub CountsFewer : List Loose → Bus → List Loose → Bus → Type 0
CountsFewer loose b later after = (n : ℕ) → times_in (is_item_of n) later after ≤ times_in
    (is_item_of n) loose b

ones-fewer : (loose later : List Loose) (b after : Bus) → CountsFewer loose b later after
    → OneEach loose b → OneEach later after
ones-fewer loose later b after fewer ones n = omega (arith, fewer n, ones n)

-- the front item of a connection is taken, and is loose then
pub popped-keeps : (loose : List Loose) (at : Side) (item : Item) (c : Connection) (b : Bus)
    → IsIn c b.connections → first (queue at c) ≡ Some item
    → BusFits loose b → BusFits (record { connection = c.number; side = at; item = item } ∷ loose)
    (popped c.number at b)
popped-keeps loose at item c b live front h = record {
  numbers = rise-changed b c.number (without_front at) (λ x. (front-self at x).number) h.numbers;
  outcomes = outcomes-stay b (popped c.number at b).made (popped c.number at b).connections
      h.outcomes;
  labels = labels-fewer b (popped c.number at b) (stays b b.made (popped c.number at b).connections)
      h.labels;
  items = items-popped loose at item c b h.numbers live front h.items;
  ones = λ n. omega (
    arith,
    h.ones n,
    popped-counts (is_item_of n) loose c.number at item c b (found-by_number b.connections c
        h.numbers.rise live) front,
    times-cons (λ (l : Loose). is_item_of n l.item) (record {
      connection = c.number;
      side = at;
      item = item;
    }) loose,
  );
}

-- an item is put on a connection, of which others were let go
pub replied-keeps : (loose later : List Loose) (k : ℕ) (at : Side) (item : Item) (b : Bus)
    → ((l : Loose) → IsIn l later → IsIn l loose)
    → ((c : Connection) → IsIn c b.connections → c.number ≡ k → IsNew b c at item)
    → ((n : ℕ) → times_in (is_item_of n) later b + one (is_item_of n) item ≤ times_in (is_item_of n)
    loose b) → BusFits loose b → BusFits later (replied k at item b)
replied-keeps loose later k at item b fewer new counts h = record {
  numbers = rise-changed b k (put at item) (put-number at item) h.numbers;
  outcomes = outcomes-stay b (replied k at item b).made (replied k at item b).connections
      h.outcomes;
  labels = labels-fewer b (replied k at item b) (stays b b.made (replied k at item b).connections)
      h.labels;
  items = items-replied loose later k at item b h.numbers fewer new h.items;
  ones = λ n. omega (arith, h.ones n, counts n, replied-counts (is_item_of n) later k at item b);
}

-- a connection changes otherwise: it stays what it is, with as many items or fewer, and
-- may be closed
pub changed-keeps : (loose later : List Loose) (k : ℕ) (change : Connection → Connection) (b : Bus)
    → ((l : Loose) → IsIn l later → IsIn l loose)
    → ((c : Connection) → (change c).number ≡ c.number)
    → ((c : Connection) → (change c).clean ≡ true → c.clean ≡ true)
    → ((c : Connection) → (change c).shut ≡ false → c.shut ≡ false)
    → ((c : Connection) (at : Side) (item : Item) → IsIn item (queue at (change c))
    → IsIn item (queue at c))
    → ((n : ℕ) (c : Connection) → times_on (is_item_of n) (change c) ≤ times_on (is_item_of n) c)
    → CountsFewer loose b later b → BusFits loose b → BusFits later (with_connection k change b)
changed-keeps loose later k change b fewer number clean shut items counts loose_counts h = record {
  numbers = rise-changed b k change number h.numbers;
  outcomes = outcomes-stay b b.made (with_connection k change b).connections h.outcomes;
  labels = labels-fewer b (with_connection k change b) (stays b b.made
      (with_connection k change b).connections) h.labels;
  items = items-changed loose later k change b h.numbers fewer number clean shut
      (λ c at item i. inl (items c at item i)) h.items;
  ones = λ n. omega (
    arith,
    h.ones n,
    loose_counts n,
    changed-counts (is_item_of n) later k change b
        (counts n),
  );
}

-- a connection is wired
pub wired-keeps : (loose : List Loose) (k : ℕ) (b : Bus) → BusFits loose b
    → BusFits loose (wired k b)
wired-keeps loose k b h =
    changed-keeps loose loose k (λ c. record c { wired = true }) b (λ l i. i) (λ c. refl) (λ c e. e)
    (λ c e. e) items (λ n c. omega arith) (λ n. omega arith) h
  where
    items : (c : Connection) (at : Side) (item : Item)
        → IsIn item (queue at (record c { wired = true })) → IsIn item (queue at c)
    items c side.Ap item i = i
    items c side.Far item i = i

-- raw bytes are injected
pub injected-keeps : (loose : List Loose) (k : ℕ) (bytes : List ℕ) (b : Bus) → BusFits loose b
    → BusFits loose (injected k bytes b)
injected-keeps loose k bytes b h = record {
  numbers = rise-changed b k unclean (λ c. refl) h.numbers;
  outcomes = outcomes-stay b (injected k bytes b).made (injected k bytes b).connections h.outcomes;
  labels = labels-fewer b (injected k bytes b) (stays b b.made (injected k bytes b).connections)
      h.labels;
  items = items-changed loose loose k unclean b h.numbers (λ l i. i) (λ c. refl)
      (λ c e. absurd (not-both false e refl)) (λ c e. e) unclean-items h.items;
  ones = λ n. omega (arith, h.ones n, injected-counts (is_item_of n) loose k bytes b refl);
}
  where
    unclean : Connection → Connection
    unclean c = queued side.Ap (Raw bytes) (record c { clean = false })

    unclean-items : (c : Connection) (at : Side) (item : Item) → IsIn item (queue at (unclean c))
        → IsIn item (queue at c) ⊎ IsNew (injected k bytes b) (unclean c) at item
    unclean-items c side.Far item i = inl i
    unclean-items c side.Ap item i =
        ⊎_elim (λ old. inl old) (λ e. inr (record {
          own = subst (λ x. IsOwn (injected k bytes b) c.number side.Ap x) (sym e) tt;
          answerable = record {
            numbered = λ clean. absurd (not-both false clean refl);
            due = λ clean unshut. absurd (not-both false clean refl);
          };
        })) (in-pushed item c.to_ap (Raw bytes) i)

-- a connection is made
pub attached-keeps : (loose : List Loose) (b : Bus) (a i c protocol : ℕ) → BusFits loose b
    → BusFits loose (attached a i c protocol b)
attached-keeps loose b a i c protocol h = record {
  numbers = rise-attached b a i c protocol h.numbers;
  outcomes = outcomes-stay b (attached a i c protocol b).made
      (attached a i c protocol b).connections h.outcomes;
  labels = labels-fewer b (attached a i c protocol b)
      (stays b (next_connection b) (attached a i c protocol b).connections) h.labels;
  items = items-attached loose b a i c protocol h.items;
  ones = λ n. omega (arith, h.ones n, attached-counts (is_item_of n) loose b a i c protocol);
}

-- a connection is there no more
pub detached-keeps : (loose : List Loose) (k : ℕ) (b : Bus) → BusFits loose b
    → BusFits loose (detached k b)
detached-keeps loose k b h = record {
  numbers = rise-detached b k h.numbers;
  outcomes = outcomes-stay b (detached k b).made (detached k b).connections h.outcomes;
  labels = labels-fewer b (detached k b) (stays b b.made (detached k b).connections) h.labels;
  items = items-detached loose b k h.items;
  ones = λ n. omega (arith, h.ones n, detached-counts (is_item_of n) loose b k);
}

-- loose items are let go
pub loose-keeps : (loose later : List Loose) (b : Bus) → ((l : Loose) → IsIn l later → IsIn l loose)
    → CountsFewer loose b later b → BusFits loose b → BusFits later b
loose-keeps loose later b fewer counts h = record {
  numbers = h.numbers;
  outcomes = h.outcomes;
  labels = h.labels;
  items = items-fewer loose later b fewer h.items;
  ones = ones-fewer loose later b b counts h.ones;
}

-- ---- requests end

-- an open request ends, and what was being handled is let go
pub ended-keeps : (loose later : List Loose) (m : ℕ) (how : Outcome) (b : Bus) → is_open m b ≡ true
    → ((l : Loose) → IsIn l later → IsIn l loose) → CountsFewer loose b later b
    → NoneAnswers later b m → BusFits loose b → BusFits later (ended m how b)
ended-keeps loose later m how b unended fewer counts none h = record {
  numbers = record { rise = h.numbers.rise; range = h.numbers.range; on = h.numbers.on };
  outcomes = fits-ended m how b unended h.outcomes;
  labels = labels-fewer b (ended m how b) (ended-before m how b) h.labels;
  items = items-ended loose later m how b fewer none h.items;
  ones = ones-fewer loose later b (ended m how b) counts h.ones;
}

-- a request is forgotten, and what was being handled is let go
pub forgotten-keeps : (loose later : List Loose) (m : ℕ) (b : Bus)
    → ((l : Loose) → IsIn l later → IsIn l loose) → CountsFewer loose b later b
    → NoneAnswers later b m → BusFits loose b → BusFits later (forgotten m b)
forgotten-keeps loose later m b fewer counts none h = record {
  numbers = record { rise = h.numbers.rise; range = h.numbers.range; on = h.numbers.on };
  outcomes = fits-forgotten m b h.outcomes;
  labels = labels-fewer b (forgotten m b) (forgotten-before m b) h.labels;
  items = items-forgotten loose later m b fewer none h.items;
  ones = ones-fewer loose later b (forgotten m b) counts h.ones;
}

-- a request is given up
pub gave_up-keeps : (loose : List Loose) (m : ℕ) (how : Outcome) (b : Bus) → is_open m b ≡ true
    → BusFits loose b → BusFits loose (gave_up m how b)
gave_up-keeps loose m how b unended h = record {
  numbers = record { rise = h.numbers.rise; range = h.numbers.range; on = h.numbers.on };
  outcomes = fits-gave_up m how b unended h.outcomes;
  labels = labels-fewer b (gave_up m how b) (gave_up-before m how b unended) h.labels;
  items = items-gave_up loose m how b h.items;
  ones = λ n. omega (arith, h.ones n);
}

-- the requests of a side end, to which nothing has to be answered any more
side_ended-keeps : (loose : List Loose) (k : ℕ) (at : Side) (b : Bus) → SideIsOver loose b k at
    → BusFits loose b → BusFits loose (side_ended k at b)
side_ended-keeps loose k at b over h = record {
  numbers = record { rise = h.numbers.rise; range = h.numbers.range; on = h.numbers.on };
  outcomes = fits-side_ended k at b h.outcomes;
  labels = labels-fewer b (side_ended k at b) (side_ended-before k at b) h.labels;
  items = items-side_ended loose k at b over h.items;
  ones = λ n. omega (arith, h.ones n);
}

-- a connection without its wire and what waited there
abbrev cleared : Connection → Connection
cleared c = record c { wired = false; to_ap = []; to_far = [] }

-- A connection is unwired, and nothing that was held there is held any more.
pub unwired-keeps : (loose later : List Loose) (k : ℕ) (b : Bus)
    → ((l : Loose) → IsIn l later → IsIn l loose)
    → ((l : Loose) → IsIn l later → l.connection ≡ k → ⊥) → CountsFewer loose b later b
    → BusFits loose b → BusFits later (unwired k b)
unwired-keeps loose later k b fewer none counts h =
    side_ended-keeps later k side.Far (with_connection k cleared b) over
    (changed-keeps loose later k cleared b fewer (λ c. refl) (λ c e. e) (λ c e. e) items
    (λ n c. omega arith) counts h)
  where
    items : (c : Connection) (at : Side) (item : Item) → IsIn item (queue at (cleared c))
        → IsIn item (queue at c)
    items c side.Ap item i = absurd i
    items c side.Far item i = absurd i

    empty : (c : Connection) (at : Side) (item : Item) → IsIn item (queue at (cleared c)) → ⊥
    empty c side.Ap item i = i
    empty c side.Far item i = i

    over : SideIsOver later (with_connection k cleared b) k side.Far
    over c s item live is lies from unshut =
        by (in-changed b.connections k cleared c h.numbers.rise live) lies
      where
        by : (IsIn c b.connections × (c.number ≡ k → ⊥))
            ⊎ ((d : Connection) × IsIn d b.connections × (d.number ≡ k) × (c ≡ cleared d)) → Lies
            later c s item → ⊥
        by (inl o) l = o.1 is
        by (inr w) (waits i) = empty w.0 s item (subst (λ x. IsIn item (queue s x)) w.3 i)
        by (inr w) (hangs l i on toward e) = none l i (sym on ∙ is)

-- The application processor's side of a connection is closed.
pub shut-keeps : (loose : List Loose) (k : ℕ) (b : Bus) → BusFits loose b
    → BusFits loose (shut_down k b)
shut-keeps loose k b h =
    side_ended-keeps loose k side.Ap (with_connection k closed b) over
    (changed-keeps loose loose k closed b (λ l i. i) (λ c. refl) (λ c e. e)
    (λ c e. absurd (not-both true refl e)) items (λ n c. omega arith) (λ n. omega arith) h)
  where
    closed : Connection → Connection
    closed c = record c { shut = true }

    items : (c : Connection) (at : Side) (item : Item)
        → IsIn item (queue at (record c { shut = true })) → IsIn item (queue at c)
    items c side.Ap item i = i
    items c side.Far item i = i

    over : SideIsOver loose (with_connection k closed b) k side.Ap
    over c s item live is lies from unshut =
        ⊎_elim (λ o. o.1 is)
        (λ w. not-both c.shut (ap (λ (x : Connection). x.shut) w.3) (unshut from))
        (in-changed b.connections k closed c h.numbers.rise live)

-- ---- which items have the number of a request

-- none has, where none is counted
pub none-counted-answers : (loose : List Loose) (b : Bus) (m : ℕ)
    → times_in (is_item_of m) loose b ≡ 0 → NoneAnswers loose b m
none-counted-answers loose b m none c at item live clean lies has =
    let one_there = lies-counted loose b c at item m live lies has in absurd
    (omega (arith, one_there, none))

-- the request of an item is of the item's connection
pub own-request : (b : Bus) (k : ℕ) (at : Side) (item : Item) (m : ℕ) → IsOwn b k at item
    → HasNumber m item → (r : Request) × (request_of m b ≡ Some r) × (r.connection ≡ k)
own-request b k at item m own (asks e) = let o = subst (λ x. IsOwn b k at x) e own in
    (o.0, o.1, o.2)
own-request b k at item m own (answers result payload e) =
    let o = subst (λ x. IsOwn b k at x) e own in (o.0, o.1, o.2)

-- none on a clean connection has, where the request is of one that isn't
pub unclean-answers : (loose : List Loose) (b : Bus) (m : ℕ) (r : Request) (x : Connection)
    → BusFits loose b
    → request_of m b ≡ Some r → IsIn x b.connections → r.connection ≡ x.number → x.clean ≡ false
    → NoneAnswers loose b m
unclean-answers loose b m r x h made there on unclean c at item live clean lies has =
    let o = own-request b c.number at item m (own lies) has in
    let same : r ≡ o.0 = same-some r o.0 (sym made ∙ o.1) in
    let is = same-connection b.connections c x h.numbers.rise live there
    (sym o.2 ∙ ap (λ (q : Request). q.connection) (sym same) ∙ on) in
    not-both c.clean clean (ap (λ (y : Connection). y.clean) is ∙ unclean)
  where
    own : Lies loose c at item → IsOwn b c.number at item
    own (waits i) = h.items.own c at item live i
    own (hangs l i on toward e) =
        subst (λ k. IsOwn b k at item) (sym on) (subst (λ s. IsOwn b l.connection s item) toward
        (subst (λ y. IsOwn b l.connection l.side y) e (h.items.own_loose l i)))

-- ---- the reply to a request that is being handled

-- the reply to request n
pub reply-new : (loose : List Loose) (b : Bus) (k n result : ℕ) (payload : List ℕ) (at : Side)
    (r : Request) → request_of n b ≡ Some r → r.oneway ≡ false
    → BusFits (record { connection = k; side = at; item = Ask n } ∷ loose) b
    → (c : Connection) → IsIn c b.connections → c.number ≡ k
    → IsNew b c (other_side at) (Reply n result payload)
reply-new loose b k n result payload at r made twoway h c live is =
    let own = h.items.own_loose (record { connection = k; side = at; item = Ask n }) (inl refl) in
    let a = h.items.answerable_loose c (record { connection = k; side = at; item = Ask n }) live
    (inl refl) is in record {
      own = (own.0, own.1, own.2 ∙ sym is, own.3);
      answerable = record {
        numbered = λ clean. refl;
        due = λ clean unshut. a.due clean unshut r made twoway;
      };
    }

-- the reply to raw bytes
pub raw-new : (loose : List Loose) (b : Bus) (k label kind result : ℕ) (bytes payload : List ℕ)
    (at : Side) → BusFits (record { connection = k; side = at; item = Raw bytes } ∷ loose) b
    → (c : Connection) → IsIn c b.connections → c.number ≡ k
    → IsNew b c (other_side at) (RawReply label kind result payload)
raw-new loose b k label kind result bytes payload at h c live is =
    let a = h.items.answerable_loose c (record { connection = k; side = at; item = Raw bytes }) live
    (inl refl) is in record {
      own = tt;
      answerable = record {
        numbered = λ clean. absurd (not-both false (a.numbered clean) refl);
        due = λ clean unshut. tt;
      };
    }
