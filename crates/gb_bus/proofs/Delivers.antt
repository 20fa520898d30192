-- A delivery stands for the machine's.
use Rattle.std.proofs.Common.{◌≡◌, ℕ, nat_lt, Bool, true, false, not, if◌then◌else◌, Option, Some}
use Rattle.std.proofs.Common.{None, Result, Ok, Err, option_and_then, option_map, List, refl, sym}
use Rattle.std.proofs.Common.{ap, ◌∙◌, inl, subst}
use Rattle.std.specs.List.{find}
use Rattle.gb_base.specs.declared.end.End.{End}
use Rattle.gb_base.specs.declared.end.Side.{Side}
use Rattle.gb_base.specs.declared.entry.Entry.TheVariants as entry
use Rattle.gb_base.specs.declared.reasons.RawFault.{RawFault}
use Rattle.gb_bus.proofs.ByLabel.{labelled-is}
use Rattle.gb_bus.proofs.ByNumber.{answers}
use Rattle.gb_bus.proofs.Finding.{place-is, placed, placed_on, told}
use Rattle.gb_bus.proofs.Queues.{empty_of, front_of, queue-is}
use Rattle.gb_bus.proofs.Taken.{Taken, loose_at, settled, taken, unclean-is, unnumbered-unclean}
use Rattle.gb_bus.specs.Connection.{Connection}
use Rattle.gb_bus.specs.Delivering.{Brings, Delivers, DeliversNothing, DeliversNowhere}
use Rattle.gb_bus.specs.Delivering.{raw_response, response, taken_at, with_item}
use Rattle.gb_bus.specs.Moving.{HandlesAs, RawTakesAs, RepliesTo, naming}
use Rattle.gb_bus.specs.Parts.{front_in, is_unclean, numbered, place_at, queue_of, without_front}
use Rattle.gb_bus.specs.Raw.{raw_item}
use Rattle.gb_bus.specs.Shown.{ask_in, item_in, reply_in}
use Rattle.gb_bus.specs.Stands.{Around, Stands}
use Rattle.gb_bus.specs.declared.answers.Arrival.{Arrival}
use Rattle.gb_bus.specs.declared.answers.Arrival.TheVariants as arrival
use Rattle.gb_bus.specs.declared.answers.Asked.{Asked}
use Rattle.gb_bus.specs.declared.bus.Bus.{Bus}
use Rattle.gb_bus.specs.declared.queue.Item.{Item}
use Rattle.gb_formats.specs.Message.{Message}
use Rattle.gb_formats.specs.Wire.{raw_message}
use Rattle.gb_invariants.specs.Facts.{IsOwn}
use Rattle.gb_machine.specs.Arriving as arriving
use Rattle.gb_machine.specs.Bus as machine
use Rattle.gb_machine.specs.Bus.{Place, Request, place_of, queue, request_of}
use Rattle.gb_machine.specs.Incoming.{Incoming, incoming, incoming_raw, raw_request, request_in}
use Rattle.gb_machine.specs.Lists.{at_first, first}

-- ---- one message

-- a request is delivered
asks : (around : Around) (y z : Bus) (b : machine.Bus) (p : Place) (item : machine.Item)
    (asked : Asked) (payload : List ℕ) (q : Incoming) (a : Arrival)
    → Taken around y p b item → request_in item b ≡ Some q
    → asked ≡ naming q.number q.label q.kind → payload ≡ q.payload
    → a ≡ arrival.Ask asked payload → z ≡ y → Brings around z true p b item a
asks around y z b p item asked payload q a t is names payload_is is_ask same =
    let here = with_item (loose_at p item) around in
    let stays : Stands here z (taken_at p b) =
    subst (λ (w : Bus). Stands here w (taken_at p b)) (sym same)
    (record { shows = t.shows; named = t.named; facts = record { fits = t.fits; apart = t.apart } })
    in
    let answer : Brings around z true p b item (arrival.Ask asked payload) = (
      refl,
      record {
        request = q;
        is = is;
        names = record {
          number = ap (λ (w : Asked). w.number) names;
          label = ap (λ (w : Asked). w.label) names;
          kind = ap (λ (w : Asked). w.kind) names;
        };
        payload_is = payload_is;
        stands = stays;
      },
    ) in
    subst (λ (w : Arrival). Brings around z true p b item w) (sym is_ask) answer

-- a message is dropped
drops : (around : Around) (y z : Bus) (b : machine.Bus) (p : Place) (item : machine.Item)
    (a : Arrival) (number : Option ℕ) (reply : Bool)
    → Taken around y p b item → z ≡ y → a ≡ arrival.Dropped number reply
    → entry.Dropped number reply ≡ arriving.dropped item
    → Brings around z false p b item a
drops around y z b p item a number reply t same is told =
    let answer : Brings around z false p b item (arrival.Dropped number reply) = (
      refl,
      record {
        told = told;
        stands = subst (λ (w : Bus). Stands around w (taken_at p b)) (sym same)
            (settled around y p b item t);
      },
    ) in
    subst (λ (w : Arrival). Brings around z false p b item w) (sym is) answer

-- raw bytes aren't one whole message
faults : (around : Around) (y z : Bus) (b : machine.Bus) (p : Place) (bytes : List ℕ)
    (fault : RawFault) (a : Arrival)
    → Taken around y p b (machine.Raw bytes) → raw_message bytes ≡ Err fault
    → a ≡ arrival.BadRaw fault → z ≡ y → Brings around z true p b (machine.Raw bytes) a
faults around y z b p bytes fault a t is is_bad same =
    let answer : Brings around z true p b (machine.Raw bytes) (arrival.BadRaw fault) = (
      refl,
      record {
        bytes = bytes;
        item_is = refl;
        fault_is = is;
        stands = subst (λ (w : Bus). Stands around w (taken_at p b)) (sym same)
            (settled around y p b (machine.Raw bytes) t);
      },
    ) in
    subst (λ (w : Arrival). Brings around z true p b (machine.Raw bytes) w) (sym is_bad) answer

-- a reply goes by its number on a clean connection, and by its identifier on another
replies : (around : Around) (y z : Bus) (b : machine.Bus) (p : Place) (n r : ℕ)
    (bytes : List ℕ) (q : Request) (a : Arrival)
    → Taken around y p b (machine.Reply n r bytes) → request_of n b ≡ Some q
    → RepliesTo (is_unclean p.connection.number y.connections) y z p.connection.number p.side n
    q.label r bytes (Ok a)
    → Brings around z true p b (machine.Reply n r bytes) a
replies around y z b p n r bytes q a t made h =
    by p.connection.clean refl
    (subst (λ w. RepliesTo w y z p.connection.number p.side n q.label r bytes (Ok a))
    (unclean-is around y p b item t) h)
  where
    item : machine.Item
    item = machine.Reply n r bytes

    by : (w : Bool) → p.connection.clean ≡ w
        → RepliesTo (not w) y z p.connection.number p.side n q.label r bytes (Ok a)
        → Brings around z true p b item a
    by true e g =
        answers around y z b p n q.label r bytes q g.matched a t e made refl g.matches g.answers
    by false e g =
        labelled-is around y z b p item q.label r bytes a t e
        (ap (option_map (λ (v : Request). response v.label r bytes)) made) g

-- raw bytes that are one whole message are a request, or a response
messages : (around : Around) (y z : Bus) (b : machine.Bus) (p : Place) (bytes : List ℕ)
    (m : Message) (a : Arrival)
    → Taken around y p b (machine.Raw bytes) → raw_message bytes ≡ Ok m
    → RawTakesAs (nat_lt m.kind 128) y z p.connection.number p.side m.id m.kind m.result m.payload
    (Ok a)
    → Brings around z true p b (machine.Raw bytes) a
messages around y z b p bytes m a t is = by (nat_lt m.kind 128) refl
  where
    item : machine.Item
    item = machine.Raw bytes

    by : (w : Bool) → nat_lt m.kind 128 ≡ w
        → RawTakesAs w y z p.connection.number p.side m.id m.kind m.result m.payload (Ok a)
        → Brings around z true p b item a
    by true e h =
        asks around y z b p item (naming None m.id m.kind) m.payload (incoming_raw m) a t
        (ap raw_request is ∙ ap (λ w. if w then Some (incoming_raw m) else None) e) refl refl
        (cc (h.0)) h.1
    by false e h =
        labelled-is around y z b p item m.id m.result m.payload a t
        (unnumbered-unclean around y p b item t refl)
        (ap raw_response is
        ∙ ap (λ w. if w then None else Some (response m.id m.result m.payload)) e) h

-- the request of the item that was taken
own-of : (around : Around) (y : Bus) (p : Place) (b : machine.Bus) (m : machine.Item)
    → Taken around y p b m → IsOwn (taken_at p b) p.connection.number p.side m
own-of around y p b m t = t.fits.items.own_loose (loose_at p m) (inl refl)

-- what is told of a message that the end takes
brings-taken : (around : Around) (y z : Bus) (b : machine.Bus) (p : Place) (m : machine.Item)
    (a : Arrival)
    → Taken around y p b m
    → HandlesAs y z p.connection.number p.side true (item_in b.requests m) (Ok a)
    → Brings around z true p b m a
brings-taken around y z b p (machine.Ask n) a t h =
    let own = own-of around y p b (machine.Ask n) t in
    let g = subst (λ o. HandlesAs y z p.connection.number p.side true (ask_in n o) (Ok a)) own.1 h
    in
    asks around y z b p (machine.Ask n) (naming (Some n) own.0.label own.0.kind) own.0.payload
    (incoming n own.0) a t (ap (option_map (incoming n)) own.1) refl refl (cc (g.0)) g.1
brings-taken around y z b p (machine.Reply n r bytes) a t h =
    let own = own-of around y p b (machine.Reply n r bytes) t in
    replies around y z b p n r bytes own.0 a t own.1
    (subst (λ o. HandlesAs y z p.connection.number p.side true (reply_in n r bytes o) (Ok a)) own.1
    h)
brings-taken around y z b p (machine.Raw bytes) a t h = by (raw_message bytes) refl h
  where
    by : (w : Result Message RawFault) → raw_message bytes ≡ w
        → HandlesAs y z p.connection.number p.side true (raw_item w) (Ok a)
        → Brings around z true p b (machine.Raw bytes) a
    by (Ok m) e g = messages around y z b p bytes m a t e g
    by (Err fault) e g = faults around y z b p bytes fault a t e (cc (g.0)) g.1
brings-taken around y z b p (machine.RawReply l k r bytes) a t h =
    labelled-is around y z b p (machine.RawReply l k r bytes) l r bytes a t
    (unnumbered-unclean around y p b (machine.RawReply l k r bytes) t refl) refl h

-- what is told of one that is dropped
brings-dropped : (around : Around) (y z : Bus) (b : machine.Bus) (p : Place) (m : machine.Item)
    (a : Arrival)
    → Taken around y p b m
    → HandlesAs y z p.connection.number p.side false (item_in b.requests m) (Ok a)
    → Brings around z false p b m a
brings-dropped around y z b p (machine.Ask n) a t h =
    let own = own-of around y p b (machine.Ask n) t in
    let g = subst (λ o. HandlesAs y z p.connection.number p.side false (ask_in n o) (Ok a)) own.1 h
    in
    drops around y z b p (machine.Ask n) a (Some n) false t g.1 (cc (g.0)) refl
brings-dropped around y z b p (machine.Reply n r bytes) a t h =
    let own = own-of around y p b (machine.Reply n r bytes) t in
    let g = subst (λ o. HandlesAs y z p.connection.number p.side false (reply_in n r bytes o)
    (Ok a)) own.1 h in
    drops around y z b p (machine.Reply n r bytes) a (Some n) true t g.1 (cc (g.0)) refl
brings-dropped around y z b p (machine.Raw bytes) a t h = by (raw_message bytes) h
  where
    by : (w : Result Message RawFault)
        → HandlesAs y z p.connection.number p.side false (raw_item w) (Ok a)
        → Brings around z false p b (machine.Raw bytes) a
    by (Ok m) g = drops around y z b p (machine.Raw bytes) a None false t g.1 (cc (g.0)) refl
    by (Err fault) g = drops around y z b p (machine.Raw bytes) a None false t g.1 (cc (g.0)) refl
brings-dropped around y z b p (machine.RawReply l k r bytes) a t h =
    drops around y z b p (machine.RawReply l k r bytes) a None true t h.1 (cc (h.0)) refl

-- what is told of a message, by whether the end takes it
brings : (around : Around) (y z : Bus) (b : machine.Bus) (p : Place) (takes : Bool)
    (m : machine.Item) (a : Arrival)
    → Taken around y p b m
    → HandlesAs y z p.connection.number p.side takes (item_in b.requests m) (Ok a)
    → Brings around z takes p b m a
brings around y z b p true m a t h = brings-taken around y z b p m a t h
brings around y z b p false m a t h = brings-dropped around y z b p m a t h

-- ---- a delivery

-- the front message of the queue that was found
front-is : (x : Bus) (k : ℕ) (to : Side) (found : Connection) → find (numbered k) x.connections
    ≡ Some found
    → front_in k to x.connections ≡ first (queue_of to found)
front-is x k to found looks = ap (option_and_then (λ c. first (queue_of to c))) looks

-- The answer of a delivery where the end is named and a message waits.
pub delivers : (around : Around) (x y z : Bus) (b : machine.Bus) (at : End) (takes : Bool)
    (k : ℕ) (to : Side) (i : Item) (a : Arrival)
    → Stands around x b → place_at at x.connections ≡ Some (k, to) → front_in k to x.connections
    ≡ Some i
    → y ≡ record x { connections = at_first (numbered k) (without_front to) x.connections }
    → HandlesAs y z k to takes i (Ok a)
    → Delivers around z at takes b (record { connection = k; item = a })
delivers around x y z b at takes k to i a s named front e h =
    let w = placed around x b at k to s named in
    let p = placed_on w.connection to in
    let f = front_of b.requests (queue_of to w.found) (queue to w.connection) i
    (queue-is b.requests to w.found w.connection w.shown)
    (sym (front-is x k to w.found w.looks) ∙ front) in
    record {
      place = p;
      item = f.item_of;
      named = w.named;
      front = f.front;
      connection = w.number;
      brings = brings around y z b p takes f.item_of a
          (taken around x y b p f.item_of w.found s w.live f.front
          (ap (λ j. find (numbered j) x.connections) (sym w.number) ∙ w.looks) w.shown
          (e ∙ ap (λ j. record x {
            connections =
                at_first (numbered j) (without_front to) x.connections;
          }) w.number))
          (subst (λ j. HandlesAs y z w.connection.number to takes j (Ok a)) f.item_is
          (subst (λ j. HandlesAs y z j to takes i (Ok a)) w.number h));
    }

-- The answer where nothing waits.
pub delivers_nothing : (around : Around) (x y : Bus) (b : machine.Bus) (at : End) (k : ℕ)
    (to : Side)
    → Stands around x b → place_at at x.connections ≡ Some (k, to) → front_in k to x.connections
    ≡ None → y ≡ x
    → DeliversNothing around y at b
delivers_nothing around x y b at k to s named none same =
    let w = placed around x b at k to s named in
    record {
      place = placed_on w.connection to;
      named = w.named;
      empty = empty_of b.requests (queue_of to w.found) (queue to w.connection)
          (queue-is b.requests to w.found w.connection w.shown)
          (sym (front-is x k to w.found w.looks) ∙ none);
      stands = subst (λ (v : Bus). Stands around v b) (sym same) s;
    }

-- The answer where no wired connection names the end.
pub delivers_nowhere : (around : Around) (x : Bus) (b : machine.Bus) (at : End)
    → Stands around x b → None ≡ place_at at x.connections → DeliversNowhere around x at b
delivers_nowhere around x b at s none = record {
  named = by (place_of at b.connections)
      (sym (none ∙ place-is b.requests at x.connections b.connections s.shows.connections));
  stands = s;
}
  where
    by : (o : Option Place) → option_map told o ≡ None → o ≡ None
    by None e = refl
    by (Some p) e = absurd cc
