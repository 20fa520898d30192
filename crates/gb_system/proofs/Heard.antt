-- What is known of a request that is delivered, whether it was made or came as raw bytes.
use Rattle.std.proofs.Common.{◌≡◌, ◌<◌, ◌≤◌, ℕ, ◌==◌, Bool, true, false, if◌then◌else◌, Option}
use Rattle.std.proofs.Common.{Some, None, option_map, List, length, inl, refl, sym, ap, ◌∙◌, subst}
use Rattle.std.proofs.Common.{arith}
use Rattle.std.proofs.lemmas.Bool.Decides.{nat_tests}
use Rattle.std.specs.Prelude.{Result, Ok, Err}
use Rattle.gb_base.specs.declared.end.End.{End}
use Rattle.gb_base.specs.declared.end.Side.TheVariants as side
use Rattle.gb_base.specs.declared.entry.Entry.TheVariants as entry
use Rattle.gb_base.specs.declared.reasons.RawFault.{RawFault}
use Rattle.gb_bus.specs.Delivering.{MayReply, taken_from}
use Rattle.gb_bus.specs.declared.answers.Asked.{Asked}
use Rattle.gb_formats.specs.Message.{Message}
use Rattle.gb_formats.specs.Results.{most_payload}
use Rattle.gb_formats.specs.Wire.{raw_message}
use Rattle.gb_invariants.proofs.Awaiting.{same-some}
use Rattle.gb_invariants.proofs.Requests.{numbered-ask}
use Rattle.gb_machine.specs.Arriving.{dropped}
use Rattle.gb_machine.specs.Bus.{Ask, Bus, Connection, Item, Raw, RawReply, Reply, Request}
use Rattle.gb_machine.specs.Bus.{request_of}
use Rattle.gb_machine.specs.Incoming.{Incoming, incoming, incoming_raw, is_request, raw_request}
use Rattle.gb_machine.specs.Incoming.{request_in}
use Rattle.gb_machine.specs.State.{State}
use Rattle.gb_system.specs.Serving.{IsDelivered, only, side_of}
use Rattle.gb_system.specs.Stands.{AreSound, PartsStand}
use Rattle.gb_system.specs.declared.parties.Parties.{Parties}

-- A request has a type that a request can have, and an identifier exactly where it gets a reply.
pub record IsHeard (q : Incoming) : Type 0 where
  pub kind : q.kind < 128
  pub label : (q.label == 0) ≡ q.oneway

-- the request that an item is, is such
pub request-sound : (b : Bus) (item : Item) (q : Incoming) → AreSound b
    → request_in item b ≡ Some q → IsHeard q
request-sound b (Ask n) q sound is = by (request_of n b) refl is
  where
    by : (o : Option Request) → request_of n b ≡ o → option_map (incoming n) o ≡ Some q
        → IsHeard q
    by None made e = absurd cc
    by (Some r) made e = let fair = sound n r made in
        subst IsHeard (same-some (incoming n r) q e)
        (record { kind = fair.kind; label = fair.label })
request-sound b (Raw bytes) q sound is = by (raw_message bytes) is
  where
    low : (m : Message) → is_request m ≡ true → m.kind < 128
    low m e = grind (arith, nat_tests)

    by_kind : (m : Message) (t : Bool) → is_request m ≡ t
        → (if t then Some (incoming_raw m) else None) ≡ Some q → IsHeard q
    by_kind m true e f = subst IsHeard (same-some (incoming_raw m) q f)
        (record { kind = low m e; label = refl })
    by_kind m false e f = absurd cc

    by : (r : Result Message RawFault) → raw_request r ≡ Some q → IsHeard q
    by (Err fault) e = absurd cc
    by (Ok m) e = by_kind m (is_request m) refl e
request-sound b (Reply n result payload) q sound is = absurd cc
request-sound b (RawReply label kind result payload) q sound is = absurd cc

-- it is told by its number where it is dropped
pub request-dropped : (b : Bus) (item : Item) (q : Incoming) → request_in item b ≡ Some q
    → dropped item ≡ entry.Dropped q.number false
request-dropped b (Ask n) q is = by (request_of n b) is
  where
    by : (o : Option Request) → option_map (incoming n) o ≡ Some q
        → entry.Dropped (Some n) false ≡ entry.Dropped q.number false
    by None e = absurd cc
    by (Some r) e =
        ap (λ (w : Incoming). entry.Dropped w.number false) (same-some (incoming n r) q e)
request-dropped b (Raw bytes) q is = by (raw_message bytes) is
  where
    by_kind : (m : Message) (t : Bool) → (if t then Some (incoming_raw m) else None) ≡ Some q
        → entry.Dropped None false ≡ entry.Dropped q.number false
    by_kind m true e =
        ap (λ (w : Incoming). entry.Dropped w.number false) (same-some (incoming_raw m) q e)
    by_kind m false e = absurd cc

    by : (r : Result Message RawFault) → raw_request r ≡ Some q
        → entry.Dropped None false ≡ entry.Dropped q.number false
    by (Err fault) e = absurd cc
    by (Ok m) e = by_kind m (is_request m) e
request-dropped b (Reply n result payload) q is = absurd cc
request-dropped b (RawReply label kind result payload) q is = absurd cc

-- ---- at a far end

-- What came to a far end was made.
pub record IsMadeAs (item : Item) (q : Incoming) (b : Bus) : Type 0 where
  pub number : ℕ
  pub request : Request
  pub item_is : item ≡ Ask number
  pub made : request_of number b ≡ Some request
  pub is : incoming number request ≡ q

pub made-as : {s : State} {at : End} {k : ℕ} {asked : Asked} {payload : List ℕ} {c : Connection}
    {item : Item} (d : IsDelivered at k asked payload s c item) → side_of at ≡ side.Far
    → IsMadeAs item d.request s.bus
made-as {s = s} {item = item} d far =
    let w = numbered-ask item s.bus d.request (d.numbered far) d.is in
    record { number = w.0; request = w.1; item_is = w.2; made = w.3; is = w.4 }

-- it is of the application processor, and gets a reply
pub far-reply : {x : Parties} {s : State} {at : End} {k : ℕ} {asked : Asked} {payload : List ℕ}
    {c : Connection} {item : Item} (d : IsDelivered at k asked payload s c item)
    → side_of at ≡ side.Far → PartsStand (only k side.Far item) x s → d.request.oneway ≡ false
far-reply {x} {s} {at} {k} {asked} {payload} {c} {item} d far st =
    let w = made-as d far in
    let asks = subst (λ i. PartsStand (only k side.Far i) x s) w.item_is st in
    let own = asks.bus.facts.fits.items.own_loose (taken_from k side.Far (Ask w.number))
    (inl refl) in
    let same = same-some own.0 w.request (sym own.1 ∙ w.made) in
    ap (λ (q : Incoming). q.oneway) (sym w.is)
    ∙ (st.requests.sound w.number w.request w.made).twoway
    (ap (λ (r : Request). r.side) (sym same) ∙ own.3)

-- it fits into a message
pub far-fits : {x : Parties} {s : State} {at : End} {k : ℕ} {asked : Asked} {payload : List ℕ}
    {c : Connection} {item : Item} (d : IsDelivered at k asked payload s c item)
    → side_of at ≡ side.Far → PartsStand (only k side.Far item) x s
    → length d.request.payload ≤ most_payload
far-fits d far st =
    let w = made-as d far in
    subst (λ (q : Incoming). length q.payload ≤ most_payload) w.is
    (st.requests.sound w.number w.request w.made).fits

-- so it may be replied to
abbrev pub may-reply : {s : State} {at : End} {k : ℕ} {asked : Asked} {payload : List ℕ}
    {c : Connection} {item : Item} (d : IsDelivered at k asked payload s c item)
    → d.request.oneway ≡ false → MayReply asked s.bus item
may-reply d twoway =
    record { request = d.request; is = d.is; names = d.names; twoway = twoway }
