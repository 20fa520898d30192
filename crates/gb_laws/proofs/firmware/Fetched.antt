-- A FETCH that is answered with success has its bytes of the image.
use Rattle.std.proofs.Common.{Bool, List, None, Option, Some, ap, cond, false, inl, inr, length}
use Rattle.std.proofs.Common.{refl, subst, sym, true, ℕ, [], ◌+◌, ◌∙◌, ◌∷◌, ◌≡◌}
use Rattle.std.specs.Prelude.{Err, Ok, Result, drop, min, option_map, ◌==◌}
use Rattle.byteorder.specs.Endian.{little_number}
use Rattle.gb_base.specs.declared.end.End.{End}
use Rattle.gb_base.specs.declared.end.End.TheVariants as end
use Rattle.gb_base.specs.declared.end.Side.{Side}
use Rattle.gb_base.specs.declared.end.Side.TheVariants as side
use Rattle.gb_base.specs.declared.entry.Entry.{Entry}
use Rattle.gb_base.specs.declared.entry.Entry.TheVariants as entry
use Rattle.gb_base.specs.declared.event.Event.TheVariants as event
use Rattle.gb_base.specs.declared.reasons.RawFault.{RawFault}
use Rattle.gb_base.specs.declared.host_event.HostEvent.{HostEvent}
use Rattle.gb_base.specs.declared.refusal.Refusal.{Refusal}
use Rattle.gb_formats.specs.FirmwareRecords.{FirmwareAsk, read_firmware_ask}
use Rattle.gb_formats.specs.Images.{Images, images_read, lent_bytes}
use Rattle.gb_formats.specs.Message.{Message, response, spelling}
use Rattle.gb_formats.specs.Records.{PayloadFault}
use Rattle.gb_formats.specs.Wire.{raw_message}
use Rattle.gb_machine.proofs.Opened.{machine_opened}
use Rattle.gb_machine.proofs.Steps.{delivers-handles}
use Rattle.gb_machine.specs.Actions.{Told, given, on_host, tell, ◌▸◌}
use Rattle.gb_machine.specs.Arriving.{arrives, asked_at, by_label, dropped, handles, raw_taken}
use Rattle.gb_machine.specs.Arriving.{takes}
use Rattle.gb_machine.specs.Bus.{Ask, Connection, Item, Place, Raw, RawReply, Reply, Request}
use Rattle.gb_machine.specs.Bus.{end_of, place_of, queue, request_of}
use Rattle.gb_machine.specs.Delivery.{popped}
use Rattle.gb_machine.specs.Events.{decided}
use Rattle.gb_machine.specs.HostActs.{notices}
use Rattle.gb_machine.specs.HostServing.{HostServed, host_serves}
use Rattle.gb_machine.specs.Incoming.{Incoming, incoming, incoming_raw, is_request, raw_request}
use Rattle.gb_machine.specs.Incoming.{reply_entry, request_in}
use Rattle.gb_machine.specs.LawsFirmware.{AnswersWithTheBytes, FetchedIsTheImage, HasTheBytes}
use Rattle.gb_machine.specs.Lists.{first}
use Rattle.gb_machine.specs.Members.{IsIn}
use Rattle.gb_machine.specs.Refusals.{refusal}
use Rattle.gb_machine.specs.Responding.{host_served, replies, responds, serves_oneway}
use Rattle.gb_machine.specs.Runs.{Moment, told_at}
use Rattle.gb_machine.specs.Serving.{success}
use Rattle.gb_machine.specs.State.{State}
use Rattle.gb_invariants.proofs.Awaiting.{none-some, same-some}
use Rattle.gb_invariants.proofs.Lists.{not-both}
use Rattle.gb_laws.proofs.firmware.ServedImages.{fault-fails, fetched-from, firmware-serves}
use Rattle.gb_laws.proofs.firmware.ServedImages.{served_images}
use Rattle.gb_laws.proofs.links.LinkRuns.{LinkedTo, linked-throughout}
use Rattle.gb_laws.proofs.points.Places.{IsPlace, place-is}
use Rattle.gb_laws.proofs.runs.AllRuns.{at-all}
use Rattle.gb_laws.proofs.runs.Runs.{HoldsAtMoments, at_each}
use Rattle.gb_laws.proofs.runs.SettleQueues.{IsFarEnd}
use Rattle.gb_laws.proofs.steps.DeliveredHands.{request-popped}
use Rattle.gb_laws.proofs.together.Absent.{far-end}

-- ---- what is told where a request is served

-- an entry tells of a reply
abbrev is_reply : Entry → Bool
is_reply (entry.Replied n from to result size bytes) = true
is_reply _ = false

-- no reply is told but this one
abbrev TellsOnly : Entry → List Entry → Type 0
TellsOnly own es = (e : Entry) → IsIn e es → is_reply e ≡ true → e ≡ own

tells-none : (own : Entry) → TellsOnly own []
tells-none own e i reply = absurd i

tells-own : (own : Entry) → TellsOnly own (own ∷ [])
tells-own own e (inl is) reply = is
tells-own own e (inr i) reply = absurd i

tells-other : (own x : Entry) → is_reply x ≡ false → TellsOnly own (x ∷ [])
tells-other own x plain e (inl is) reply =
    absurd (not-both (is_reply x) (ap is_reply (sym is) ∙ reply) plain)
tells-other own x plain e (inr i) reply = absurd i

dropped-plain : (item : Item) → is_reply (dropped item) ≡ false
dropped-plain (Ask n) = refl
dropped-plain (Reply n result payload) = refl
dropped-plain (Raw bytes) = refl
dropped-plain (RawReply label kind result payload) = refl

-- what is served tells nothing and takes notice of nothing
record IsPlain (r : HostServed) : Type 0 where
  told : r.told ≡ None
  notices : r.notices ≡ None

module _ (c : Connection) (q : Incoming) (r : HostServed) (plain : IsPlain r) where
  abbrev own : Entry
  own = reply_entry side.Ap c q r.answer

  behind-tells : (o : Option Entry) (n : Option HostEvent) → o ≡ None → n ≡ None → (s : State)
      → (on_host (λ old. r.host) ▸ given o tell ▸ given n notices) s ≡ record {
        state = record s { host = r.host };
        entries = [];
      }
  unfolding machine_opened
  behind-tells None None e f s = refl
  behind-tells (Some x) n e f s = absurd (none-some (sym e))
  behind-tells None (Some x) e f s = absurd (none-some (sym f))

  served-tells : (s : State) → ((host_served r).behind s).entries ≡ []
  unfolding machine_opened
  served-tells s =
      ap (λ (t : Told). t.entries) (behind-tells r.told r.notices plain.told plain.notices s)

  responds-tells : (s : State) → TellsOnly own (responds side.Ap c q (host_served r) s).entries
  unfolding machine_opened
  responds-tells s = by q.oneway
    where
      oneway : (t : Bool) → TellsOnly own
          (cond t (host_served r).behind (tell (entry.Ignored q.kind)) s).entries
      oneway true = subst (TellsOnly own) (sym (served-tells s)) (tells-none own)
      oneway false = tells-other own (entry.Ignored q.kind) refl

      by : (t : Bool) → TellsOnly own (cond t (serves_oneway q (host_served r))
          (replies side.Ap c q r.answer ▸ (host_served r).behind) s).entries
      by true = oneway (r.answer.result == success)
      by false = subst (λ es. TellsOnly own (own ∷ es))
          (sym (served-tells (replies side.Ap c q r.answer s).state)) (tells-own own)

-- ---- what is told where an item is taken

-- the answer to a request on a connection
abbrev served_at : Connection → Incoming → State → HostServed
served_at c q s = host_serves c.number q.kind q.payload s.host

-- what is told of it alone
abbrev TellsOf : Connection → Incoming → State → List Entry → Type 0
TellsOf c q s es = TellsOnly (reply_entry side.Ap c q (served_at c q s).answer) es

asked-tells : (c : Connection) (item : Item) (q : Incoming) (s : State)
    → IsPlain (served_at c q s) → TellsOf c q s (asked_at side.Ap c item q s).entries
unfolding machine_opened
asked-tells c item q s plain = responds-tells c q (served_at c q s) plain s

arrives-tells : (c : Connection) (item : Item) (q : Incoming) (s : State)
    → request_in item s.bus ≡ Some q → IsPlain (served_at c q s)
    → TellsOf c q s (arrives side.Ap c item s).entries
unfolding machine_opened
arrives-tells c (Ask n) q s made plain = by (request_of n s.bus) made
  where
    by : (o : Option Request) → option_map (incoming n) o ≡ Some q
        → TellsOf c q s (given o (λ r. asked_at side.Ap c (Ask n) (incoming n r)) s).entries
    by None e = absurd (none-some e)
    by (Some r) e = subst (λ x. TellsOf c q s (asked_at side.Ap c (Ask n) x s).entries)
        (sym (same-some (incoming n r) q e)) (asked-tells c (Ask n) q s plain)
arrives-tells c (Raw bytes) q s made plain = by (raw_message bytes) made
  where
    if-request : (m : Message) (t : Bool) → cond t (Some (incoming_raw m)) None ≡ Some q
        → TellsOf c q s (cond t (asked_at side.Ap c (Raw bytes) (incoming_raw m))
        (by_label side.Ap c m.id m.result m.payload) s).entries
    if-request m true e = subst (λ x. TellsOf c q s (asked_at side.Ap c (Raw bytes) x s).entries)
        (sym (same-some (incoming_raw m) q e)) (asked-tells c (Raw bytes) q s plain)
    if-request m false e = absurd (none-some e)

    by : (r : Result Message RawFault) → raw_request r ≡ Some q
        → TellsOf c q s (raw_taken side.Ap c (Raw bytes) r s).entries
    by (Err fault) e = absurd (none-some e)
    by (Ok m) e = if-request m (is_request m) e
arrives-tells c (Reply n result payload) q s made plain = absurd (none-some made)
arrives-tells c (RawReply label kind result payload) q s made plain = absurd (none-some made)

handles-tells : (c : Connection) (item : Item) (q : Incoming) (s : State)
    → request_in item s.bus ≡ Some q → IsPlain (served_at c q s)
    → TellsOf c q s (handles side.Ap c item s).entries
unfolding machine_opened
handles-tells c item q s made plain = by (takes side.Ap c s)
  where
    by : (t : Bool) → TellsOf c q s
        (cond t (arrives side.Ap c item) (tell (dropped item)) s).entries
    by true = arrives-tells c item q s made plain
    by false = tells-other (reply_entry side.Ap c q (served_at c q s).answer) (dropped item)
        (dropped-plain item)

-- ---- a moment

-- what a moment tells where the application processor serves what is delivered
module _ (m : Moment) (at : End) (p : Place) (item : Item) (q : Incoming)
    (deliver : m.event ≡ event.Deliver at) (named : place_of at m.before.bus.connections ≡ Some p)
    (ap_side : p.side ≡ side.Ap) (front : first (queue p.side p.connection) ≡ Some item)
    (made : request_in item m.before.bus ≡ Some q)
    (plain : IsPlain (served_at p.connection q m.before)) where
  abbrev Tells : List Entry → Type 0
  Tells es = TellsOf p.connection q m.before es

  popped-tells : (s : Side) → s ≡ side.Ap → Tells (handles s p.connection item (record m.before {
    bus = popped p.connection.number s m.before.bus;
  })).entries
  popped-tells side.Ap e = handles-tells p.connection item q (record m.before {
    bus = popped p.connection.number side.Ap m.before.bus;
  }) (request-popped item p.connection.number side.Ap m.before.bus ∙ made) plain
  popped-tells side.Far e = absurd cc

  other : {x : Entry} (es : List Entry) → is_reply x ≡ false → Tells es → Tells (x ∷ es)
  other {x} es quiet h e (inl is) reply =
      absurd (not-both (is_reply x) (ap is_reply (sym is) ∙ reply) quiet)
  other {x} es quiet h e (inr i) reply = h e i reply

  moment-tells : Tells (told_at m)
  unfolding machine_opened
  moment-tells = by (refusal m.before m.event) refl
    where
      by : (o : Option Refusal) → refusal m.before m.event ≡ o
          → Tells (decided o m.event m.before).entries
      by (Some why) e = other [] refl (tells-none _)
      by None e =
          subst Tells (sym (ap (λ x. (decided None x m.before).entries) deliver))
          (other _ refl (subst (λ (t : Told). Tells t.entries)
          (sym (delivers-handles m.before at p item named front)) (popped-tells p.side ap_side)))

-- ---- FETCH

-- what is read, or something else
abbrev ok-or : FirmwareAsk → Result FirmwareAsk PayloadFault → FirmwareAsk
ok-or other (Ok ask) = ask
ok-or other (Err fault) = other

-- a reply that is told is that of a FETCH, with its bytes
has-bytes : (m : Moment) (k : ℕ) (q : Incoming) (bytes : List ℕ) → q.kind ≡ 0x02
    → (served_images k q.kind q.payload m.before.host).answer.result ≡ success
    → bytes ≡ spelling (response q.label q.kind success
    (served_images k q.kind q.payload m.before.host).answer.payload)
    → HasTheBytes m k q bytes
has-bytes m k q bytes kind done is = by (read_firmware_ask q.kind q.payload) refl done is
  where
    x : Images
    x = m.before.host.images

    -- a FETCH is read, or nothing
    other : (ask : FirmwareAsk) → read_firmware_ask 0x02 q.payload ≡ Ok ask
        → (id : ℕ) × (offset : ℕ) × (size : ℕ) × (ask ≡ FirmwareAsk.Fetch id offset size)
    other ask e = way (length q.payload == 9) e
      where
        id : ℕ
        id = little_number 1 q.payload

        offset : ℕ
        offset = little_number 4 (drop 1 q.payload)

        size : ℕ
        size = little_number 4 (drop 4 (drop 1 q.payload))

        way : (t : Bool) → cond t (Ok (FirmwareAsk.Fetch id offset size)) (Err
            (PayloadFault.Mismatch (min (length q.payload) (9 + 1)))) ≡ Ok ask
            → (i : ℕ) × (at : ℕ) × (n : ℕ) × (ask ≡ FirmwareAsk.Fetch i at n)
        way true f = (id, offset, size, sym (ap (ok-or ask) f))
        way false f = absurd cc

    by : (r : Result FirmwareAsk PayloadFault) → read_firmware_ask q.kind q.payload ≡ r
        → (images_read k r x).served.result ≡ success
        → bytes ≡ spelling (response q.label q.kind success (images_read k r x).served.payload)
        → HasTheBytes m k q bytes
    by (Err fault) e done is = absurd (fault-fails fault done)
    by (Ok ask) e done is =
        let w = other ask (ap (λ n. read_firmware_ask n q.payload) (sym kind) ∙ e) in
        fetch w.0 w.1 w.2 (e ∙ ap Ok w.3)
        (subst (λ a. (images_read k (Ok a) x).served.result ≡ success) w.3 done)
        (subst (λ a. bytes ≡ spelling (response q.label q.kind success
        (images_read k (Ok a) x).served.payload)) w.3 is)
      where
        fetch : (id offset size : ℕ)
            → read_firmware_ask q.kind q.payload ≡ Ok (FirmwareAsk.Fetch id offset size)
            → (images_read k (Ok (FirmwareAsk.Fetch id offset size)) x).served.result ≡ success
            → bytes ≡ spelling (response q.label q.kind success
            (images_read k (Ok (FirmwareAsk.Fetch id offset size)) x).served.payload)
            → HasTheBytes m k q bytes
        fetch id offset size e done is =
            let f = fetched-from offset size (lent_bytes k id x) x done in record {
              id = id;
              offset = offset;
              size = size;
              asked = e;
              image = f.image;
              lent = f.lent;
              inside = f.inside;
              message = is ∙ ap (λ b. spelling (response q.label q.kind success b)) f.bytes;
            }

-- At a moment each FETCH that is answered with success has its bytes.
answers-bytes : (m : Moment) → LinkedTo m.told m.before → AnswersWithTheBytes m
answers-bytes m start a p q l brings found protocol kind number from to size bytes told =
    let e = moment-tells m (end.Ap a) p brings.item q brings.event brings.place ap_side brings.front
    brings.is plain (entry.Replied number from to success size bytes) told refl in
    let served = firmware-serves k q.kind q.payload m.before.host l found protocol in
    has-bytes m k q bytes kind
    (ap (λ (r : HostServed). r.answer.result) (sym served) ∙ sym (result-of _ _ e))
    (bytes-of _ _ e ∙ ap (λ (r : HostServed). spelling (response q.label q.kind r.answer.result
    r.answer.payload)) served ∙ ap (λ n. spelling (response q.label q.kind n
    (served_images k q.kind q.payload m.before.host).answer.payload))
    (ap (λ (r : HostServed). r.answer.result) (sym served) ∙ sym (result-of _ _ e)))
  where
    k : ℕ
    k = p.connection.number

    result_in : Entry → ℕ
    result_in (entry.Replied n from to result size bytes) = result
    result_in _ = 0

    bytes_in : Entry → List ℕ
    bytes_in (entry.Replied n from to result size bytes) = bytes
    bytes_in _ = []

    result-of : (x y : Entry) → x ≡ y → result_in x ≡ result_in y
    result-of x y e = ap result_in e

    bytes-of : (x y : Entry) → x ≡ y → bytes_in x ≡ bytes_in y
    bytes-of x y e = ap bytes_in e

    plain : IsPlain (served_at p.connection q m.before)
    plain = subst IsPlain (sym (firmware-serves k q.kind q.payload m.before.host l found protocol))
        (record { told = refl; notices = refl })

    ap_side : p.side ≡ side.Ap
    ap_side = by p.side refl
      where
        place : IsPlace (end.Ap a) m.before.bus.connections p
        place = place-is (end.Ap a) m.before.bus.connections p brings.place

        by : (s : Side) → p.side ≡ s → p.side ≡ side.Ap
        by side.Ap e = e
        by side.Far e = absurd (subst IsFarEnd
            (ap (λ s. end_of s p.connection) (sym e) ∙ place.is)
            (far-end m.before start.1 p.connection place.live))

answers-at_moments : HoldsAtMoments AnswersWithTheBytes
answers-at_moments =
    at_each LinkedTo AnswersWithTheBytes linked-throughout (λ m one h. answers-bytes m h)

-- What a FETCH is answered with is of the image.
pub fetched-is_the_image : FetchedIsTheImage
fetched-is_the_image = at-all AnswersWithTheBytes answers-at_moments
