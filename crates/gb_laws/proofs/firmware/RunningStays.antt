-- What is known of a running download stays at each single change by which it doesn't go on.
use Rattle.std.proofs.Common.{Bool, List, None, Option, Some, ap, ap₂, arith, cond, false, inl, inr}
use Rattle.std.proofs.Common.{length, refl, subst, sym, true, ℕ, ⊎_elim, ◌∙◌, ◌≡◌, ◌≤◌, ◌⊎◌}
use Rattle.std.specs.List.{find}
use Rattle.std.specs.Prelude.{Err, Ok, Result, drop, option_and_then, option_map, take}
use Rattle.gb_base.specs.declared.end.End.TheVariants as end
use Rattle.gb_base.specs.declared.end.Side.{Side}
use Rattle.gb_base.specs.declared.end.Side.TheVariants as side
use Rattle.gb_base.specs.declared.reasons.RawFault.{RawFault}
use Rattle.gb_formats.specs.Images.{Image, Images, has_tag, image_of, lent_bytes, lent_tag}
use Rattle.gb_formats.specs.Loader.{Awaits, Download, padded, piece}
use Rattle.gb_formats.specs.Message.{Message}
use Rattle.gb_formats.specs.Results.{success}
use Rattle.gb_formats.specs.ValidEvents.{IsTag}
use Rattle.gb_formats.specs.Wire.{raw_message}
use Rattle.gb_machine.specs.Bus.{Ask, Bus, Connection, Item, Place, Raw, RawReply, Reply, Request}
use Rattle.gb_machine.specs.Bus.{other_side, queue, request_of}
use Rattle.gb_machine.specs.Delivery.{without_front}
use Rattle.gb_machine.specs.Host.{Host}
use Rattle.gb_machine.specs.HostServing.{HostServed, host_serves}
use Rattle.gb_machine.specs.Incoming.{Incoming, incoming, incoming_raw, is_request, raw_request}
use Rattle.gb_machine.specs.Incoming.{reply_item, reply_to, request_in}
use Rattle.gb_machine.specs.Lists.{first}
use Rattle.gb_machine.specs.Loading.{is_trail_at}
use Rattle.gb_machine.specs.Members.{IsIn}
use Rattle.gb_machine.specs.Runs.{Moment}
use Rattle.gb_machine.specs.Serving.{Answer}
use Rattle.gb_machine.specs.State.{Load, State}
use Rattle.gb_invariants.proofs.Awaiting.{none-some, same-some}
use Rattle.gb_invariants.proofs.BusChanges.{KeepsRequests, number_of}
use Rattle.gb_invariants.proofs.ItemChanges.{first-in}
use Rattle.gb_invariants.proofs.Numbers.{in-changed, same-connection}
use Rattle.gb_invariants.proofs.Selves.{far-no-ap}
use Rattle.gb_invariants.specs.Facts.{IsMadeOn, IsOwn}
use Rattle.gb_laws.proofs.firmware.MomentToPoint.{FromBefore, TakenAt, one-place, unclean-kept}
use Rattle.gb_laws.proofs.firmware.FirmwareQueues.{BringsTo, NoAsks, front-none}
use Rattle.gb_laws.proofs.firmware.HostImages.{ImagesFrom, added, fewer, images-from, stepped}
use Rattle.gb_laws.proofs.firmware.ImageFacts.{LentAs, fewer-as, given-stays, image-short}
use Rattle.gb_laws.proofs.firmware.ImageFacts.{lent-none, lent-now, one-or_other}
use Rattle.gb_laws.proofs.firmware.RecordsBack.{padded-length, padded-spells}
use Rattle.gb_laws.proofs.firmware.Running.{AsksFor, Fetches, FitsAt, FoundIt, HasSoFar, IsGood}
use Rattle.gb_laws.proofs.firmware.Running.{QuietAt, Running}
use Rattle.gb_laws.proofs.firmware.RunningMoved.{far-moved, fetches-moved, keeps, quiet-moved}
use Rattle.gb_laws.proofs.firmware.RunningMoved.{trails-kept}
use Rattle.gb_laws.proofs.firmware.ServedImages.{FetchedFrom, FindAnswered, fetch-answered}
use Rattle.gb_laws.proofs.firmware.ServedImages.{fetch_bytes, find-answered}
use Rattle.gb_laws.proofs.opened.OpeningTold.{told-stays}
use Rattle.gb_laws.proofs.points.ChangeBuses.{bus-is, bus_change, keeps-requests}
use Rattle.gb_laws.proofs.points.Places.{module-far, place-is}
use Rattle.gb_laws.proofs.points.PointParts.{Basis, Hand, IsServed, Point}
use Rattle.gb_laws.proofs.points.Points.{Change, answers, asks, changed, drops, forgets, holds}
use Rattle.gb_laws.proofs.points.Points.{injects, names, replies, takes, takes_held}

-- ---- images

-- an image that is there stays
pub image-kept : (m : Moment) (a : Point) (x : Change m a) (t img : List ℕ)
    → image_of t a.state.host.images ≡ Some img
    → image_of t (changed m a x).state.host.images ≡ Some img
image-kept m a x t img h = by (images-from m a x)
  where
    same : (y : Images) → y.given ≡ a.state.host.images.given → image_of t y ≡ Some img
    same y e = ap (λ is. option_map (λ (i : Image). i.bytes) (find (has_tag t) is)) e ∙ h

    by : ImagesFrom m a (changed m a x).state.host.images
        → image_of t (changed m a x).state.host.images ≡ Some img
    by (fewer f) = same (changed m a x).state.host.images f.given
    by (stepped k kind payload served f is) = same (changed m a x).state.host.images f.given
    by (added tag bytes e none is) =
        ap (image_of t) is ∙ given-stays tag bytes a.state.host.images t img h

-- an id stays lent for its tag alone
lent-kept : (m : Moment) (a : Point) (x : Change m a) (k id : ℕ) (tag : List ℕ)
    → FitsAt m k id tag → LentAs k id tag a.state.host.images
    → LentAs k id tag (changed m a x).state.host.images
lent-kept m a x k id tag suits h = by (images-from m a x)
  where
    by : ImagesFrom m a (changed m a x).state.host.images
        → LentAs k id tag (changed m a x).state.host.images
    by (fewer f) = fewer-as k id tag f h
    by (stepped j kind payload served f is) = ⊎_elim
        (λ e. subst (LentAs k id tag) (sym is) (subst (λ n. LentAs k id tag
        (host_serves n kind payload m.before.host).host.images) e
        (suits kind payload (subst (λ n. IsServed m n kind payload) (sym e) served))))
        (λ other t e. h t (sym (f.aside k id other) ∙ e)) (one-or_other k j)
    by (added t bytes e none is) = subst (LentAs k id tag) (sym is) h

-- ---- an answer

-- a reply with the number of a request answers that
record AnswersAsk (b : Bus) (item : Item) (q : Incoming) (r : Answer) (w : ℕ) (p : List ℕ) : Type
    0 where
  request : Request
  made : request_of w b ≡ Some request
  own : item ≡ Ask w
  is : q ≡ incoming w request
  done : r.result ≡ success
  payload : p ≡ r.payload

numbers-of : (n w result done : ℕ) (payload p : List ℕ) → Reply n result payload ≡ Reply w done p
    → (n ≡ w) × (result ≡ done) × (payload ≡ p)
numbers-of n w result done payload p e = (cc, cc, cc)

raw-number : (r : Result Message RawFault) {q : Incoming} → raw_request r ≡ Some q
    → q.number ≡ None
raw-number (Err fault) e = absurd (none-some e)
raw-number (Ok x) {q} e = by (is_request x) e
  where
    by : (t : Bool) → cond t (Some (incoming_raw x)) None ≡ Some q → q.number ≡ None
    by true e = ap (λ (y : Incoming). y.number) (sym (same-some (incoming_raw x) q e))
    by false e = absurd (none-some e)

answers-ask : (b : Bus) (item : Item) (q : Incoming) (r : Answer) (w : ℕ) (p : List ℕ)
    → request_in item b ≡ Some q → Reply w success p ≡ reply_item q r → AnswersAsk b item q r w p
answers-ask b (Ask n) q r w p made e = by (request_of n b) refl made
  where
    by : (o : Option Request) → request_of n b ≡ o → option_map (incoming n) o ≡ Some q
        → AnswersAsk b (Ask n) q r w p
    by None f made = absurd (none-some made)
    by (Some x) f made =
        let is = sym (same-some (incoming n x) q made) in
        let same = numbers-of w n success r.result p r.payload
        (e ∙ ap (λ y. reply_item y r) is) in record {
          request = x;
          made = ap (λ k. request_of k b) same.0 ∙ f;
          own = ap Ask (sym same.0);
          is = is ∙ ap (λ k. incoming k x) (sym same.0);
          done = sym same.1;
          payload = same.2;
        }
answers-ask b (Raw bytes) q r w p made e = absurd (unnumbered q.number number e)
  where
    number : q.number ≡ None
    number = raw-number (raw_message bytes) made

    unnumbered : (o : Option ℕ) → o ≡ None → Reply w success p ≡ reply_to o q r → ⊥
    unnumbered None f e = absurd cc
    unnumbered (Some n) f e = absurd cc
answers-ask b (Reply n result payload) q r w p made e = absurd (none-some made)
answers-ask b (RawReply label kind result payload) q r w p made e = absurd (none-some made)

-- ---- a request that is served

-- What is served at a moment is what is in hand.
served-hand : (m : Moment) (b : Bus) (h : Hand) (w : ℕ) (request : Request) (k kind : ℕ)
    (payload : List ℕ) → TakenAt m h → h.item ≡ Ask w → request_of w b ≡ Some request
    → KeepsRequests m.before.bus b → IsServed m k kind payload
    → (request.kind ≡ kind) × (request.payload ≡ payload)
served-hand m b h w request k kind payload taken own made keeps served = (
  ap (λ (q : Incoming). q.kind) is ∙ served.kind,
  ap (λ (q : Incoming). q.payload) is ∙ served.payload,
)
  where
    place : taken.place ≡ served.place
    place = one-place m taken.at served.at taken.place served.place taken.event served.event
        taken.named served.named

    item : served.item ≡ Ask w
    item = same-some served.item (Ask w) (sym served.front
        ∙ ap (λ (p : Place). first (queue p.side p.connection)) (sym place) ∙ taken.front
        ∙ ap Some own)

    is : incoming w request ≡ served.request
    is = by (request_of w m.before.bus) refl
        (ap (λ x. request_in x m.before.bus) (sym item) ∙ served.made)
      where
        by : (o : Option Request) → request_of w m.before.bus ≡ o
            → option_map (incoming w) o ≡ Some served.request → incoming w request ≡ served.request
        by None e f = absurd (none-some f)
        by (Some r) e f =
            ap (incoming w) (same-some request r (sym made ∙ keeps w r e))
            ∙ same-some (incoming w r) served.request f

-- the answer that is given is that of the application processor to the request of the download
module _ (m : Moment) (a : Point) (h : Hand) (l : Load) (d : Download) (request : Request)
    (k w : ℕ) (on : FromBefore m a) (taken : TakenAt m h) (own : h.item ≡ Ask w)
    (made : request_of w a.state.bus ≡ Some request) (tag : IsTag d.tag)
    (host : a.state.host ≡ m.before.host) (p : List ℕ)
    (done : (host_serves k request.kind request.payload m.before.host).answer.result ≡ success)
    (says : p ≡ (host_serves k request.kind request.payload m.before.host).answer.payload) where
  abbrev before : Host
  before = m.before.host

  abbrev served : ℕ → List ℕ → HostServed
  served kind payload = host_serves k kind payload before

  good-find : AsksFor Awaits.Find d request → FoundIt (FitsAt m) a.state k d p
  good-find asked = record {
    id = f.id;
    image = f.image;
    given = ap (λ (g : Host). image_of d.tag g.images) host ∙ f.given;
    is = says ∙ ap (λ (r : HostServed). r.answer.payload) same ∙ f.payload;
    lent = subst (λ (g : Host). LentAs k f.id d.tag g.images) (sym host)
        (lent-none k f.id d.tag before.images f.free);
    suits = λ kind payload s.
        let e = served-hand m a.state.bus h w request k kind payload taken own made on.requests s
        in subst (λ (r : HostServed). LentAs k f.id d.tag r.host.images)
        (sym same ∙ ap₂ served e.0 e.1) (subst (LentAs k f.id d.tag) (sym f.after)
        (lent-now k f.id d.tag before.images f.free));
  }
    where
      same : served request.kind request.payload ≡ served 0x01 (padded d.tag)
      same = ap₂ served asked.0 asked.1

      f : FindAnswered k d.tag before.images (served 0x01 (padded d.tag))
      f = find-answered k d.tag before (padded d.tag) (padded-length d.tag tag)
          (padded-spells d.tag tag)
          (ap (λ (r : HostServed). r.answer.result) (sym same) ∙ done)

  good-fetch : (id size : ℕ) → AsksFor (Awaits.Fetch id size) d request
      → HasSoFar (FitsAt m) a.state w k (Awaits.Fetch id size) d
      → IsGood (FitsAt m) a.state k (Awaits.Fetch id size) d p
  good-fetch id size asked has image given =
      says ∙ ap (λ (r : HostServed). r.answer.payload) same ∙ f.bytes
      ∙ ap (λ i. take (piece size d.bytes) (drop (length d.bytes) i)) is
    where
      short : length has.image ≤ 4294967295
      short = image-short d.tag has.image a.state.host.images on.short has.given

      same : served request.kind request.payload
          ≡ served 0x02 (fetch_bytes id (length d.bytes) (piece size d.bytes))
      same = ap₂ served asked.0 asked.1

      f : FetchedFrom (length d.bytes) (piece size d.bytes) (lent_bytes k id before.images)
          (served 0x02 (fetch_bytes id (length d.bytes) (piece size d.bytes))).answer.payload
      f = fetch-answered k id (length d.bytes) (piece size d.bytes)
          (let less = has.less in let whole = has.whole in omega (arith, less, whole, short))
          (omega arith) before (ap (λ (r : HostServed). r.answer.result) (sym same) ∙ done)

      is : f.image ≡ image
      is = by (lent_tag k id before.images) refl f.lent
        where
          by : (o : Option (List ℕ)) → lent_tag k id before.images ≡ o
              → option_and_then (λ t. image_of t before.images) o ≡ Some f.image
              → f.image ≡ image
          by None e g = absurd (none-some g)
          by (Some t) e g =
              let own = has.lent t (ap (λ (g : Host). lent_tag k id g.images) host ∙ e) in
              same-some f.image image (sym g ∙ ap (λ u. image_of u before.images) own
              ∙ ap (λ (g : Host). image_of d.tag g.images) (sym host) ∙ given)

  good-all : (v : Awaits) → AsksFor v d request → HasSoFar (FitsAt m) a.state w k v d
      → IsGood (FitsAt m) a.state k v d p
  good-all Awaits.Find asked has = good-find asked
  good-all (Awaits.Fetch id size) asked has = good-fetch id size asked has
  good-all Awaits.Release asked has = tt

-- ---- a single change

-- what an answer to the request says where it comes
comes : (m : Moment) (a : Point) (x : Change m a) (l : Load) (d : Download) → FromBefore m a
    → (run : Running (FitsAt m) m.before.bus.connections a.hand a.told a.state l d)
    → Fetches (FitsAt m) m.before.bus.connections a.hand a.state l.request run.trail d
    → (p : List ℕ) → number_of (bus_change x) ≡ run.trail.connection
    → BringsTo (bus_change x) a.state.bus side.Far (Reply l.request success p)
    → QuietAt run.trail.connection a.state.bus
    × IsGood (FitsAt m) a.state run.trail.connection d.awaits d p
comes m a (asks d' c label free live drawn who) l d on run f p at brings = absurd cc
comes m a (names name d' c label free live drawn host) l d on run f p at brings = absurd cc
comes m a (injects i c place bytes free named) l d on run f p at brings = absurd cc
comes m a (replies h q r is made twoway) l d on run f p at brings =
    let ask = answers-ask a.state.bus h.item q r l.request p made brings.1 in
    let served = twoway.1 ap_side in
    let request = same-some ask.request run.request (sym ask.made ∙ run.is) in
    let asked = ask.is ∙ ap (incoming l.request) request in
    let same = same-served served.1 asked in (
      f.taken h is ap_side ask.own,
      good-all m a h l d run.request run.trail.connection l.request on (on.taken h is ap_side)
          ask.own run.is run.tag served.0 p
          (ap (λ (y : Answer). y.result) (sym same) ∙ ask.done)
          (ask.payload ∙ ap (λ (y : Answer). y.payload) same) d.awaits run.asks f.has,
    )
  where
    ap_side : h.side ≡ side.Ap
    ap_side = by h.side brings.0
      where
        by : (s : Side) → side.Far ≡ other_side s → s ≡ side.Ap
        by side.Ap e = refl
        by side.Far e = absurd cc

    same-served : r ≡ (host_serves h.connection.number q.kind q.payload m.before.host).answer
        → q ≡ incoming l.request run.request
        → r ≡ (host_serves run.trail.connection run.request.kind run.request.payload
        m.before.host).answer
    same-served e f =
        e ∙ ap (λ n. (host_serves n q.kind q.payload m.before.host).answer) at
        ∙ ap (λ (y : Incoming). (host_serves run.trail.connection y.kind y.payload
        m.before.host).answer) f
comes m a _ l d on run f p at brings = absurd brings

-- none waits behind the request where it is taken
takes-quiet : (m : Moment) (a : Point) (x : Change m a) (l : Load) (d : Download) → Basis a
    → (run : Running (FitsAt m) m.before.bus.connections a.hand a.told a.state l d)
    → ((n : ℕ) → number_of (bus_change x) ≡ run.trail.connection
    → BringsTo (bus_change x) a.state.bus side.Ap (Ask n) → ⊥)
    → run.trail.connection ≤ a.state.bus.made
    → Fetches (FitsAt m) m.before.bus.connections a.hand a.state l.request run.trail d
    → (h : Hand) → (changed m a x).hand ≡ Some h → h.side ≡ side.Ap → h.item ≡ Ask l.request
    → QuietAt run.trail.connection (changed m a x).state.bus
takes-quiet m a (takes at p item free start is named front) l d basis run none low f h e ap_side own
    = λ c i number. by c number (in-changed a.state.bus.connections p.connection.number
    (without_front p.side) c basis.bus.numbers.rise i)
  where
    same : record { connection = p.connection; side = p.side; item = item } ≡ h
    same = same-some (record { connection = p.connection; side = p.side; item = item }) h e

    side_is : p.side ≡ side.Ap
    side_is = ap (λ (y : Hand). y.side) same ∙ ap_side

    item_is : item ≡ Ask l.request
    item_is = ap (λ (y : Hand). y.item) same ∙ own

    live : IsIn p.connection a.state.bus.connections
    live = subst (λ (s : State). IsIn p.connection s.bus.connections) (sym start)
        (place-is at m.before.bus.connections p named).live

    made : IsMadeOn p.connection.number (other_side p.side) l.request a.state.bus
    made = subst (IsOwn a.state.bus p.connection.number p.side) item_is
        (basis.bus.items.own p.connection p.side item live
        (first-in (queue p.side p.connection) item front))

    here : p.connection.number ≡ run.trail.connection
    here = sym made.2
        ∙ ap (λ (r : Request). r.connection)
        (same-some made.0 run.request (sym made.1 ∙ run.is)) ∙ run.connection

    quiet : (s : Side) → s ≡ side.Ap → first (queue s p.connection) ≡ Some (Ask l.request)
        → NoAsks (without_front s p.connection).to_ap
    quiet side.Ap e front =
        front-none l.request p.connection.to_ap front (f.behind p.connection live here)
    quiet side.Far e front = absurd cc

    by : (c : Connection) → c.number ≡ run.trail.connection
        → (IsIn c a.state.bus.connections × (c.number ≡ p.connection.number → ⊥))
        ⊎ ((y : Connection) × IsIn y a.state.bus.connections × (y.number ≡ p.connection.number)
        × (c ≡ without_front p.side y)) → NoAsks c.to_ap
    by c number (inl old) = absurd (old.1 (number ∙ sym here))
    by c number (inr w) = subst (λ (y : Connection). NoAsks y.to_ap)
        (sym (w.3 ∙ ap (without_front p.side) (same-connection a.state.bus.connections w.0
        p.connection basis.bus.numbers.rise w.1 live w.2)))
        (quiet p.side side_is (front ∙ ap Some item_is))
takes-quiet m a (takes_held i c place p y free start is at held) l d basis run none low f h e
    ap_side own = let far = module-far i c p.side p.connection
    (place-is (end.Module i c) m.before.bus.connections p at).is in
    let same = same-some (record { connection = p.connection; side = p.side; item = y.item }) h e in
    absurd (far-no-ap (sym far ∙ ap (λ (z : Hand). z.side) same ∙ ap_side))
takes-quiet m a drops l d basis run none low f h e ap_side own = absurd (none-some e)
takes-quiet m a (holds y is far) l d basis run none low f h e ap_side own = absurd (none-some e)
takes-quiet m a (replies y q r is made twoway) l d basis run none low f h e ap_side own =
    absurd (none-some e)
takes-quiet m a (answers y n result payload is says which) l d basis run none low f h e ap_side own
    = absurd (none-some e)
takes-quiet m a (forgets y n is late) l d basis run none low f h e ap_side own =
    absurd (none-some e)
takes-quiet m a x l d basis run none low f h e ap_side own =
    quiet-moved a.state (changed m a x).state (bus_change x) (bus-is m a x) run.trail.connection
    l.request low none (f.taken h e ap_side own)

-- What is known of a running download stays where no request comes on its connection.
pub run-moved : (m : Moment) (a : Point) (x : Change m a) (l : Load) (d : Download) → Basis a
    → FromBefore m a → (run : Running (FitsAt m) m.before.bus.connections a.hand a.told a.state l d)
    → ((n : ℕ) → number_of (bus_change x) ≡ run.trail.connection
    → BringsTo (bus_change x) a.state.bus side.Ap (Ask n) → ⊥)
    → find (is_trail_at l.intf l.cport) (changed m a x).state.past.loading
    ≡ find (is_trail_at l.intf l.cport) a.state.past.loading
    → Running (FitsAt m) m.before.bus.connections (changed m a x).hand (changed m a x).told
    (changed m a x).state l d
run-moved m a x l d basis on run none same = record {
  trail = run.trail;
  found = same ∙ run.found;
  made = trails-kept a.told (changed m a x).told a.state after run.trail run.trail
      run.trail.requests (told-stays m a x) stay (refl, refl, refl) run.made;
  request = run.request;
  is = stay l.request run.request run.is;
  connection = run.connection;
  side = run.side;
  asks = run.asks;
  far = far-moved a.state after (bus_change x) (bus-is m a x) run.trail.connection l.request low
      (end.Module l.intf l.cport) run.far;
  other = run.other;
  tag = run.tag;
  fresh = run.fresh;
  clean = λ c. let f = run.clean (λ i. c (unclean-kept m a x run.trail.connection i)) in
      fetches-moved a.state after (bus_change x) (bus-is m a x) run.trail.connection l.request low
      (FitsAt m) d none (λ img e. image-kept m a x d.tag img e)
      (λ id suits e. lent-kept m a x run.trail.connection id d.tag suits e)
      m.before.bus.connections a.hand (changed m a x).hand a.told run.trail refl run.made
      (comes m a x l d on run f) (takes-quiet m a x l d basis run none low f) f;
}
  where
    after : State
    after = (changed m a x).state

    stay : KeepsRequests a.state.bus after.bus
    stay = keeps-requests m a x

    low : run.trail.connection ≤ a.state.bus.made
    low = subst (λ n. n ≤ a.state.bus.made) run.connection
        (basis.bus.numbers.on l.request run.request run.is)
