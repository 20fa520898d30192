-- What is known of running downloads in a state at rest is known at the points of a moment, and the
-- other way round.
use Rattle.std.proofs.Common.{Bool, List, None, Option, Some, ap, ap₂, arith, false, inl, inr}
use Rattle.std.proofs.Common.{length, refl, subst, sym, true, ℕ, ◌∙◌, ◌≡◌}
use Rattle.std.specs.Prelude.{option_map}
use Rattle.gb_base.specs.declared.end.Side.TheVariants as side
use Rattle.gb_base.specs.declared.entry.Entry.{Entry}
use Rattle.gb_formats.specs.Loader.{Awaits, Download, piece}
use Rattle.gb_machine.specs.Bus.{Ask, Connection, Item, Place, Raw, RawReply, Reply, Request, queue}
use Rattle.gb_machine.specs.Bus.{request_of}
use Rattle.gb_machine.specs.HostServing.{HostServed, host_serves}
use Rattle.gb_machine.specs.Incoming.{Incoming, incoming, request_in}
use Rattle.gb_machine.specs.LawsFirmware.{WasClean}
use Rattle.gb_machine.specs.Lists.{first}
use Rattle.gb_machine.specs.Members.{IsIn}
use Rattle.gb_machine.specs.Runs.{Moment}
use Rattle.gb_machine.specs.State.{Load, State, Trail}
use Rattle.gb_invariants.proofs.Awaiting.{none-some, same-some}
use Rattle.gb_invariants.proofs.ItemChanges.{first-in}
use Rattle.gb_invariants.proofs.Lists.{not-both}
use Rattle.gb_invariants.specs.Facts.{BusFits, Loose, is_numbered}
use Rattle.gb_laws.proofs.firmware.MomentToPoint.{UncleanAreKnown}
use Rattle.gb_laws.proofs.firmware.ImageFacts.{AreShort, LentAs, image-short}
use Rattle.gb_laws.proofs.firmware.Running.{AreRunning, AsksFor, Fetches, Fits, FitsAt, FoundIt}
use Rattle.gb_laws.proofs.firmware.Running.{Free, HasPart, HasSoFar, IsGood, QuietAt, Replied}
use Rattle.gb_laws.proofs.firmware.Running.{RunAt, Running}
use Rattle.gb_laws.proofs.firmware.ServedImages.{fetch-images}
use Rattle.gb_laws.proofs.points.Places.{place-is}
use Rattle.gb_laws.proofs.points.PointParts.{IsServed}

-- ---- where something else is said of ids

part-with : (fits other : Fits) (s : State) (w k id size : ℕ) (d : Download)
    → HasPart fits s w k id size d → other k id d.tag → HasPart other s w k id size d
part-with fits other s w k id size d h suits = record {
  image = h.image;
  given = h.given;
  whole = h.whole;
  bytes = h.bytes;
  less = h.less;
  lent = h.lent;
  suits = suits;
  only = h.only;
}

found-with : (fits other : Fits) (s : State) (k : ℕ) (d : Download) (p : List ℕ)
    (g : FoundIt fits s k d p) → other k g.id d.tag → FoundIt other s k d p
found-with fits other s k d p g suits = record {
  id = g.id;
  image = g.image;
  given = g.given;
  is = g.is;
  lent = g.lent;
  suits = suits;
}

running-with : (fits other : Fits) (old now : List Connection) (told : List Entry) (s : State)
    (l : Load) (d : Download) (run : Running fits old None told s l d)
    → (WasClean run.trail.connection s → Fetches other now None s l.request run.trail d)
    → Running other now None told s l d
running-with fits other old now told s l d run clean = record {
  trail = run.trail;
  found = run.found;
  made = run.made;
  request = run.request;
  is = run.is;
  connection = run.connection;
  side = run.side;
  asks = run.asks;
  far = run.far;
  other = run.other;
  tag = run.tag;
  fresh = run.fresh;
  clean = clean;
}

-- ---- from a state at rest

module _ (m : Moment) (before : List Loose) (fits : BusFits before m.before.bus)
    (remembered : UncleanAreKnown m.before) (short : AreShort m.before.host.images) where
  -- what is served on a connection on which nothing was injected is a request that waits there
  record ServesAsk (k type : ℕ) (bytes : List ℕ) : Type 0 where
    connection : Connection
    live : IsIn connection m.before.bus.connections
    number : connection.number ≡ k
    asked : ℕ
    waits : IsIn (Ask asked) connection.to_ap
    request : Request
    is : request_of asked m.before.bus ≡ Some request
    kind : request.kind ≡ type
    payload : request.payload ≡ bytes

  serves-ask : (k type : ℕ) (bytes : List ℕ) → WasClean k m.before → IsServed m k type bytes
      → ServesAsk k type bytes
  serves-ask k type bytes w s = of s.item numbered in_queue s.made
    where
      p : Place
      p = s.place

      live : IsIn p.connection m.before.bus.connections
      live = (place-is s.at m.before.bus.connections p s.named).live

      in_queue : IsIn s.item p.connection.to_ap
      in_queue = first-in p.connection.to_ap s.item
          (subst (λ t. first (queue t p.connection) ≡ Some s.item) s.side s.front)

      numbered : is_numbered s.item ≡ true
      numbered = by p.connection.clean refl
        where
          by : (t : Bool) → p.connection.clean ≡ t → is_numbered s.item ≡ true
          by true e = (fits.items.answerable p.connection side.Ap s.item live in_queue).numbered e
          by false e = absurd (w (subst (λ n. IsIn n m.before.past.unclean) s.on
              (remembered p.connection live e)))

      asks-it : (n : ℕ) → IsIn (Ask n) p.connection.to_ap → (o : Option Request)
          → request_of n m.before.bus ≡ o → option_map (incoming n) o ≡ Some s.request
          → ServesAsk k type bytes
      asks-it n i None e f = absurd (none-some f)
      asks-it n i (Some r) e f =
          let same = same-some (incoming n r) s.request f in record {
            connection = p.connection;
            live = live;
            number = s.on;
            asked = n;
            waits = i;
            request = r;
            is = e;
            kind = ap (λ (q : Incoming). q.kind) same ∙ s.kind;
            payload = ap (λ (q : Incoming). q.payload) same ∙ s.payload;
          }

      of : (item : Item) → is_numbered item ≡ true → IsIn item p.connection.to_ap
          → request_in item m.before.bus ≡ Some s.request → ServesAsk k type bytes
      of (Ask n) one i made = asks-it n i (request_of n m.before.bus) refl made
      of (Reply n result payload) one i made = absurd (none-some made)
      of (RawReply label kind result payload) one i made = absurd (none-some made)
      of (Raw raw) one i made = absurd (not-both false one refl)

  module _ (l : Load) (d : Download)
      (run : Running Free m.before.bus.connections None m.told m.before l d)
      (w : WasClean run.trail.connection m.before) where
    -- a FETCH that waits changes nothing where it is served
    part-fits : (id size : ℕ) → HasPart Free m.before l.request run.trail.connection id size d
        → AsksFor (Awaits.Fetch id size) d run.request
        → FitsAt m run.trail.connection id d.tag
    part-fits id size p asked kind payload s =
        let a = serves-ask run.trail.connection kind payload w s in
        let one = p.only a.connection a.live a.number a.asked a.waits in
        let request = same-some a.request run.request
        (sym a.is ∙ ap (λ n. request_of n m.before.bus) one ∙ run.is) in
        let whole = p.whole in
        let less = p.less in
        let bound = image-short d.tag p.image m.before.host.images short p.given in
        subst (λ (r : HostServed). LentAs run.trail.connection id d.tag r.host.images)
        (ap₂ (λ k b. host_serves run.trail.connection k b m.before.host)
        (sym asked.0 ∙ ap (λ (r : Request). r.kind) (sym request) ∙ a.kind)
        (sym asked.1 ∙ ap (λ (r : Request). r.payload) (sym request) ∙ a.payload))
        (subst (LentAs run.trail.connection id d.tag)
        (sym (fetch-images run.trail.connection id (length d.bytes) (piece size d.bytes)
        (omega (arith, whole, less, bound)) (omega arith) m.before.host)) p.lent)

    has-fits : (v : Awaits) → AsksFor v d run.request
        → HasSoFar Free m.before l.request run.trail.connection v d
        → HasSoFar (FitsAt m) m.before l.request run.trail.connection v d
    has-fits Awaits.Find asked h = tt
    has-fits (Awaits.Fetch id size) asked h = part-with Free (FitsAt m) m.before l.request
        run.trail.connection id size d h (part-fits id size h asked)
    has-fits Awaits.Release asked h = h

    -- and nothing is served where nothing waits
    good-fits : (v : Awaits) (p : List ℕ) → QuietAt run.trail.connection m.before.bus
        → IsGood Free m.before run.trail.connection v d p
        → IsGood (FitsAt m) m.before run.trail.connection v d p
    good-fits Awaits.Find p quiet g =
        found-with Free (FitsAt m) m.before run.trail.connection d p g
        (λ kind payload s. let a = serves-ask run.trail.connection kind payload w s in
        absurd (quiet a.connection a.live a.number a.asked a.waits))
    good-fits (Awaits.Fetch id size) p quiet g = g
    good-fits Awaits.Release p quiet g = tt

    fetches-fits : Fetches Free m.before.bus.connections None m.before l.request run.trail d
        → Fetches (FitsAt m) m.before.bus.connections None m.before l.request run.trail d
    fetches-fits f = record {
      ranges = f.ranges;
      behind = f.behind;
      has = has-fits d.awaits run.asks f.has;
      reply = λ p r. let g = f.reply p r in (g.0, good-fits d.awaits p g.0 g.1);
      taken = f.taken;
    }

  -- What is known before a moment is known at its first point.
  pub runs-start : RunAt m.told m.before
      → AreRunning (FitsAt m) m.before.bus.connections None m.told m.before
  runs-start h l i r at d ran =
      let run = h l i r at d ran in
      running-with Free (FitsAt m) m.before.bus.connections m.before.bus.connections m.told m.before
      l d run (λ w. fetches-fits l d run w (run.clean w))

-- ---- to a state at rest

module _ (fits : Fits) (old : List Connection) (s : State) where
  has-free : (w k : ℕ) (v : Awaits) (d : Download) → HasSoFar fits s w k v d
      → HasSoFar Free s w k v d
  has-free w k Awaits.Find d h = tt
  has-free w k (Awaits.Fetch id size) d h = part-with fits Free s w k id size d h tt
  has-free w k Awaits.Release d h = h

  good-free : (k : ℕ) (v : Awaits) (d : Download) (p : List ℕ) → IsGood fits s k v d p
      → IsGood Free s k v d p
  good-free k Awaits.Find d p g = found-with fits Free s k d p g tt
  good-free k (Awaits.Fetch id size) d p g = g
  good-free k Awaits.Release d p g = tt

  -- it waits now
  waits-now : (k w : ℕ) (p : List ℕ) → Replied s.bus.connections s.bus k w p
      → Replied old s.bus k w p
  waits-now k w p (inl h) = inl h
  waits-now k w p (inr h) = inl h

  fetches-free : (w : ℕ) (t : Trail) (d : Download) → Fetches fits old None s w t d
      → Fetches Free s.bus.connections None s w t d
  fetches-free w t d f = record {
    ranges = f.ranges;
    behind = f.behind;
    has = has-free w t.connection d.awaits d f.has;
    reply = λ p r. let g = f.reply p (waits-now t.connection w p r) in
        (g.0, good-free t.connection d.awaits d p g.1);
    taken = f.taken;
  }

  -- What is known at the last point of a moment is known behind it.
  pub runs-end : (told : List Entry) → AreRunning fits old None told s → RunAt told s
  runs-end told h l i r at d ran =
      let run = h l i r at d ran in
      running-with fits Free old s.bus.connections told s l d run
      (λ w. fetches-free l.request run.trail d (run.clean w))
