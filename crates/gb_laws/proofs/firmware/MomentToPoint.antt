-- What stays over a moment: requests, what was injected, and what is in hand at the
-- application processor.
use Rattle.std.proofs.Common.{Bool, List, None, Option, Some, ap, cond, false, inl, inr, length}
use Rattle.std.proofs.Common.{refl, subst, sym, true, ℕ, ⊎_elim, [], ◌∙◌, ◌∷◌, ◌≡◌, ◌≢◌, ◌≤◌, ◌⊎◌}
use Rattle.gb_base.specs.declared.end.End.{End}
use Rattle.gb_base.specs.declared.end.End.TheVariants as end
use Rattle.gb_base.specs.declared.end.Side.{Side}
use Rattle.gb_base.specs.declared.end.Side.TheVariants as side
use Rattle.gb_base.specs.declared.event.Event.TheVariants as event
use Rattle.gb_base.specs.declared.interface.Link.{Link}
use Rattle.gb_base.specs.declared.steps.Purpose.{Purpose}
use Rattle.gb_formats.specs.Images.{Image, Images}
use Rattle.gb_machine.specs.Bus.{Bus, Connection, Place, place_of, queue}
use Rattle.gb_machine.specs.Host.{link_at}
use Rattle.gb_machine.specs.HostActs.{made_for, with_awaited}
use Rattle.gb_machine.specs.Lists.{first}
use Rattle.gb_machine.specs.Members.{IsIn}
use Rattle.gb_machine.specs.Runs.{IsMoment, Moment}
use Rattle.gb_machine.specs.SequenceSteps.{is_for_connection}
use Rattle.gb_machine.specs.State.{State}
use Rattle.gb_machine.specs.Waits.{awaits}
use Rattle.gb_invariants.proofs.Awaiting.{none-some, same-some}
use Rattle.gb_invariants.proofs.BusChanges.{BusChange, KeepsRequests, Was, came, clean_by, made_by}
use Rattle.gb_invariants.proofs.BusChanges.{number_of, stayed, was, went}
use Rattle.gb_invariants.proofs.Lists.{in-behind, in-front, in-pushed, not-both}
use Rattle.gb_invariants.proofs.Wires.{WasWired}
use Rattle.gb_laws.proofs.firmware.HostImages.{ImagesFrom, added, fewer, images-from, stepped}
use Rattle.gb_laws.proofs.firmware.ImageFacts.{AreShort}
use Rattle.gb_laws.proofs.points.ChangeBuses.{bus_change, by-bus, keeps-requests}
use Rattle.gb_laws.proofs.points.PointToPoint.{stays-to}
use Rattle.gb_laws.proofs.points.Places.{module-far, place-is}
use Rattle.gb_laws.proofs.points.PointParts.{Hand, Point, Wired}
use Rattle.gb_laws.proofs.points.Points.{Change, acts_asked, answers, changed, drops, forgets}
use Rattle.gb_laws.proofs.points.Points.{holds, injects, replies, takes, takes_held, unwires, wires}

-- ---- what is in hand

-- what is delivered at a moment is at one place
pub one-place : (m : Moment) (x y : End) (p q : Place) → m.event ≡ event.Deliver x
    → m.event ≡ event.Deliver y → place_of x m.before.bus.connections ≡ Some p
    → place_of y m.before.bus.connections ≡ Some q → p ≡ q
one-place m x y p q e f at there = same-some p q (sym at
    ∙ ap (λ z. place_of z m.before.bus.connections) (same x y (sym e ∙ f)) ∙ there)
  where
    same : (a b : End) → event.Deliver a ≡ event.Deliver b → a ≡ b
    same a b e = cc

-- An item in hand is the front one at the place of this moment.
pub record TakenAt (m : Moment) (h : Hand) : Type 0 where
  pub at : End
  pub place : Place
  pub event : m.event ≡ event.Deliver at
  pub named : place_of at m.before.bus.connections ≡ Some place
  pub front : first (queue place.side place.connection) ≡ Some h.item
  pub connection : h.connection ≡ place.connection
  pub side : h.side ≡ place.side

-- So is one at the application processor.
abbrev pub IsTaken : Moment → Point → Type 0
IsTaken m a = (h : Hand) → a.hand ≡ Some h → h.side ≡ side.Ap → TakenAt m h

taken-kept : (m : Moment) (a : Point) (x : Change m a) → IsTaken m a → IsTaken m (changed m a x)
taken-kept m a (takes at p item free start is named front) t h e ap_side =
    subst (TakenAt m) (same-some (record { connection = p.connection; side = p.side; item = item })
    h e) (record {
      at = at;
      place = p;
      event = is;
      named = named;
      front = front;
      connection = refl;
      side = refl;
    })
taken-kept m a (takes_held i c place p x free start is at held) t h e ap_side =
    let far = module-far i c p.side p.connection
    (place-is (end.Module i c) m.before.bus.connections p at).is in
    let same = same-some (record { connection = p.connection; side = p.side; item = x.item }) h e in
    absurd (apart p.side far (ap (λ (y : Hand). y.side) same ∙ ap_side))
  where
    apart : (s : Side) → s ≡ side.Far → s ≡ side.Ap → ⊥
    apart s e f = absurd cc
taken-kept m a drops t h e ap_side = absurd (none-some e)
taken-kept m a (holds h' is far) t h e ap_side = absurd (none-some e)
taken-kept m a (replies h' q r is made twoway) t h e ap_side = absurd (none-some e)
taken-kept m a (answers h' n result payload is says which) t h e ap_side = absurd (none-some e)
taken-kept m a (forgets h' n is late) t h e ap_side = absurd (none-some e)
taken-kept m a x t h e ap_side = t h e ap_side

-- ---- what was injected

-- firmware devices and what is known of their requests stay
pub record SameDownloads (s t : State) : Type 0 where
  pub modules : t.modules ≡ s.modules
  pub loads : t.loads ≡ s.loads
  pub loading : t.past.loading ≡ s.past.loading
  pub loaded : t.past.loaded ≡ s.past.loaded

-- what a sequence waits for is no matter of theirs, nor of what was injected
pub awaited-downloads : (p : Purpose) (n : ℕ) (s : State) → SameDownloads s (with_awaited p n s)
    × ((with_awaited p n s).past.unclean ≡ s.past.unclean)
awaited-downloads p n s = by (is_for_connection p.step) (link_at p.intf p.cport (awaits p n s.host))
  where
    waits : State
    waits = record s { host = awaits p n s.host }

    Same : State → Type 0
    Same t = SameDownloads s t × (t.past.unclean ≡ s.past.unclean)

    made : (o : Option Link) → Same (made_for n o waits)
    made None = (record { modules = refl; loads = refl; loading = refl; loaded = refl }, refl)
    made (Some l) = (record { modules = refl; loads = refl; loading = refl; loaded = refl }, refl)

    by : (t : Bool) (o : Option Link) → Same (cond t (made_for n o waits) waits)
    by true o = made o
    by false o = (record { modules = refl; loads = refl; loading = refl; loaded = refl }, refl)

pub unclean-kept : (m : Moment) (a : Point) (x : Change m a) (n : ℕ) → IsIn n a.state.past.unclean
    → IsIn n (changed m a x).state.past.unclean
unclean-kept m a (injects i c p bytes free named) n j =
    in-front n a.state.past.unclean (p.connection.number ∷ []) j
unclean-kept m a (acts_asked q k rest is) n j =
    subst (λ ks. IsIn n ks) (sym (awaited-downloads q.purpose k a.state).1) j
unclean-kept m a _ n j = j

-- Where bytes were injected it is remembered.
abbrev pub UncleanAreKnown : State → Type 0
UncleanAreKnown s = (c : Connection) → IsIn c s.bus.connections → c.clean ≡ false
    → IsIn c.number s.past.unclean

-- the number of the connection that a change makes unclean
abbrev dirties : BusChange → Option ℕ
dirties (BusChange.injects k bytes) = Some k
dirties _ = None

stays-clean : (x : BusChange) (t : Bool) → clean_by x t ≡ false
    → (t ≡ false) ⊎ (dirties x ≡ Some (number_of x))
stays-clean (BusChange.injects k bytes) t e = inr refl
stays-clean _ t e = inl e

-- one that is made is clean
made-clean : (x : BusChange) (b : Bus) (c : Connection) → made_by x b ≡ Some c → c.clean ≡ true
made-clean (BusChange.opens a i p protocol) b c e =
    ap (λ (y : Connection). y.clean) (sym (same-some _ c e))
made-clean _ b c e = absurd (none-some e)

dirty-new : (m : Moment) (a : Point) (x : Change m a) (n : ℕ) → dirties (bus_change x) ≡ Some n
    → IsIn n (changed m a x).state.past.unclean
dirty-new m a (injects i c p bytes free named) n e =
    in-behind n a.state.past.unclean (p.connection.number ∷ [])
    (inl (sym (same-some p.connection.number n e)))
dirty-new m a _ n e = absurd (none-some e)

remembered-kept : (m : Moment) (a : Point) (x : Change m a) → UncleanAreKnown a.state
    → UncleanAreKnown (changed m a x).state
remembered-kept m a x h =
    by-bus (λ b. (c : Connection) → IsIn c b.connections → c.clean ≡ false
    → IsIn c.number (changed m a x).state.past.unclean) x
    (λ c live dirty. by c dirty (was (bus_change x) a.state.bus c live))
  where
    by : (c : Connection) → c.clean ≡ false → Was (bus_change x) a.state.bus c
        → IsIn c.number (changed m a x).state.past.unclean
    by c dirty (stayed o) = unclean-kept m a x c.number (h c o dirty)
    by c dirty (went d o at is g) =
        subst (λ n. IsIn n (changed m a x).state.past.unclean) (sym g.ends.number)
        (⊎_elim (λ e. unclean-kept m a x d.number (h d o e))
        (λ e. dirty-new m a x d.number (e ∙ ap Some (sym at)))
        (stays-clean (bus_change x) d.clean (sym g.clean ∙ dirty)))
    by c dirty (came e) =
        absurd (not-both c.clean (made-clean (bus_change x) a.state.bus c e) dirty)

-- ---- wires

-- At this moment something is delivered to the supervisory controller.
pub record IsOfSvcMoment (m : Moment) : Type 0 where
  pub at : End
  pub place : Place
  pub event : m.event ≡ event.Deliver at
  pub named : place_of at m.before.bus.connections ≡ Some place
  pub svc : place.connection.peer ≡ end.Svc

svc-kept : (m : Moment) (a : Point) (x : Change m a) → (a.wires ≡ Wired → IsOfSvcMoment m)
    → (changed m a x).wires ≡ Wired → IsOfSvcMoment m
svc-kept m a (wires k free untouched live powered) h e =
    let s = powered.2.serving in record {
      at = s.at;
      place = s.place;
      event = s.event;
      named = s.named;
      svc = s.svc;
    }
svc-kept m a (unwires k free cut live) h e = absurd cc
svc-kept m a x h e = h e

-- ---- all

-- What is known at a point of what was before the moment.
pub record FromBefore (m : Moment) (a : Point) : Type 0 where
  pub taken : IsTaken m a
  pub requests : KeepsRequests m.before.bus a.state.bus
  pub unclean : (n : ℕ) → IsIn n m.before.past.unclean → IsIn n a.state.past.unclean
  pub wired : a.wires ≢ Wired → WasWired m.before.bus a.state.bus
  pub svc : a.wires ≡ Wired → IsOfSvcMoment m
  pub remembered : UncleanAreKnown a.state
  pub short : AreShort a.state.host.images

short-kept : (m : Moment) (a : Point) (x : Change m a) → IsMoment m.event
    → AreShort a.state.host.images → AreShort (changed m a x).state.host.images
short-kept m a x one h = by (images-from m a x)
  where
    same : (y : Images) → y.given ≡ a.state.host.images.given → AreShort y
    same y e i j = h i (subst (λ is. IsIn i is) e j)

    new : (tag bytes : List ℕ) → m.event ≡ event.Image tag bytes → length bytes ≤ 4294967295
    new tag bytes e = (subst IsMoment e one).1

    by : ImagesFrom m a (changed m a x).state.host.images
        → AreShort (changed m a x).state.host.images
    by (fewer f) = same (changed m a x).state.host.images f.given
    by (stepped k kind payload served f is) = same (changed m a x).state.host.images f.given
    by (added tag bytes e none is) = λ i j. ⊎_elim (λ o. h i o)
        (λ s. subst (λ (b : List ℕ). length b ≤ 4294967295)
        (sym (ap (λ (y : Image). y.bytes) s)) (new tag bytes e))
        (in-pushed i a.state.host.images.given (record { tag = tag; bytes = bytes })
        (subst (λ (y : Images). IsIn i y.given) is j))

pub from_before-kept : (m : Moment) (a : Point) (x : Change m a) → IsMoment m.event → FromBefore m a
    → FromBefore m (changed m a x)
from_before-kept m a x one h = record {
  taken = taken-kept m a x h.taken;
  requests = λ n r e. keeps-requests m a x n r (h.requests n r e);
  unclean = λ n j. unclean-kept m a x n (h.unclean n j);
  wired = λ n. let b = (stays-to m a x).back n in back b.1 (h.wired b.0);
  svc = svc-kept m a x h.svc;
  remembered = remembered-kept m a x h.remembered;
  short = short-kept m a x one h.short;
}
  where
    back : WasWired a.state.bus (changed m a x).state.bus → WasWired m.before.bus a.state.bus
        → WasWired m.before.bus (changed m a x).state.bus
    back f g d live on =
        let y = f d live on in
        let z = g y.0 y.1 y.3 in (
          z.0,
          z.1,
          record {
            number = y.2.number ∙ z.2.number;
            ap = y.2.ap ∙ z.2.ap;
            peer = y.2.peer ∙ z.2.peer;
          },
          z.3,
        )
