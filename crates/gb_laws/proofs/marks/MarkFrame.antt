-- What stays within a step at which the supervisory controller doesn't ask: the marks that wait,
-- but for the one that is taken, what is plugged, which interfaces are known, and which pulls
-- are remembered.
use Rattle.std.proofs.Common.{Bool, List, None, Option, Some, ap, cond, false, inl, inr, refl, sym}
use Rattle.std.proofs.Common.{true, ℕ, ⊎_elim, [], ◌∙◌, ◌≡◌, ◌⊎◌}
use Rattle.gb_base.specs.declared.end.Side.{Side}
use Rattle.gb_base.specs.declared.end.End.TheVariants as end
use Rattle.gb_base.specs.declared.end.Side.TheVariants as side
use Rattle.gb_base.specs.declared.event.Event.{Event}
use Rattle.gb_base.specs.declared.event.Event.TheVariants as event
use Rattle.gb_machine.specs.Bus.{Ask, Bus, Connection, Item, Place, Raw, Request, connection_of}
use Rattle.gb_machine.specs.Bus.{other_side, place_of, queue, request_of}
use Rattle.gb_machine.specs.Sending.{Draft, drawn, put, queued, sent}
use Rattle.gb_machine.specs.{Delivery.popped, Incoming.Incoming, Incoming.reply_item}
use Rattle.gb_machine.specs.{Members.EachTwo, Members.IsIn, Runs.Moment}
use Rattle.gb_machine.specs.{Serving.Answer, State.Port, SvcQueues.items_in, SvcQueues.svc_items}
use Rattle.gb_invariants.proofs.BusChanges.{BusChange, KeepsRequests, becomes, bus_after}
use Rattle.gb_invariants.proofs.BusChanges.{found-after, number_of}
use Rattle.gb_invariants.proofs.{Awaiting.sent-request, Labels.asked_on, Labels.asked_on-number}
use Rattle.gb_invariants.proofs.{Numbers.found-number, Selves.drawn-queue, Selves.module-no-svc}
use Rattle.gb_invariants.proofs.Awaiting.{sent-made}
use Rattle.gb_invariants.proofs.Selves.{ap-no-far}
use Rattle.gb_laws.proofs.marks.Marks.{AreAsked, AreInserted, item_mark, marks, marks-first}
use Rattle.gb_laws.proofs.marks.Marks.{marks-more, marks-unmarked, marks_of}
use Rattle.gb_laws.proofs.points.LoaderFacts.{asked-plugs, module-plugs}
use Rattle.gb_laws.proofs.points.Points.{Change, IsAskedBy, IsElse, IsFarAsking, IsOfSvc, SamePlugs}
use Rattle.gb_laws.proofs.points.Points.{acts_asked, asks, by_far, by_host, by_loader, by_module}
use Rattle.gb_laws.proofs.points.Points.{by_svc, changed, finishes, injects}
use Rattle.gb_laws.proofs.points.Points.{names, others, recalls, replies, takes, unwires}
use Rattle.gb_laws.proofs.svc.SvcThere.{not-one, svc-new, svc-stays}
use Rattle.gb_laws.proofs.{points.Awaited.awaited-rest, points.ChangeBuses.bus_change}
use Rattle.gb_laws.proofs.{points.ChangeBuses.keeps-requests, links.LinkActs.awaited-plugs}
use Rattle.gb_laws.proofs.{links.LinkFrom.Linked}
use Rattle.gb_laws.proofs.{links.LinkKept.LinkedAt}
use Rattle.gb_laws.proofs.{marks.MarkKnown.KnownAt, marks.MarkKnown.known-kept}
use Rattle.gb_laws.proofs.{points.PointParts.Basis}
use Rattle.gb_laws.proofs.{points.PointParts.Point}
use Rattle.gb_laws.proofs.marks.Wholes.{AreElsewhere, AreWhole, plugged_at}
use Rattle.gb_laws.proofs.points.ChangeBuses.{by-bus}

-- the bus once the item of an event is taken
abbrev pub popped_at : Option Place → Bus → Bus
popped_at None b = b
popped_at (Some p) b = popped p.connection.number p.side b

abbrev pub taken_bus : Event → Bus → Bus
taken_bus (event.Deliver at) b = popped_at (place_of at b.connections) b
taken_bus _ b = b

-- What stays within a step.
pub record FrameAt (m : Moment) (a : Point) : Type 0 where
  pub same : (i : ℕ) (ps : List (ℕ × ℕ))
      → marks i ps a.state.bus ≡ marks i ps (taken_bus m.event m.before.bus)
  pub known : KnownAt m a
  pub started : a.state.booted ≡ m.before.booted
  pub plugged : (i : ℕ) → plugged_at i a.state.modules ≡ plugged_at i m.before.modules
  pub differ : EachTwo AreElsewhere a.state.modules
  pub whole : AreWhole a.state.modules
  pub told : AreInserted a.state.bus
  pub pulled : a.state.past.pulled ≡ m.before.past.pulled
  pub keeps : KeepsRequests m.before.bus a.state.bus

-- ---- marks of the queue

-- what waits on the supervisory controller's connection was made
pub asked-toward : (at : Side) (a : Point) → Basis a
    → AreAsked a.state.bus (svc_items at a.state.bus)
asked-toward at a basis n i = by (connection_of 1 a.state.bus) refl i
  where
    made : (s : Side) (c : Connection) → connection_of 1 a.state.bus ≡ Some c
        → IsIn (Ask n) (queue s c) → (r : Request) × (request_of n a.state.bus ≡ Some r)
    made s c e j =
        let o = basis.bus.items.own c s (Ask n) (found-number 1 a.state.bus c e).0 j in (o.0, o.1)

    by : (o : Option Connection) → connection_of 1 a.state.bus ≡ o → IsIn (Ask n) (items_in at o)
        → (r : Request) × (request_of n a.state.bus ≡ Some r)
    by None e j = absurd j
    by (Some c) e j = made at c e j

pub asked-items : (a : Point) → Basis a → AreAsked a.state.bus (svc_items side.Ap a.state.bus)
asked-items = asked-toward side.Ap

put-ap : (i : ℕ) (ps : List (ℕ × ℕ)) (b : Bus) (at : Side) (y : Item) (c : Connection)
    → item_mark i ps b y ≡ []
    → marks_of i ps b (queue side.Ap (put at y c)) ≡ marks_of i ps b (queue side.Ap c)
put-ap i ps b at y c none = by at c.wired
  where
    by : (s : Side) (t : Bool) → marks_of i ps b (queue side.Ap (cond t (queued s y c) c))
        ≡ marks_of i ps b (queue side.Ap c)
    by side.Ap true = marks-unmarked i ps b c.to_ap y none
    by side.Far true = refl
    by s false = refl

put-far : (y : Item) (c : Connection) → queue side.Ap (put side.Far y c) ≡ queue side.Ap c
put-far y c = by c.wired
  where
    by : (t : Bool) → queue side.Ap (cond t (queued side.Far y c) c) ≡ queue side.Ap c
    by true = refl
    by false = refl

-- a request is made by the application processor, or on the connection of a module
marks-asked : (a : Point) (d : Draft) (c : Connection) (label i : ℕ) (ps : List (ℕ × ℕ)) → Basis a
    → Linked a.state.bus a.state.host a.pending
    → connection_of d.connection a.state.bus ≡ Some c → (d.side ≡ side.Ap)
    ⊎ ((j : ℕ) × (p : ℕ) × (c.peer ≡ end.Module j p))
    → marks i ps (sent d label a.state.bus) ≡ marks i ps a.state.bus
marks-asked a d c label i ps basis links live who =
    marks-first i ps (sent d label a.state.bus) d.connection (asked_on d label a.state.bus)
    a.state.bus.connections (asked_on-number d label a.state.bus) keeps
    ∙ marks-more i ps a.state.bus (sent d label a.state.bus) (svc_items side.Ap a.state.bus)
    (sent-request d label a.state.bus) (asked-items a basis)
  where
    not-svc : (j p : ℕ) → c.peer ≡ end.Module j p → c.peer ≡ end.Svc → ⊥
    not-svc j p e f = module-no-svc (sym e ∙ f)

    far : (s : Side) → s ≡ side.Ap → (y : Item) (x : Connection)
        → queue side.Ap (put (other_side s) y x) ≡ queue side.Ap x
    far side.Ap e y x = put-far y x
    far side.Far e y x = absurd cc

    keeps : (x : Connection) → IsIn x a.state.bus.connections → x.number ≡ d.connection
        → x.number ≡ 1 → marks_of i ps (sent d label a.state.bus)
        (queue side.Ap (asked_on d label a.state.bus x)) ≡ marks_of i ps (sent d label a.state.bus)
        (queue side.Ap x)
    keeps x j on one = ⊎_elim (λ e. ap (marks_of i ps (sent d label a.state.bus))
        (far d.side e _ (drawn d label x) ∙ drawn-queue side.Ap d label x))
        (λ m. let f = found-number d.connection a.state.bus c live in
        absurd (not-svc m.0 m.1 m.2 (links.svc c f.0 (f.1 ∙ sym on ∙ one)).peer)) who

unmarked-reply : (i : ℕ) (ps : List (ℕ × ℕ)) (b : Bus) (q : Incoming) (r : Answer)
    → item_mark i ps b (reply_item q r) ≡ []
unmarked-reply i ps b q r = by q.number
  where
    by : (o : Option ℕ) → item_mark i ps b (reply_item (record q { number = o }) r) ≡ []
    by None = refl
    by (Some n) = refl

-- a change takes nothing, or makes no request either
abbrev TakesNone : (m : Moment) (a : Point) → Change m a → Type 0
TakesNone m a (takes at p item free start is named front) = ⊥
TakesNone m a _ = Unit {0}

abbrev pub LeavesQueues : (m : Moment) (a : Point) → Change m a → Type 0
LeavesQueues m a (asks d c label free live drawn who) = ⊥
LeavesQueues m a (names name d c label free live drawn host) = ⊥
LeavesQueues m a (takes at p item free start is named front) = ⊥
LeavesQueues m a _ = Unit {0}

-- then what waits toward the application processor has the same marks
marks-still : (m : Moment) (a : Point) (x : Change m a) → LeavesQueues m a x → LinkedAt a
    → (i : ℕ) (ps : List (ℕ × ℕ)) → marks i ps (changed m a x).state.bus ≡ marks i ps a.state.bus
marks-still m a (acts_asked q n rest is) well links i ps =
    ap (marks i ps) (awaited-rest q.purpose n).bus
marks-still m a (asks d c label free live drawn who) well links i ps = absurd well
marks-still m a (names name d c label free live drawn host) well links i ps = absurd well
marks-still m a x well links i ps =
    found-after 1 (λ o. marks_of i ps a.state.bus (items_in side.Ap o)) (bus_change x) a.state.bus
    (svc-stays m a x links) (svc-new m a x links) (keeps x well)
  where
    keeps : (x : Change m a) → LeavesQueues m a x → (c : Connection)
        → IsIn c a.state.bus.connections → c.number ≡ number_of (bus_change x) → c.number ≡ 1
        → marks_of i ps a.state.bus (queue side.Ap (becomes (bus_change x) a.state.bus c))
        ≡ marks_of i ps a.state.bus (queue side.Ap c)
    keeps (asks d e label free live drawn who) well c j on one = absurd well
    keeps (names name d e label free live drawn host) well c j on one = absurd well
    keeps (takes at p item free start is named front) well c j on one = absurd well
    keeps (replies y q r is made twoway) well c j on one = put-ap i ps a.state.bus
        (other_side y.side) (reply_item q r) c (unmarked-reply i ps a.state.bus q r)
    keeps (unwires k free before live) well c j on one =
        absurd (not-one a k true links live (sym on ∙ one))
    keeps (injects e p place bytes free named) well c j on one =
        marks-unmarked i ps a.state.bus c.to_ap (Raw bytes) refl
    keeps _ well c j on one = refl

marks-kept : (m : Moment) (a : Point) (x : Change m a) → TakesNone m a x
    → (IsOfSvc m.event → ⊥) → Basis a → LinkedAt a → (i : ℕ) (ps : List (ℕ × ℕ))
    → marks i ps (changed m a x).state.bus ≡ marks i ps a.state.bus
marks-kept m a (asks d c label free live drawn who) none other basis links i ps =
    marks-asked a d c label i ps basis links live (by who)
  where
    far_asks : IsFarAsking m c d
        → (d.side ≡ side.Ap) ⊎ ((j : ℕ) × (p : ℕ) × (c.peer ≡ end.Module j p))
    far_asks (by_module j p e far) = inr (j, p, e)
    far_asks (by_svc of far) = absurd (other of)

    by : IsAskedBy m a c d → (d.side ≡ side.Ap) ⊎ ((j : ℕ) × (p : ℕ) × (c.peer ≡ end.Module j p))
    by (by_host q rest is e none) = inl (ap (λ (x : Draft). x.side) e)
    by (by_far far on unloaded) = far_asks far
    by (by_loader x going far on) = far_asks far
marks-kept m a (names name d c label free live drawn host) none other basis links i ps =
    marks-asked a d c label i ps basis links live (inl host.0)
marks-kept m a (takes at p item free start is named front) none other basis links i ps = absurd none
marks-kept m a x none other basis links i ps = marks-still m a x tt links i ps

-- ---- insertions that were told

-- no request of the supervisory controller's is made
abbrev AsksElse : BusChange → Type 0
AsksElse (BusChange.sends d label) = d.connection ≡ 1 → d.side ≡ side.Far → ⊥
AsksElse _ = Unit {0}

inserted-after : (x : BusChange) (b : Bus) → AsksElse x → AreInserted b
    → AreInserted (bus_after x b)
inserted-after (BusChange.sends d label) b none h n r made on far p count notice = ⊎_elim
    (λ old. h n r old on far p count notice) (λ new. absurd (none
    (ap (λ (q : Request). q.connection) (sym new.1) ∙ on)
    (ap (λ (q : Request). q.side) (sym new.1) ∙ far)))
    (sent-made d label b n r made)
inserted-after _ b none h n r made on far p count notice = h n r made on far p count notice

inserted-kept : (m : Moment) (a : Point) (x : Change m a) → (IsOfSvc m.event → ⊥) → LinkedAt a
    → AreInserted a.state.bus → AreInserted (changed m a x).state.bus
inserted-kept m a x other links h =
    by-bus AreInserted x (inserted-after (bus_change x) a.state.bus (by x) h)
  where
    far_asks : (d : Draft) (c : Connection) → connection_of d.connection a.state.bus ≡ Some c
        → IsFarAsking m c d → d.connection ≡ 1 → ⊥
    far_asks d c live (by_module j p e at) one =
        let f = found-number d.connection a.state.bus c live in
        module-no-svc (sym e ∙ (links.svc c f.0 (f.1 ∙ one)).peer)
    far_asks d c live (by_svc of at) one = other of

    asked : (d : Draft) (c : Connection) → connection_of d.connection a.state.bus ≡ Some c
        → IsAskedBy m a c d → d.connection ≡ 1 → d.side ≡ side.Far → ⊥
    asked d c live (by_host q rest is e none) one far =
        ap-no-far (ap (λ (x : Draft). x.side) (sym e) ∙ far)
    asked d c live (by_far at on unloaded) one far = far_asks d c live at one
    asked d c live (by_loader x going at on) one far = far_asks d c live at one

    by : (x : Change m a) → AsksElse (bus_change x)
    by (asks d c label free live drawn who) = asked d c live who
    by (names name d c label free live drawn host) = λ one far. ap-no-far (sym host.0 ∙ far)
    by _ = tt

-- what stays where modules change, and what is plugged stays
frame-modules : (m : Moment) → (IsOfSvc m.event → ⊥) → (a : Point) (x : Change m a)
    → TakesNone m a x → Basis a → LinkedAt a → {ports : List Port}
    → SamePlugs a.state (changed m a x).state.booted ports (changed m a x).state.modules
    → KnownAt m (changed m a x) → (changed m a x).state.past.pulled ≡ a.state.past.pulled
    → FrameAt m a → FrameAt m (changed m a x)
frame-modules m other a x none basis links {ports} plugs known pulled h = record {
  same = λ i ps. marks-kept m a x none other basis links i ps ∙ h.same i ps;
  known = known;
  started = plugs.started ∙ h.started;
  plugged = λ i. plugs.plugged i ∙ h.plugged i;
  differ = plugs.differ h.differ;
  whole = plugs.whole h.whole;
  told = inserted-kept m a x other links h.told;
  pulled = pulled ∙ h.pulled;
  keeps = λ k r made. keeps-requests m a x k r (h.keeps k r made);
}

pub frame-kept : (m : Moment) → (IsOfSvc m.event → ⊥)
    → (a : Point) (x : Change m a) → Basis a → LinkedAt a → FrameAt m a → FrameAt m (changed m a x)
frame-kept m other a (takes at p item free start is named front) basis links h = record {
  same = λ i ps. ap (λ s. marks i ps (popped p.connection.number p.side s.bus)) start
      ∙ sym (ap (λ e. marks i ps (taken_bus e m.before.bus)) is
      ∙ ap (λ o. marks i ps (popped_at o m.before.bus)) named);
  known = h.known;
  started = h.started;
  plugged = h.plugged;
  differ = h.differ;
  whole = h.whole;
  told = h.told;
  pulled = h.pulled;
  keeps = h.keeps;
}
frame-kept m other a (acts_asked q n rest is) basis links h =
    frame-modules m other a (acts_asked q n rest is) tt basis links (awaited-plugs q.purpose n)
    (known-kept m a (acts_asked q n rest is) h.known) (awaited-rest q.purpose n).pulled h
frame-kept m other a (others booted marks ports modules same) basis links h = by same.0
  where
    by : IsElse m a booted marks ports modules
        → FrameAt m (changed m a (others booted marks ports modules same))
    by (inl s) = record {
      same = h.same;
      known = h.known;
      started = s.0.started ∙ h.started;
      plugged = λ i. s.0.plugged i ∙ h.plugged i;
      differ = s.0.differ h.differ;
      whole = s.0.whole h.whole;
      told = h.told;
      pulled = h.pulled;
      keeps = h.keeps;
    }
    by (inr of) = absurd (other of.0)
frame-kept m other a (recalls n i of made) basis links h = absurd (other of)
frame-kept m other a (asks d c label free live drawn who) basis links h =
    frame-modules m other a (asks d c label free live drawn who) tt basis links
    (asked-plugs m a c d who) (known-kept m a (asks d c label free live drawn who) h.known) refl h
frame-kept m other a (finishes i c x tag size idle is) basis links h =
    frame-modules m other a (finishes i c x tag size idle is) tt basis links
    (module-plugs a.state i x) (known-kept m a (finishes i c x tag size idle is) h.known) refl h
frame-kept m other a x basis links h = record {
  same = λ i ps. marks-kept m a x tt other basis links i ps ∙ h.same i ps;
  known = known-kept m a x h.known;
  started = h.started;
  plugged = h.plugged;
  differ = h.differ;
  whole = h.whole;
  told = inserted-kept m a x other links h.told;
  pulled = h.pulled;
  keeps = λ k r made. keeps-requests m a x k r (h.keeps k r made);
}
