-- A connection that a turn gives up isn't wired: its interface is removed, or the request to
-- destroy it was served.
use Rattle.std.proofs.Common.{List, Some, ap, arith, false, inl, inr, refl, subst, sym, true, ℕ}
use Rattle.std.proofs.Common.{⊎_elim, [], ◌∙◌, ◌∷◌, ◌≡◌, ◌⊎◌}
use Rattle.std.specs.Prelude.{◌&&◌, ◌==◌}
use Rattle.gb_base.specs.declared.end.Side.TheVariants as side
use Rattle.gb_base.specs.declared.host_event.HostEvent.TheVariants as host_event
use Rattle.gb_base.specs.declared.interface.Link.{Link}
use Rattle.gb_base.specs.declared.steps.SequenceStep.TheVariants as steps
use Rattle.gb_formats.specs.SvcRecords.{read_svc_ask}
use Rattle.gb_machine.proofs.Lists.{nth-within}
use Rattle.gb_machine.specs.Bus.{Ask, Connection, Request, request_of}
use Rattle.gb_machine.specs.{Host.interfaces_of, LawsBus.is_awaited, Members.IsIn, Runs.Moment}
use Rattle.gb_machine.specs.{SequenceSteps.kind_of, SvcQueues.svc_items, Turns.Act}
use Rattle.gb_machine.specs.{Wiring.is_at, Wiring.is_wired_to}
use Rattle.gb_invariants.proofs.{Awaiting.not-both, Awaiting.same-some, Lists.each-in}
use Rattle.gb_invariants.proofs.{Outcomes.is-same, Wires.WiredAreSo}
use Rattle.gb_laws.proofs.creations.GoneRuns.{GoneTo, gone-base, gone_law}
use Rattle.gb_laws.proofs.links.LinkLeaves.{WhyLeft, closed, removed, why-left}
use Rattle.gb_laws.proofs.links.Links.{IsKnown, leaving, linked, supervisory}
use Rattle.gb_laws.proofs.points.PointParts.{IsCaused, IsNoticed, Point, Untouched}
use Rattle.gb_laws.proofs.points.Points.{Change, IsAsking, IsOver, acts_asked, acts_failed}
use Rattle.gb_laws.proofs.points.Points.{acts_left}
use Rattle.gb_laws.proofs.points.Points.{acts_made, acts_shut, acts_told, asking, changed}
use Rattle.gb_laws.proofs.points.Points.{opening}
use Rattle.gb_laws.proofs.points.Points.{turns, unwires, wires}
use Rattle.gb_laws.proofs.{creations.Creating.destroys_one, creations.Creating.is_destroy}
use Rattle.gb_laws.proofs.{opened.FarOpenKept.HasStep}
use Rattle.gb_laws.proofs.{opened.FarOpenKept.WaitsKinds, links.LinkLists.one-link}
use Rattle.gb_laws.proofs.{links.Departing.departing-handled}
use Rattle.gb_laws.proofs.{removals.QuietRuns.leaves, removals.QuietRuns.waits-before}
use Rattle.gb_laws.proofs.{creations.StaleBase.StaleBase}
use Rattle.gb_laws.proofs.{svc.StillWaiting.IsFront, svc.SvcOrder.none-earlier}
use Rattle.gb_laws.proofs.{svc.WiredRemembered.so-kept}

-- connection k is live and wired
pub record IsWiredIn (k : ℕ) (cs : List Connection) : Type 0 where
  pub connection : Connection
  pub live : IsIn connection cs
  pub number : connection.number ≡ k
  pub wired : connection.wired ≡ true

-- until something is wired or unwired at a moment, what is wired was
abbrev pub IsStillWired : Moment → Point → Type 0
IsStillWired m a = a.wires ≡ Untouched
    → WiredAreSo (λ k. IsWiredIn k m.before.bus.connections) a.state.bus.connections

-- At a moment the supervisory controller serves a request to destroy a connection.
pub record IsDestroying (m : Moment) : Type 0 where
  pub number : ℕ
  pub request : Request
  pub front : IsFront m number
  pub made : request_of number m.before.bus ≡ Some request
  pub twoway : request.oneway ≡ false
  pub destroys : destroys_one request ≡ true

-- what acts are to give up wasn't wired
abbrev pub LeavesWell : Moment → Point → Type 0
LeavesWell m a =
    (k : ℕ) → IsIn (Act.Leave k) a.pending
    → (IsWiredIn k m.before.bus.connections → ⊥) ⊎ IsDestroying m

module _ (m : Moment) (start : GoneTo m.told m.before) where
  pub still-kept : (a : Point) (x : Change m a) → IsStillWired m a → IsStillWired m (changed m a x)
  still-kept a (wires k free untouched live powered) h e = absurd cc
  still-kept a (unwires k free before live) h e = absurd cc
  still-kept a x h e =
      so-kept (λ k. IsWiredIn k m.before.bus.connections) m a x (λ k f. absurd cc) (h e)

  -- ---- what acts are to give up

  -- of an interface whose removal is handled nothing was wired
  unwired-removed : (p i : ℕ) → IsNoticed m (host_event.Removed p)
      → IsIn i (interfaces_of p m.before.host) → (l : Link) → IsIn l m.before.host.links
      → l.intf ≡ i → IsWiredIn l.connection m.before.bus.connections → ⊥
  unwired-removed p i n has l known at w =
      by (start.wiring.stale.since.links.1.known w.connection w.live)
    where
      none : is_wired_to i w.connection ≡ false
      none =
          let links = start.wiring.stale.since.links in
          each-in (λ c. is_wired_to i c ≡ false) m.before.bus.connections w.connection
          ((leaves m.told m.before start.wiring.stale.quiet).unwired i (waits-before i m
          (departing-handled i p m links.0 links.1 links.2 n has))) w.live

      by : IsKnown w.connection m.before.host.links [] → ⊥
      by (supervisory one) =
          let low = (start.wiring.stale.since.links.1.host.links.numbered l known).from_two in
          let on = w.number in
          omega (arith, low, on, one)
      by (leaving j) = j
      by (linked x j of) =
          let same = one-link m.before.host.links x l
          start.wiring.stale.since.links.1.host.links.rise j known (sym of.number ∙ w.number) in
          not-both (is_wired_to i w.connection)
          (ap (λ t. t && is_at i w.connection.peer) w.wired ∙ ap (is_at i) of.peer
          ∙ ap (λ n. n == i) (ap (λ (y : Link). y.intf) same ∙ at) ∙ is-same i) none

  leaves-on : (a b : Point)
      → ((k : ℕ) → IsIn (Act.Leave k) b.pending → IsIn (Act.Leave k) a.pending) → LeavesWell m a
      → LeavesWell m b
  leaves-on a b fewer h k i = h k (fewer k i)

  -- what is closed wasn't wired any more, since the request to destroy it was served
  closed-unwired : (a : Point) → (gone_law m start).holds a
      → WaitsKinds a.state.bus a.state.host → (n : ℕ) (l : Link) → IsIn l a.state.host.links
      → l.awaits ≡ Some (n, steps.DestroyConnection) → is_awaited n a.state.bus ≡ false
      → (IsWiredIn l.connection m.before.bus.connections → ⊥) ⊎ IsDestroying m
  closed-unwired a g kinds n l known waiting over = by (g.1 n k.request k.made q.1 q.2)
    where
      f : StaleBase m a
      f = gone-base m start a g

      k : HasStep n steps.DestroyConnection a.state.bus
      k = kinds l known (n, steps.DestroyConnection) waiting

      is : destroys_one k.request ≡ true
      is = ap (λ x. is_destroy (read_svc_ask x k.request.payload)) k.kind
          ∙ ap (λ p. is_destroy (read_svc_ask (kind_of steps.DestroyConnection) p)) k.payload

      pair : IsIn (n, l.connection) a.state.past.made_for
      pair = (f.pairs.bound l known (n, steps.DestroyConnection) waiting).own refl

      q : (k.request.oneway ≡ false) × (k.request.connection ≡ 1) × (k.request.side ≡ side.Ap)
      q =
          let x = f.pairs.made n l.connection pair in
          let same = same-some x.request k.request (sym x.made ∙ k.made) in (
            ap (λ (y : Request). y.oneway) (sym same) ∙ x.twoway,
            ap (λ (y : Request). y.connection) (sym same) ∙ x.on,
            ap (λ (y : Request). y.side) (sym same) ∙ x.by_ap,
          )

      out : IsIn (Ask n) (svc_items side.Far a.state.bus) → ⊥
      out = none-earlier a f.basis f.links f.there f.order n n k.request k.made q.1 q.2 q.0 over
          (omega arith)

      paired : request_of n m.before.bus ≡ Some k.request
          → IsIn (n, l.connection) m.before.past.made_for
      paired before = ⊎_elim (λ o. o)
          (λ w. let low = nth-within n m.before.bus.requests k.request before in
          let high = w.0 in absurd (omega (arith, low, high))) (f.since.new n l.connection pair)

      by : IsIn (Ask n) (svc_items side.Far a.state.bus)
          ⊎ ((request_of n m.before.bus ≡ Some k.request)
          × ((IsIn (Ask n) (svc_items side.Far m.before.bus) → ⊥) ⊎ IsFront m n))
          → (IsWiredIn l.connection m.before.bus.connections → ⊥) ⊎ IsDestroying m
      by (inl i) = absurd (out i)
      by (inr w) = ⊎_elim (λ none. inl (λ on. not-both on.connection.wired on.wired
          (start.gone n l.connection k.request
          (λ e. let low = (f.links.host.links.numbered l known).from_two in
          omega (arith, low, e)) (paired w.0) w.0 is none on.connection on.live on.number)))
          (λ front. inr (record {
            number = n;
            request = k.request;
            front = front;
            made = w.0;
            twoway = q.0;
            destroys = is;
          })) w.1

  -- one act less is pending
  fewer : (a : Point) (y : Act) (rest : List Act) → a.pending ≡ y ∷ rest → (k : ℕ)
      → IsIn (Act.Leave k) rest → IsIn (Act.Leave k) a.pending
  fewer a y rest is k i = subst (λ acts. IsIn (Act.Leave k) acts) (sym is) (inr i)

  pub leaves-kept : (a : Point) (x : Change m a) → (gone_law m start).holds a
      → WaitsKinds a.state.bus a.state.host → LeavesWell m a → LeavesWell m (changed m a x)
  leaves-kept a (turns e free untouched none cause) g kinds h =
      λ k i. why k (why-left a.state.bus e a.state.host k (gone-base m start a g).links.host i)
    where
      why : (k : ℕ) → WhyLeft a.state.host e k
          → (IsWiredIn k m.before.bus.connections → ⊥) ⊎ IsDestroying m
      why k (removed j l is known at number) =
          let c = subst (λ y. IsCaused m y a.state.host) is cause in
          inl (λ w. unwired-removed c.primary j c.noticed c.known l (c.links l known) at
          (subst (λ n. IsWiredIn n m.before.bus.connections) (sym number) w))
      why k (closed j result payload l is known waiting number) =
          subst (λ n. (IsWiredIn n m.before.bus.connections → ⊥) ⊎ IsDestroying m) number
          (closed-unwired a g kinds j l known waiting
          (subst (λ y. IsOver m y a.state.bus) is untouched.1 result payload refl).0)
  leaves-kept a (acts_told e rest is quiet) g kinds h =
      leaves-on a (changed m a (acts_told e rest is quiet)) (fewer a (Act.Tell e) rest is) h
  leaves-kept a (acts_shut k rest free is cause) g kinds h =
      leaves-on a (changed m a (acts_shut k rest free is cause)) (fewer a (Act.Shut k) rest is) h
  leaves-kept a (acts_left k rest free untouched is) g kinds h =
      leaves-on a (changed m a (acts_left k rest free untouched is))
      (fewer a (Act.Leave k) rest is) h
  leaves-kept a (acts_made w q rest free is) g kinds h =
      leaves-on a (changed m a (acts_made w q rest free is))
      (λ k i. ⊎_elim (λ e. absurd cc) (λ j. fewer a (Act.Make w q) rest is k j) i) h
  leaves-kept a (acts_asked q n rest is) g kinds h =
      leaves-on a (changed m a (acts_asked q n rest is)) (fewer a (Act.Ask q) rest is.0) h
  leaves-kept a (acts_failed q rest is quiet) g kinds h =
      leaves-on a (changed m a (acts_failed q rest is quiet)) (by is) h
    where
      by : IsAsking q a.pending rest → (k : ℕ) → IsIn (Act.Leave k) rest
          → IsIn (Act.Leave k) a.pending
      by (asking e) = fewer a (Act.Ask q) rest e
      by (opening w e) = fewer a (Act.Make w q) rest e
  leaves-kept a x g kinds h =
      leaves-on a (changed m a x) (λ k i. i) h
