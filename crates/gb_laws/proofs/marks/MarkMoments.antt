-- Insertions and removals come in turn: what a moment at which the supervisory controller doesn't
-- ask makes of the marks.
use Rattle.std.proofs.Common.{List, None, Option, Some, ap, false, inl, inr, refl, subst, sym, true}
use Rattle.std.proofs.Common.{ℕ, ⊎_elim, [], ◌++◌, ◌∙◌, ◌∷◌, ◌≡◌, ◌⊎◌}
use Rattle.std.specs.Prelude.{is_some, option_map, ◌==◌}
use Rattle.gb_base.specs.declared.end.End.{End}
use Rattle.gb_base.specs.declared.event.Event.TheVariants as event
use Rattle.gb_base.specs.declared.interface.{Interface.Interface, Link.Link}
use Rattle.gb_base.specs.declared.refusal.Refusal.{Refusal}
use Rattle.gb_machine.proofs.{Conditions.waits, Opened.machine_opened}
use Rattle.gb_machine.specs.Bus.{Item, Place, place_of, queue}
use Rattle.gb_machine.specs.Host.{Host, interface_of, is_intf}
use Rattle.gb_machine.specs.Runs.{IsMoment, Moment, after}
use Rattle.gb_machine.specs.{Delivery.popped, Events.decided, Lists.first, Members.IsIn}
use Rattle.gb_machine.specs.{Refusals.refusal, State.State}
use Rattle.gb_machine.specs.Members.{EachTwo}
use Rattle.gb_invariants.proofs.{Awaiting.none-some, Awaiting.not-both, Found.find-none}
use Rattle.gb_invariants.proofs.{Lists.found-in}
use Rattle.gb_invariants.proofs.{Outcomes.is-same, Outcomes.same-number}
use Rattle.gb_invariants.proofs.Awaiting.{same-some}
use Rattle.gb_invariants.proofs.Lists.{one-by}
use Rattle.gb_laws.proofs.marks.MarkFrame.{FrameAt, frame-kept, popped_at, taken_bus}
use Rattle.gb_laws.proofs.marks.MarkTakes.{IsUninserted, Taken, delivery-taken, insertion}
use Rattle.gb_laws.proofs.marks.MarkTakes.{none_taken, removal}
use Rattle.gb_laws.proofs.marks.Marks.{ArePulled, Mark, MarksFit, Reads, came, known-none}
use Rattle.gb_laws.proofs.marks.Marks.{known-there, known_at, marks, pulled-more, reads-less, went}
use Rattle.gb_laws.proofs.points.PointParts.{Basis, Point, resting}
use Rattle.gb_laws.proofs.points.Points.{IsOfSvc, Law, takes, upon}
use Rattle.gb_laws.proofs.{basis.Basics.basis-kept, links.LinkFrom.Linked}
use Rattle.gb_laws.proofs.{links.LinkKept.InsertsAbsent}
use Rattle.gb_laws.proofs.{links.LinkKept.linked-kept, links.LinkLaw.link_law}
use Rattle.gb_laws.proofs.{links.Links.IsPresent}
use Rattle.gb_laws.proofs.{links.Removing.delivered-state, steps.StepDelivers.ends-taken}
use Rattle.gb_laws.proofs.{steps.Steps.over-step}
use Rattle.gb_laws.proofs.marks.Wholes.{plugged_at}
use Rattle.gb_laws.proofs.links.Links.{AreOther}
use Rattle.gb_laws.proofs.marks.MarkKnown.{IsInserted, WasKnown}
use Rattle.gb_laws.proofs.marks.MarkHosts.{IsNamed, named-one}

-- ---- known interfaces

pub present-some : {i : ℕ} (h : Host) → IsPresent i h.interfaces → is_some (interface_of i h) ≡ true
present-some {i} h p = by (interface_of i h) refl
  where
    by : (o : Option Interface) → interface_of i h ≡ o → is_some o ≡ true
    by (Some x) e = refl
    by None e = absurd (not-both (is_intf i p.interface) (ap (λ n. n == i) p.is ∙ is-same i)
        (find-none (is_intf i) h.interfaces p.interface e p.known))

pub some-present : (i : ℕ) (h : Host) → is_some (interface_of i h) ≡ true → IsPresent i h.interfaces
some-present i h e = by (interface_of i h) refl e
  where
    by : (o : Option Interface) → interface_of i h ≡ o → is_some o ≡ true → IsPresent i h.interfaces
    by (Some x) f g = let k = found-in (is_intf i) h.interfaces x f in
        record { interface = x; known = k.0; is = same-number x.intf i k.1 }
    by None f g = absurd (not-both false g refl)

pub some-none : (i : ℕ) (h : Host) → is_some (interface_of i h) ≡ false → interface_of i h ≡ None
some-none i h e = by (interface_of i h) e
  where
    by : (o : Option Interface) → is_some o ≡ false → o ≡ None
    by None f = refl
    by (Some x) f = absurd (not-both true refl f)

-- what is known at an interface that is there
pub present-known : {i : ℕ} (h : Host) → IsPresent i h.interfaces
    → (p : ℕ) × (known_at i h ≡ Some p)
present-known {i} h p = known-there i h (present-some h p)

-- what is known at the interface of a connection
pub link-known : (i : ℕ) (s : State) (l : Link) → Linked s.bus s.host [] → IsIn l s.host.links
    → l.intf ≡ i → (p : ℕ) × (known_at i s.host ≡ Some p)
link-known i s l links known at = subst (λ k. (p : ℕ) × (known_at k s.host ≡ Some p)) at
    (present-known s.host (links.host.present l known))

-- what is known of an interface, where each is known once
pub named-known : (i p : ℕ) (h : Host) → EachTwo AreOther h.interfaces → IsNamed i p h
    → known_at i h ≡ Some p
named-known i p h differ n = by (interface_of i h) refl
  where
    by : (o : Option Interface) → interface_of i h ≡ o
        → option_map (λ (x : Interface). x.primary) o ≡ Some p
    by None e = absurd (not-both (is_intf i n.interface) (ap (λ k. k == i) n.intf ∙ is-same i)
        (find-none (is_intf i) h.interfaces n.interface e n.known))
    by (Some x) e =
        let f = found-in (is_intf i) h.interfaces x e in
        let same = one-by (λ (y : Interface). y.intf) h.interfaces x n.interface differ f.0 n.known
        (same-number x.intf i f.1 ∙ sym n.intf) in
        ap (λ (y : Interface). Some y.primary) same ∙ ap Some n.primary

pub known-named : (i p : ℕ) (h : Host) → known_at i h ≡ Some p → IsNamed i p h
known-named i p h e = by (interface_of i h) refl e
  where
    by : (o : Option Interface) → interface_of i h ≡ o
        → option_map (λ (x : Interface). x.primary) o ≡ Some p → IsNamed i p h
    by None f g = absurd (none-some g)
    by (Some x) f g = let k = found-in (is_intf i) h.interfaces x f in record {
      interface = x;
      known = k.0;
      intf = same-number x.intf i k.1;
      primary = same-some x.primary p g;
    }

-- ---- what a moment makes of the marks

module _ (m : Moment) (links : Linked m.before.bus m.before.host [])
    (frame : FrameAt m (resting [] (after m))) (i : ℕ) where
  -- what is known behind a moment was known before it, or is inserted
  known-before : (q : ℕ) → known_at i (after m).host ≡ Some q
      → (known_at i m.before.host ≡ Some q) ⊎ IsInserted m i q
  known-before q e =
      let n = known-named i q (after m).host e in
      ⊎_elim (λ k. inl (named-known i q m.before.host links.host.differ k)) (λ k. inr k)
      (subst (WasKnown m i) n.primary (subst (λ j. WasKnown m j n.interface.primary) n.intf
      (frame.known n.interface n.known)))

  known-still : IsUninserted m i → (q : ℕ) → known_at i (after m).host ≡ Some q
      → known_at i m.before.host ≡ Some q
  known-still unnoted q e = ⊎_elim (λ k. k) (λ n. absurd (unnoted q n)) (known-before q e)

  -- nothing is known where nothing was
  none-after : IsUninserted m i → interface_of i m.before.host ≡ None
      → interface_of i (after m).host ≡ None
  none-after unnoted none =
      known-none i (after m).host (by (known_at i (after m).host) refl)
    where
      by : (o : Option ℕ) → known_at i (after m).host ≡ o → o ≡ None
      by None e = refl
      by (Some q) e = absurd (none-some
          (sym (ap (option_map (λ (x : Interface). x.primary)) none) ∙ known-still unnoted q e))

-- what is handled at a moment, and what is left of the marks
abbrev TakenAt : Moment → ℕ → Type 0
TakenAt m i = Taken m i (marks i m.before.past.pulled m.before.bus)
    (marks i m.before.past.pulled (taken_bus m.event m.before.bus))

marks-from : (m : Moment) → Linked m.before.bus m.before.host [] → MarksFit m.before
    → FrameAt m (resting [] (after m)) → ((i : ℕ) → TakenAt m i) → MarksFit (after m)
marks-from m links start frame taken = record {
  reads = λ i. subst (λ ps. Reads (known_at i (after m).host) (marks i ps (after m).bus)
      (plugged_at i (after m).modules)) (sym frame.pulled)
      (subst (λ ms. Reads (known_at i (after m).host) ms
      (plugged_at i (after m).modules)) (sym (frame.same i m.before.past.pulled))
      (subst (Reads (known_at i (after m).host)
      (marks i m.before.past.pulled (taken_bus m.event m.before.bus)))
      (sym (frame.plugged i)) (reads i (taken i))));
  unstarted = λ e i. quiet i (start.unstarted (sym frame.started ∙ e) i) (taken i);
  differ = frame.differ;
  pulled = subst (λ ps. ArePulled ps (after m).bus) (sym frame.pulled)
      (pulled-more m.before.past.pulled m.before.bus (after m).bus frame.keeps start.pulled);
  whole = frame.whole;
  told = frame.told;
}
  where
    later : ℕ → List Mark
    later i = marks i m.before.past.pulled (taken_bus m.event m.before.bus)

    from : (i : ℕ) (ms : List Mark) → marks i m.before.past.pulled m.before.bus ≡ ms
        → Reads (known_at i m.before.host) ms (plugged_at i m.before.modules)
    from i ms e = subst (λ ms. Reads (known_at i m.before.host) ms
        (plugged_at i m.before.modules)) e (start.reads i)

    reads : (i : ℕ) → TakenAt m i → Reads (known_at i (after m).host)
        (marks i m.before.past.pulled (taken_bus m.event m.before.bus))
        (plugged_at i m.before.modules)
    reads i (none_taken e unnoted) =
        reads-less (known_at i (after m).host) (later i) (plugged_at i m.before.modules)
        (known-still m links frame i unnoted) (from i (later i) e)
    reads i (insertion p e same) =
        let r = from i (came p ∷ later i) e in
        reads-less (known_at i (after m).host) (later i) (plugged_at i m.before.modules)
        (λ q k. ap Some (sym (⊎_elim (λ old. absurd (none-some (sym r.0 ∙ old))) (λ n. same q n)
        (known-before m links frame i q k)))) r.1
    reads i (removal p true e absent unnoted) =
        let r = from i (went p true ∷ later i) e in
        reads-less (known_at i (after m).host) (later i) (plugged_at i m.before.modules)
        (λ q k. let was = known-still m links frame i unnoted q k in
        absurd (none-some (sym (ap (option_map (λ (x : Interface). x.primary))
        (absent (was ∙ ap Some (r.0 q was)))) ∙ k))) r.1
    reads i (removal p false e absent unnoted) =
        reads-less (known_at i (after m).host) (later i) (plugged_at i m.before.modules)
        (known-still m links frame i unnoted) (from i (went p false ∷ later i) e).1

    nothing-taken : (x : Mark) (ms : List Mark) → [] ≡ x ∷ ms → ⊥
    nothing-taken x ms e = absurd cc

    quiet : (i : ℕ) → (marks i m.before.past.pulled m.before.bus ≡ [])
        × (interface_of i m.before.host ≡ None) → TakenAt m i
        → (marks i (after m).past.pulled (after m).bus ≡ [])
        × (interface_of i (after m).host ≡ None)
    quiet i q (none_taken e unnoted) = (
      ap (λ ps. marks i ps (after m).bus) frame.pulled ∙ frame.same i m.before.past.pulled
          ∙ sym e ∙ q.0,
      none-after m links frame i unnoted q.1,
    )
    quiet i q (insertion p e same) = absurd (nothing-taken (came p) _ (sym q.0 ∙ e))
    quiet i q (removal p own e absent unnoted) =
        absurd (nothing-taken (went p own) _ (sym q.0 ∙ e))

-- ---- an interface whose insertion is handled is absent

pub inserts-absent : (m : Moment) → Basis (resting m.told m.before)
    → Linked m.before.bus m.before.host [] → MarksFit m.before → InsertsAbsent m
inserts-absent m basis links start p count i n within =
    by (delivery-taken m basis links n.at n.place n.item i m.before.past.pulled n.named n.event
    n.front)
  where
    by : Taken m i (marks i m.before.past.pulled m.before.bus) (marks i m.before.past.pulled
        (popped n.place.connection.number n.place.side m.before.bus))
        → interface_of i m.before.host ≡ None
    by (none_taken e unnoted) =
        absurd (unnoted p (record { count = count; noticed = n; within = within }))
    by (removal q own e absent unnoted) =
        absurd (unnoted p (record { count = count; noticed = n; within = within }))
    by (insertion q e same) = known-none i m.before.host
        (subst (λ ms. Reads (known_at i m.before.host) ms
        (plugged_at i m.before.modules)) e (start.reads i)).0

-- ---- moments

-- nothing changes at an event that is refused
pub refused-state : (m : Moment) (why : Refusal) → refusal m.before m.event ≡ Some why
    → after m ≡ m.before
unfolding machine_opened
refused-state m why e = ap (λ o. (decided o m.event m.before).state) e

module _ (m : Moment) (one : IsMoment m.event) (basis : Basis (resting m.told m.before))
    (links : Linked m.before.bus m.before.host [])
    (start : MarksFit m.before) (other : IsOfSvc m.event → ⊥) where
  absent : InsertsAbsent m
  absent = inserts-absent m basis links start

  abbrev frame_law : Law m
  frame_law = upon (link_law m (inserts-absent m basis links start)) (FrameAt m)
      (λ a x g h. frame-kept m other a x g.0 g.1 h)

  reframe : (a : Point) (s : State) → a.state ≡ s → FrameAt m a → FrameAt m (resting [] s)
  reframe a s e h = subst (λ t. FrameAt m (resting [] t)) e (record {
    same = h.same;
    known = h.known;
    started = h.started;
    plugged = h.plugged;
    differ = h.differ;
    whole = h.whole;
    told = h.told;
    pulled = h.pulled;
    keeps = h.keeps;
  })

  before-frame : ((i : ℕ) (ps : List (ℕ × ℕ))
      → marks i ps m.before.bus ≡ marks i ps (taken_bus m.event m.before.bus))
      → FrameAt m (resting m.told m.before)
  before-frame same = record {
    same = same;
    known = λ x i. inl (named-one m.before.host x i);
    started = refl;
    plugged = λ i. refl;
    differ = start.differ;
    whole = start.whole;
    told = start.told;
    pulled = refl;
    keeps = λ k r made. made;
  }

  -- an event at which nothing is delivered
  pub marks-still : taken_bus m.event m.before.bus ≡ m.before.bus
      → ((at : End) → m.event ≡ event.Deliver at → ⊥) → MarksFit (after m)
  marks-still still undelivered =
      let r = over-step m frame_law one
      ((basis, links), before-frame (λ i ps. ap (marks i ps) (sym still))) in
      marks-from m links start (reframe _ (after m) refl r.1.1)
      (λ i. none_taken (ap (marks i m.before.past.pulled) (sym still))
      (λ q n. undelivered n.noticed.at n.noticed.event))

  -- a delivery
  pub marks-delivered : (at : End) → m.event ≡ event.Deliver at → MarksFit (after m)
  marks-delivered at is = by (refusal m.before m.event) refl
    where
      item_at : (p : Place) → place_of at m.before.bus.connections ≡ Some p → (item : Item)
          → first (queue p.side p.connection) ≡ Some item
          → refusal m.before (event.Deliver at) ≡ None → MarksFit (after m)
      item_at p named item front free =
          let taken : taken_bus m.event m.before.bus ≡ popped p.connection.number p.side
          m.before.bus =
          ap (λ e. taken_bus e m.before.bus) is ∙ ap (λ o. popped_at o m.before.bus) named in
          let change = takes at p item refl refl is named front in
          let r = ends-taken m frame_law at p item is named front (m.told ++ []) (
            (
              basis-kept (resting m.told m.before) change basis,
              linked-kept m absent change links,
            ),
            record {
              same = λ i ps. ap (marks i ps) (sym taken);
              known = λ x i. inl (named-one m.before.host x i);
              started = refl;
              plugged = λ i. refl;
              differ = start.differ;
              whole = start.whole;
              told = start.told;
              pulled = refl;
              keeps = λ k r made. made;
            },
          ) in
          marks-from m links start (reframe _ (after m)
          (sym (delivered-state m at p item is named front free)) r.1.1)
          (λ i. subst (λ b. Taken m i (marks i m.before.past.pulled m.before.bus)
          (marks i m.before.past.pulled b)) (sym taken)
          (delivery-taken m basis links at p item i m.before.past.pulled named is front))

      by : (o : Option Refusal) → refusal m.before m.event ≡ o → MarksFit (after m)
      by (Some why) e = subst MarksFit (sym (refused-state m why e)) start
      by None e =
          let allowed = ap (refusal m.before) (sym is) ∙ e in
          let w = waits m.before at allowed in
          item_at w.place w.named w.item w.front allowed
