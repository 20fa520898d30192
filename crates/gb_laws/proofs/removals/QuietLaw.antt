-- While a removal of an interface waits toward the application processor, its power level is at
-- most 1: a law of points.
use Rattle.std.proofs.Common.{Bool, None, Some, ap, arith, false, inl, inr, map, refl, subst, sym}
use Rattle.std.proofs.Common.{true, ℕ, ⊎_elim, [], ◌∙◌, ◌≡◌, ◌≢◌, ◌≤◌}
use Rattle.std.specs.Prelude.{◌==◌}
use Rattle.gb_base.specs.declared.end.End.TheVariants as end
use Rattle.gb_base.specs.declared.end.Side.TheVariants as side
use Rattle.gb_machine.specs.Sending.{Draft, requested, sent}
use Rattle.gb_machine.specs.{Bus.other_side, Delivery.answered, Holding.held_on, Lists.nth}
use Rattle.gb_machine.specs.{Members.IsIn, Ports.level_of, Refusals.is_reserved, Runs.Moment}
use Rattle.gb_machine.specs.{State.State, SvcQueues.is_enumeration_request, Turns.Asking}
use Rattle.gb_machine.specs.{Wiring.with_connection}
use Rattle.gb_invariants.proofs.{Awaiting.gave_up-after, Awaiting.not-both, Outcomes.same-number}
use Rattle.gb_invariants.specs.Facts.{IsOwn}
use Rattle.gb_laws.proofs.enumerations.AskedWaits.{AsksIn, WaitsFewer, same-waits}
use Rattle.gb_laws.proofs.points.PointParts.{Basis, Hand, Point, loose_hand, loose_held, resting}
use Rattle.gb_laws.proofs.points.Points.{Change, IsAskedBy, IsElse, IsPlain, acts_asked}
use Rattle.gb_laws.proofs.points.Points.{acts_failed}
use Rattle.gb_laws.proofs.points.Points.{acts_shut, answers, asks, by_far, by_host, by_loader}
use Rattle.gb_laws.proofs.points.Points.{changed, drops}
use Rattle.gb_laws.proofs.points.Points.{forgets, gives_up, holds, names, others, recalls, replies}
use Rattle.gb_laws.proofs.points.Points.{takes}
use Rattle.gb_laws.proofs.points.Points.{takes_held, turns, unwires}
use Rattle.gb_laws.proofs.removals.Quiet.{IsQuiet, SameView, off, quiet-still, view-same}
use Rattle.gb_laws.proofs.points.Pulls.{PulledAt}
use Rattle.gb_laws.proofs.removals.QuietKept.{view-asked, view-far, view-plain, view-recalled}
use Rattle.gb_laws.proofs.removals.QuietKept.{view-rest}
use Rattle.gb_laws.proofs.removals.QuietReplies.{view-answers, view-forgets, view-replied}
use Rattle.gb_laws.proofs.removals.QuietReplies.{view-side}
use Rattle.gb_laws.proofs.removals.QuietTurns.{quiet-awaited, quiet-failed, quiet-turned}
use Rattle.gb_laws.proofs.{points.ChangeHosts.asks-kept, points.ChangeHosts.waits-kept}
use Rattle.gb_laws.proofs.{enumerations.EnumRequests.enumeration-reserved, links.LinkFrom.Linked}
use Rattle.gb_laws.proofs.{links.LinkKept.LinkedAt}
use Rattle.gb_laws.proofs.{links.Links.ArePending, basis.Loosening.held-at}
use Rattle.gb_laws.proofs.{basis.Loosening.map-held-in}
use Rattle.gb_laws.proofs.{points.Places.module-far, points.Places.place-is}
use Rattle.gb_laws.proofs.{removals.QuietAsking.quiet-asked}
use Rattle.gb_laws.proofs.{removals.QuietPower.quiet-ports, removals.QuietTaken.view-held}
use Rattle.gb_laws.proofs.{removals.QuietTaken.view-taken}
use Rattle.gb_laws.proofs.{svc.SvcMoves.queues-still, svc.SvcThere.There, svc.SvcThere.not-one}

-- what stays of an enumeration where the application processor's interfaces, the bus and
-- the levels do
rests : (i : ℕ) (a : Point) {b : Point} → Basis a → b.state.bus ≡ a.state.bus
    → b.state.ports ≡ a.state.ports → b.state.past.pulled ≡ a.state.past.pulled
    → ((h : Hand) → b.hand ≡ Some h → a.hand ≡ Some h) → WaitsFewer a.state.host b.state.host
    → b.asked ≡ a.asked
    → ((q : Asking) → AsksIn q b.pending → AsksIn q a.pending) → IsQuiet i a → IsQuiet i b
rests i a basis bus ports pulled hand waits asked pending h =
    quiet-still (view-rest basis bus (ap (level_of i) ports) pulled hand) waits asked pending h

no-hand : (a : Point) (h : Hand) → None ≡ Some h → a.hand ≡ Some h
no-hand a h e = absurd cc

two-one : (k : ℕ) → 2 ≤ k → k ≢ 1
two-one k low e = omega (arith, low, e)

module _ (m : Moment) (i : ℕ) (before : Basis (resting m.told m.before))
    (before_links : Linked m.before.bus m.before.host []) (before_there : There m.before.bus)
    (start : IsQuiet i (resting m.told m.before)) where
  pub quiet-kept : (a : Point) (x : Change m a) → Basis a → LinkedAt a → There a.state.bus
      → PulledAt a → IsQuiet i a → IsQuiet i (changed m a x)
  quiet-kept a (asks d c label free live is who) basis links there told h = by who
    where
      by : (w : IsAskedBy m a c d) → IsQuiet i (changed m a (asks d c label free live is w))
      by (by_host q rest pending draft none) =
          quiet-asked i a q rest label basis links there pending free none
          (ap (λ (x : Draft). record a.state { bus = sent x label a.state.bus }) draft) refl refl
          refl h
      by (by_far far on unloaded) =
          quiet-still (view-far m i a d c label
          basis links there told live refl refl refl refl far) (same-waits a.state.host) refl
          (λ q j. j) h
      by (by_loader x going far on) =
          quiet-still (view-far m i a d c label
          basis links there told live refl refl refl refl far) (same-waits a.state.host) refl
          (λ q j. j) h
  quiet-kept a (names name d c label free live is host) basis links there told h =
      quiet-still (by host.1) (same-waits a.state.host) refl (λ q j. j) h
    where
      b : Point
      b = changed m a (names name d c label free live is host)

      plain : (t : Bool) → is_enumeration_request i (requested d label) ≡ t
          → is_reserved d.kind ≡ false → t ≡ false
      plain false e r = refl
      plain true e r = absurd (not-both (is_reserved d.kind)
          (enumeration-reserved i d.kind d.payload e) r)

      on : (t : Bool) → (d.connection == 1) ≡ t → is_reserved d.kind ≡ false
          → SameView i a (changed m a (names name d c label free live is host))
      on true e r = view-plain i a d label
          basis there refl refl refl refl (same-number d.connection 1 e) host.0
          (plain (is_enumeration_request i (requested d label)) refl r)
      on false e r = view-asked i a d label basis refl refl refl refl
          (λ f. not-both (d.connection == 1) (ap (λ n. n == 1) f) e)

      by : IsPlain a.state d → SameView i a (changed m a (names name d c label free live is host))
      by (inl r) = on (d.connection == 1) refl r.0
      by (inr l) = view-asked i a d label basis refl refl refl refl (λ e. two-one l.0.connection
          (links.host.links.numbered l.0 l.1).from_two (sym l.2 ∙ e))
  quiet-kept a (takes at p item free begin is named front) basis links there told h =
      quiet-still (view-taken i a p.connection p.side item basis there
      (subst (λ (s : State). IsIn p.connection s.bus.connections) (sym begin)
      (place-is at m.before.bus.connections p named).live) front refl refl refl refl)
      (same-waits a.state.host) refl (λ q j. j) h
  quiet-kept a (takes_held j c place p x free begin is named held) basis links there told h =
      let found = subst (λ (s : State). nth place (held_on p.connection.number s.held) ≡ Some x)
      (sym begin) held in
      let w = held-at p.connection.number place a.state.held x found in
      let far = module-far j c p.side p.connection
      (place-is (end.Module j c) m.before.bus.connections p named).is in
      let own = basis.bus.items.own_loose (loose_held x)
      (subst (λ o. IsIn (loose_held x) (loose_hand o (map loose_held a.state.held))) (sym free)
      (map-held-in x a.state.held w.0)) in
      quiet-still (view-held i a p.connection p.side x.item basis
      (subst (λ s. IsOwn a.state.bus p.connection.number s x.item) (sym far)
      (subst (λ k. IsOwn a.state.bus k side.Far x.item) w.1 own)) far refl refl refl refl)
      (same-waits a.state.host) refl (λ q j. j) h
  quiet-kept a drops basis links there told h =
      rests i a basis refl refl refl (no-hand a) (same-waits a.state.host) refl (λ q j. j) h
  quiet-kept a (holds x is far) basis links there told h =
      rests i a basis refl refl refl (no-hand a) (same-waits a.state.host) refl (λ q j. j) h
  quiet-kept a (replies x q r is made twoway) basis links there told h =
      quiet-still (view-replied i a x.connection.number
      (other_side x.side) q r basis there refl refl refl refl) (same-waits a.state.host) refl
      (λ q j. j) h
  quiet-kept a (answers x n result payload is says which) basis links there told h =
      quiet-still (view-answers i a x n
      (answered result payload) basis links is which refl refl refl refl) (same-waits a.state.host)
      refl (λ q j. j) h
  quiet-kept a (forgets x n is which) basis links there told h =
      quiet-still (view-forgets i a x n basis links is which refl refl
      refl refl) (same-waits a.state.host) refl (λ q j. j) h
  quiet-kept a (gives_up n how free unended cause) basis links there told h =
      quiet-still (view-same basis (record { keeps = λ k r made. made; far = refl; ap = refl })
      refl refl
      (λ k u x e. u.hand x e) (λ k u. gave_up-after n how a.state.bus k u.awaited))
      (same-waits a.state.host) refl (λ q j. j) h
  quiet-kept a (unwires k free cut live) basis links there told h =
      quiet-still (view-side i a k side.Far
      (with_connection k (λ c. record c { wired = false; to_ap = []; to_far = [] }) a.state.bus)
      basis (queues-still m a (unwires k free cut live) tt links) (λ n e. e) (λ n r made. made) refl
      (not-one a k true links live) refl refl refl) (same-waits a.state.host) refl (λ q j. j) h
  quiet-kept a (turns e free untouched none cause) basis links there told h =
      quiet-turned m i e a basis links there untouched.1 refl refl refl refl refl refl refl h
  quiet-kept a (acts_shut k rest free is cause) basis links there told h =
      quiet-still (view-side i a k side.Ap
      (with_connection k (λ c. record c { shut = true }) a.state.bus) basis
      (queues-still m a (acts_shut k rest free is cause) tt links) (λ n e. e)
      (λ n r made. made) refl other refl refl refl) (same-waits a.state.host) refl
      (asks-kept m a (acts_shut k rest free is cause) tt) h
    where
      other : k ≢ 1
      other = two-one k (subst (ArePending a.state.host) is links.pending).0.0
  quiet-kept a (acts_asked q n rest is) basis links there told h =
      quiet-awaited i a q n basis is.1 refl refl refl
      (subst (ArePending a.state.host) is.0 links.pending).0.1 h
  quiet-kept a (acts_failed q rest is quiet) basis links there told h =
      quiet-failed i a q rest basis is refl refl refl refl h
  quiet-kept a (others booted marks ports modules same) basis links there told h = by same.0
    where
      b : Point
      b = changed m a (others booted marks ports modules same)

      by : IsElse m a booted marks ports modules
          → IsQuiet i (changed m a (others booted marks ports modules same))
      by (inl s) = quiet-ports m i before before_links before_there start a ports basis s.1 s.2 refl
          refl refl refl refl refl refl h
      by (inr of) = ⊎_elim (λ e. quiet-still (view-rest basis refl e refl
          (λ x f. f)) (same-waits a.state.host) refl (λ q j. j) h) (λ zero. quiet-still
          (record { enums = inl refl; power = off zero }) (same-waits a.state.host) refl
          (λ q j. j) h) (of.1 i)
  quiet-kept a (recalls n j of made) basis links there told h =
      quiet-still (view-recalled i a n j made.1 refl refl) (same-waits a.state.host) refl
      (λ q k. k) h
  quiet-kept a x basis links there told h =
      quiet-still (view-same basis (queues-still m a x tt links) refl refl (λ n u y e. u.hand y e)
      (λ n u. u.awaited)) (waits-kept m a x tt) refl (asks-kept m a x tt) h
