-- Where a request to destroy a connection doesn't wait any more, that isn't wired: in each state of
-- a run.
use Rattle.std.proofs.Common.{Bool, List, Some, ap, arith, false, inl, refl, subst, sym, true, ℕ}
use Rattle.std.proofs.Common.{⊎_elim, [], ◌++◌, ◌∙◌, ◌≡◌, ◌≢◌, ◌⊎◌}
use Rattle.std.specs.Prelude.{Ok, Result}
use Rattle.gb_base.specs.declared.end.Side.TheVariants as side
use Rattle.gb_base.specs.declared.entry.Entry.{Entry}
use Rattle.gb_formats.specs.{Records.PayloadFault, SvcRecords.SvcAsk, SvcRecords.read_svc_ask}
use Rattle.gb_machine.proofs.Lists.{nth-within}
use Rattle.gb_machine.specs.Bus.{Ask, Bus, Connection, Request, request_of}
use Rattle.gb_machine.specs.Runs.{IsMoment, Moment, after, told_at}
use Rattle.gb_machine.specs.{Lists.first, Members.IsIn, State.State, SvcQueues.svc_items}
use Rattle.gb_invariants.proofs.{Awaiting.not-both, Awaiting.same-some, Numbers.found-by_number}
use Rattle.gb_laws.proofs.creations.Creating.{IsBetween, destroys_one, is_create, is_destroy}
use Rattle.gb_laws.proofs.creations.Gone.{IsDestroy, destroy-is, gone-unwired}
use Rattle.gb_laws.proofs.links.Links.{IsKnown, leaving, linked, supervisory}
use Rattle.gb_laws.proofs.points.PointParts.{Point, Wires, resting}
use Rattle.gb_laws.proofs.svc.StillWaiting.{IsFront, WaitsStill, still-kept, still-start}
use Rattle.gb_laws.proofs.svc.WiredOnceRuns.{IsOwn, WasWired, WiringTo, wiring-over, wiring-start}
use Rattle.gb_laws.proofs.svc.WiredOnceRuns.{wiring-throughout, wiring_law}
use Rattle.gb_laws.proofs.{creations.OwnCreation.IsCreation, points.Points.Law, points.Points.upon}
use Rattle.gb_laws.proofs.{runs.Runs.HoldsByMoments}
use Rattle.gb_laws.proofs.{runs.Runs.throughout, steps.ServedDestroy.destroyed-bus}
use Rattle.gb_laws.proofs.{creations.StaleBase.StaleBase}
use Rattle.gb_laws.proofs.{steps.Steps.over-step, basis.Unheld.IsUnheld, basis.Unheld.unheld-kept}

-- Where a request to destroy connection k doesn't wait any more, that isn't wired.
abbrev pub GoneFit : Bus → List (ℕ × ℕ) → Type 0
GoneFit b pairs =
    (n k : ℕ) (r : Request) → k ≢ 1 → IsIn (n, k) pairs → request_of n b ≡ Some r
    → destroys_one r ≡ true → (IsIn (Ask n) (svc_items side.Far b) → ⊥) → (c : Connection)
    → IsIn c b.connections → c.number ≡ k → c.wired ≡ false

-- what is known in each state
pub record GoneTo (told : List Entry) (s : State) : Type 0 where
  pub wiring : WiringTo told s
  pub unheld : IsUnheld s
  pub gone : GoneFit s.bus s.past.made_for

-- no record both creates and destroys
create-apart : (r : Result SvcAsk PayloadFault) → is_create r ≡ true → is_destroy r ≡ true → ⊥
create-apart (Ok (SvcAsk.ConnCreate x y z w t f)) e g = absurd cc
create-apart (Ok (SvcAsk.ConnDestroy x y z w)) e g = absurd cc
create-apart (Ok SvcAsk.Ping) e g = absurd cc
create-apart _ e g = absurd cc

module _ (m : Moment) (start : GoneTo m.told m.before) where
  abbrev pub gone_law : Law m
  gone_law = upon (upon (wiring_law m start.wiring) (λ a. IsUnheld a.state)
      (λ a x g h. unheld-kept m a x g.0.0.0.0.links h)) (WaitsStill m)
      (λ a x g h. still-kept m a x g.0.0.0.0.0.basis g.0.0.0.0.0.links g.0.0.0.0.0.there h)

  -- what is known beneath it
  pub gone-base : (a : Point) → gone_law.holds a → StaleBase m a
  gone-base a h = h.0.0.0.0.0.0

  pub gone-start : gone_law.holds (resting m.told m.before)
  gone-start = (
    (wiring-start m start.wiring, start.unheld),
    λ n r made on own. still-start m n r made,
  )

  module _ (one : IsMoment m.event) where
    over : (w : Wires)
        × gone_law.holds (record (resting (m.told ++ told_at m) (after m)) { wires = w })
    over = over-step m gone_law one gone-start

    base : StaleBase m (record (resting (m.told ++ told_at m) (after m)) { wires = over.0 })
    base = over.1.0.0.0.0.0.0

    module _ (n k : ℕ) (r : Request) (other : k ≢ 1) (pair : IsIn (n, k) (after m).past.made_for)
        (made : request_of n (after m).bus ≡ Some r) (is : destroys_one r ≡ true)
        (out : IsIn (Ask n) (svc_items side.Far (after m).bus) → ⊥) (c : Connection)
        (live : IsIn c (after m).bus.connections) (on : c.number ≡ k) where
      asked : (r.connection ≡ 1) × (r.side ≡ side.Ap) × (r.oneway ≡ false)
      asked =
          let q = base.pairs.made n k pair in
          let same = same-some q.request r (sym q.made ∙ made) in (
            ap (λ (x : Request). x.connection) (sym same) ∙ q.on,
            ap (λ (x : Request). x.side) (sym same) ∙ q.by_ap,
            ap (λ (x : Request). x.oneway) (sym same) ∙ q.twoway,
          )

      -- it was made before, and for this connection
      waited : (request_of n m.before.bus ≡ Some r)
          × ((IsIn (Ask n) (svc_items side.Far m.before.bus) → ⊥) ⊎ IsFront m n)
      waited = ⊎_elim (λ i. absurd (out i)) (λ w. w) (over.1.1 n r made asked.0 asked.1)

      paired : IsIn (n, k) m.before.past.made_for
      paired = ⊎_elim (λ o. o) (λ w. let low = nth-within n m.before.bus.requests r waited.0 in
          let high = w.0 in absurd (omega (arith, low, high))) (base.since.new n k pair)

      -- it was made behind the one that created the connection
      created : IsCreation m k → (IsIn (Ask n) (svc_items side.Far m.before.bus) → ⊥) → ⊥
      created x none = none (start.wiring.stale.order.later n x.number r waited.0 asked.0 asked.1
          (start.wiring.creates.first x.number n k x.request x.own paired x.made
          (ap is_create x.creates)) (subst (λ xs. IsIn (Ask x.number) xs) (sym x.front) (inl refl)))

      front-apart : IsCreation m k → IsFront m n → ⊥
      front-apart x f =
          let same = number (same-some (Ask x.number) (Ask n) (sym (ap first x.front) ∙ f.waits)) in
          let one = same-some x.request r
          (sym x.made ∙ ap (λ j. request_of j m.before.bus) same ∙ waited.0) in
          create-apart (read_svc_ask r.kind r.payload)
          (ap (λ (q : Request). is_create (read_svc_ask q.kind q.payload)) (sym one)
          ∙ ap is_create x.creates) is
        where
          number : {i j : ℕ} → Ask i ≡ Ask j → i ≡ j
          number e = cc

      served : (w : WasWired m k) → IsFront m n → c.wired ≡ false
      served w f = by (start.wiring.stale.since.links.1.known w.connection w.live)
        where
          d : IsDestroy (read_svc_ask r.kind r.payload)
          d = destroy-is (read_svc_ask r.kind r.payload) is

          by : IsKnown w.connection m.before.host.links [] → c.wired ≡ false
          by (supervisory e) = absurd (other (sym w.number ∙ e))
          by (leaving i) = absurd i
          by (linked l i of) = gone-unwired m.before.bus m.before.host
              start.wiring.stale.since.links.1 (λ x j. found-by_number m.before.bus.connections x
              start.wiring.stale.since.links.0.bus.numbers.rise j)
              w.connection w.live w.wired l i of.number of.ap of.peer f.place.connection.number
              d.i1 d.a d.i d.c (subst (IsBetween l.ap l.intf l.cport) d.is
              (start.wiring.creates.ends n l r i (subst (λ j. IsIn (n, j) m.before.past.made_for)
              (sym w.number ∙ of.number) paired) waited.0))
              (destroyed-bus m start.wiring.stale.since.links.1 start.unheld n f r waited.0 asked.2
              d.i1 d.a d.i d.c d.is) c
              (found-by_number (after m).bus.connections c base.basis.bus.numbers.rise live)
              (on ∙ sym w.number)

      -- what was wired isn't any more
      still : c.wired ≡ true → c.wired ≡ false
      still e = ⊎_elim (λ w. ⊎_elim (λ none. absurd (not-both w.connection.wired w.wired
          (start.gone n k r other paired waited.0 is none w.connection w.live w.number)))
          (λ f. served w f) waited.1)
          (λ x. ⊎_elim (λ none. absurd (created x none)) (λ f. absurd (front-apart x f)) waited.1)
          (subst (IsOwn m) on (over.1.0.0.0.1 c live e))

      gone : c.wired ≡ false
      gone = by c.wired refl
        where
          by : (t : Bool) → c.wired ≡ t → c.wired ≡ false
          by false e = e
          by true e = still e

    pub gone-over : GoneTo (m.told ++ told_at m) (after m)
    gone-over = record {
      wiring = wiring-over m start.wiring one;
      unheld = over.1.0.1;
      gone = λ n k r other pair made is out c live on. gone n k r other pair made is out c live on;
    }

pub gone-throughout : HoldsByMoments GoneTo
gone-throughout = throughout GoneTo (record {
  wiring = wiring-throughout [] tt;
  unheld = λ i. absurd i;
  gone = λ n k r other pair. absurd pair;
}) (λ m one h. gone-over m h one)
