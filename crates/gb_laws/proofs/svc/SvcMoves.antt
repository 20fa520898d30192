-- What each single change does to the queue toward the supervisory controller.
use Rattle.std.proofs.Common.{Bool, None, Option, Some, ap, false, refl, sym, true, ℕ, [], ◌++◌}
use Rattle.std.proofs.Common.{◌∙◌, ◌∷◌, ◌≡◌, ◌≢◌}
use Rattle.std.specs.Prelude.{◌==◌}
use Rattle.gb_base.specs.declared.end.Side.{Side}
use Rattle.gb_base.specs.declared.end.End.TheVariants as end
use Rattle.gb_base.specs.declared.end.Side.TheVariants as side
use Rattle.gb_machine.specs.Bus.{Ask, Bus, Connection, Item, Place, end_of, next_number, other_side}
use Rattle.gb_machine.specs.Bus.{queue}
use Rattle.gb_machine.specs.Delivery.{popped, replied, without_front}
use Rattle.gb_machine.specs.Sending.{Draft, put, sent}
use Rattle.gb_machine.specs.{Incoming.Incoming, Incoming.reply_item, Lists.behind_first}
use Rattle.gb_machine.specs.{Members.IsIn, Refusals.module_place, Runs.Moment, Serving.Answer}
use Rattle.gb_machine.specs.{SvcQueues.items_in, SvcQueues.svc_items}
use Rattle.gb_invariants.proofs.BusChanges.{becomes, found-after, number_of}
use Rattle.gb_invariants.proofs.Selves.{far-no-ap, front-self, module-no-svc, put-self}
use Rattle.gb_invariants.proofs.{Awaiting.not-both, Awaiting.sent-request, Labels.asked_on}
use Rattle.gb_invariants.proofs.{Labels.asked_on-number, Outcomes.same-number}
use Rattle.gb_laws.proofs.points.ChangeBuses.{bus-is, bus_change, keeps-requests}
use Rattle.gb_laws.proofs.points.Points.{Change, acts_asked, acts_shut, asks, changed, injects}
use Rattle.gb_laws.proofs.points.Points.{names}
use Rattle.gb_laws.proofs.points.Points.{replies, takes, unwires, wires}
use Rattle.gb_laws.proofs.removals.QuietBuses.{IsPut, asked-put, popped-ap, popped-far}
use Rattle.gb_laws.proofs.removals.QuietBuses.{queues-other}
use Rattle.gb_laws.proofs.removals.QuietBuses.{replied-put}
use Rattle.gb_laws.proofs.svc.SvcThere.{There, not-one, svc-new, svc-stays}
use Rattle.gb_laws.proofs.{points.Awaited.awaited-rest, links.LinkKept.LinkedAt}
use Rattle.gb_laws.proofs.{points.Places.module-far}
use Rattle.gb_laws.proofs.{points.Places.place-is, points.PointParts.Basis, points.PointParts.Point}
use Rattle.gb_laws.proofs.{removals.Quiet.SameQueues}

-- How requests and the queue toward the supervisory controller change.
pub data FarMoves (b after : Bus) : Type 0 where
  stays : after.requests ≡ b.requests → svc_items side.Far after ≡ svc_items side.Far b
      → FarMoves b after
  -- the front item is taken
  taken : after.requests ≡ b.requests
      → svc_items side.Far after ≡ behind_first (svc_items side.Far b) → FarMoves b after
  -- a reply is put there
  puts : (x : Item) → ((n : ℕ) → x ≡ Ask n → ⊥) → after.requests ≡ b.requests
      → svc_items side.Far after ≡ svc_items side.Far b ++ x ∷ [] → FarMoves b after
  -- the application processor asks, or some side on another connection
  asked : (d : Draft) (label : ℕ) → after ≡ sent d label b → d.connection ≡ 1 → d.side ≡ side.Ap
      → svc_items side.Far after ≡ svc_items side.Far b ++ Ask (next_number b) ∷ []
      → FarMoves b after
  elsewhere : (d : Draft) (label : ℕ) → after ≡ sent d label b
      → (d.connection ≡ 1 → d.side ≡ side.Ap → ⊥)
      → svc_items side.Far after ≡ svc_items side.Far b → FarMoves b after

-- ---- requests

pub far-sent : {a : Point} (d : Draft) (label : ℕ) → Basis a → There a.state.bus
    → FarMoves a.state.bus (sent d label a.state.bus)
far-sent {a} d label basis there = by (d.connection == 1) refl d.side refl
  where
    toward : (s : Side) → s ≡ side.Ap
        → IsPut (other_side s) (Ask (next_number a.state.bus)) a.state.bus
        (sent d label a.state.bus) → svc_items side.Far (sent d label a.state.bus)
        ≡ svc_items side.Far a.state.bus ++ Ask (next_number a.state.bus) ∷ []
    toward side.Ap e p = p.toward
    toward side.Far e p = absurd cc

    from : (s : Side) → s ≡ side.Far
        → IsPut (other_side s) (Ask (next_number a.state.bus)) a.state.bus
        (sent d label a.state.bus)
        → svc_items side.Far (sent d label a.state.bus) ≡ svc_items side.Far a.state.bus
    from side.Far e p = p.from
    from side.Ap e p = absurd cc

    by : (t : Bool) → (d.connection == 1) ≡ t → (s : Side) → d.side ≡ s
        → FarMoves a.state.bus (sent d label a.state.bus)
    by true e side.Ap f = asked d label refl (same-number d.connection 1 e) f
        (toward d.side f (asked-put d label basis there (same-number d.connection 1 e)))
    by true e side.Far f = elsewhere d label refl (λ one g. far-no-ap (sym f ∙ g))
        (from d.side f (asked-put d label basis there (same-number d.connection 1 e)))
    by false e s f =
        let other = λ (one : d.connection ≡ 1).
        not-both (d.connection == 1) (ap (λ n. n == 1) one) e in
        elsewhere d label refl (λ one g. other one)
        (queues-other a.state.bus (sent d label a.state.bus) d.connection
        (asked_on d label a.state.bus) refl (sent-request d label a.state.bus)
        (asked_on-number d label a.state.bus) other).far

-- ---- items

far-popped : (a : Point) (k : ℕ) (s : Side) → Basis a → There a.state.bus
    → FarMoves a.state.bus (popped k s a.state.bus)
far-popped a k s basis there = by (k == 1) refl s
  where
    by : (t : Bool) → (k == 1) ≡ t → (s : Side) → FarMoves a.state.bus (popped k s a.state.bus)
    by true e side.Far = taken refl (popped-far a k basis there (same-number k 1 e)).0
    by true e side.Ap = stays refl (popped-ap a k basis there (same-number k 1 e)).1
    by false e s = stays refl (queues-other a.state.bus (popped k s a.state.bus) k
        (without_front s) refl (λ n r made. made) (λ y. (front-self s y).number)
        (λ one. not-both (k == 1) (ap (λ n. n == 1) one) e)).far

reply-unasked : (q : Incoming) (r : Answer) (n : ℕ) → reply_item q r ≡ Ask n → ⊥
reply-unasked q r n e = by q.number e
  where
    by : (o : Option ℕ) → reply_item (record q { number = o }) r ≡ Ask n → ⊥
    by None f = absurd cc
    by (Some k) f = absurd cc

far-replied : (a : Point) (k : ℕ) (s : Side) (q : Incoming) (r : Answer) → Basis a
    → There a.state.bus → FarMoves a.state.bus (replied k s (reply_item q r) a.state.bus)
far-replied a k s q r basis there = by (k == 1) refl s
  where
    by : (t : Bool) → (k == 1) ≡ t → (s : Side)
        → FarMoves a.state.bus (replied k s (reply_item q r) a.state.bus)
    by true e side.Far = puts (reply_item q r) (reply-unasked q r) refl
        (replied-put a side.Far (reply_item q r) k basis there (same-number k 1 e)).toward
    by true e side.Ap = stays refl
        (replied-put a side.Ap (reply_item q r) k basis there (same-number k 1 e)).from
    by false e s = stays refl (queues-other a.state.bus (replied k s (reply_item q r) a.state.bus)
        k (put s (reply_item q r)) refl (λ n x made. made)
        (λ y. (put-self s (reply_item q r) y).number)
        (λ one. not-both (k == 1) (ap (λ n. n == 1) one) e)).far

-- what is injected is on no connection of the supervisory controller
pub injected-other : (i c : ℕ) (a : Point) (p : Place) → LinkedAt a
    → module_place i c a.state ≡ Some p → p.connection.number ≢ 1
injected-other i c a p links named one =
    let place = place-is (end.Module i c) a.state.bus.connections p named in
    module-no-svc (sym (sym (ap (λ s. end_of s p.connection)
    (module-far i c p.side p.connection place.is))
    ∙ place.is) ∙ (links.svc p.connection place.live one).peer)

-- ---- each single change

-- a change asks nothing, takes nothing and replies nothing
abbrev pub IsStill : (m : Moment) (a : Point) → Change m a → Type 0
IsStill m a (asks d c label free live drawn who) = ⊥
IsStill m a (names name d c label free live drawn host) = ⊥
IsStill m a (takes at p item free start is named front) = ⊥
IsStill m a (replies x q r is made twoway) = ⊥
IsStill m a _ = Unit {0}

-- the queues stay then
pub queues-still : (m : Moment) (a : Point) (x : Change m a) → IsStill m a x → LinkedAt a
    → SameQueues a.state.bus (changed m a x).state.bus
queues-still m a x still links = record {
  keeps = keeps-requests m a x;
  far = stay side.Far;
  ap = stay side.Ap;
}
  where
    keeps : (at : Side) (x : Change m a) → IsStill m a x → (c : Connection)
        → IsIn c a.state.bus.connections → c.number ≡ number_of (bus_change x) → c.number ≡ 1
        → queue at (becomes (bus_change x) a.state.bus c) ≡ queue at c
    keeps at (asks d e label free live drawn who) still c j on one = absurd still
    keeps at (names name d e label free live drawn host) still c j on one = absurd still
    keeps at (takes to p item free start is named front) still c j on one = absurd still
    keeps at (replies y q r is made twoway) still c j on one = absurd still
    keeps side.Ap (wires k free untouched live powered) still c j on one = refl
    keeps side.Far (wires k free untouched live powered) still c j on one = refl
    keeps at (unwires k free cut live) still c j on one =
        absurd (not-one a k true links live (sym on ∙ one))
    keeps at (injects i p place bytes free named) still c j on one =
        absurd (injected-other i p a place links named (sym on ∙ one))
    keeps side.Ap (acts_shut k rest free is cause) still c j on one = refl
    keeps side.Far (acts_shut k rest free is cause) still c j on one = refl
    keeps at _ still c j on one = refl

    stay : (at : Side) → svc_items at (changed m a x).state.bus ≡ svc_items at a.state.bus
    stay at = ap (svc_items at) (bus-is m a x)
        ∙ found-after 1 (items_in at) (bus_change x) a.state.bus (svc-stays m a x links)
        (svc-new m a x links) (keeps at x still)

pub far-same : (m : Moment) (a : Point) (x : Change m a) → IsStill m a x → LinkedAt a
    → svc_items side.Far (changed m a x).state.bus ≡ svc_items side.Far a.state.bus
far-same m a x still links = (queues-still m a x still links).far

pub far-moves : (m : Moment) {a : Point} (x : Change m a) → Basis a → LinkedAt a
    → There a.state.bus → FarMoves a.state.bus (changed m a x).state.bus
far-moves m (asks d c label free live drawn who) basis links there =
    far-sent d label basis there
far-moves m (names name d c label free live drawn host) basis links there =
    far-sent d label basis there
far-moves m {a} (takes at p item free start is named front) basis links there =
    far-popped a p.connection.number p.side basis there
far-moves m {a} (replies x q r is made twoway) basis links there =
    far-replied a x.connection.number (other_side x.side) q r basis there
far-moves m {a} (acts_asked q n rest is) basis links there =
    stays (ap (λ (b : Bus). b.requests) (awaited-rest q.purpose n).bus)
    (far-same m a (acts_asked q n rest is) tt links)
far-moves m {a} x basis links there = stays refl (far-same m a x tt links)
