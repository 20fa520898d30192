-- The supervisory controller's connection is there and wired.
use Rattle.std.proofs.Common.{Bool, List, Some, arith, subst, sym, true, ℕ, ◌∙◌, ◌∷◌, ◌≡◌, ◌≢◌}
use Rattle.gb_machine.specs.{Bus.Bus, Bus.Connection, Runs.Moment, Turns.Act}
use Rattle.gb_invariants.proofs.Wires.{IsOn, cuts_of, made-number, on-after}
use Rattle.gb_invariants.proofs.{Awaiting.none-some, Awaiting.same-some, BusChanges.left_by}
use Rattle.gb_invariants.proofs.{BusChanges.made_by, Selves.module-no-svc}
use Rattle.gb_laws.proofs.points.Points.{Change, IsLive, acts_left, changed, unwires}
use Rattle.gb_laws.proofs.{points.ChangeBuses.bus_change, points.ChangeBuses.by-bus}
use Rattle.gb_laws.proofs.{links.LinkFrom.Linked}
use Rattle.gb_laws.proofs.{links.LinkKept.LinkedAt, links.Links.ArePending, points.PointParts.Point}

abbrev pub There : Bus → Type 0
There b = IsOn 1 b

-- a connection changes that isn't the supervisory controller's
pub not-one : (a : Point) (k : ℕ) (t : Bool) → Linked a.state.bus a.state.host a.pending
    → IsLive k t a.state.bus → k ≢ 1
not-one a k t links live e =
    module-no-svc (sym live.peer ∙ (links.svc live.connection live.live (live.number ∙ e)).peer)

-- what an act closes or gives up isn't its either
pending-two : (a : Point) (k : ℕ) (rest : List Act) → LinkedAt a → a.pending ≡ Act.Leave k ∷ rest
    → k ≢ 1
pending-two a k rest links is e =
    let two = (subst (ArePending a.state.host) is links.pending).0.0 in omega (arith, two, e)

-- it doesn't go
pub svc-stays : (m : Moment) (a : Point) (x : Change m a) → LinkedAt a
    → left_by (bus_change x) ≡ Some 1 → ⊥
svc-stays m a (acts_left k rest free untouched is) links e =
    pending-two a k rest links is (same-some k 1 e)
svc-stays m a _ links e = none-some e

-- and none that is made has its number
pub svc-new : (m : Moment) (a : Point) (x : Change m a) → LinkedAt a → (c : Connection)
    → made_by (bus_change x) a.state.bus ≡ Some c → c.number ≢ 1
svc-new m a x links c e one = let low = links.made in
    omega (arith, low, one, made-number (bus_change x) a.state.bus c e)

pub there-kept : (m : Moment) (a : Point) (x : Change m a) → LinkedAt a → There a.state.bus
    → There (changed m a x).state.bus
there-kept m a x links h =
    by-bus There x (on-after (bus_change x) a.state.bus 1 (uncut x) h)
  where
    uncut : (x : Change m a) → cuts_of (bus_change x) ≡ Some 1 → ⊥
    uncut (unwires k free before live) e = not-one a k true links live (same-some k 1 e)
    uncut (acts_left k rest free untouched is) e =
        pending-two a k rest links is (same-some k 1 e)
    uncut _ e = none-some e
