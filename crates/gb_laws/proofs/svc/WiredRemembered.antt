-- What is wired is remembered to have been.
use Rattle.std.proofs.Common.{List, Some, ap, inl, subst, sym, true, ℕ, [], ◌∷◌, ◌≡◌, ◌≢◌}
use Rattle.gb_base.specs.declared.entry.Entry.{Entry}
use Rattle.gb_machine.specs.{Bus.Connection, Members.IsIn, Runs.Moment, State.State}
use Rattle.gb_machine.specs.{State.first_state}
use Rattle.gb_invariants.proofs.Lists.{each-from, in-behind, in-front}
use Rattle.gb_invariants.proofs.Wires.{WiredAreSo, so-after, wires_of}
use Rattle.gb_invariants.proofs.Awaiting.{same-some}
use Rattle.gb_laws.proofs.basis.Basics.{Based, basis, basis-first, rested}
use Rattle.gb_laws.proofs.points.Points.{Change, Law, acts_asked, changed, upon, wires}
use Rattle.gb_laws.proofs.runs.Runs.{HoldsByMoments, throughout, weaker}
use Rattle.gb_laws.proofs.{points.ChangeBuses.bus_change, points.ChangeBuses.by-bus}
use Rattle.gb_laws.proofs.{links.LinkLaw.is-svc}
use Rattle.gb_laws.proofs.{points.PointParts.Point, creations.Remembering.waiting-wired}
use Rattle.gb_laws.proofs.{steps.Steps.over-step}
use Rattle.gb_laws.specs.OwnWires.{WiredIsRemembered}

abbrev pub AreRemembered : List Connection → List ℕ → Type 0
AreRemembered cs wired =
    (c : Connection) → IsIn c cs → c.wired ≡ true → c.number ≢ 1 → IsIn c.number wired

-- ---- each single change

-- what was wired is remembered still
wired-more : (m : Moment) (a : Point) (x : Change m a) (n : ℕ) → IsIn n a.state.past.wired
    → IsIn n (changed m a x).state.past.wired
wired-more m a (wires k free untouched live powered) n i =
    in-front n a.state.past.wired (k ∷ []) i
wired-more m a (acts_asked q k rest is) n i =
    subst (λ ks. IsIn n ks) (sym (waiting-wired q.purpose k a.state)) i
wired-more m a _ n i = i

-- What is so of each connection that is wired, by its number, stays so where it is so of one that
-- becomes wired.
pub so-kept : (So : ℕ → Type 0) (m : Moment) (a : Point) (x : Change m a)
    → ((k : ℕ) → wires_of (bus_change x) ≡ Some k → So k) → WiredAreSo So a.state.bus.connections
    → WiredAreSo So (changed m a x).state.bus.connections
so-kept So m a x new h = by-bus (λ b. WiredAreSo So b.connections) x
    (so-after So (bus_change x) a.state.bus new h)

-- and what a change wires is
wired-new : (m : Moment) (a : Point) (x : Change m a) (n : ℕ) → wires_of (bus_change x) ≡ Some n
    → IsIn n (changed m a x).state.past.wired
wired-new m a (wires k free untouched live powered) n e =
    in-behind n a.state.past.wired (k ∷ []) (inl (sym (same-some k n e)))
wired-new m a _ n e = absurd cc

pub remembered-kept : (m : Moment) (a : Point) (x : Change m a)
    → AreRemembered a.state.bus.connections a.state.past.wired
    → AreRemembered (changed m a x).state.bus.connections (changed m a x).state.past.wired
remembered-kept m a x h =
    so-kept (λ n. n ≢ 1 → IsIn n (changed m a x).state.past.wired) m a x
    (λ k e other. wired-new m a x k e)
    (λ c live on other. wired-more m a x c.number (h c live on other))

-- ---- throughout

abbrev remembered_law : (m : Moment) → Law m
remembered_law m = upon (basis m)
    (λ a. AreRemembered a.state.bus.connections a.state.past.wired)
    (λ a x g h. remembered-kept m a x h)

abbrev RememberedTo : List Entry → State → Type 0
RememberedTo told s = Based told s × AreRemembered s.bus.connections s.past.wired

-- the supervisory controller's connection alone is there first
pub remembered-first : AreRemembered first_state.bus.connections first_state.past.wired
remembered-first = λ c live on other. absurd (other
    (ap (λ (x : Connection). x.number) (is-svc c live)))

-- What is wired is remembered to have been.
pub wired-remembered : HoldsByMoments WiredIsRemembered
wired-remembered = weaker RememberedTo WiredIsRemembered
    (λ told s h. each-from (λ c. c.wired ≡ true → c.number ≢ 1 → IsIn c.number s.past.wired)
    s.bus.connections (λ c live. h.1 c live))
    (throughout RememberedTo (basis-first, remembered-first) (λ m one h.
    let r = over-step m (remembered_law m) one h in (rested _ _ r.0 r.1.0, r.1.1)))
