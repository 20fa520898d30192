-- Which interfaces are known stays within a step, each with its module, but for those whose
-- insertion is handled.
use Rattle.std.proofs.Common.{inr, subst, ℕ, ⊎_elim, ◌⊎◌}
use Rattle.gb_base.specs.declared.host_event.HostEvent.TheVariants as host_event
use Rattle.gb_base.specs.declared.interface.Interface.{Interface}
use Rattle.gb_machine.specs.{Lists.span, Members.IsIn, Runs.Moment}
use Rattle.gb_laws.proofs.marks.MarkHosts.{IsNamed, NamesFewer, awaited-named, served-named}
use Rattle.gb_laws.proofs.marks.MarkHosts.{turn-named, unsent-named}
use Rattle.gb_laws.proofs.points.PointParts.{IsCaused, IsNoticed, Point}
use Rattle.gb_laws.proofs.points.Points.{Change, acts_asked, acts_failed, changed, serves, turns}

-- at a moment an interface is inserted, with the others of its module
pub record IsInserted (m : Moment) (i p : ℕ) : Type 0 where
  pub count : ℕ
  pub noticed : IsNoticed m (host_event.Inserted p count)
  pub within : IsIn i (span p count)

-- an interface of a module was known before a moment, or its insertion is handled then
abbrev pub WasKnown : Moment → ℕ → ℕ → Type 0
WasKnown m i p = IsNamed i p m.before.host ⊎ IsInserted m i p

-- each interface that is known was known, or is being inserted
abbrev pub KnownAt : Moment → Point → Type 0
KnownAt m a = (x : Interface) → IsIn x a.state.host.interfaces → WasKnown m x.intf x.primary

was-named : (m : Moment) (a : Point) → KnownAt m a → (i p : ℕ) → IsNamed i p a.state.host
    → WasKnown m i p
was-named m a h i p n = subst (WasKnown m i) n.primary
    (subst (λ j. WasKnown m j n.interface.primary) n.intf (h n.interface n.known))

-- where a host knows no more than another
known-onto : (m : Moment) (a after : Point) → NamesFewer a.state.host after.state.host
    → KnownAt m a → KnownAt m after
known-onto m a after fewer h x i = was-named m a h x.intf x.primary (fewer x i)

pub known-kept : (m : Moment) (a : Point) (x : Change m a) → KnownAt m a → KnownAt m (changed m a x)
known-kept m a (turns x free untouched none cause) h = λ y i. ⊎_elim
    (λ n. was-named m a h y.intf y.primary n)
    (λ e. let c = subst (λ z. IsCaused m z a.state.host) e cause in
    inr (record { count = c.count; noticed = c.noticed; within = c.within }))
    (turn-named x a.state.host y i)
known-kept m a (acts_asked q n rest is) h =
    known-onto m a (changed m a (acts_asked q n rest is)) (awaited-named q.purpose n a.state) h
known-kept m a (acts_failed q rest is quiet) h =
    known-onto m a (changed m a (acts_failed q rest is quiet))
    (unsent-named q.purpose a.state.host) h
known-kept m a (serves k kind payload none) h =
    known-onto m a (changed m a (serves k kind payload none))
    (served-named k kind payload a.state.host) h
known-kept m a _ h = h
