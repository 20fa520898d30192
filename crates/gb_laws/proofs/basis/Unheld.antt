-- What comes toward the supervisory controller is never held.
use Rattle.std.proofs.Common.{List, subst, sym, ℕ, ⊎_elim, ◌∙◌}
use Rattle.std.specs.Prelude.{◌==◌}
use Rattle.gb_machine.specs.{Members.IsIn, Runs.Moment, State.State}
use Rattle.gb_invariants.proofs.{Lists.in-without, Selves.module-no-svc}
use Rattle.gb_laws.proofs.points.Points.{AreMarked, Change, acts_asked, changed, others, unwires}
use Rattle.gb_laws.proofs.{points.Awaited.awaited-rest, links.LinkKept.LinkedAt}
use Rattle.gb_laws.proofs.{points.PointParts.Point}

-- the supervisory controller's connection has no hold mark
abbrev pub IsUnheld : State → Type 0
IsUnheld s = IsIn 1 s.holds → ⊥

pub unheld-kept : (m : Moment) (a : Point) (x : Change m a) → LinkedAt a → IsUnheld a.state
    → IsUnheld (changed m a x).state
unheld-kept m a (unwires k free before live) links h i =
    h (in-without (λ j. j == k) a.state.holds 1 i).0
unheld-kept m a (acts_asked q n rest is) links h i =
    h (subst (λ (ks : List ℕ). IsIn 1 ks) (awaited-rest q.purpose n).holds i)
unheld-kept m a (others booted marks ports modules same) links h i =
    by (⊎_elim (λ s. s.3) (λ of. of.2) same.0)
  where
    by : AreMarked a.state marks → ⊥
    by marked = ⊎_elim h (λ w. module-no-svc (sym w.5 ∙ (links.svc w.0 w.3 w.4).peer)) (marked 1 i)
unheld-kept m a x links h i = h i
