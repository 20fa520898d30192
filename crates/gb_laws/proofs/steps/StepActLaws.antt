-- Laws of points that are kept by what the application processor does.
use Rattle.gb_machine.specs.Runs.{Moment}
use Rattle.gb_machine.specs.Bus.{Connection}
use Rattle.gb_machine.specs.Sending.{Draft}
use Rattle.gb_laws.proofs.points.Points.{Change, IsAskedBy, Law, acts_asked, acts_failed, acts_left}
use Rattle.gb_laws.proofs.points.Points.{acts_made, acts_shut, acts_told, asks, by_far, by_host}
use Rattle.gb_laws.proofs.points.Points.{by_loader, changed, tells, turns}
use Rattle.gb_laws.proofs.points.PointParts.{Point}

-- another than a firmware device asks
abbrev pub IsNoLoader : {m : Moment} {a : Point} {c : Connection} {d : Draft} → IsAskedBy m a c d
    → Type 0
IsNoLoader (by_host q rest is draft none) = Unit {0}
IsNoLoader (by_far who on unloaded) = Unit {0}
IsNoLoader (by_loader x going who on) = ⊥

-- a change is one of those that the acts of the application processor are made of
abbrev pub IsActing : (m : Moment) (a : Point) → Change m a → Type 0
IsActing m a (tells e quiet) = Unit {0}
IsActing m a (asks d c label free live drawn who) = IsNoLoader who
IsActing m a (turns e free untouched none cause) = Unit {0}
IsActing m a (acts_told e rest is quiet) = Unit {0}
IsActing m a (acts_shut k rest free is cause) = Unit {0}
IsActing m a (acts_left k rest free untouched is) = Unit {0}
IsActing m a (acts_made w q rest free is) = Unit {0}
IsActing m a (acts_asked q n rest is) = Unit {0}
IsActing m a (acts_failed q rest is quiet) = Unit {0}
IsActing m a _ = ⊥

-- A law of points is kept by what the application processor does.
pub record ActLaw (m : Moment) : Type 1 where
  pub holds : Point → Type 0
  pub kept : (a : Point) (x : Change m a) → IsActing m a x → holds a → holds (changed m a x)

-- a law that each change keeps
abbrev pub acting : (m : Moment) → Law m → ActLaw m
acting m law = record { holds = law.holds; kept = λ a x is. law.kept a x }
