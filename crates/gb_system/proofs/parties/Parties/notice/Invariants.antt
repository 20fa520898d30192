-- The acts that are left, and what was told so far.
use Rattle.std.proofs.Common.{[], length, reverse}
use Rattle.gb_machine.specs.HostActs.{notices}
use Rattle.gb_machine.specs.State.{State}
use Rattle.gb_system.proofs.Notices.{Acting}
use Rattle.gb_laws.specs.Possible.{MayTurn}
use Rattle.gb_system.specs.Stands.{PartsStand}
use Rattle.gb_system.proofs.parties.Parties.notice.Given as goal

abbrev pub invariant-loop-act : goal.invariant-loop-act
invariant-loop-act l = (s : State) → PartsStand [] l.fn.self s → MayTurn l.fn.event s
    → Acting l.self (notices l.fn.event) l.skips (reverse l.acts) s l.fn.told l.told

abbrev pub decreases-loop-act : goal.decreases-loop-act
decreases-loop-act l = length l.acts
