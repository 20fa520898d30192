-- The loans of other connections stay.
use Rattle.std.proofs.Common.{◌≡◌, ◌==◌, length}
use Rattle.gb_formats.specs.Lists.{without}
use Rattle.gb_firmware.proofs.loans.Loans.forget.Given as goal

abbrev pub invariant-loop-id : goal.invariant-loop-id
invariant-loop-id l =
    without (λ x. x.connection == l.connection) l.self
    ≡ without (λ x. x.connection == l.connection) l.fn.self

abbrev pub decreases-loop-id : goal.decreases-loop-id
decreases-loop-id l = length l.self
