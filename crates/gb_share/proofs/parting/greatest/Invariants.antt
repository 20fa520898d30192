-- Lines of greater requesters are among those that are left.
use Rattle.std.proofs.Common.{◌≡◌, ◌<◌, ℕ, drop}
use Rattle.gb_share.specs.Picks.{lines_by}
use Rattle.gb_share.proofs.parting.greatest.Given as goal

abbrev pub invariant-loop-line : goal.invariant-loop-line
invariant-loop-line l =
    (r : ℕ) → l.greatest < r → lines_by r (drop l.line-index l.asked) ≡ lines_by r l.fn.asked
