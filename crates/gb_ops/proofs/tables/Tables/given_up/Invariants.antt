-- The numbers found and the holders not looked at give all.
use Rattle.std.proofs.Common.{◌≡◌, [], drop}
use Rattle.gb_ops.specs.Listed.{late_among}
use Rattle.gb_ops.proofs.tables.Tables.given_up.Given as goal

abbrev pub invariant-loop-holder : goal.invariant-loop-holder
invariant-loop-holder l =
    late_among l.found.keys (drop l.holder-index l.holder-items) ≡ late_among [] l.self.holders
