-- Connections have all CPorts from 1 to those that are tried.
use Rattle.gb_host.specs.Counts.{AreTaken}
use Rattle.gb_host.proofs.cports.Cports.unused.Given as goal

abbrev pub invariant-loop-ap : goal.invariant-loop-ap
invariant-loop-ap l =
    AreTaken l.fn.self.counts.items l.fn.self.full.items l.from
    → AreTaken l.self.counts.items l.self.full.items l.ap
