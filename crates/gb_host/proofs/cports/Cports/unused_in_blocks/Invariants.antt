-- Connections have all CPorts from 1 to those that are tried.
use Rattle.std.proofs.Common.{◌≡◌, ◌*◌}
use Rattle.gb_host.specs.Counts.{AreTaken}
use Rattle.gb_host.proofs.cports.Cports.unused_in_blocks.Given as goal

abbrev pub invariant-loop-block : goal.invariant-loop-block
invariant-loop-block l =
    record {
      counts : l.self.counts.items ≡ l.fn.self.counts.items;
      taken : AreTaken l.fn.self.counts.items l.fn.self.full.items (l.first * 64)
          → AreTaken l.self.counts.items l.self.full.items (l.block * 64);
    }

abbrev pub invariant-loop-ap : goal.invariant-loop-ap
invariant-loop-ap l =
    AreTaken l.fn.self.counts.items l.fn.self.full.items (l.first * 64)
    → AreTaken l.self.counts.items l.self.full.items l.ap
