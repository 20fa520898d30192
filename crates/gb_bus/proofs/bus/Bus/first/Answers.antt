-- The first end at which something waits.
use Rattle.std.proofs.Common.{◌∙◌}
use Rattle.gb_bus.proofs.LookedUp.{firsts}
use Rattle.gb_bus.proofs.bus.Bus.first.Goals as goal

pub returns : goal.returns
returns c = λ around b s. c.first.ensures ∙ firsts around c.args.self.now b s
