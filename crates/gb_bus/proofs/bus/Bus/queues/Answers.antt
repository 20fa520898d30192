-- The ends at which something waits.
use Rattle.std.proofs.Common.{◌∙◌}
use Rattle.gb_bus.proofs.Overviews.{waiting-is}
use Rattle.gb_bus.proofs.bus.Bus.queues.Goals as goal

pub returns : goal.returns
returns c = λ around b s. c.in_ok-waiting.ensures ∙ waiting-is around c.args.self.now b s
