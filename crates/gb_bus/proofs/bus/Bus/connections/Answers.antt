-- What is told of the connections.
use Rattle.std.proofs.Common.{◌∙◌}
use Rattle.gb_bus.proofs.Overviews.{known-is}
use Rattle.gb_bus.proofs.bus.Bus.connections.Goals as goal

pub returns : goal.returns
returns c = λ around b s. c.in_ok-known.ensures ∙ known-is around c.args.self.now b s
