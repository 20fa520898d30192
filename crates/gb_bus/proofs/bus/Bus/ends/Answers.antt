-- The ends of a connection.
use Rattle.std.proofs.Common.{◌∙◌}
use Rattle.gb_bus.proofs.LookedUp.{ends-is}
use Rattle.gb_bus.proofs.bus.Bus.ends.Goals as goal

pub returns : goal.returns
returns c = λ around b s.
    c.ends.ensures ∙ ends-is c.args.self.now b c.args.k s.shows.connections
