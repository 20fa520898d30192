-- Whether an identifier is left.
use Rattle.std.proofs.Common.{ap, is_none, ◌∙◌}
use Rattle.gb_bus.proofs.LookedUp.{next-is}
use Rattle.gb_bus.proofs.bus.Bus.spent.Goals as goal

pub returns : goal.returns
returns c = λ around b s.
    c.is_spent.ensures ∙ ap is_none (next-is c.args.self.now b c.args.k c.args.side s.shows)
