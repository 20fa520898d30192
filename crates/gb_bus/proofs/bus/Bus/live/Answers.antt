-- The connection that joins two ends.
use Rattle.std.proofs.Common.{◌∙◌}
use Rattle.gb_bus.proofs.LookedUp.{lives}
use Rattle.gb_bus.proofs.bus.Bus.live.Goals as goal

pub returns : goal.returns
returns c = λ around b s. c.joining.ensures
    ∙ lives around c.args.self.now b c.args.ap c.args.intf c.args.cport s
