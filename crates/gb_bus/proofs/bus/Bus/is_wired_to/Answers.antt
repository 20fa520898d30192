-- A connection is wired to an interface where the machine's is.
use Rattle.std.proofs.Common.{◌∙◌}
use Rattle.gb_bus.proofs.LookedUp.{wired-to-is}
use Rattle.gb_bus.proofs.bus.Bus.is_wired_to.Goals as goal

pub returns : goal.returns
returns c = λ around b s.
    c.is_wired_to.ensures ∙ wired-to-is b.requests c.args.intf c.args.self.now.connections
    b.connections s.shows.connections
