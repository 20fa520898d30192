-- The connections that are wired to an interface.
use Rattle.std.proofs.Common.{◌∙◌}
use Rattle.gb_bus.proofs.LookedUp.{wired_numbers-is}
use Rattle.gb_bus.proofs.bus.Bus.wired_to.Goals as goal

pub returns : goal.returns
returns c = λ around b s.
    c.in_ok-numbers.ensures
    ∙ wired_numbers-is b.requests c.args.intf c.args.self.now.connections b.connections
    s.shows.connections
