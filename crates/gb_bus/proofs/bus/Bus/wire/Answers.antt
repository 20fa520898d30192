-- The connection is wired in the machine's state.
use Rattle.std.proofs.Common.{ap}
use Rattle.gb_bus.proofs.Wires.{wires}
use Rattle.gb_bus.proofs.bus.Bus.wire.Goals as goal

pub returns : goal.returns
returns c = record {
  step = λ around b s. wires around c.args.self.now _ b c.args.k s
      (ap (λ cs. record c.args.self.now { connections = cs }) c.wire.ensures);
}
