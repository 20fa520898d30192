-- The connection is there no more in the machine's state.
use Rattle.std.proofs.Common.{ap}
use Rattle.gb_bus.proofs.Wires.{detaches}
use Rattle.gb_bus.proofs.bus.Bus.detach.Goals as goal

pub returns : goal.returns
returns c = record {
  step = λ around b s. detaches around c.args.self.now _ b c.args.k s
      (ap (λ cs. record c.args.self.now { connections = cs }) c.remove.ensures);
}
