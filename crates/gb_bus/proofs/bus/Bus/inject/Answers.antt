-- Injected bytes wait as the machine's do.
use Rattle.gb_bus.proofs.Injects.{injects}
use Rattle.gb_bus.proofs.bus.Bus.inject.Goals as goal

pub returns : goal.returns
returns c = record {
  step = λ around b s live.
      injects around c.args.self.now _ b c.args.k c.args.bytes.now
      (cc (c.in_ok-push.ensures, c.soil.ensures, c.in_ok-item.ensures)) s live;
}
