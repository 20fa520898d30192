-- The request has one more name.
use Rattle.gb_bus.proofs.Named.{keeps}
use Rattle.gb_bus.proofs.bus.Bus.keep.Goals as goal

pub returns : goal.returns
returns c = λ around b s. keeps around c.args.self.now c.keep.new.self b c.args.n s c.keep.ensures
