-- The request has one name less.
use Rattle.gb_bus.proofs.Named.{looses}
use Rattle.gb_bus.proofs.bus.Bus.loose.Goals as goal

pub returns : goal.returns
returns c = λ around b s.
    looses around c.args.self.now c.loose.new.self b c.args.n s c.loose.ensures
