-- A response that goes by its identifier is that to the request which has it.
use Rattle.gb_bus.proofs.Opening.{labelled}
use Rattle.gb_bus.proofs.bus.Bus.labelled.Goals as goal

pub returns-clause-step : goal.returns-clause-step
returns-clause-step c =
    labelled c.args.self.now _ c.args.k c.args.side c.args.label c.args.code c.args.payload
    c.matched-matched.new.self c.matched-matched.result c.by_label.result c.matched-matched.ensures
    c.by_label.ensures.step
