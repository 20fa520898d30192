-- A response goes by its number on a clean connection, and else by its identifier.
use Rattle.gb_bus.proofs.Opening.{replied_clean, replied_unclean}
use Rattle.gb_bus.specs.Parts.{is_unclean}
use Rattle.gb_bus.proofs.bus.Bus.response.Goals as goal

pub returns-then-unclean-clause-step : goal.returns-then-unclean-clause-step
returns-then-unclean-clause-step c =
    replied_unclean c.args.self.now c.by_label.new.self c.args.k c.args.side c.args.number
    c.args.label c.args.code c.args.payload c.responded-unclean.new.self
    (is_unclean c.args.k c.args.self.now.connections) c.responded-unclean.result.0
    c.responded-unclean.result.1 c.by_label.result c.if-unclean.true
    c.responded-unclean.ensures.0 c.responded-unclean.ensures.1 c.by_label.ensures.step

pub returns-else-unclean-clause-step : goal.returns-else-unclean-clause-step
returns-else-unclean-clause-step c =
    replied_clean c.args.self.now c.by_number.new.self c.args.k c.args.side c.args.number
    c.args.label c.args.code c.args.payload c.responded-unclean.new.self
    (is_unclean c.args.k c.args.self.now.connections) c.responded-unclean.result.0
    c.responded-unclean.result.1 c.by_number.result c.if-unclean.false
    c.responded-unclean.ensures.0 c.responded-unclean.ensures.1 c.by_number.ensures.step
