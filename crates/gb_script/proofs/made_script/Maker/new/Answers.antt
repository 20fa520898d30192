-- Nothing is drawn yet.
use Rattle.gb_script.proofs.MadeSteps.{none-drawn}
use Rattle.gb_script.proofs.made_script.Maker.new.Goals as goal

pub invariant_of-result : goal.invariant_of-result
invariant_of-result c = none-drawn c.args.seed c.from.result c.from.ensures c.requires
