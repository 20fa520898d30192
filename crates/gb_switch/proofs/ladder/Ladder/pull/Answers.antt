-- A pulled interface is gone.
use Rattle.gb_switch.proofs.Ladders.{pulled}
use Rattle.gb_switch.proofs.ladder.Ladder.pull.Goals as goal

pub returns : goal.returns
returns c = record {
  step = λ ports s. pulled c.args.self.now c.put.new.self c.args.intf ports s c.put.ensures;
}
