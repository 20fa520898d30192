-- No slot holds anything.
use Rattle.std.proofs.Common.{sym, ap, option_map}
use Rattle.gb_switch.proofs.Slots.{empty_slot}
use Rattle.gb_switch.specs.Levels.{port_for}
use Rattle.gb_switch.proofs.ladder.Ladder.new.Goals as goal

pub returns : goal.returns
returns c = record {
  each = λ i. sym (ap (option_map (port_for i)) (empty_slot 32 i));
  once = tt;
  within = tt;
}
