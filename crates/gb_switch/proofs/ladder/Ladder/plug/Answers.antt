-- A plugged interface stands in front, whatever was there.
use Rattle.std.proofs.Common.{refl}
use Rattle.gb_switch.proofs.Ladders.{is_none_from, plugged, plugged_first}
use Rattle.gb_switch.proofs.ladder.Ladder.plug.Goals as goal

pub returns : goal.returns
returns c = record {
  step = λ ports s free.
      plugged_first c.args.self.now c.put.new.self c.args.intf _ ports s c.requires
      (is_none_from _ free) c.put.ensures (refl, refl);
  again = λ ports s.
      plugged c.args.self.now c.put.new.self c.args.intf _ ports s c.requires c.put.ensures
      (refl, refl);
}
