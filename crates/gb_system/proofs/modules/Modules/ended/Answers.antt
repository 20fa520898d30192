-- The module at the place goes on.
use Rattle.gb_system.proofs.Plugged.{is-placed, part_of}
use Rattle.gb_system.proofs.PluggedLoads.{none-ends, one-ends}
use Rattle.gb_system.proofs.modules.Modules.ended.Goals as goal

pub returns-in_default : goal.returns-in_default
returns-in_default c =
    none-ends c.args.intf c.args.cport c.args.how.now c.args.can c.args.self.now c.place.result
    c.place.ensures.first c.in_default.is

pub returns : goal.returns
returns c =
    let one = is-placed c.args.intf c.args.self.now c.self.inside.plugged.items c.place.result
    c.in-Some.i c.index_mut-plugged.result.now
    (part_of c.plugged.inside.intf c.plugged.inside.primary c.plugged.inside.count
    c.plugged.inside.body)
    c.place.ensures.first c.in-Some.is c.self.view_is c.plugged.view_is
    c.index_mut-plugged.ensures.value in
    one-ends c.args.intf c.args.cport c.args.how.now c.args.can c.ended.new.body c.in_ok-next.next
    one c.in_ok-next.ensures
