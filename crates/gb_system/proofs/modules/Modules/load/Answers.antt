-- The module at the place begins.
use Rattle.gb_system.proofs.Plugged.{is-placed, part_of}
use Rattle.gb_system.proofs.PluggedLoads.{none-begins, one-begins, one-free}
use Rattle.gb_system.proofs.modules.Modules.load.Goals as goal

pub unreachable-requires : goal.unreachable-requires
unreachable-requires c =
    none-begins c.args.intf c.args.cport c.args.self.now c.place.result c.place.ensures.first
    c.in_default.is c.requires

pub load-requires : goal.load-requires
load-requires c =
    let one = is-placed c.args.intf c.args.self.now c.self.inside.plugged.items c.place.result
    c.in-Some.i c.index_mut-plugged.result.now
    (part_of c.plugged.inside.intf c.plugged.inside.primary c.plugged.inside.count
    c.plugged.inside.body)
    c.place.ensures.first c.in-Some.is c.self.view_is c.plugged.view_is
    c.index_mut-plugged.ensures.value in
    one-free c.args.intf c.args.cport one c.requires

pub returns : goal.returns
returns c =
    let one = is-placed c.args.intf c.args.self.now c.self.inside.plugged.items c.place.result
    c.in-Some.i c.index_mut-plugged.result.now
    (part_of c.plugged.inside.intf c.plugged.inside.primary c.plugged.inside.count
    c.plugged.inside.body)
    c.place.ensures.first c.in-Some.is c.self.view_is c.plugged.view_is
    c.index_mut-plugged.ensures.value in
    one-begins c.args.intf c.args.cport c.args.tag.now c.load.new.self c.in_ok-own.own one
    c.in_ok-own.ensures.ask c.load.ensures.module
