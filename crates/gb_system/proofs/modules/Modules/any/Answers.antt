-- Nothing is plugged at one more.
use Rattle.std.proofs.Common.{◌+◌, ◌∙◌}
use Rattle.gb_machine.specs.Modules.{is_plugged, module_at}
use Rattle.gb_system.proofs.Plugged.{any-next, there-is}
use Rattle.gb_system.proofs.modules.Modules.any.Goals as goal

pub loop-i-preserved : goal.loop-i-preserved
loop-i-preserved c =
    any-next (λ j. is_plugged j c.args.self.now) c.args.intf c.args.count c.loop-i.i
    c.loop-i-test.true
    (there-is c.at.result (module_at (c.args.intf + c.loop-i.i) c.args.self.now)
    c.is_some.result c.at.ensures c.is_some.ensures ∙ c.if-is_some.false) c.loop-i.invariant
