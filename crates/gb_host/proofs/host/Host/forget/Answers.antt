-- One interface is gone, and then those behind it.
use Rattle.std.proofs.Common.{◌∙◌}
use Rattle.gb_host.proofs.Modules.{one-gone}
use Rattle.gb_host.specs.Stands.{host_of}
use Rattle.gb_host.proofs.host.Host.forget.Goals as goal

pub loop-intf-preserved : goal.loop-intf-preserved
loop-intf-preserved c =
    one-gone c.args.intfs.now c.loop-intf.intf-index c.loop-intf-test.true
    (host_of c.loop-intf.self) _ _ _ c.remove.ensures c.remove_all.ensures.left
    c.remove_all.ensures.ids
    ∙ c.loop-intf.invariant
