-- The interface is told to be removed after its connections.
use Rattle.gb_host.proofs.Fronts.{spelled-after}
use Rattle.gb_host.proofs.host.Host.leave_interface.Goals as goal

pub returns : goal.returns
returns c =
    spelled-after _ _ c.args.acts.now c.leave_rest.new.acts c.tell_interface.new.acts
    c.in_ok-leave_rest.ensures c.in_ok-tell_interface.ensures
