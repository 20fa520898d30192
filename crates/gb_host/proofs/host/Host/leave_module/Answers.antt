-- One interface more is left.
use Rattle.std.proofs.Common.{◌++◌, ap, get_or, sym, ◌∙◌, take}
use Rattle.std.proofs.lemmas.List.{take_more}
use Rattle.gb_host.proofs.Modules.{left-more}
use Rattle.gb_host.specs.Stands.{host_of}
use Rattle.gb_host.specs.Turning.{spelled}
use Rattle.gb_host.proofs.host.Host.leave_module.Goals as goal
use Rattle.gb_machine.specs.HostTurns.{host_removed, one_by_one}

pub loop-i-preserved : goal.loop-i-preserved
loop-i-preserved c =
    let h = host_of c.args.self.now in
    let is = c.args.intfs.now in
    let i = get_or is c.loop-i.i 0 in
    left-more (take c.loop-i.i is) i h c.args.acts.now c.loop-i.acts
    c.leave_interface.new.acts
    c.loop-i.invariant
    (c.in_ok-leave_interface.ensures
    ∙ ap (λ js. c.loop-i.acts ++ spelled (host_removed i (one_by_one host_removed js h).host).acts)
    c.split_at.ensures.front)
    ∙ ap (λ js. c.args.acts.now ++ spelled (one_by_one host_removed js h).acts)
    (sym (take_more is c.loop-i.i 0 c.loop-i-test.true))
