-- The interfaces are left, and then gone.
use Rattle.std.proofs.Common.{◌++◌, ap, ◌∙◌}
use Rattle.gb_host.proofs.Modules.{removed-turns}
use Rattle.gb_host.specs.Stands.{host_of}
use Rattle.gb_host.specs.Turning.{spelled}
use Rattle.gb_host.proofs.host.Host.removed.Goals as goal
use Rattle.gb_machine.specs.Host.{interfaces_of}
use Rattle.gb_machine.specs.HostTurns.{host_removed, one_by_one}

pub returns : goal.returns
returns c =
    let h = host_of c.args.self.now in
    removed-turns (interfaces_of c.args.primary h) c.args.self.now c.forget.new.self c.args.acts.now
    c.leave_module.new.acts
    (c.forget.ensures ∙ ap (λ is. (one_by_one host_removed is h).host)
    (c.items-2.ensures ∙ c.in_ok-intfs.ensures))
    (c.in_ok-leave_module.ensures ∙ ap (λ is. c.args.acts.now ++ spelled (one_by_one host_removed is h).acts)
    (c.items.ensures ∙ c.in_ok-intfs.ensures))
