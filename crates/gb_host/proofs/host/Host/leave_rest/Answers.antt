-- Where the interface is gone already, it has no connections left.
use Rattle.std.proofs.Common.{[], ◌++◌, ap, sym, ◌∙◌, cond, append-nil}
use Rattle.gb_host.proofs.Modules.{rest-links}
use Rattle.gb_host.specs.Stands.{host_of}
use Rattle.gb_host.specs.Turning.{spelled}
use Rattle.gb_host.proofs.host.Host.leave_rest.Goals as goal
use Rattle.gb_machine.specs.HostTurns.{links_left, links_of}

pub returns-then-is_among : goal.returns-then-is_among
returns-then-is_among c =
    let h = host_of c.args.self.now in
    let links = links_of c.args.intf h in
    sym (ap (λ ls. c.args.acts.now ++ spelled (links_left ls))
    (rest-links c.args.intf c.args.gone.now h
    ∙ ap (λ b. cond b [] links) (sym c.is_among.ensures ∙ c.if-is_among.true))
    ∙ append-nil c.args.acts.now)

pub returns : goal.returns
returns c =
    let h = host_of c.args.self.now in
    let links = links_of c.args.intf h in
    c.in_ok-leave_all.ensures
    ∙ sym (ap (λ ls. c.args.acts.now ++ spelled (links_left ls))
    (rest-links c.args.intf c.args.gone.now h
    ∙ ap (λ b. cond b [] links) (sym c.is_among.ensures ∙ c.if-is_among.false)))
