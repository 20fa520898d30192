-- The close sequence begins, and the ids of the connection are free.
use Rattle.std.proofs.Common.{sym, ◌∙◌, subst}
use Rattle.gb_base.specs.declared.steps.SequenceStep.TheVariants as steps
use Rattle.gb_host.proofs.Given.{disconnected}
use Rattle.gb_host.specs.Stands.{host_of}
use Rattle.gb_host.specs.Turning.{Turns}
use Rattle.gb_host.proofs.host.Host.disconnect.Goals as goal
use Rattle.gb_machine.specs.HostTurns.{disconnects}
use Rattle.gb_machine.specs.SequenceSteps.{purpose}

pub returns : goal.returns
returns c =
    let p = purpose c.args.intf c.args.cport steps.TellDisconnecting in
    let h = host_of c.args.self.now in
    let new = record c.ask_in_state.new.self { images = c.forget.new.self } in
    subst (λ o. Turns (disconnects o p h) c.args.acts.now new c.ask_in_state.new.acts)
    (sym c.in-Some.is ∙ c.at.ensures)
    (disconnected c.args.intf c.args.cport c.in-Some.link h c.args.acts.now c.begin_close.new.acts
    c.ask_in_state.new.acts c.ask_in_state.new.self c.forget.new.self c.in_ok-begin_close.ensures
    c.in_ok-ask_in_state.ensures c.forget.ensures)
