-- The device id that was found is given.
use Rattle.std.proofs.Common.{Some, sym, ◌∙◌, subst}
use Rattle.gb_host.specs.Stands.{host_of}
use Rattle.gb_host.specs.Turning.{TurnsAfter}
use Rattle.gb_host.proofs.host.Host.begin_device.Goals as goal
use Rattle.gb_machine.specs.Sequences.{begins_device}
use Rattle.gb_machine.specs.SequenceSteps.{at_step}
use Rattle.gb_base.specs.declared.steps.SequenceStep.TheVariants as steps

pub returns : goal.returns
returns c =
    subst (λ o. TurnsAfter (begins_device o (at_step steps.GiveDevice c.args.purpose) (host_of
    c.args.self.now)) c.args.acts.now c.ask_changed.new.acts c.args.self.now c.ask_changed.new.self
    c.ask_changed.result) (sym c.in-Some.is ∙ c.free_device.ensures)
    (subst (λ p. TurnsAfter (begins_device (Some c.in-Some.device) p (host_of c.args.self.now))
    c.args.acts.now c.ask_changed.new.acts c.args.self.now c.ask_changed.new.self
    c.ask_changed.result) c.to_step-purpose.ensures c.ask_changed.ensures)
