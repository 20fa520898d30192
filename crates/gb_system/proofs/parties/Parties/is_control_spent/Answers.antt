-- No identifier is left on the connection to the Control CPort.
use Rattle.std.proofs.Common.{ap, ◌∙◌}
use Rattle.gb_base.specs.declared.end.Side.TheVariants as side
use Rattle.gb_machine.specs.Lists.{holds_of}
use Rattle.gb_machine.specs.Refusals.{has_no_label}
use Rattle.gb_system.specs.Stands.{around_bus}
use Rattle.gb_system.proofs.parties.Parties.is_control_spent.Goals as goal

pub returns-in-Some : goal.returns-in-Some
returns-in-Some c = λ loose s st.
    c.spent.ensures (around_bus loose s) s.bus st.bus
    ∙ ap (holds_of (λ k. has_no_label k side.Ap s)) (c.in-Some.ensures.step s.host st.host)
