-- What is told of a request is what the state says.
use Rattle.std.proofs.Common.{[], ap, ◌∙◌, option_map}
use Rattle.gb_system.proofs.RequestOutcomes.{told-nothing, told-outcome}
use Rattle.gb_system.specs.Stands.{around_bus}
use Rattle.gb_system.proofs.system.System.outcome.Goals as goal

pub returns-in_err-about : goal.returns-in_err-about
returns-in_err-about c = λ s st.
    ap (option_map _) c.from_residual.ensures
    ∙ told-nothing c.args.self.now.parties c.args.n s st.parts
    (c.in_err-about.ensures (around_bus [] s) s.bus st.parts.bus)

pub returns : goal.returns
returns c = λ s st.
    told-outcome c.args.n s c.in_ok-about.field-0 _
    (c.in_ok-about.ensures (around_bus [] s) s.bus st.parts.bus)
    (c.outcome.ensures (around_bus [] s) s.bus st.parts.bus)
