-- The connection is the machine's, or the first refusal is.
use Rattle.std.proofs.Common.{[], Err, sym, ap, ◌∙◌, subst}
use Rattle.std.proofs.lemmas.Result.{err_from_is_err_and}
use Rattle.gb_system.proofs.LoadLines.{line-free, line-refused, line-spent, line-unwired}
use Rattle.gb_system.specs.Loading.{LoadsOver}
use Rattle.gb_system.specs.Stands.{around_bus}
use Rattle.gb_system.proofs.parties.Parties.load_line.Goals as goal

pub returns-in_default-clause-line : goal.returns-in_default-clause-line
returns-in_default-clause-line c = λ s st.
    line-unwired c.args.intf c.args.cport c.may_load-may.result c.named.result
    c.why_unwired.result st c.may_load-may.ensures
    (c.named.ensures (around_bus [] s) s.bus st.bus) c.in_default.is c.why_unwired.ensures

pub returns-in_err-may-clause-line : goal.returns-in_err-may-clause-line
returns-in_err-may-clause-line c = λ s st.
    let p = err_from_is_err_and c.from_residual.result c.from_residual.ensures.1 in
    subst (LoadsOver s c.args.intf c.args.cport) (sym (p.1 ∙ ap Err p.2))
    (line-refused c.args.intf c.args.cport c.in-Some.connection c.may_load-may.result
    c.named.result c.in_err-may.field-0.0 st c.may_load-may.ensures
    (c.named.ensures (around_bus [] s) s.bus st.bus) c.in-Some.is c.in_err-may.was)

pub returns-then-spent-clause-line : goal.returns-then-spent-clause-line
returns-then-spent-clause-line c = λ s st.
    line-spent c.args.intf c.args.cport c.in-Some.connection c.may_load-may.result
    c.named.result _ st c.may_load-may.ensures
    (c.named.ensures (around_bus [] s) s.bus st.bus) c.in-Some.is c.in_ok-may.was
    (sym (c.spent.ensures (around_bus [] s) s.bus st.bus) ∙ c.if-spent.true)

pub returns-clause-line : goal.returns-clause-line
returns-clause-line c = λ s st.
    line-free c.args.intf c.args.cport c.in-Some.connection c.may_load-may.result
    c.named.result _ st c.may_load-may.ensures
    (c.named.ensures (around_bus [] s) s.bus st.bus) c.in-Some.is c.in_ok-may.was
    (sym (c.spent.ensures (around_bus [] s) s.bus st.bus) ∙ c.if-spent.false)
