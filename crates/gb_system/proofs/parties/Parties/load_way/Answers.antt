-- The connection is the machine's, where an identifier is left.
use Rattle.std.proofs.Common.{[], ◌∙◌}
use Rattle.gb_system.proofs.LoadLines.{way-free, way-spent, way-unwired}
use Rattle.gb_system.specs.Stands.{around_bus}
use Rattle.gb_system.proofs.parties.Parties.load_way.Goals as goal

pub returns-in_err-connection : goal.returns-in_err-connection
returns-in_err-connection c = λ s st.
    c.from_residual.ensures
    ∙ way-unwired s c.args.intf c.args.cport c.named.result
    (c.named.ensures (around_bus [] s) s.bus st.bus) c.in_err-connection.was

pub returns-then-spent : goal.returns-then-spent
returns-then-spent c = λ s st.
    way-spent s c.args.intf c.args.cport c.in_ok-connection.connection c.named.result c.spent.result
    (c.named.ensures (around_bus [] s) s.bus st.bus) c.in_ok-connection.was
    (c.spent.ensures (around_bus [] s) s.bus st.bus) c.if-spent.true

pub returns : goal.returns
returns c = λ s st.
    way-free s c.args.intf c.args.cport c.in_ok-connection.connection c.named.result c.spent.result
    (c.named.ensures (around_bus [] s) s.bus st.bus) c.in_ok-connection.was
    (c.spent.ensures (around_bus [] s) s.bus st.bus) c.if-spent.false
