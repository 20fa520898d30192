-- The wired connection at a CPort is the machine's.
use Rattle.std.proofs.Common.{[], not, sym, ap, ◌∙◌}
use Rattle.gb_system.proofs.HeldAsks.{wired-not, wired-nowhere, wired-there}
use Rattle.gb_system.proofs.Inserts.{plugged-is}
use Rattle.gb_system.specs.Stands.{around_bus}
use Rattle.gb_system.proofs.parties.Parties.wired_at.Goals as goal

pub returns-then-is_none : goal.returns-then-is_none
returns-then-is_none c = λ s st.
    wired-nowhere s c.args.intf c.args.cport
    (ap not (plugged-is c.args.self.now s c.args.intf c.at.result (not c.is_none.result) st
    c.at.ensures (sym c.is_none.ensures) ∙ ap not c.if-is_none.true))

pub returns-in-Some : goal.returns-in-Some
returns-in-Some c = λ s st.
    wired-there s c.args.intf c.args.cport c.in-Some.connection
    (ap not (plugged-is c.args.self.now s c.args.intf c.at.result (not c.is_none.result) st
    c.at.ensures (sym c.is_none.ensures) ∙ ap not c.if-is_none.false))
    (sym c.in-Some.is ∙ c.named.ensures (around_bus [] s) s.bus st.bus)

pub returns-in-None : goal.returns-in-None
returns-in-None c = λ s st.
    wired-not s c.args.intf c.args.cport
    (ap not (plugged-is c.args.self.now s c.args.intf c.at.result (not c.is_none.result) st
    c.at.ensures (sym c.is_none.ensures) ∙ ap not c.if-is_none.false))
    (sym c.in-None.is ∙ c.named.ensures (around_bus [] s) s.bus st.bus)
