-- Whether the connection with a number is wired to an interface.
use Rattle.std.proofs.Common.{None, Some, ap, sym, ◌∙◌}
use Rattle.gb_bus.proofs.SeeingChanges.{finds}
use Rattle.gb_bus.specs.Parts.{is_wired_to}
use Rattle.gb_machine.specs.Lists.{holds_of}
use Rattle.gb_bus.proofs.connections.Connections.wires_to.Goals as goal

pub returns-in-Some : goal.returns-in-Some
returns-in-Some c =
    c.is_wired_to.ensures
    ∙ sym (ap (holds_of (is_wired_to c.args.intf))
    (finds c.self.inside.live.map c.args.self.now c.args.k (Some c.in-Some.connection.now)
    c.self.view_is (sym c.in-Some.ensures)))

pub returns-in-None : goal.returns-in-None
returns-in-None c =
    sym (ap (holds_of (is_wired_to c.args.intf))
    (finds c.self.inside.live.map c.args.self.now c.args.k None c.self.view_is
    (sym c.in-None.ensures)))
