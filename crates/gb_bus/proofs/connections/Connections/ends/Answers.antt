-- The ends of the connection with a number.
use Rattle.std.proofs.Common.{None, Some, ap, option_map, sym, ◌∙◌}
use Rattle.gb_bus.proofs.SeeingChanges.{finds}
use Rattle.gb_bus.specs.Parts.{ends_in}
use Rattle.gb_bus.proofs.connections.Connections.ends.Goals as goal

pub returns-in_err-connection : goal.returns-in_err-connection
returns-in_err-connection c =
    c.from_residual.ensures
    ∙ sym (ap (option_map ends_in)
    (finds c.self.inside.live.map c.args.self.now c.args.k None c.self.view_is
    (sym c.in_err-connection.ensures)))

pub returns : goal.returns
returns c =
    sym (ap (option_map ends_in)
    (finds c.self.inside.live.map c.args.self.now c.args.k
    (Some c.in_ok-connection.connection.now) c.self.view_is
    (sym c.in_ok-connection.ensures)))
