-- The requests of a side of the connection with a number.
use Rattle.std.proofs.Common.{None, Some, ap, option_copied, option_map, sym, ◌∙◌}
use Rattle.gb_bus.proofs.SeeingChanges.{finds, ops-seen}
use Rattle.gb_bus.specs.Parts.{ops_of}
use Rattle.gb_bus.proofs.connections.Connections.ops.Goals as goal

pub returns-in_err-connection : goal.returns-in_err-connection
returns-in_err-connection c =
    ap option_copied c.from_residual.ensures
    ∙ sym (ap (option_map (ops_of c.args.side))
    (finds c.self.inside.live.map c.args.self.now c.args.k None c.self.view_is
    (sym c.in_err-connection.ensures)))

pub returns : goal.returns
returns c =
    ap Some (c.ops.ensures
    ∙ ops-seen c.args.k c.in_ok-connection.connection.now c.args.side)
    ∙ sym (ap (option_map (ops_of c.args.side))
    (finds c.self.inside.live.map c.args.self.now c.args.k
    (Some c.in_ok-connection.connection.now) c.self.view_is
    (sym c.in_ok-connection.ensures)))
