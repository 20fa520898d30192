-- How many messages wait toward a side of the connection with a number.
use Rattle.std.proofs.Common.{None, Some, ap, length, option_map, sym, ◌∙◌}
use Rattle.gb_bus.proofs.SeeingChanges.{finds, queue-number}
use Rattle.gb_bus.specs.Parts.{queue_of}
use Rattle.gb_bus.proofs.connections.Connections.count.Goals as goal

pub returns-in_err-connection : goal.returns-in_err-connection
returns-in_err-connection c =
    c.from_residual.ensures
    ∙ sym (ap (option_map (λ x. length (queue_of c.args.side x)))
    (finds c.self.inside.live.map c.args.self.now c.args.k None c.self.view_is
    (sym c.in_err-connection.ensures)))

pub returns : goal.returns
returns c =
    ap Some (c.count.ensures ∙ ap length (queue-number 0 c.args.k
    c.in_ok-connection.connection.now c.args.side))
    ∙ sym (ap (option_map (λ x. length (queue_of c.args.side x)))
    (finds c.self.inside.live.map c.args.self.now c.args.k
    (Some c.in_ok-connection.connection.now) c.self.view_is
    (sym c.in_ok-connection.ensures)))
