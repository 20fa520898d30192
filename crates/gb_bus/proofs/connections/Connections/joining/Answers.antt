-- The connection that has the CPort of the application processor, where it has the far end.
use Rattle.std.proofs.Common.{None, Some, ap, cond, option_map, sym, ◌∙◌}
use Rattle.std.specs.List.{find}
use Rattle.gb_bus.proofs.Ordered.{agree-ordered, get-ordered, ordered}
use Rattle.gb_bus.proofs.Placing.{joins-dead, joins-nowhere, joins-there}
use Rattle.gb_bus.specs.Connection.{Connection}
use Rattle.gb_bus.specs.Index.{number_at}
use Rattle.gb_bus.specs.Parts.{joins}
use Rattle.gb_bus.specs.Seen.{seen}
use Rattle.gb_bus.proofs.connections.Connections.joining.Goals as goal

pub returns-in_err-number : goal.returns-in_err-number
returns-in_err-number c =
    c.from_residual.ensures
    ∙ sym (ap (option_map (λ (x : Connection). x.number))
    (ap (find (joins c.args.ap c.args.peer)) (sym c.self.view_is)
    ∙ joins-nowhere (ordered c.self.inside.live.map) c.self.inside.ends
    c.self.inside.waiting c.args.ap c.args.peer (agree-ordered c.self.invariant.maps)
    (ap (number_at c.self.inside.ends) (sym c.of.ensures) ∙ sym c.in_err-number.ensures.value)))

pub returns-in_err-connection : goal.returns-in_err-connection
returns-in_err-connection c =
    c.from_residual-in_err-connection.ensures
    ∙ sym (ap (option_map (λ (x : Connection). x.number))
    (ap (find (joins c.args.ap c.args.peer)) (sym c.self.view_is)
    ∙ joins-dead (ordered c.self.inside.live.map) c.self.inside.ends
    c.self.inside.waiting c.args.ap c.args.peer c.in_ok-number.field-0.now
    (agree-ordered c.self.invariant.maps)
    (ap (number_at c.self.inside.ends) (sym c.of.ensures) ∙ sym c.in_ok-number.ensures.value)
    (get-ordered c.self.inside.live.map c.in_ok-number.field-0.now
    ∙ sym c.in_err-connection.ensures)))

pub returns-then-joins : goal.returns-then-joins
returns-then-joins c =
    sym (ap (option_map (λ (x : Connection). x.number))
    (ap (find (joins c.args.ap c.args.peer)) (sym c.self.view_is)
    ∙ joins-there (ordered c.self.inside.live.map) c.self.inside.ends
    c.self.inside.waiting c.args.ap c.args.peer c.in_ok-number.field-0.now
    c.in_ok-connection.connection.now (agree-ordered c.self.invariant.maps)
    (ap (number_at c.self.inside.ends) (sym c.of.ensures) ∙ sym c.in_ok-number.ensures.value)
    (get-ordered c.self.inside.live.map c.in_ok-number.field-0.now
    ∙ sym c.in_ok-connection.ensures)
    ∙ ap (λ b. cond b (Some (seen c.in_ok-number.field-0.now
    c.in_ok-connection.connection.now)) None) (sym c.joins.ensures ∙ c.if-joins.true)))

pub returns-else-joins : goal.returns-else-joins
returns-else-joins c =
    sym (ap (option_map (λ (x : Connection). x.number))
    (ap (find (joins c.args.ap c.args.peer)) (sym c.self.view_is)
    ∙ joins-there (ordered c.self.inside.live.map) c.self.inside.ends
    c.self.inside.waiting c.args.ap c.args.peer c.in_ok-number.field-0.now
    c.in_ok-connection.connection.now (agree-ordered c.self.invariant.maps)
    (ap (number_at c.self.inside.ends) (sym c.of.ensures) ∙ sym c.in_ok-number.ensures.value)
    (get-ordered c.self.inside.live.map c.in_ok-number.field-0.now
    ∙ sym c.in_ok-connection.ensures)
    ∙ ap (λ b. cond b (Some (seen c.in_ok-number.field-0.now
    c.in_ok-connection.connection.now)) None) (sym c.joins.ensures ∙ c.if-joins.false)))
