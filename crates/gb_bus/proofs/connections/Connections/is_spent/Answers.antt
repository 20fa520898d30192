-- Whether an identifier is left on a side of the connection with a number.
use Rattle.std.proofs.Common.{None, Some, ap, is_none, option_and_then, sym, ◌∙◌}
use Rattle.gb_bus.proofs.SeeingChanges.{finds, next-seen}
use Rattle.gb_bus.specs.Parts.{next_of}
use Rattle.gb_bus.proofs.connections.Connections.is_spent.Goals as goal

pub returns-in-Some : goal.returns-in-Some
returns-in-Some c =
    c.is_spent.ensures
    ∙ ap is_none (next-seen c.args.k c.in-Some.connection.now c.args.side)
    ∙ sym (ap (λ o. is_none (option_and_then (next_of c.args.side) o))
    (finds c.self.inside.live.map c.args.self.now c.args.k
    (Some c.in-Some.connection.now) c.self.view_is (sym c.in-Some.ensures)))

pub returns-in-None : goal.returns-in-None
returns-in-None c =
    sym (ap (λ o. is_none (option_and_then (next_of c.args.side) o))
    (finds c.self.inside.live.map c.args.self.now c.args.k None c.self.view_is
    (sym c.in-None.ensures)))
