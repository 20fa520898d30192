-- What is told of the connection with a number.
use Rattle.std.proofs.Common.{None, Some, ap, option_map, sym, ◌∙◌}
use Rattle.gb_bus.proofs.SeeingChanges.{finds}
use Rattle.gb_bus.specs.Overview.{known_as}
use Rattle.gb_bus.proofs.connections.Connections.known_at.Goals as goal

pub returns-in_err-get : goal.returns-in_err-get
returns-in_err-get c =
    c.from_residual.ensures
    ∙ sym (ap (option_map known_as)
    (finds c.self.inside.live.map c.args.self.now c.args.k None c.self.view_is
    (sym c.in_err-get.ensures)))

pub returns : goal.returns
returns c =
    ap Some c.known.ensures
    ∙ sym (ap (option_map known_as)
    (finds c.self.inside.live.map c.args.self.now c.args.k (Some c.in_ok-get.field-0.now)
    c.self.view_is (sym c.in_ok-get.ensures)))
