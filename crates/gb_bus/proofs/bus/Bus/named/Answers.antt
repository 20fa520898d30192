-- Which connection an end names.
use Rattle.std.proofs.Common.{ap, sym, ◌∙◌}
use Rattle.std.specs.Prelude.{option_map}
use Rattle.gb_bus.proofs.LookedUp.{named-is}
use Rattle.gb_bus.proofs.bus.Bus.named.Goals as goal

pub returns-in_err-connection : goal.returns-in_err-connection
returns-in_err-connection c = λ around b s.
    c.from_residual.ensures
    ∙ ap (option_map (λ p. p.0)) (sym c.in_err-connection.was ∙ c.place.ensures)
    ∙ named-is c.args.self.now b c.args.at s.shows.connections

pub returns : goal.returns
returns c = λ around b s.
    ap (option_map (λ p. p.0)) (sym c.in_ok-connection.was ∙ c.place.ensures)
    ∙ named-is c.args.self.now b c.args.at s.shows.connections
