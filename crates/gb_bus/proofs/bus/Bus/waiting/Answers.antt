-- How many messages wait.
use Rattle.std.proofs.Common.{sym, ◌∙◌}
use Rattle.gb_bus.proofs.LookedUp.{counts, waits-nowhere}
use Rattle.gb_bus.proofs.bus.Bus.waiting.Goals as goal

pub returns-in_err-connection : goal.returns-in_err-connection
returns-in_err-connection c = λ around b s.
    c.from_residual.ensures ∙ waits-nowhere around c.args.self.now b c.args.at s
    (sym c.place.ensures ∙ c.in_err-connection.was)

pub returns : goal.returns
returns c = λ around b s.
    c.count.ensures
    ∙ counts around c.args.self.now b c.args.at c.in_ok-connection.connection
    c.in_ok-connection.side s (sym c.place.ensures ∙ c.in_ok-connection.was)
