-- The request is given up in the machine's state.
use Rattle.std.proofs.Common.{sym, ◌∙◌}
use Rattle.gb_bus.proofs.Cancels.{gives_up}
use Rattle.gb_bus.proofs.bus.Bus.give_up.Goals as goal

pub returns-clause-step : goal.returns-clause-step
returns-clause-step c = λ around b s.
    gives_up around c.args.self.now b c.args.n c.args.how c.in-Some.k c.in-Some.side
    c.give_up.new.self c.give_up-2.new.self s (sym c.open_place.ensures ∙ c.in-Some.is)
    c.give_up.ensures c.give_up-2.ensures
