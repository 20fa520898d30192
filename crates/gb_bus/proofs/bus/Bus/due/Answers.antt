-- The requests whose deadline came are the machine's.
use Rattle.gb_bus.proofs.Expiring.{due-are}
use Rattle.gb_bus.proofs.bus.Bus.due.Goals as goal

pub returns : goal.returns
returns c = λ around b s.
    due-are c.args.self.now.slots around.names b c.args.now c.in_ok-due.due s.shows.slots
    c.in_ok-due.ensures
