-- No request of the application processor is open where its side has none.
use Rattle.gb_bus.proofs.SideNumbers.{answers-idle, answers-none}
use Rattle.gb_bus.proofs.bus.Bus.idle.Goals as goal

pub returns-in-Some : goal.returns-in-Some
returns-in-Some c =
    answers-idle c.args.self.now c.args.k c.in-Some.ops.now c.is_idle.result c.in-Some.ensures
    c.is_idle.ensures

pub returns-in-None : goal.returns-in-None
returns-in-None c = answers-none c.args.self.now c.args.k c.in-None.ensures
