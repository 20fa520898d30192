-- The side of a live connection lists them.
use Rattle.gb_bus.proofs.Quiet.{all-free, quiet-live}
use Rattle.gb_bus.proofs.SideNumbers.{answers-late}
use Rattle.gb_bus.proofs.bus.Bus.late.Goals as goal

pub returns-in-Some-clause-lists : goal.returns-in-Some-clause-lists
returns-in-Some-clause-lists c =
    answers-late c.args.self.now c.args.k c.args.side c.in-Some.ops.now c.late.result
    c.in-Some.ensures c.late.ensures.lists

pub returns-in-Some-clause-few : goal.returns-in-Some-clause-few
returns-in-Some-clause-few c = λ around b s quiet.
    c.late.ensures.few
    (all-free around c.args.self.now b c.args.k c.args.side c.in-Some.ops.now s c.in-Some.ensures
    quiet)

pub returns-in-None-clause-few : goal.returns-in-None-clause-few
returns-in-None-clause-few c = λ around b s quiet.
    absurd (quiet-live around c.args.self.now b c.args.k c.args.side s c.in-None.ensures quiet)
