-- The last of those that are early tells whether one came.
use Rattle.std.proofs.Common.{◌-◌, length}
use Rattle.gb_bus.proofs.SlotDues.{last-tells}
use Rattle.gb_bus.proofs.deadlines.Deadlines.came_early.Goals as goal

pub returns : goal.returns
returns c =
    last-tells c.args.now (length c.args.self.now.early.keys - 1) c.in-Some.field-0.now
    c.args.self.now.early.keys c.in-Some.ensures.last c.in-Some.ensures.all_up_to
