use Rattle.std.proofs.Common.{arith, ◌∙◌}
use Rattle.gb_gpio.proofs.Levels.{interrupted, levelled}
use Rattle.gb_gpio.proofs.device.Device.level.Goals as goal

pub returns-clause-lines : goal.returns-clause-lines
returns-clause-lines c =
    levelled c.self.inside.lines _ c.args.line c.args.value _ c.self.view_is (omega arith)

pub returns-clause-irq : goal.returns-clause-irq
returns-clause-irq c =
    c.then_some.ensures
    ∙ rw c.interrupts.ensures
    (interrupted c.self.inside.lines _ c.args.line c.args.value _ c.self.view_is (omega arith))
