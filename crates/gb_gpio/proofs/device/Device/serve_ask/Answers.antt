use Rattle.std.proofs.Common.{arith}
use Rattle.gb_bridge_payload.specs.Views.{gpio_ask_of}
use Rattle.gb_formats.specs.GpioDevice.{gpio_asked}
use Rattle.gb_gpio.proofs.Levels.{changed}
use Rattle.gb_gpio.proofs.device.Device.serve_ask.Goals as goal

pub bounds-self-inside-which : goal.bounds-self-inside-which
bounds-self-inside-which c =
    let within = rw c.in-Ok-Changes.field-0-is at c.in-Ok-Changes.ensures.within in
    omega (arith, within)

pub returns-in-Ok-Changes-clause-step : goal.returns-in-Ok-Changes-clause-step
returns-in-Ok-Changes-clause-step c =
    changed c.self.inside.lines _ (λ lines. gpio_asked lines (gpio_ask_of c.args.ask))
    c.in-Ok-Changes.field-0 c.in-Ok-Changes.which c.in-Ok-Changes.line c.done.result c.self.view_is
    c.in-Ok-Changes.ensures.step c.in-Ok-Changes.field-0-is c.done.ensures
