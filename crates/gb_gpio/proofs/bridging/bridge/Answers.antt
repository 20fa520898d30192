use Rattle.gb_bridge_payload.specs.Views.{gpio_ask_of}
use Rattle.gb_gpio.proofs.Bridged.{bridged}
use Rattle.gb_gpio.proofs.bridging.bridge.Goals as goal

pub returns-in_ok-len-in-Gpio : goal.returns-in_ok-len-in-Gpio
returns-in_ok-len-in-Gpio c =
    rw (c.in-Gpio.is, c.kind.ensures)
    (bridged c.in-Gpio.kind c.in-Gpio.line c.in-Gpio.value c.in_ok-len-in-Gpio.len
    (gpio_ask_of c.request-request.result) c.args.out.now c.write.new.out c.request-request.ensures
    c.in_ok-len-in-Gpio.ensures.bytes)
