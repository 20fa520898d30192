use Rattle.std.proofs.Common.{subst}
use Rattle.gb_bridge_payload.specs.Serving.{BridgesAs}
use Rattle.gb_bridge_payload.specs.Views.{uart_ask_of}
use Rattle.gb_uart.proofs.Fitting.{byte_bridged}
use Rattle.gb_uart.proofs.bridging.bridge.Goals as goal

pub returns-in-UartByte : goal.returns-in-UartByte
returns-in-UartByte c =
    let i = c.in-UartByte in
    let is =
    byte_bridged i.kind i.value (uart_ask_of c.byte_request.result) c.byte_request.ensures in
    rw i.is
    (subst (λ a. BridgesAs a c.args.out.now c.write-in-UartByte.new.out c.write-in-UartByte.result)
    is c.write-in-UartByte.ensures)
