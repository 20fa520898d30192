use Rattle.gb_bridge_payload.specs.Views.{uart_ask_of}
use Rattle.gb_formats.specs.UartRecords.{uart_ask_payload}
use Rattle.gb_uart.proofs.Fitting.{fits}
use Rattle.gb_uart.proofs.bridging.write.Goals as goal

pub returns : goal.returns
returns c =
    rw c.kind.ensures
    (fits _ c.in_ok-len.len (uart_ask_payload (uart_ask_of c.args.ask)) _ _ c.requires.room
    c.in_ok-len.ensures.bytes)
