-- Parts of the grammar's forms that have no name there.
use Rattle.std.specs.Prelude.{ℕ, if◌then◌else◌, Option, option_map, Err, List, [], drop, codes}
use Rattle.std.specs.Str.{bytes_eq}
use Rattle.gb_base.specs.declared.bridge.BridgeAsk.{BridgeAsk}
use Rattle.gb_base.specs.declared.bridge.BridgeAsk.TheVariants as ask
use Rattle.gb_base.specs.declared.bridge.SpiOp.{SpiOp}
use Rattle.gb_base.specs.declared.bridge.SpiOp.TheVariants as spi
use Rattle.gb_base.specs.declared.event.Event.{Event}
use Rattle.gb_base.specs.declared.end.End.{End}
use Rattle.gb_base.specs.declared.end.End.TheVariants as end
use Rattle.gb_base.specs.declared.event.Event.TheVariants as event
use Rattle.gb_base.specs.declared.reasons.LineReason.TheVariants as bad
use Rattle.gb_base.specs.declared.name.Name.{Name}
use Rattle.gb_formats.specs.BridgeForms.{gpio_asking, gpio_form, i2c_asking, i2c_form, i2c_op_word}
use Rattle.gb_formats.specs.BridgeForms.{loopback_asking, loopback_form}
use Rattle.gb_formats.specs.BridgeForms.{spi_asking, spi_form, uart_asking, uart_form}
use Rattle.gb_formats.specs.Grammar.{of_cport, timed}
use Rattle.gb_formats.specs.Said.{Said, Rest, next_cport, next_word, at_end, each_word}
use Rattle.gb_formats.specs.WordValues.{hex_word, cport_word, type_word, u8_word, u16_word}
use Rattle.gb_script.specs.declared.bridges.Protocol.{Protocol}
use Rattle.gb_script.specs.declared.bridges.Protocol.TheVariants as protocol

-- `HEX` behind `insert I raw`
abbrev pub inserting_raw : ℕ → Rest → Said
inserting_raw i ws = next_word hex_word ws (λ bytes ws. at_end ws (event.InsertRaw i bytes))

-- `TYPE HEX` behind to whom it is sent
abbrev pub sending_type : Name → End → Rest → Said
sending_type x to ws =
    next_word type_word ws (λ kind ws. next_word hex_word ws (λ payload ws.
    timed ws (λ ms. event.Send x to kind payload ms)))

-- `A` behind `deliver ap`
abbrev pub delivering_ap : Rest → Said
delivering_ap ws = next_word cport_word ws (λ a ws. at_end ws (event.Deliver (end.Ap a)))

-- `I C` behind `deliver`
abbrev pub delivering_module : Rest → Said
delivering_module ws = of_cport (λ i c. event.Deliver (end.Module i c)) ws

-- the operations behind `transfer` of I2C
abbrev pub i2c_transfer : (BridgeAsk → Event) → Rest → Said
i2c_transfer make ws = each_word i2c_op_word (λ ops. make (ask.I2cTransfer ops)) [] ws

-- `S` behind `device` of SPI
abbrev pub spi_device : (BridgeAsk → Event) → Rest → Said
spi_device make ws = next_word u8_word ws (λ s ws. at_end ws (make (ask.SpiDevice s)))

-- `r:LEN` of SPI
abbrev pub spi_read_word : List ℕ → Option SpiOp
spi_read_word w = option_map spi.Get (u16_word (drop 2 w))

-- `w:HEX` of SPI
abbrev pub spi_write_word : List ℕ → Option SpiOp
spi_write_word w = option_map spi.Put (hex_word (drop 2 w))

-- `x:HEX` of SPI
abbrev pub spi_both_word : List ℕ → Option SpiOp
spi_both_word w = option_map spi.Both (hex_word (drop 2 w))

-- `HEX` behind `send` of UART
abbrev pub uart_data : (BridgeAsk → Event) → Rest → Said
uart_data make ws =
    next_word hex_word ws (λ bytes ws. at_end ws (make (ask.UartSend bytes)))

-- `I C` and what is asked, behind the name of a request
abbrev pub bridging_of : Name → Rest → ((BridgeAsk → Event) → Rest → Said) → Said
bridging_of x ws asking = next_cport ws (λ i c ws. asking (λ what. event.Bridge x i c what) ws)

-- what the words ask by a bridged protocol
abbrev pub asking_of : Protocol → (BridgeAsk → Event) → Rest → Said
asking_of protocol.Gpio = gpio_asking
asking_of protocol.I2c = i2c_asking
asking_of protocol.Spi = spi_asking
asking_of protocol.Uart = uart_asking
asking_of protocol.Loopback = loopback_asking

-- what a line asks for by its first word, where that is no word of the bus
abbrev pub by_protocol : ℕ → List ℕ → Rest → Said
by_protocol who w ws =
    if bytes_eq w (codes "gpio") then gpio_form who ws
    else if bytes_eq w (codes "i2c") then i2c_form who ws
    else if bytes_eq w (codes "spi") then spi_form who ws
    else if bytes_eq w (codes "uart") then uart_form who ws
    else if bytes_eq w (codes "loopback") then loopback_form who ws
    else Err (bad.BadWord 1)
