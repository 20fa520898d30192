-- The forms of the script for bridged protocols: `gpio`, `i2c`, `spi`, `uart` and `loopback`.
use Rattle.std.specs.Prelude.{ℕ, ◌==◌, Bool, ◌&&◌, if◌then◌else◌, Option, Some, None, option_map}
use Rattle.std.specs.Prelude.{option_and_then, List, [], take, drop, slice_index, codes}
use Rattle.std.specs.Str.{bytes_eq}
use Rattle.gb_base.specs.declared.bridge.BridgeAsk.{BridgeAsk}
use Rattle.gb_base.specs.declared.bridge.BridgeAsk.TheVariants as ask
use Rattle.gb_base.specs.declared.bridge.I2cOp.{I2cOp}
use Rattle.gb_base.specs.declared.bridge.I2cOp.TheVariants as i2c
use Rattle.gb_base.specs.declared.bridge.SpiOp.{SpiOp}
use Rattle.gb_base.specs.declared.bridge.SpiOp.TheVariants as spi
use Rattle.gb_base.specs.declared.event.Event.{Event}
use Rattle.gb_base.specs.declared.event.Event.TheVariants as event
use Rattle.gb_formats.specs.Said.{Said, Rest, next_word, by_word, bad_word, next_cport, at_end}
use Rattle.gb_formats.specs.Said.{each_word}
use Rattle.gb_formats.specs.WordValues.{name_word, u8_word, u16_word, u32_word, pin_word}
use Rattle.gb_formats.specs.WordValues.{level_word, hex_word, type_word}

-- whether a word begins with `@`, which is 64
abbrev pub begins_with_at : List ℕ → Bool
begins_with_at w = slice_index w 0 == 64

-- `@x I C`, and then what is asked
abbrev pub bridging : ℕ → Rest → ((BridgeAsk → Event) → Rest → Said) → Said
bridging who ws asking =
    next_word (name_word who) ws (λ x ws. next_cport ws (λ i c ws.
    asking (λ what. event.Bridge x i c what) ws))

-- ---- gpio

-- a GPIO request with a line
abbrev pub gpio_line : (BridgeAsk → Event) → ℕ → Rest → Said
gpio_line make kind ws = next_word u8_word ws (λ l ws. at_end ws (make (ask.Gpio kind l 0)))

-- a GPIO request with a line and a value
abbrev pub gpio_value : (BridgeAsk → Event) → ℕ → (List ℕ → Option ℕ) → Rest → Said
gpio_value make kind value_word ws =
    next_word u8_word ws (λ l ws. next_word value_word ws (λ v ws.
    at_end ws (make (ask.Gpio kind l v))))

-- what a GPIO line asks, by the word that names the type of the request
abbrev pub gpio_asking : (BridgeAsk → Event) → Rest → Said
gpio_asking make ws = by_word ws (λ w rest.
    if bytes_eq w (codes "count") then at_end rest (make (ask.Gpio 0x02 0 0))
    else if bytes_eq w (codes "activate") then gpio_line make 0x03 rest
    else if bytes_eq w (codes "deactivate") then gpio_line make 0x04 rest
    else if bytes_eq w (codes "direction") then gpio_line make 0x05 rest
    else if bytes_eq w (codes "in") then gpio_line make 0x06 rest
    else if bytes_eq w (codes "out") then gpio_value make 0x07 u8_word rest
    else if bytes_eq w (codes "get") then gpio_line make 0x08 rest
    else if bytes_eq w (codes "set") then gpio_value make 0x09 u8_word rest
    else if bytes_eq w (codes "debounce") then gpio_value make 0x0a u16_word rest
    else if bytes_eq w (codes "irq") then gpio_value make 0x0b u8_word rest
    else if bytes_eq w (codes "mask") then gpio_line make 0x0c rest
    else if bytes_eq w (codes "unmask") then gpio_line make 0x0d rest
    else bad_word ws)

-- The word that must stand there, and no other.
abbrev pub literal_word : List ℕ → List ℕ → Option (List ℕ)
literal_word this w = if bytes_eq w this then Some w else None

-- `I C level L V`
abbrev pub gpio_level : Rest → Said
gpio_level ws =
    next_cport ws (λ i c ws. next_word (literal_word (codes "level")) ws (λ w ws.
    next_word pin_word ws (λ l ws. next_word level_word ws (λ v ws.
    at_end ws (event.Level i c l v)))))

-- `gpio`: the form with a name where the next word begins with `@`
abbrev pub gpio_form : ℕ → Rest → Said
gpio_form who ws = by_word ws (λ w rest.
    if begins_with_at w then bridging who ws gpio_asking else gpio_level ws)

-- ---- i2c

-- a read, where its length fits
abbrev pub i2c_get : ℕ → Option ℕ → Option I2cOp
i2c_get addr len = option_map (i2c.Get addr) len

-- a write, where its bytes fit
abbrev pub i2c_put : ℕ → Option (List ℕ) → Option I2cOp
i2c_put addr bytes = option_map (i2c.Put addr) bytes

-- `r:AA:LEN`
abbrev pub i2c_read_word : List ℕ → Option I2cOp
i2c_read_word w =
    option_and_then (λ addr. i2c_get addr (u16_word (drop 5 w))) (type_word (take 2 (drop 2 w)))

-- `w:AA:HEX`
abbrev pub i2c_write_word : List ℕ → Option I2cOp
i2c_write_word w =
    option_and_then (λ addr. i2c_put addr (hex_word (drop 5 w))) (type_word (take 2 (drop 2 w)))

-- an op of an I2C transfer: `:` is 58, `r` 114 and `w` 119
abbrev pub i2c_op_word : List ℕ → Option I2cOp
i2c_op_word w =
    if slice_index w 1 == 58 && slice_index w 4 == 58
    then (if slice_index w 0 == 114 then i2c_read_word w
    else if slice_index w 0 == 119 then i2c_write_word w else None)
    else None

-- `functionality`, or `transfer` and any number of ops
abbrev pub i2c_asking : (BridgeAsk → Event) → Rest → Said
i2c_asking make ws = by_word ws (λ w rest.
    if bytes_eq w (codes "functionality") then at_end rest (make ask.I2cFunctionality)
    else if bytes_eq w (codes "transfer")
    then each_word i2c_op_word (λ ops. make (ask.I2cTransfer ops)) [] rest
    else bad_word ws)

-- `i2c @x I C` and what is asked
abbrev pub i2c_form : ℕ → Rest → Said
i2c_form who ws = bridging who ws i2c_asking

-- ---- spi

-- an entry of an SPI transfer: `r:LEN`, `w:HEX` or `x:HEX`, where `x` is 120
abbrev pub spi_op_word : List ℕ → Option SpiOp
spi_op_word w =
    if slice_index w 1 == 58
    then (if slice_index w 0 == 114 then option_map spi.Get (u16_word (drop 2 w))
    else if slice_index w 0 == 119 then option_map spi.Put (hex_word (drop 2 w))
    else if slice_index w 0 == 120 then option_map spi.Both (hex_word (drop 2 w)) else None)
    else None

-- `transfer S M` and any number of entries
abbrev pub spi_transfer : (BridgeAsk → Event) → Rest → Said
spi_transfer make ws =
    next_word u8_word ws (λ s ws. next_word u8_word ws (λ m ws.
    each_word spi_op_word (λ ops. make (ask.SpiTransfer s m ops)) [] ws))

-- `config`, `device S`, or `transfer S M` and any number of entries
abbrev pub spi_asking : (BridgeAsk → Event) → Rest → Said
spi_asking make ws = by_word ws (λ w rest.
    if bytes_eq w (codes "config") then at_end rest (make ask.SpiConfig)
    else if bytes_eq w (codes "device")
    then next_word u8_word rest (λ s ws. at_end ws (make (ask.SpiDevice s)))
    else if bytes_eq w (codes "transfer") then spi_transfer make rest
    else bad_word ws)

-- `spi @x I C` and what is asked
abbrev pub spi_form : ℕ → Rest → Said
spi_form who ws = bridging who ws spi_asking

-- ---- uart

-- `coding RATE F P B W`
abbrev pub uart_coding : (BridgeAsk → Event) → Rest → Said
uart_coding make ws =
    next_word u32_word ws (λ rate ws. next_word u8_word ws (λ f ws.
    next_word u8_word ws (λ p ws. next_word u8_word ws (λ b ws.
    next_word u8_word ws (λ w ws. at_end ws (make (ask.UartCoding rate f p b w)))))))

-- a UART request of one byte
abbrev pub uart_byte : (BridgeAsk → Event) → ℕ → Rest → Said
uart_byte make kind ws = next_word u8_word ws (λ v ws. at_end ws (make (ask.UartByte kind v)))

-- what a UART line asks, by the word that names the type of the request
abbrev pub uart_asking : (BridgeAsk → Event) → Rest → Said
uart_asking make ws = by_word ws (λ w rest.
    if bytes_eq w (codes "send")
    then next_word hex_word rest (λ bytes ws. at_end ws (make (ask.UartSend bytes)))
    else if bytes_eq w (codes "coding") then uart_coding make rest
    else if bytes_eq w (codes "control") then uart_byte make 0x05 rest
    else if bytes_eq w (codes "break") then uart_byte make 0x06 rest
    else if bytes_eq w (codes "flush") then uart_byte make 0x09 rest
    else bad_word ws)

-- `I C state V`
abbrev pub uart_state : Rest → Said
uart_state ws =
    next_cport ws (λ i c ws. next_word (literal_word (codes "state")) ws (λ w ws.
    next_word u8_word ws (λ v ws. at_end ws (event.SerialState i c v))))

-- `uart`: the form with a name where the next word begins with `@`
abbrev pub uart_form : ℕ → Rest → Said
uart_form who ws = by_word ws (λ w rest.
    if begins_with_at w then bridging who ws uart_asking else uart_state ws)

-- ---- loopback

-- a Loopback request that carries bytes
abbrev pub loopback_bytes : (BridgeAsk → Event) → ℕ → Rest → Said
loopback_bytes make kind ws =
    next_word hex_word ws (λ bytes ws. at_end ws (make (ask.LoopBytes kind bytes)))

-- `ping`, `transfer HEX` or `sink HEX`
abbrev pub loopback_asking : (BridgeAsk → Event) → Rest → Said
loopback_asking make ws = by_word ws (λ w rest.
    if bytes_eq w (codes "ping") then at_end rest (make ask.LoopPing)
    else if bytes_eq w (codes "transfer") then loopback_bytes make 0x03 rest
    else if bytes_eq w (codes "sink") then loopback_bytes make 0x04 rest
    else bad_word ws)

-- `loopback @x I C` and what is asked
abbrev pub loopback_form : ℕ → Rest → Said
loopback_form who ws = bridging who ws loopback_asking
