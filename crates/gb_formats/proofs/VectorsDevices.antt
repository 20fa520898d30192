-- Modules and their I2C, SPI and UART devices: sequences of requests, and what is answered.
use Rattle.std.proofs.Common.{◌≡◌, ℕ, List, [], ◌∷◌, refl}
use Rattle.std.specs.Prelude.{Some, None, Ok, Option, option_map, map, replicate}
use Rattle.gb_base.specs.declared.bridge.BridgeAsk.TheVariants as ask
use Rattle.gb_base.specs.declared.bridge.I2cOp.TheVariants as i2c
use Rattle.gb_base.specs.declared.bridge.SpiOp.TheVariants as spi
use Rattle.gb_base.specs.declared.event.Kind.{Kind}
use Rattle.gb_base.specs.declared.event.Kind.TheVariants as kind
use Rattle.gb_base.specs.declared.served.OwnAsk.{OwnAsk}
use Rattle.gb_base.specs.declared.served.Served.{Served}
use Rattle.gb_formats.specs.Bridges.{bridge_answer}
use Rattle.gb_formats.specs.Devices.{Stir}
use Rattle.gb_formats.specs.I2cDevice.{counted_from}
use Rattle.gb_formats.specs.Kinds.{kind_manifest}
use Rattle.gb_formats.specs.Module.{Module, module_of_kind, module_raw}
use Rattle.gb_formats.specs.ModuleSteps.{module_serve, module_stir}
use Rattle.gb_formats.specs.Results.{Step, answer_of, refusal_of, own_ask}
use Rattle.gb_formats.specs.UartDevice.{credits_spent, credits_added}

-- a request: CPort, type and payload
abbrev pub Request : Type 0
Request = ℕ × ℕ × List ℕ

abbrev pub served_by : Module → Request → Step Module
served_by m r = module_serve m r.0 r.1 r.2

-- what a module answers to requests one after the other
abbrev pub answers_of : Module → List Request → List Served
answers_of m [] = []
answers_of m (r ∷ rs) = (served_by m r).served ∷ answers_of (served_by m r).after rs

-- the module after them
abbrev pub after_all : Module → List Request → Module
after_all m [] = m
after_all m (r ∷ rs) = after_all (served_by m r).after rs

-- a module of a kind whose CPort 1 is on
abbrev pub connected : Kind → Module
connected k = after_all (module_of_kind k) ((0, 0x05, 1 ∷ 0 ∷ []) ∷ [])

-- ---- modules of a kind

-- the manifest of a kind makes the same module
pub kinds-raw : map (λ k. module_raw (kind_manifest k))
    (kind.Gpio ∷ kind.I2c ∷ kind.Spi ∷ kind.Uart ∷ kind.Bridge ∷ kind.Loopback
    ∷ kind.Firmware ∷ [])
    ≡ map module_of_kind
    (kind.Gpio ∷ kind.I2c ∷ kind.Spi ∷ kind.Uart ∷ kind.Bridge ∷ kind.Loopback
    ∷ kind.Firmware ∷ [])
kinds-raw = refl

-- bytes that are no manifest make no CPort
pub raw-refusal_of : module_raw (3 ∷ 0 ∷ []) ≡ record { manifest = 3 ∷ 0 ∷ []; ports = [] }
raw-refusal_of = refl

-- ---- the Control responder

pub control-answers : answers_of (module_of_kind kind.Gpio)
    ((0, 0x01, 0 ∷ 1 ∷ []) ∷ (0, 0x01, 7 ∷ 9 ∷ []) ∷ (0, 0x03, []) ∷ (0, 0x02, [])
    ∷ (0, 0x03, 0 ∷ []) ∷ (0, 0x05, 2 ∷ 0 ∷ []) ∷ (0, 0x0c, 1 ∷ 0 ∷ []) ∷ (0, 0x06, 1 ∷ 0 ∷ [])
    ∷ (0, 0x05, 1 ∷ 0 ∷ []) ∷ (0, 0x05, 1 ∷ 0 ∷ []) ∷ (0, 0x06, 1 ∷ 0 ∷ [])
    ∷ (0, 0x0c, 1 ∷ 0 ∷ []) ∷ (0, 0x0c, 1 ∷ 0 ∷ []) ∷ (0, 0x06, 1 ∷ 0 ∷ [])
    ∷ (0, 0x05, 0 ∷ 0 ∷ []) ∷ [])
    ≡ answer_of (0 ∷ 1 ∷ []) ∷ answer_of (0 ∷ 1 ∷ []) ∷ answer_of (72 ∷ 0 ∷ []) ∷ refusal_of 0x04
    ∷ refusal_of 0x06 ∷ refusal_of 0x08 ∷ refusal_of 0x06 ∷ refusal_of 0x06
    ∷ answer_of [] ∷ refusal_of 0x06 ∷ refusal_of 0x06
    ∷ answer_of [] ∷ refusal_of 0x06 ∷ answer_of []
    ∷ refusal_of 0x08 ∷ []
control-answers = refl

pub control-manifest : (served_by (module_of_kind kind.Bridge) (0, 0x04, [])).served
    ≡ answer_of (kind_manifest kind.Bridge)
control-manifest = refl

-- ---- an I2C transfer

-- `transfer w:50:fe r:50:4`
pub i2c-bridge_answer : bridge_answer 0x03
    (ask.I2cTransfer (i2c.Put 0x50 (0xfe ∷ []) ∷ i2c.Get 0x50 4 ∷ []))
    ≡ Ok (0x05, 2 ∷ 0 ∷ 0x50 ∷ 0 ∷ 0 ∷ 0 ∷ 1 ∷ 0 ∷ 0x50 ∷ 0 ∷ 1 ∷ 0 ∷ 4 ∷ 0 ∷ 0xfe ∷ [])
i2c-bridge_answer = refl

-- the same at address 51; a write of several bytes and what is read after it; refusals
pub i2c-answers : answers_of (connected kind.I2c)
    ((1, 0x02, [])
    ∷ (1, 0x05, 2 ∷ 0 ∷ 0x50 ∷ 0 ∷ 0 ∷ 0 ∷ 1 ∷ 0 ∷ 0x50 ∷ 0 ∷ 1 ∷ 0 ∷ 4 ∷ 0 ∷ 0xfe ∷ [])
    ∷ (1, 0x05, 1 ∷ 0 ∷ 0x51 ∷ 0 ∷ 1 ∷ 0 ∷ 4 ∷ 0 ∷ [])
    ∷ (1, 0x05, 1 ∷ 0 ∷ 0x50 ∷ 0 ∷ 0 ∷ 0 ∷ 3 ∷ 0 ∷ 0xff ∷ 0xaa ∷ 0xbb ∷ [])
    ∷ (
      1,
      0x05,
      3 ∷ 0 ∷ 0x50 ∷ 0 ∷ 0 ∷ 0 ∷ 0 ∷ 0 ∷ 0x50 ∷ 0 ∷ 0 ∷ 0 ∷ 1 ∷ 0
          ∷ 0x50 ∷ 0 ∷ 1 ∷ 0 ∷ 3 ∷ 0 ∷ 0xff ∷ [],
    )
    ∷ (1, 0x05, 1 ∷ 0 ∷ 0x50 ∷ 0 ∷ 1 ∷ 0 ∷ 1 ∷ 0 ∷ [])
    ∷ (1, 0x05, 1 ∷ 0 ∷ 0x51 ∷ 0 ∷ 2 ∷ 0 ∷ 0 ∷ 0 ∷ [])
    ∷ (1, 0x05, 1 ∷ 0 ∷ 0x50 ∷ 0 ∷ 1 ∷ 0 ∷ 0xf9 ∷ 7 ∷ [])
    ∷ (1, 0x05, 0 ∷ [])
    ∷ (1, 0x03, [])
    ∷ (1, 0x05, 1 ∷ 0 ∷ 0x50 ∷ 0 ∷ 3 ∷ 0 ∷ 1 ∷ 0 ∷ [])
    ∷ (1, 0x05, 1 ∷ 0 ∷ 0x50 ∷ 0 ∷ 0 ∷ 0 ∷ 2 ∷ 0 ∷ 0xff ∷ 0xcc ∷ [])
    ∷ (1, 0x05, 1 ∷ 0 ∷ 0x51 ∷ 0 ∷ 1 ∷ 0 ∷ 0xf9 ∷ 7 ∷ [])
    ∷ (
      1,
      0x05,
      2 ∷ 0 ∷ 0x50 ∷ 0 ∷ 0 ∷ 0 ∷ 1 ∷ 0 ∷ 0x50 ∷ 0 ∷ 1 ∷ 0 ∷ 2 ∷ 0 ∷ 0xff ∷ [],
    )
    ∷ [])
    ≡ answer_of (1 ∷ 0 ∷ 0 ∷ 0 ∷ [])
    ∷ answer_of (0xfe ∷ 0xff ∷ 0 ∷ 1 ∷ [])
    ∷ refusal_of 0x08
    ∷ answer_of []
    ∷ answer_of (0xaa ∷ 0xbb ∷ 1 ∷ [])
    ∷ answer_of (2 ∷ [])
    ∷ refusal_of 0x06
    ∷ refusal_of 0x05
    ∷ refusal_of 0x06
    ∷ refusal_of 0x04
    ∷ refusal_of 0x06
    ∷ answer_of []
    ∷ refusal_of 0x08
    ∷ answer_of (0xcc ∷ 0xbb ∷ [])
    ∷ []
unfolding counted_from
i2c-answers = refl

-- the requests of a stir
abbrev pub asks_at : Module → ℕ → Stir → Option (List OwnAsk)
asks_at m c stir = option_map (λ s. s.asks) (module_stir m c stir)

-- ---- an SPI transfer

-- `transfer 0 0 x:0102 r:2`
abbrev pub spi_bytes : List ℕ
spi_bytes =
    0 ∷ 0 ∷ 2 ∷ 0
    ∷ 0x40 ∷ 0x42 ∷ 0x0f ∷ 0 ∷ 2 ∷ 0 ∷ 0 ∷ 0 ∷ 0 ∷ 0 ∷ 0 ∷ 8 ∷ 3
    ∷ 0x40 ∷ 0x42 ∷ 0x0f ∷ 0 ∷ 2 ∷ 0 ∷ 0 ∷ 0 ∷ 0 ∷ 0 ∷ 0 ∷ 8 ∷ 1
    ∷ 1 ∷ 2 ∷ []

pub spi-bridge_answer : bridge_answer 0x0b
    (ask.SpiTransfer 0 0 (spi.Both (1 ∷ 2 ∷ []) ∷ spi.Get 2 ∷ []))
    ≡ Ok (0x04, spi_bytes)
spi-bridge_answer = refl

-- an entry that reads two bytes
abbrev pub read_two : ℕ → ℕ → List ℕ
read_two bits flags =
    0x40 ∷ 0x42 ∷ 0x0f ∷ 0 ∷ 2 ∷ 0 ∷ 0 ∷ 0 ∷ 0 ∷ 0 ∷ 0 ∷ bits ∷ flags ∷ []

pub spi-answers : answers_of (connected kind.Spi)
    ((1, 0x04, 0 ∷ 3 ∷ 1 ∷ 0 ∷ read_two 8 5)
    ∷ (1, 0x04, spi_bytes)
    ∷ (1, 0x04, 0 ∷ 0 ∷ 1 ∷ 0 ∷ read_two 8 1)
    ∷ (1, 0x04, 0 ∷ 0 ∷ 1 ∷ 0 ∷ read_two 8 0)
    ∷ (1, 0x04, 1 ∷ 0 ∷ 1 ∷ 0 ∷ read_two 8 1)
    ∷ (1, 0x04, 1 ∷ 4 ∷ 1 ∷ 0 ∷ read_two 8 1)
    ∷ (1, 0x04, 1 ∷ 0 ∷ 1 ∷ 0 ∷ read_two 7 1)
    ∷ (1, 0x04, 1 ∷ 0 ∷ 1 ∷ 0 ∷ read_two 8 9)
    ∷ (1, 0x04, 0 ∷ 0 ∷ 1 ∷ 0 ∷ 0 ∷ 0 ∷ 0 ∷ 0 ∷ 0xf9 ∷ 7 ∷ 0 ∷ 0 ∷ 0 ∷ 0 ∷ 0 ∷ 8 ∷ 1 ∷ [])
    ∷ (1, 0x02, [])
    ∷ (1, 0x03, 1 ∷ [])
    ∷ (1, 0x05, [])
    ∷ (1, 0x04, 0 ∷ 0 ∷ 1 ∷ 0 ∷ (0 ∷ 0 ∷ 0 ∷ 0 ∷ 2 ∷ 0 ∷ 0 ∷ 0 ∷ 0 ∷ 0 ∷ 0 ∷ 8 ∷ 2 ∷ 10 ∷ 11 ∷ []))
    ∷ (1, 0x04, 0 ∷ 0 ∷ 1 ∷ 0 ∷ (0 ∷ 0 ∷ 0 ∷ 0 ∷ 0 ∷ 0 ∷ 0 ∷ 0 ∷ 0 ∷ 0 ∷ 0 ∷ 8 ∷ 3 ∷ []))
    ∷ (1, 0x04, 0 ∷ 0 ∷ 1 ∷ 0 ∷ read_two 8 1)
    ∷ [])
    ≡ answer_of (0 ∷ 0 ∷ [])
    ∷ answer_of (1 ∷ 2 ∷ 2 ∷ 2 ∷ [])
    ∷ answer_of (2 ∷ 2 ∷ [])
    ∷ answer_of []
    ∷ refusal_of 0x08
    ∷ refusal_of 0x06
    ∷ refusal_of 0x06
    ∷ refusal_of 0x06
    ∷ refusal_of 0x05
    ∷ answer_of (0x80 ∷ 0 ∷ 0 ∷ 0 ∷ 0xe8 ∷ 3 ∷ 0 ∷ 0 ∷ 0x40 ∷ 0x42 ∷ 0x0f ∷ 0 ∷ 3 ∷ 0 ∷ 0 ∷ 0
    ∷ 1 ∷ [])
    ∷ refusal_of 0x08
    ∷ refusal_of 0x04
    ∷ answer_of []
    ∷ answer_of []
    ∷ answer_of (11 ∷ 11 ∷ [])
    ∷ []
spi-answers = refl

pub spi-device : (served_by (connected kind.Spi) (1, 0x03, 0 ∷ [])).served
    ≡ answer_of (0 ∷ 0 ∷ 8 ∷ 0x40 ∷ 0x42 ∷ 0x0f ∷ 0 ∷ 0 ∷ 0x65 ∷ 0x63 ∷ 0x68 ∷ 0x6f
    ∷ replicate 28 0)
spi-device = refl

-- ---- a UART

-- what the device asks after a SEND_DATA of two bytes, and what it refuses
pub uart-answers : answers_of (connected kind.Uart)
    ((1, 0x02, 2 ∷ 0 ∷ 0xab ∷ 0xcd ∷ []) ∷ (1, 0x02, 0 ∷ 0 ∷ [])
    ∷ (1, 0x04, 0 ∷ 0xc2 ∷ 1 ∷ 0 ∷ 2 ∷ 4 ∷ 8 ∷ 1 ∷ [])
    ∷ (1, 0x04, 0 ∷ 0 ∷ 0 ∷ 0 ∷ 3 ∷ 0 ∷ 8 ∷ 0 ∷ [])
    ∷ (1, 0x04, 0 ∷ 0 ∷ 0 ∷ 0 ∷ 0 ∷ 5 ∷ 8 ∷ 0 ∷ []) ∷ (1, 0x04, 0 ∷ 0 ∷ 0 ∷ 0 ∷ 0 ∷ 0 ∷ 4 ∷ 0 ∷ [])
    ∷ (1, 0x04, 0 ∷ 0 ∷ 0 ∷ 0 ∷ 0 ∷ 0 ∷ 9 ∷ 0 ∷ []) ∷ (1, 0x04, 0 ∷ 0 ∷ 0 ∷ 0 ∷ 0 ∷ 0 ∷ 5 ∷ 2 ∷ [])
    ∷ (1, 0x05, 3 ∷ []) ∷ (1, 0x05, 4 ∷ []) ∷ (1, 0x06, 1 ∷ []) ∷ (1, 0x06, 2 ∷ [])
    ∷ (1, 0x09, 3 ∷ []) ∷ (1, 0x09, 4 ∷ []) ∷ (1, 0x03, []) ∷ (1, 0x07, []) ∷ (1, 0x08, [])
    ∷ (0, 0x0c, 1 ∷ 0 ∷ []) ∷ (1, 0x02, 1 ∷ 0 ∷ 0 ∷ []) ∷ [])
    ≡ record {
      result = 0;
      payload = [];
      asks = own_ask 0x03 (2 ∷ 0 ∷ 0 ∷ 0xab ∷ 0xcd ∷ [])
          ∷ own_ask 0x08 (2 ∷ 0 ∷ []) ∷ [];
    } ∷ answer_of []
    ∷ answer_of [] ∷ refusal_of 0x06 ∷ refusal_of 0x06 ∷ refusal_of 0x06 ∷ refusal_of 0x06
    ∷ refusal_of 0x06
    ∷ answer_of [] ∷ refusal_of 0x06 ∷ answer_of [] ∷ refusal_of 0x06
    ∷ answer_of [] ∷ refusal_of 0x06 ∷ refusal_of 0x04 ∷ refusal_of 0x04 ∷ refusal_of 0x04
    ∷ answer_of [] ∷ answer_of [] ∷ []
uart-answers = refl

-- a SEND_DATA of 2,038 bytes
pub uart-overflow : (served_by (connected kind.Uart) (1, 0x02, 0xf6 ∷ 7 ∷ replicate 2038 0)).served
    ≡ refusal_of 0x05
uart-overflow = refl

pub serial-told : asks_at (connected kind.Uart) 1 (Stir.Serial 5)
    ≡ Some (own_ask 0x07 (5 ∷ []) ∷ [])
serial-told = refl

pub serial-off : asks_at (module_of_kind kind.Uart) 1 (Stir.Serial 5) ≡ Some []
serial-off = refl

-- 2,037, 2,037 and 22 bytes take all credits
pub credits-all : credits_spent 4096 2037 ≡ Some 2059
credits-all = refl

pub credits-second : credits_spent 2059 2037 ≡ Some 22
credits-second = refl

pub credits-none : map (credits_spent 22) (22 ∷ 23 ∷ []) ≡ Some 0 ∷ None ∷ []
credits-none = refl

pub credits-back : map (credits_added 2037) (2059 ∷ 2060 ∷ []) ≡ Some 4096 ∷ None ∷ []
credits-back = refl
