-- Records of the GPIO and I2C protocols: one for each row, both ways, and some mismatches.
use Rattle.std.proofs.Common.{◌≡◌, ℕ, List, [], ◌∷◌, refl}
use Rattle.std.specs.Prelude.{Ok, Err, map}
use Rattle.gb_formats.specs.Records.{PayloadFault}
use Rattle.gb_formats.specs.GpioRecords.{GpioAsk, read_gpio_ask, gpio_ask_kind, gpio_ask_payload}
use Rattle.gb_formats.specs.GpioRecords.{GpioReply, read_gpio_reply, gpio_reply_kind}
use Rattle.gb_formats.specs.GpioRecords.{gpio_reply_payload}
use Rattle.gb_formats.specs.I2cRecords.{I2cAsk, read_i2c_ask, i2c_ask_kind, i2c_ask_payload}
use Rattle.gb_formats.specs.I2cRecords.{I2cReply, read_i2c_reply, i2c_reply_kind, i2c_reply_payload}

-- types, payloads and records of the GPIO protocol
abbrev pub gpio_ask_rows : List (ℕ × List ℕ × GpioAsk)
gpio_ask_rows =
    (0x02, [], GpioAsk.LineCount)
    ∷ (0x03, 1 ∷ [], GpioAsk.Activate 1)
    ∷ (0x04, 2 ∷ [], GpioAsk.Deactivate 2)
    ∷ (0x05, 3 ∷ [], GpioAsk.GetDirection 3)
    ∷ (0x06, 4 ∷ [], GpioAsk.DirectionIn 4)
    ∷ (0x07, 5 ∷ 1 ∷ [], GpioAsk.DirectionOut 5 1)
    ∷ (0x08, 6 ∷ [], GpioAsk.GetValue 6)
    ∷ (0x09, 7 ∷ 1 ∷ [], GpioAsk.SetValue 7 1)
    ∷ (0x0a, 8 ∷ 232 ∷ 3 ∷ [], GpioAsk.SetDebounce 8 1000)
    ∷ (0x0b, 9 ∷ 8 ∷ [], GpioAsk.IrqType 9 8)
    ∷ (0x0c, 10 ∷ [], GpioAsk.IrqMask 10)
    ∷ (0x0d, 11 ∷ [], GpioAsk.IrqUnmask 11)
    ∷ (0x0e, 255 ∷ [], GpioAsk.IrqEvent 255)
    ∷ []

pub gpio_ask_rows-read : map (λ row. read_gpio_ask row.0 row.1) gpio_ask_rows
    ≡ map (λ row. Ok row.2) gpio_ask_rows
gpio_ask_rows-read = refl

pub gpio_ask_rows-kind : map (λ row. gpio_ask_kind row.2) gpio_ask_rows
    ≡ map (λ row. row.0) gpio_ask_rows
gpio_ask_rows-kind = refl

pub gpio_ask_rows-payload : map (λ row. gpio_ask_payload row.2) gpio_ask_rows
    ≡ map (λ row. row.1) gpio_ask_rows
gpio_ask_rows-payload = refl

-- payloads that are no record of their type, and the place where they part
abbrev pub gpio_ask_faults : List (ℕ × List ℕ × PayloadFault)
gpio_ask_faults =
    (0x01, [], PayloadFault.UnknownKind)
    ∷ (0x07, 5 ∷ [], PayloadFault.Mismatch 1)
    ∷ (0x0a, 8 ∷ 232 ∷ [], PayloadFault.Mismatch 2)
    ∷ (0x03, 1 ∷ 2 ∷ [], PayloadFault.Mismatch 2)
    ∷ (0x02, 1 ∷ 2 ∷ [], PayloadFault.Mismatch 1)
    ∷ []

pub gpio_ask_faults-read : map (λ row. read_gpio_ask row.0 row.1) gpio_ask_faults
    ≡ map (λ row. Err row.2) gpio_ask_faults
gpio_ask_faults-read = refl

-- types, payloads and records of the GPIO protocol
abbrev pub gpio_reply_rows : List (ℕ × List ℕ × GpioReply)
gpio_reply_rows =
    (0x02, 7 ∷ [], GpioReply.LineCount 7)
    ∷ (0x03, [], GpioReply.Activate)
    ∷ (0x04, [], GpioReply.Deactivate)
    ∷ (0x05, 1 ∷ [], GpioReply.GetDirection 1)
    ∷ (0x06, [], GpioReply.DirectionIn)
    ∷ (0x07, [], GpioReply.DirectionOut)
    ∷ (0x08, 1 ∷ [], GpioReply.GetValue 1)
    ∷ (0x09, [], GpioReply.SetValue)
    ∷ (0x0a, [], GpioReply.SetDebounce)
    ∷ (0x0b, [], GpioReply.IrqType)
    ∷ (0x0c, [], GpioReply.IrqMask)
    ∷ (0x0d, [], GpioReply.IrqUnmask)
    ∷ (0x0e, [], GpioReply.IrqEvent)
    ∷ []

pub gpio_reply_rows-read : map (λ row. read_gpio_reply row.0 row.1) gpio_reply_rows
    ≡ map (λ row. Ok row.2) gpio_reply_rows
gpio_reply_rows-read = refl

pub gpio_reply_rows-kind : map (λ row. gpio_reply_kind row.2) gpio_reply_rows
    ≡ map (λ row. row.0) gpio_reply_rows
gpio_reply_rows-kind = refl

pub gpio_reply_rows-payload : map (λ row. gpio_reply_payload row.2) gpio_reply_rows
    ≡ map (λ row. row.1) gpio_reply_rows
gpio_reply_rows-payload = refl

-- payloads that are no record of their type, and the place where they part
abbrev pub gpio_reply_faults : List (ℕ × List ℕ × PayloadFault)
gpio_reply_faults =
    (0x01, [], PayloadFault.UnknownKind)
    ∷ (0x05, [], PayloadFault.Mismatch 0)
    ∷ (0x08, 1 ∷ 1 ∷ 1 ∷ [], PayloadFault.Mismatch 2)
    ∷ (0x03, 1 ∷ [], PayloadFault.Mismatch 1)
    ∷ []

pub gpio_reply_faults-read : map (λ row. read_gpio_reply row.0 row.1) gpio_reply_faults
    ≡ map (λ row. Err row.2) gpio_reply_faults
gpio_reply_faults-read = refl

-- types, payloads and records of the I2C protocol
abbrev pub i2c_ask_rows : List (ℕ × List ℕ × I2cAsk)
i2c_ask_rows =
    (0x02, [], I2cAsk.Functionality)
    ∷ (
      0x05,
      2 ∷ 0 ∷ 80 ∷ 0 ∷ 0 ∷ 0 ∷ 1 ∷ 0 ∷ 80 ∷ 0 ∷ 1 ∷ 0 ∷ 4 ∷ 0 ∷ 254 ∷ [],
      I2cAsk.Transfer (80 ∷ 0 ∷ 0 ∷ 0 ∷ 1 ∷ 0 ∷ 80 ∷ 0 ∷ 1 ∷ 0 ∷ 4 ∷ 0 ∷ []) (254 ∷ []),
    )
    ∷ (0x05, 0 ∷ 0 ∷ [], I2cAsk.Transfer [] [])
    ∷ []

pub i2c_ask_rows-read : map (λ row. read_i2c_ask row.0 row.1) i2c_ask_rows
    ≡ map (λ row. Ok row.2) i2c_ask_rows
i2c_ask_rows-read = refl

pub i2c_ask_rows-kind : map (λ row. i2c_ask_kind row.2) i2c_ask_rows
    ≡ map (λ row. row.0) i2c_ask_rows
i2c_ask_rows-kind = refl

pub i2c_ask_rows-payload : map (λ row. i2c_ask_payload row.2) i2c_ask_rows
    ≡ map (λ row. row.1) i2c_ask_rows
i2c_ask_rows-payload = refl

-- payloads that are no record of their type, and the place where they part
abbrev pub i2c_ask_faults : List (ℕ × List ℕ × PayloadFault)
i2c_ask_faults =
    (0x03, [], PayloadFault.UnknownKind)
    ∷ (0x05, 2 ∷ [], PayloadFault.Mismatch 1)
    ∷ (
      0x05,
      2 ∷ 0 ∷ 80 ∷ 0 ∷ 0 ∷ 0 ∷ 1 ∷ 0 ∷ 80 ∷ 0 ∷ 1 ∷ 0 ∷ 4 ∷ 0 ∷ [],
      PayloadFault.Mismatch 14,
    )
    ∷ (
      0x05,
      2 ∷ 0 ∷ 80 ∷ 0 ∷ 0 ∷ 0 ∷ 1 ∷ 0 ∷ 80 ∷ 0 ∷ 1 ∷ 0 ∷ 4 ∷ 0 ∷ 254 ∷ 255 ∷ [],
      PayloadFault.Mismatch 16,
    )
    ∷ (0x05, [], PayloadFault.Mismatch 0)
    ∷ (0x05, 0 ∷ 0 ∷ 9 ∷ 9 ∷ [], PayloadFault.Mismatch 3)
    ∷ (0x05, 2 ∷ 0 ∷ 80 ∷ 0 ∷ 0 ∷ 0 ∷ 1 ∷ 0 ∷ 80 ∷ 0 ∷ 1 ∷ 0 ∷ 4 ∷ [], PayloadFault.Mismatch 13)
    ∷ []

pub i2c_ask_faults-read : map (λ row. read_i2c_ask row.0 row.1) i2c_ask_faults
    ≡ map (λ row. Err row.2) i2c_ask_faults
i2c_ask_faults-read = refl

-- types, payloads and records of the I2C protocol
abbrev pub i2c_reply_rows : List (ℕ × List ℕ × I2cReply)
i2c_reply_rows =
    (0x02, 1 ∷ 0 ∷ 0 ∷ 0 ∷ [], I2cReply.Functionality 1)
    ∷ (0x05, 254 ∷ 255 ∷ 0 ∷ 1 ∷ [], I2cReply.Transfer (254 ∷ 255 ∷ 0 ∷ 1 ∷ []))
    ∷ []

pub i2c_reply_rows-read : map (λ row. read_i2c_reply row.0 row.1) i2c_reply_rows
    ≡ map (λ row. Ok row.2) i2c_reply_rows
i2c_reply_rows-read = refl

pub i2c_reply_rows-kind : map (λ row. i2c_reply_kind row.2) i2c_reply_rows
    ≡ map (λ row. row.0) i2c_reply_rows
i2c_reply_rows-kind = refl

pub i2c_reply_rows-payload : map (λ row. i2c_reply_payload row.2) i2c_reply_rows
    ≡ map (λ row. row.1) i2c_reply_rows
i2c_reply_rows-payload = refl

-- payloads that are no record of their type, and the place where they part
abbrev pub i2c_reply_faults : List (ℕ × List ℕ × PayloadFault)
i2c_reply_faults =
    (0x02, 1 ∷ 0 ∷ 0 ∷ [], PayloadFault.Mismatch 3)
    ∷ (0x02, 1 ∷ 0 ∷ 0 ∷ 0 ∷ 0 ∷ 0 ∷ [], PayloadFault.Mismatch 5)
    ∷ []

pub i2c_reply_faults-read : map (λ row. read_i2c_reply row.0 row.1) i2c_reply_faults
    ≡ map (λ row. Err row.2) i2c_reply_faults
i2c_reply_faults-read = refl
