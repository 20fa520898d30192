-- Bridge lines and what their answers say.
use Rattle.std.proofs.Common.{◌≡◌, ℕ, true, false, List, [], ◌∷◌, refl}
use Rattle.std.specs.Prelude.{Ok, Err, map, replicate}
use Rattle.gb_base.specs.declared.bridge.BridgeAsk.TheVariants as ask
use Rattle.gb_base.specs.declared.bridge.I2cOp.TheVariants as i2c
use Rattle.gb_base.specs.declared.bridge.Reading.{Reading}
use Rattle.gb_base.specs.declared.bridge.Reading.TheVariants as reading
use Rattle.gb_base.specs.declared.bridge.SpiOp.TheVariants as spi
use Rattle.gb_formats.specs.Bridges.{bridge_answer, BridgeFault, is_too_large, reading_of}

-- ---- bridge lines and readings

pub too_large-lines : map is_too_large
    (ask.UartSend (replicate 2037 0) ∷ ask.UartSend (replicate 2038 0)
    ∷ ask.I2cTransfer (i2c.Get 0 1020 ∷ i2c.Get 0 1020 ∷ [])
    ∷ ask.I2cTransfer (i2c.Get 0 1020 ∷ i2c.Get 0 1021 ∷ [])
    ∷ ask.I2cTransfer (i2c.Put 0 (replicate 2032 0) ∷ [])
    ∷ ask.I2cTransfer (i2c.Put 0 (replicate 2033 0) ∷ [])
    ∷ ask.SpiTransfer 0 0 (spi.Both (0 ∷ []) ∷ spi.Get 2039 ∷ [])
    ∷ ask.SpiTransfer 0 0 (spi.Both (0 ∷ []) ∷ spi.Get 2040 ∷ [])
    ∷ ask.SpiTransfer 0 0 (spi.Put (replicate 2023 0) ∷ [])
    ∷ ask.SpiTransfer 0 0 (spi.Put (replicate 2024 0) ∷ []) ∷ [])
    ≡ false ∷ true ∷ false ∷ true ∷ false ∷ true ∷ false ∷ true ∷ false ∷ true ∷ []
too_large-lines = refl

pub bridge_answer-lines : map (bridge_answer 0x02)
    (ask.Gpio 0x02 0 0 ∷ ask.Gpio 0x03 255 0 ∷ ask.Gpio 0x07 3 1 ∷ ask.Gpio 0x0a 3 1000
    ∷ ask.Gpio 0x0b 3 8
    ∷ ask.SpiConfig ∷ [])
    ≡ Ok (2, []) ∷ Ok (3, 255 ∷ []) ∷ Ok (7, 3 ∷ 1 ∷ []) ∷ Ok (10, 3 ∷ 0xe8 ∷ 3 ∷ [])
    ∷ Ok (11, 3 ∷ 8 ∷ []) ∷ Err BridgeFault.Unsupported ∷ []
bridge_answer-lines = refl

pub bridge_answer-uart : map (bridge_answer 0x04)
    (ask.UartSend (0xab ∷ []) ∷ ask.UartCoding 115200 1 2 8 1 ∷ ask.UartByte 0x09 3 ∷ [])
    ≡ Ok (2, 1 ∷ 0 ∷ 0xab ∷ []) ∷ Ok (4, 0 ∷ 0xc2 ∷ 1 ∷ 0 ∷ 1 ∷ 2 ∷ 8 ∷ 1 ∷ [])
    ∷ Ok (9, 3 ∷ []) ∷ []
bridge_answer-uart = refl

-- protocols, types and payloads of answers, and what they say
abbrev pub answer_rows : List (ℕ × ℕ × List ℕ × Reading)
answer_rows =
    (0x02, 0x02, 7 ∷ [], reading.Number 8)
    ∷ (0x02, 0x02, [], reading.Bad)
    ∷ (0x02, 0x05, 0 ∷ [], reading.Out)
    ∷ (0x02, 0x05, 1 ∷ [], reading.In)
    ∷ (0x02, 0x05, 2 ∷ [], reading.Bad)
    ∷ (0x02, 0x08, 1 ∷ [], reading.Number 1)
    ∷ (0x02, 0x08, 2 ∷ [], reading.Bad)
    ∷ (0x02, 0x08, [], reading.Bad)
    ∷ (0x02, 0x03, 1 ∷ [], reading.Nothing)
    ∷ (0x03, 0x02, 1 ∷ 0 ∷ 0 ∷ 0 ∷ [], reading.Number 1)
    ∷ (0x03, 0x02, 1 ∷ [], reading.Bad)
    ∷ (0x03, 0x05, 1 ∷ [], reading.Nothing)
    ∷ (
      0x0b,
      0x02,
      0x80 ∷ 0 ∷ 0 ∷ 0 ∷ 0xe8 ∷ 3 ∷ 0 ∷ 0 ∷ 0x40 ∷ 0x42 ∷ 0x0f ∷ 0 ∷ 3 ∷ 0 ∷ 0 ∷ 0
          ∷ 1 ∷ [],
      reading.Number 1,
    )
    ∷ (0x0b, 0x02, [], reading.Bad)
    ∷ (0x0b, 0x03, [], reading.Nothing)
    ∷ (0x04, 0x02, 1 ∷ [], reading.Nothing)
    ∷ (0x00, 0x02, [], reading.Nothing)
    ∷ []

pub answer_rows-read : map (λ row. reading_of row.0 row.1 row.2) answer_rows
    ≡ map (λ row. row.3) answer_rows
answer_rows-read = refl
