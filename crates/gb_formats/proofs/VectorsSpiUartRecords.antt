-- Records of the SPI and UART protocols: one for each row, both ways, and some mismatches.
use Rattle.std.proofs.Common.{◌≡◌, ℕ, List, [], ◌∷◌, refl}
use Rattle.std.specs.Prelude.{Ok, Err, map}
use Rattle.gb_formats.specs.Records.{PayloadFault}
use Rattle.gb_formats.specs.SpiRecords.{SpiAsk, read_spi_ask, spi_ask_kind, spi_ask_payload}
use Rattle.gb_formats.specs.SpiRecords.{SpiReply, read_spi_reply, spi_reply_kind, spi_reply_payload}
use Rattle.gb_formats.specs.UartRecords.{UartAsk, read_uart_ask, uart_ask_kind, uart_ask_payload}
use Rattle.gb_formats.specs.UartRecords.{UartReply, read_uart_reply, uart_reply_kind}
use Rattle.gb_formats.specs.UartRecords.{uart_reply_payload}

-- types, payloads and records of the SPI protocol
abbrev pub spi_ask_rows : List (ℕ × List ℕ × SpiAsk)
spi_ask_rows =
    (0x02, [], SpiAsk.MasterConfig)
    ∷ (0x03, 0 ∷ [], SpiAsk.DeviceConfig 0)
    ∷ (
      0x04,
      0 ∷ 0 ∷ 2 ∷ 0 ∷ 64 ∷ 66 ∷ 15 ∷ 0 ∷ 2 ∷ 0 ∷ 0 ∷ 0 ∷ 0 ∷ 0 ∷ 0 ∷ 8 ∷ 3 ∷ 64 ∷ 66 ∷
          15 ∷ 0 ∷ 2 ∷ 0 ∷ 0 ∷ 0 ∷ 0 ∷ 0 ∷ 0 ∷ 8 ∷ 1 ∷ 1 ∷ 2 ∷ [],
      SpiAsk.Transfer 0 0 (64 ∷ 66 ∷
          15 ∷ 0 ∷ 2 ∷ 0 ∷ 0 ∷ 0 ∷ 0 ∷ 0 ∷ 0 ∷ 8 ∷ 3 ∷ 64 ∷ 66 ∷ 15 ∷ 0 ∷ 2 ∷ 0 ∷ 0 ∷ 0 ∷ 0 ∷ 0 ∷
          0 ∷ 8 ∷ 1 ∷ []) (1 ∷ 2 ∷ []),
    )
    ∷ []

pub spi_ask_rows-read : map (λ row. read_spi_ask row.0 row.1) spi_ask_rows
    ≡ map (λ row. Ok row.2) spi_ask_rows
spi_ask_rows-read = refl

pub spi_ask_rows-kind : map (λ row. spi_ask_kind row.2) spi_ask_rows
    ≡ map (λ row. row.0) spi_ask_rows
spi_ask_rows-kind = refl

pub spi_ask_rows-payload : map (λ row. spi_ask_payload row.2) spi_ask_rows
    ≡ map (λ row. row.1) spi_ask_rows
spi_ask_rows-payload = refl

-- payloads that are no record of their type, and the place where they part
abbrev pub spi_ask_faults : List (ℕ × List ℕ × PayloadFault)
spi_ask_faults =
    (0x05, [], PayloadFault.UnknownKind)
    ∷ (0x04, 0 ∷ 0 ∷ 2 ∷ [], PayloadFault.Mismatch 3)
    ∷ (
      0x04,
      0 ∷ 0 ∷ 2 ∷ 0 ∷ 64 ∷ 66 ∷ 15 ∷ 0 ∷ 2 ∷ 0 ∷ 0 ∷ 0 ∷ 0 ∷ 0 ∷ 0 ∷ 8 ∷ 3 ∷ 64 ∷ 66 ∷
          15 ∷ 0 ∷ 2 ∷ 0 ∷ 0 ∷ 0 ∷ 0 ∷ 0 ∷ 0 ∷ 8 ∷ 1 ∷ 1 ∷ [],
      PayloadFault.Mismatch 31,
    )
    ∷ (
      0x04,
      0 ∷ 0 ∷ 2 ∷ 0 ∷ 64 ∷ 66 ∷ 15 ∷ 0 ∷ 2 ∷ 0 ∷ 0 ∷ 0 ∷ 0 ∷ 0 ∷ 0 ∷ 8 ∷ 3 ∷ 64 ∷ 66 ∷
          15 ∷ 0 ∷ 2 ∷ 0 ∷ 0 ∷ 0 ∷ 0 ∷ 0 ∷ 0 ∷ 8 ∷ 1 ∷ 1 ∷ 2 ∷ 3 ∷ [],
      PayloadFault.Mismatch 33,
    )
    ∷ (0x03, [], PayloadFault.Mismatch 0)
    ∷ (0x03, 0 ∷ 0 ∷ 0 ∷ [], PayloadFault.Mismatch 2)
    ∷ (0x04, 0 ∷ 0 ∷ 0 ∷ 0 ∷ 9 ∷ 9 ∷ [], PayloadFault.Mismatch 5)
    ∷ []

pub spi_ask_faults-read : map (λ row. read_spi_ask row.0 row.1) spi_ask_faults
    ≡ map (λ row. Err row.2) spi_ask_faults
spi_ask_faults-read = refl

-- types, payloads and records of the SPI protocol
abbrev pub spi_reply_rows : List (ℕ × List ℕ × SpiReply)
spi_reply_rows = (
  0x02,
  128 ∷ 0 ∷ 0 ∷ 0 ∷ 232 ∷ 3 ∷ 0 ∷ 0 ∷ 64 ∷ 66 ∷ 15 ∷ 0 ∷ 3 ∷ 0 ∷ 0 ∷ 0 ∷ 1 ∷ [],
  SpiReply.MasterConfig 128 1000 1000000 3 0 1,
)
    ∷ (
      0x03,
      0 ∷ 0 ∷ 8 ∷ 64 ∷ 66 ∷ 15 ∷ 0 ∷ 0 ∷ 101 ∷ 99 ∷ 104 ∷ 111 ∷ 0 ∷ 0 ∷ 0 ∷ 0 ∷ 0 ∷ 0 ∷
          0 ∷ 0 ∷ 0 ∷ 0 ∷ 0 ∷ 0 ∷ 0 ∷ 0 ∷ 0 ∷ 0 ∷ 0 ∷ 0 ∷ 0 ∷ 0 ∷ 0 ∷ 0 ∷ 0 ∷ 0 ∷ 0 ∷ 0 ∷ 0 ∷ 0 ∷
          [],
      SpiReply.DeviceConfig 0 8 1000000 0 (101 ∷ 99 ∷ 104 ∷ 111 ∷ 0 ∷ 0 ∷ 0 ∷ 0 ∷ 0 ∷ 0 ∷
          0 ∷ 0 ∷ 0 ∷ 0 ∷ 0 ∷ 0 ∷ 0 ∷ 0 ∷ 0 ∷ 0 ∷ 0 ∷ 0 ∷ 0 ∷ 0 ∷ 0 ∷ 0 ∷ 0 ∷ 0 ∷ 0 ∷ 0 ∷ 0 ∷ 0 ∷
          []),
    )
    ∷ (0x04, 1 ∷ 2 ∷ 2 ∷ 2 ∷ [], SpiReply.Transfer (1 ∷ 2 ∷ 2 ∷ 2 ∷ []))
    ∷ []

pub spi_reply_rows-read : map (λ row. read_spi_reply row.0 row.1) spi_reply_rows
    ≡ map (λ row. Ok row.2) spi_reply_rows
spi_reply_rows-read = refl

pub spi_reply_rows-kind : map (λ row. spi_reply_kind row.2) spi_reply_rows
    ≡ map (λ row. row.0) spi_reply_rows
spi_reply_rows-kind = refl

pub spi_reply_rows-payload : map (λ row. spi_reply_payload row.2) spi_reply_rows
    ≡ map (λ row. row.1) spi_reply_rows
spi_reply_rows-payload = refl

-- payloads that are no record of their type, and the place where they part
abbrev pub spi_reply_faults : List (ℕ × List ℕ × PayloadFault)
spi_reply_faults = (
  0x03,
  0 ∷ 0 ∷ 8 ∷ 64 ∷ 66 ∷ 15 ∷ 0 ∷ 0 ∷ 101 ∷ 99 ∷ 104 ∷ 111 ∷ 0 ∷ 0 ∷ 0 ∷ 0 ∷ 0 ∷ 0 ∷
      0 ∷ 0 ∷ 0 ∷ 0 ∷ 0 ∷ 0 ∷ 0 ∷ 0 ∷ 0 ∷ 0 ∷ 0 ∷ 0 ∷ 0 ∷ 0 ∷ 0 ∷ 0 ∷ 0 ∷ 0 ∷ 0 ∷ 0 ∷ 0 ∷ [],
  PayloadFault.Mismatch 39,
)
    ∷ []

pub spi_reply_faults-read : map (λ row. read_spi_reply row.0 row.1) spi_reply_faults
    ≡ map (λ row. Err row.2) spi_reply_faults
spi_reply_faults-read = refl

-- types, payloads and records of the UART protocol
abbrev pub uart_ask_rows : List (ℕ × List ℕ × UartAsk)
uart_ask_rows =
    (0x02, 2 ∷ 0 ∷ 171 ∷ 205 ∷ [], UartAsk.SendData (171 ∷ 205 ∷ []))
    ∷ (0x02, 0 ∷ 0 ∷ [], UartAsk.SendData [])
    ∷ (0x03, 1 ∷ 0 ∷ 3 ∷ 171 ∷ [], UartAsk.ReceiveData 3 (171 ∷ []))
    ∷ (0x04, 0 ∷ 194 ∷ 1 ∷ 0 ∷ 0 ∷ 1 ∷ 8 ∷ 0 ∷ [], UartAsk.SetLineCoding 115200 0 1 8 0)
    ∷ (0x05, 3 ∷ [], UartAsk.SetControlLineState 3)
    ∷ (0x06, 1 ∷ [], UartAsk.SendBreak 1)
    ∷ (0x07, 255 ∷ [], UartAsk.SerialState 255)
    ∷ (0x08, 0 ∷ 16 ∷ [], UartAsk.ReceiveCredits 4096)
    ∷ (0x09, 2 ∷ [], UartAsk.FlushFifos 2)
    ∷ []

pub uart_ask_rows-read : map (λ row. read_uart_ask row.0 row.1) uart_ask_rows
    ≡ map (λ row. Ok row.2) uart_ask_rows
uart_ask_rows-read = refl

pub uart_ask_rows-kind : map (λ row. uart_ask_kind row.2) uart_ask_rows
    ≡ map (λ row. row.0) uart_ask_rows
uart_ask_rows-kind = refl

pub uart_ask_rows-payload : map (λ row. uart_ask_payload row.2) uart_ask_rows
    ≡ map (λ row. row.1) uart_ask_rows
uart_ask_rows-payload = refl

-- payloads that are no record of their type, and the place where they part
abbrev pub uart_ask_faults : List (ℕ × List ℕ × PayloadFault)
uart_ask_faults =
    (0x01, [], PayloadFault.UnknownKind)
    ∷ (0x02, 2 ∷ 0 ∷ 171 ∷ [], PayloadFault.Mismatch 3)
    ∷ (0x02, 2 ∷ 0 ∷ 171 ∷ 205 ∷ 239 ∷ [], PayloadFault.Mismatch 5)
    ∷ (0x02, 0 ∷ 0 ∷ 1 ∷ 2 ∷ 3 ∷ [], PayloadFault.Mismatch 3)
    ∷ (0x02, 5 ∷ [], PayloadFault.Mismatch 1)
    ∷ (0x03, 1 ∷ 0 ∷ 3 ∷ 171 ∷ 205 ∷ [], PayloadFault.Mismatch 5)
    ∷ (0x03, 0 ∷ 0 ∷ [], PayloadFault.Mismatch 2)
    ∷ (0x04, 0 ∷ 194 ∷ 1 ∷ 0 ∷ 0 ∷ 1 ∷ 8 ∷ [], PayloadFault.Mismatch 7)
    ∷ []

pub uart_ask_faults-read : map (λ row. read_uart_ask row.0 row.1) uart_ask_faults
    ≡ map (λ row. Err row.2) uart_ask_faults
uart_ask_faults-read = refl

-- types, payloads and records of the UART protocol
abbrev pub uart_reply_rows : List (ℕ × List ℕ × UartReply)
uart_reply_rows =
    (0x02, [], UartReply.SendData)
    ∷ (0x03, [], UartReply.ReceiveData)
    ∷ (0x04, [], UartReply.SetLineCoding)
    ∷ (0x05, [], UartReply.SetControlLineState)
    ∷ (0x06, [], UartReply.SendBreak)
    ∷ (0x07, [], UartReply.SerialState)
    ∷ (0x08, [], UartReply.ReceiveCredits)
    ∷ (0x09, [], UartReply.FlushFifos)
    ∷ []

pub uart_reply_rows-read : map (λ row. read_uart_reply row.0 row.1) uart_reply_rows
    ≡ map (λ row. Ok row.2) uart_reply_rows
uart_reply_rows-read = refl

pub uart_reply_rows-kind : map (λ row. uart_reply_kind row.2) uart_reply_rows
    ≡ map (λ row. row.0) uart_reply_rows
uart_reply_rows-kind = refl

pub uart_reply_rows-payload : map (λ row. uart_reply_payload row.2) uart_reply_rows
    ≡ map (λ row. row.1) uart_reply_rows
uart_reply_rows-payload = refl

-- payloads that are no record of their type, and the place where they part
abbrev pub uart_reply_faults : List (ℕ × List ℕ × PayloadFault)
uart_reply_faults =
    (0x01, [], PayloadFault.UnknownKind)
    ∷ (0x02, 0 ∷ 0 ∷ [], PayloadFault.Mismatch 1)
    ∷ []

pub uart_reply_faults-read : map (λ row. read_uart_reply row.0 row.1) uart_reply_faults
    ≡ map (λ row. Err row.2) uart_reply_faults
uart_reply_faults-read = refl
