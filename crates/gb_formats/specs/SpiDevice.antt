-- The SPI device at chip select 0: an echo, which keeps the last byte written.
use Rattle.std.specs.Prelude.{ℕ, ◌-◌, ◌/◌, ◌==◌, nat_lt, Bool, not, ◌||◌, if◌then◌else◌, Result, Ok}
use Rattle.std.specs.Prelude.{Err, List, [], ◌∷◌, ◌++◌, length, take, drop, replicate}
use Rattle.std.specs.Prelude.{slice_index_or, sum_by, codes}
use Rattle.std.specs.List.{list_any}
use Rattle.gb_formats.specs.Records.{PayloadFault}
use Rattle.gb_formats.specs.Results.{Step, tells, refuses, fault_result, invalid, nonexistent}
use Rattle.gb_formats.specs.Results.{overflow, most_payload}
use Rattle.gb_formats.specs.SpiRecords.{SpiAsk, SpiReply, TransferEntry, entry_size, name_size}
use Rattle.gb_formats.specs.SpiRecords.{entries_at, entry_writes, entry_written_size}
use Rattle.gb_formats.specs.SpiRecords.{entry_read_size, read_spi_ask, spi_reply_payload}

-- the last byte written is first 0
abbrev pub first_spi : ℕ
first_spi = 0

-- what the master is: bits of 8, 1,000 to 1,000,000 Hz, mode 3, no flags, one chip select
abbrev pub master : SpiReply
master = SpiReply.MasterConfig 0x80 1000 1000000 3 0 1

-- the name of the device at chip select 0
abbrev pub echo_name : List ℕ
echo_name = codes "echo" ++ replicate (name_size - 4) 0

-- what the device at chip select 0 is
abbrev pub echo : SpiReply
echo = SpiReply.DeviceConfig 0 8 1000000 0 echo_name

-- the last of some bytes, or what was the last before
abbrev pub last_of : ℕ → List ℕ → ℕ
last_of last bytes = slice_index_or bytes (length bytes - 1) last

-- the bytes that an entry writes
abbrev pub entry_written_bytes : TransferEntry → List ℕ → List ℕ
entry_written_bytes entry bytes = take (entry_written_size entry) bytes

-- An entry with read and write reads back what it writes, one with read alone reads the
-- last byte, repeated.
abbrev pub entry_read_bytes : ℕ → TransferEntry → List ℕ → List ℕ
entry_read_bytes last entry bytes =
    if entry_writes entry then take (entry_read_size entry) bytes
    else replicate (entry_read_size entry) last

-- Entries in order, with the write data that is left and behind the bytes that were read.
abbrev pub entries_run : ℕ → List ℕ → List ℕ → List TransferEntry → Step ℕ
entries_run last bytes front [] = tells last (spi_reply_payload (SpiReply.Transfer front))
entries_run last bytes front (entry ∷ entries) =
    entries_run (last_of last (entry_written_bytes entry bytes))
    (drop (entry_written_size entry) bytes) (front ++ entry_read_bytes last entry bytes) entries

-- an entry whose bits aren't 8 or whose flags are above 7
abbrev pub is_strange : TransferEntry → Bool
is_strange entry = not (entry.bits == 8) || nat_lt 7 entry.flags

-- a transfer of these entries with this data
abbrev pub spi_transfer_step : ℕ → ℕ → ℕ → List TransferEntry → List ℕ → Step ℕ
spi_transfer_step last select mode entries bytes =
    if nat_lt 3 mode || list_any is_strange entries then refuses last invalid
    else if nat_lt 0 select then refuses last nonexistent
    else if nat_lt most_payload (sum_by entry_read_size entries) then refuses last overflow
    else entries_run last bytes [] entries

-- what each request does
abbrev pub spi_asked : ℕ → SpiAsk → Step ℕ
spi_asked last SpiAsk.MasterConfig = tells last (spi_reply_payload master)
spi_asked last (SpiAsk.DeviceConfig select) =
    if select == 0 then tells last (spi_reply_payload echo) else refuses last nonexistent
spi_asked last (SpiAsk.Transfer select mode entries bytes) =
    spi_transfer_step last select mode (entries_at (length entries / entry_size) entries) bytes

-- a request by its payload
abbrev pub spi_read : ℕ → Result SpiAsk PayloadFault → Step ℕ
spi_read last (Ok ask) = spi_asked last ask
spi_read last (Err fault) = refuses last (fault_result fault)

-- The SPI device's step.
abbrev pub spi_step : ℕ → ℕ → List ℕ → Step ℕ
spi_step last kind payload = spi_read last (read_spi_ask kind payload)
