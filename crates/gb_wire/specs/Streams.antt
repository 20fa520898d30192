-- What a feeder has handed out of a stream, and what it holds.
use Rattle.std.specs.Prelude.{◌≡◌, ◌<◌, ◌≤◌, ℕ, List, length, Option, Some, None}
use Rattle.gb_base.specs.declared.reasons.WireFault.{WireFault}
use Rattle.gb_base.specs.declared.reasons.WireFault.TheVariants as wire
use Rattle.gb_formats.specs.Message.{Message}
use Rattle.gb_formats.specs.Wire.{header_size, longest_spelled_payload, size_field, result_field}
use Rattle.gb_formats.specs.Wire.{IsShort, BeginsWrongRequest, IsStream}

-- Which messages have a spelling.
pub record IsSpelled (m : Message) : Type 0 where
  pub short : length m.payload ≤ longest_spelled_payload
  pub id_fits : m.id < 65536
  pub clear : m.kind < 128 → m.result ≡ 0

-- Bytes begin with a message that can't be, and this is why.
abbrev pub BeginsWith : WireFault → List ℕ → Type 0
BeginsWith (wire.Short need) bytes = ⊥
BeginsWith (wire.SizeBelowEight size) bytes =
    (header_size ≤ length bytes) × (size_field bytes < header_size) × (size ≡ size_field bytes)
BeginsWith (wire.RequestResult result) bytes =
    (header_size ≤ length bytes) × BeginsWrongRequest bytes × (result ≡ result_field bytes)

-- What a feeder holds: the bytes of a message that isn't whole yet, or the fault at which the
-- stream stopped.
pub data Held : Type 0 where
  Part : (bytes : List ℕ) → Held
  Stopped : (fault : WireFault) → Held

-- what is held where the stream goes on with these bytes, or has stopped at a fault
abbrev pub held : Option WireFault → List ℕ → Held
held None bytes = Part bytes
held (Some fault) bytes = Stopped fault

-- the fault that stays, whatever comes
abbrev pub lasting : WireFault → Option WireFault
lasting (wire.Short need) = None
lasting (wire.SizeBelowEight size) = Some (wire.SizeBelowEight size)
lasting (wire.RequestResult result) = Some (wire.RequestResult result)

-- Of these bytes these messages were handed out, and this is held: the messages are those of the
-- stream's division, and what is left is held or begins with the fault.
abbrev pub HandedOut : List ℕ → List Message → Held → Type 0
HandedOut bytes messages (Part rest) = IsStream bytes messages rest × IsShort rest
HandedOut bytes messages (Stopped fault) =
    (rest : List ℕ) × IsStream bytes messages rest × BeginsWith fault rest
