-- Requests whose payload fits into a message.
use Rattle.std.specs.Prelude.{ℕ, nat_lt, if◌then◌else◌, Result, Ok, Err, List, length}
use Rattle.gb_formats.specs.Bridges.{BridgeFault, TooLarge}
use Rattle.gb_formats.specs.Results.{most_payload}

-- a request of this type and payload, too large where a message hasn't the room
abbrev pub fitting : ℕ → List ℕ → Result (ℕ × List ℕ) BridgeFault
fitting kind payload =
    if nat_lt most_payload (length payload) then Err TooLarge else Ok (kind, payload)
