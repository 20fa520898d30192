-- What the ops of a transfer are refused for.
use Rattle.std.specs.Prelude.{◌≡◌, ℕ, nat_lt, if◌then◌else◌, Option, Some, None, Result, Ok, Err}
use Rattle.std.specs.Prelude.{List, sum_by}
use Rattle.std.specs.List.{list_any}
use Rattle.gb_formats.specs.I2cDevice.{has_strange_flags, is_elsewhere}
use Rattle.gb_formats.specs.I2cRecords.{TransferOp, op_read_size}
use Rattle.gb_formats.specs.Results.{invalid, most_payload, nonexistent, overflow}

-- the result of a refusal, if there is one
abbrev pub refusal : List TransferOp → Option ℕ
refusal ops =
    if list_any has_strange_flags ops then Some invalid
    else if list_any is_elsewhere ops then Some nonexistent
    else if nat_lt most_payload (sum_by op_read_size ops) then Some overflow
    else None

-- ops are refused, or they aren't
abbrev pub IsRefusedBy : {A : Type 0} → List TransferOp → Result A ℕ → Type 0
IsRefusedBy ops (Ok done) = refusal ops ≡ None
IsRefusedBy ops (Err code) = refusal ops ≡ Some code
