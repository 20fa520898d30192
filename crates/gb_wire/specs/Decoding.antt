-- What decoding answers, as values of the code.
use Rattle.std.specs.Prelude.{ℕ, nat_lt, if◌then◌else◌, List, Result, Ok, Err}
use Rattle.gb_base.specs.declared.reasons.WireFault.{WireFault}
use Rattle.gb_base.specs.declared.reasons.WireFault.TheVariants as wire
use Rattle.gb_formats.specs.Message as formats
use Rattle.gb_formats.specs.Wire.{header_size, size_field, result_field, is_wrong_request}
use Rattle.gb_wire.specs.MessageOf.{message_of}
use Rattle.gb_wire.specs.declared.message.Message.{Message}

-- the answer of decoding that a value of the code stands for
abbrev pub answer_of : Result (Message × ℕ) WireFault → Result (formats.Message × ℕ) WireFault
answer_of (Ok found) = Ok (message_of found.0, found.1)
answer_of (Err fault) = Err fault

-- What a header says where so many bytes are there: the size of its message, or what is wrong.
abbrev pub judged : List ℕ → ℕ → Result ℕ WireFault
judged header there =
    if nat_lt (size_field header) header_size
    then Err (wire.SizeBelowEight (size_field header))
    else if nat_lt there (size_field header) then Err (wire.Short (size_field header))
    else if is_wrong_request header then Err (wire.RequestResult (result_field header))
    else Ok (size_field header)
