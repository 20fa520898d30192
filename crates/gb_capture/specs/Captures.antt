-- What a read line of a capture is, as values of the code.
use Rattle.std.specs.Prelude.{Bool, Option, Some, None, Result, Ok, Err}
use Rattle.gb_base.specs.declared.reasons.CaptureFault.{CaptureFault}
use Rattle.gb_formats.specs.Captures.{Captured}
use Rattle.gb_wire.specs.MessageOf.{message_of}
use Rattle.gb_wire.specs.declared.message.Message.{Message}

-- what a line is
abbrev pub captured_of : Result (Option (Bool × Message)) CaptureFault → Captured
captured_of (Ok None) = Ok None
captured_of (Ok (Some found)) = Ok (Some (found.0, message_of found.1))
captured_of (Err why) = Err why
