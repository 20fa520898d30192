-- The messages that values of the code stand for.
use Rattle.std.specs.Prelude.{List, map}
use Rattle.gb_formats.specs.Message as formats
use Rattle.gb_wire.specs.declared.message.Message.{Message}
use Rattle.gb_wire.specs.declared.owned.OwnedMessage.{OwnedMessage}

abbrev pub message_of : Message → formats.Message
message_of m =
    record { id = m.id; kind = m.kind; result = m.result; payload = m.payload.now }

abbrev pub owned_message_of : OwnedMessage → formats.Message
owned_message_of m = record { id = m.id; kind = m.kind; result = m.result; payload = m.payload }

abbrev pub messages_of : List OwnedMessage → List formats.Message
messages_of ms = map owned_message_of ms
