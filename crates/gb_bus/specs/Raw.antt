-- Raw bytes as they wait in a queue.
use Rattle.std.specs.Prelude.{Result, Ok, Err}
use Rattle.gb_base.specs.declared.reasons.RawFault.{RawFault}
use Rattle.gb_bus.specs.declared.queue.Item.{Item}
use Rattle.gb_bus.specs.declared.queue.Item.TheVariants as code
use Rattle.gb_formats.specs.Message.{Message}

-- one whole message, or why the bytes aren't one
abbrev pub raw_item : Result Message RawFault → Item
raw_item (Ok m) = code.Raw m.id m.kind m.result m.payload
raw_item (Err fault) = code.BadRaw fault
