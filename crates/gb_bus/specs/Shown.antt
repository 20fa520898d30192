-- What the connections of the machine are as a bus has them.
use Rattle.std.specs.Prelude.{ℕ, Option, Some, None, List, [], map}
use Rattle.gb_bus.specs.Connection.{Connection}
use Rattle.gb_bus.specs.Raw.{raw_item}
use Rattle.gb_bus.specs.declared.queue.Item.{Item}
use Rattle.gb_bus.specs.declared.queue.Item.TheVariants as code
use Rattle.gb_formats.specs.Wire.{raw_message}
use Rattle.gb_machine.specs.Bus as machine
use Rattle.gb_machine.specs.Bus.{Request}
use Rattle.gb_machine.specs.Lists.{nth}
use Rattle.gb_ops.specs.Calls.{no_operations}

-- Where no request was made under a number, an item has identifier 0 and no payload. It doesn't
-- happen where a bus stands: its items are of requests that were made (ItemsFit).

-- the message of request n
abbrev pub ask_in : ℕ → Option Request → Item
ask_in n None = code.Ask n 0 0 []
ask_in n (Some r) = code.Ask n r.label r.kind r.payload

-- the message of a reply to request n
abbrev pub reply_in : ℕ → ℕ → List ℕ → Option Request → Item
reply_in n result payload None = code.Reply n 0 result payload
reply_in n result payload (Some r) = code.Reply n r.label result payload

-- An item of the machine as the message that a queue has. Raw bytes are decoded already.
abbrev pub item_in : List Request → machine.Item → Item
item_in requests (machine.Ask n) = ask_in n (nth n requests)
item_in requests (machine.Reply n result payload) = reply_in n result payload (nth n requests)
item_in requests (machine.Raw bytes) = raw_item (raw_message bytes)
item_in requests (machine.RawReply label kind result payload) = code.RawReply label result payload

-- A connection of the machine as a bus has it, but for the requests of its sides.
abbrev pub connection_in : List Request → machine.Connection → Connection
connection_in requests c = record {
  number = c.number;
  ap = c.ap;
  peer = c.peer;
  protocol = c.protocol;
  wired = c.wired;
  clean = c.clean;
  shut = c.shut;
  ap_ops = no_operations;
  far_ops = no_operations;
  to_ap = map (item_in requests) c.to_ap;
  to_far = map (item_in requests) c.to_far;
}

-- a connection but for the requests of its sides, of which `KeepSides` speaks
abbrev pub without_ops : Connection → Connection
without_ops x = record x { ap_ops = no_operations; far_ops = no_operations }
