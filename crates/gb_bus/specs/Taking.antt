-- What a message brings to an end.
use Rattle.std.specs.Prelude.{ℕ, ◌==◌, List, [], true, false, is_none, Option, Some, None}
use Rattle.std.specs.Prelude.{if◌then◌else◌}
use Rattle.gb_bus.specs.declared.answers.Arrival.{Arrival}
use Rattle.gb_bus.specs.declared.answers.Arrival.TheVariants as arrival
use Rattle.gb_bus.specs.declared.answers.Asked.{Asked}
use Rattle.gb_bus.specs.declared.queue.Item.{Item}
use Rattle.gb_bus.specs.declared.queue.Item.TheVariants as item
use Rattle.gb_bus.specs.declared.slots.Slot.{Slot}

-- the payload of a response counts only where the result is 0
abbrev pub shown : ℕ → List ℕ → List ℕ
shown code payload = if code == 0 then payload else []

-- the type of an open request, by what is kept of it
abbrev pub open_kind : Option Slot → Option ℕ
open_kind None = None
open_kind (Some slot) = if is_none slot.outcome then Some slot.kind else None

-- the reply to a request, with a number or without
abbrev pub reply_by : Option ℕ → ℕ → ℕ → List ℕ → Item
reply_by (Some number) label code payload = item.Reply number label code payload
reply_by None label code payload = item.RawReply label code payload

abbrev pub reply_item : Asked → ℕ → List ℕ → Item
reply_item asked code payload = reply_by asked.number asked.label code payload

-- what is told of a message that is dropped
abbrev pub dropped : Item → Arrival
dropped (item.Raw label kind result payload) = arrival.Dropped None false
dropped (item.BadRaw fault) = arrival.Dropped None false
dropped (item.RawReply label result payload) = arrival.Dropped None true
dropped (item.Ask number label kind payload) = arrival.Dropped (Some number) false
dropped (item.Reply number label result payload) = arrival.Dropped (Some number) true
