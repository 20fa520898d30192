-- Which messages take no memory where they are delivered.
use Rattle.std.specs.Prelude.{◌≡◌, ◌≤◌, ⊤, Bool, true, Option, option_and_then, Result, Err}
use Rattle.std.specs.Prelude.{List}
use Rattle.gb_base.specs.Bytes.{AreFew}
use Rattle.gb_base.specs.declared.end.End.{End}
use Rattle.gb_bus.specs.Connection.{Connection}
use Rattle.gb_bus.specs.Parts.{front_in, place_at}
use Rattle.gb_bus.specs.Taking.{shown}
use Rattle.gb_bus.specs.declared.answers.Arrived.{Arrived}
use Rattle.gb_bus.specs.declared.answers.DeliverFault.{DeliverFault}
use Rattle.gb_bus.specs.declared.answers.DeliverFault.TheVariants as deliver
use Rattle.gb_bus.specs.declared.queue.Item.{Item}
use Rattle.gb_bus.specs.declared.queue.Item.TheVariants as item

-- A response shows few bytes. Other messages keep no payload.
abbrev pub ShowsFew : Item → Type 0
ShowsFew (item.Reply number label code payload) = AreFew (shown code payload)
ShowsFew (item.Raw label kind code payload) = 128 ≤ kind → AreFew (shown code payload)
ShowsFew (item.RawReply label code payload) = AreFew (shown code payload)
ShowsFew other = ⊤

-- a message is dropped, or shows few bytes
abbrev pub ShowsFewWhere : Bool → Item → Type 0
ShowsFewWhere takes front = takes ≡ true → ShowsFew front

-- the message that is in front toward an end
abbrev pub front_at : End → List Connection → Option Item
front_at at cs = option_and_then (λ p. front_in p.0 p.1 cs) (place_at at cs)

-- memory isn't wanted
abbrev pub HasMemory : Result Arrived DeliverFault → Type 0
HasMemory (Err (deliver.Memory refused)) = ⊥
HasMemory other = ⊤
