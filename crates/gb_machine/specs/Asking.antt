-- The action of asking: a request is made and told.
use Rattle.std.specs.Prelude.{ℕ}
use Rattle.gb_base.specs.declared.bridge.Reading.TheVariants as reading
use Rattle.gb_base.specs.declared.entry.Entry.{Entry}
use Rattle.gb_base.specs.declared.entry.Entry.TheVariants as entry
use Rattle.gb_base.specs.declared.outcome.Outcome.TheVariants as outcome
use Rattle.gb_formats.specs.Message.{message_size, request, spelling}
use Rattle.gb_machine.specs.Actions.{Action, by_state, given, on_bus, tell, when, ◌▸◌}
use Rattle.gb_machine.specs.Bus.{Bus, Connection, connection_of, end_of, next_number, other_side}
use Rattle.gb_machine.specs.Sending.{Draft, is_lost, label_for, sent}

-- what is told of a request
abbrev pub asked : Draft → Connection → ℕ → Bus → Entry
asked d c label b =
    entry.Asked (next_number b) (end_of d.side c) (end_of (other_side d.side) c) d.kind
    (message_size d.payload) (spelling (request label d.kind d.payload)) (is_lost d b)

-- A request is made with this identifier. A unidirectional one ends as Sent at once.
unfoldable pub asks_with : Draft → Connection → ℕ → Action
asks_with d c label = by_state (λ s.
    on_bus (sent d label) ▸ tell (asked d c label s.bus)
    ▸ when d.oneway (tell (entry.Ended (next_number s.bus) outcome.Sent reading.Nothing)))

-- A request is made, where its connection is live and an identifier is left.
unfoldable pub asks : Draft → Action
asks d = by_state (λ s. given (connection_of d.connection s.bus)
    (λ c. given (label_for d s.bus) (λ label. asks_with d c label)))
