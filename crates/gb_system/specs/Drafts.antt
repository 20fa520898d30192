-- The requests and replies of the parties, by the values of the code.
use Rattle.std.specs.Prelude.{◌≡◌, ℕ, Bool, Option, Some, option_map, List}
use Rattle.gb_base.specs.declared.end.End.{End}
use Rattle.gb_base.specs.declared.end.End.TheVariants as end
use Rattle.gb_base.specs.declared.end.Side.{Side}
use Rattle.gb_base.specs.declared.end.Side.TheVariants as side
use Rattle.gb_base.specs.declared.entry.Entry.{Entry}
use Rattle.gb_base.specs.declared.entry.Entry.TheVariants as entry
use Rattle.gb_base.specs.declared.served.OwnAsk.{OwnAsk}
use Rattle.gb_bus.specs.Wiring.{ends_of}
use Rattle.gb_formats.specs.Message.{message_size, request, response, spelling}
use Rattle.gb_machine.specs.Bus.{Bus, Connection, connection_of, other_side}
use Rattle.gb_machine.specs.Sending as machine
use Rattle.gb_system.specs.declared.asking.Draft.{Draft}

-- what a party asks for
abbrev pub draft_of : Draft → machine.Draft
draft_of q = record {
  connection = q.connection;
  side = q.side;
  kind = q.kind;
  payload = q.payload.now;
  deadline = q.deadline;
  oneway = q.oneway;
}

-- a request that a far side makes of its own
abbrev pub own_ask : ℕ → List ℕ → Bool → OwnAsk
own_ask kind payload oneway = record { kind = kind; payload = payload; oneway = oneway }

-- the end of a side of a connection between these ends
abbrev pub end_at : Side → ℕ × End → End
end_at side.Ap ends = end.Ap ends.0
end_at side.Far ends = ends.1

-- A connection that was live before is connection k, between the same ends.
pub record IsUpon (k : ℕ) (b : Bus) (c : Connection) : Type 0 where
  pub number : c.number ≡ k
  pub ends : option_map ends_of (connection_of k b) ≡ Some (ends_of c)

-- what is told of a request that a side makes
abbrev pub ask_told : Side → ℕ × End → ℕ → ℕ → ℕ → List ℕ → Bool → Entry
ask_told at ends n label kind payload lost =
    entry.Asked n (end_at at ends) (end_at (other_side at) ends) kind (message_size payload)
    (spelling (request label kind payload)) lost

-- what is told of a reply of a side
abbrev pub reply_told : Side → ℕ × End → Option ℕ → ℕ → ℕ → ℕ → List ℕ → Entry
reply_told at ends n label kind result payload =
    entry.Replied n (end_at at ends) (end_at (other_side at) ends) result (message_size payload)
    (spelling (response label kind result payload))
