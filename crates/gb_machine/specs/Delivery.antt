-- What becomes of the bus when a message is delivered.
use Rattle.std.specs.Prelude.{ℕ, ◌==◌, not, if◌then◌else◌, List, [], ◌∷◌}
use Rattle.std.specs.List.{filter}
use Rattle.gb_base.specs.declared.end.Side.{Side}
use Rattle.gb_base.specs.declared.outcome.Outcome.{Outcome}
use Rattle.gb_base.specs.declared.outcome.Outcome.TheVariants as outcome
use Rattle.gb_machine.specs.Bus.{Bus, Connection, Item, has_number, queue, with_queue}
use Rattle.gb_machine.specs.Lists.{at_first, behind_first}
use Rattle.gb_machine.specs.Sending.{put}

-- the connection without the front item of the queue toward a side
abbrev pub without_front : Side → Connection → Connection
without_front side c = with_queue side (behind_first (queue side c)) c

-- The front item toward a side of a connection is taken.
abbrev pub popped : ℕ → Side → Bus → Bus
popped k side b =
    record b { connections = at_first (has_number k) (without_front side) b.connections }

-- An item goes toward a side of a connection.
abbrev pub replied : ℕ → Side → Item → Bus → Bus
replied k side item b =
    record b { connections = at_first (has_number k) (put side item) b.connections }

-- A request ends.
abbrev pub ended : ℕ → Outcome → Bus → Bus
ended n how b = record b { outcomes = (n, how) ∷ b.outcomes }

-- An answer to a request that was given up came: its identifier is free.
abbrev pub forgotten : ℕ → Bus → Bus
forgotten n b = record b { given_up = filter (λ m. not (m == n)) b.given_up }

-- the payload of a response counts only where the result is 0
abbrev pub answered : ℕ → List ℕ → Outcome
answered result payload = outcome.Answered result (if result == 0 then payload else [])
