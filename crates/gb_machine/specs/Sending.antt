-- Sending a request.
use Rattle.std.specs.Prelude.{ℕ, Bool, false, not, if◌then◌else◌, Option, Some, None, List, [], ◌∷◌}
use Rattle.std.specs.Prelude.{◌++◌}
use Rattle.gb_base.specs.declared.end.Side.{Side}
use Rattle.gb_base.specs.declared.outcome.Outcome.{Outcome}
use Rattle.gb_base.specs.declared.outcome.Outcome.TheVariants as outcome
use Rattle.gb_machine.specs.Bus.{Ask, Bus, Connection, Item, Request, connection_of, has_number}
use Rattle.gb_machine.specs.Bus.{next_number, other_side, queue, with_queue}
use Rattle.gb_machine.specs.Labels.{next_label, with_last_label}
use Rattle.gb_machine.specs.Lists.{at_first}

-- What a party asks for.
pub record Draft : Type 0 where
  pub connection : ℕ
  pub side : Side  -- the side that asks
  pub kind : ℕ
  pub payload : List ℕ
  pub deadline : ℕ
  pub oneway : Bool

-- what a side of a connection asks for: type, payload, deadline, and whether it is unidirectional
abbrev pub draft : ℕ → Side → ℕ → List ℕ → ℕ → Bool → Draft
draft k at kind payload deadline oneway = record {
  connection = k;
  side = at;
  kind = kind;
  payload = payload;
  deadline = deadline;
  oneway = oneway;
}

-- the identifier that the request gets: 0 where it is unidirectional, None where none is left
abbrev pub label_for : Draft → Bus → Option ℕ
label_for d b = if d.oneway then Some 0 else next_label d.connection d.side b

-- the request that is made of a draft
abbrev pub requested : Draft → ℕ → Request
requested d label = record {
  connection = d.connection;
  side = d.side;
  label = label;
  kind = d.kind;
  payload = d.payload;
  deadline = d.deadline;
  oneway = d.oneway;
}

-- an item goes to the end of the queue toward a side
abbrev pub queued : Side → Item → Connection → Connection
queued side item c = with_queue side (queue side c ++ item ∷ []) c

-- the same where the connection is wired; else it is lost
abbrev pub put : Side → Item → Connection → Connection
put side item c = if c.wired then queued side item c else c

-- the identifier is the last that was drawn on the side
abbrev pub drawn : Draft → ℕ → Connection → Connection
drawn d label c = if d.oneway then c else with_last_label d.side label c

-- a unidirectional request ends as Sent at once
abbrev pub sent_at_once : Draft → ℕ → List (ℕ × Outcome) → List (ℕ × Outcome)
sent_at_once d n outcomes = if d.oneway then (n, outcome.Sent) ∷ outcomes else outcomes

-- The bus once the request is made: it has the next number and goes toward the other side.
abbrev pub sent : Draft → ℕ → Bus → Bus
sent d label b =
    let n = next_number b in
    record b {
      requests = b.requests ++ requested d label ∷ [];
      outcomes = sent_at_once d n b.outcomes;
      connections = at_first (has_number d.connection)
          (λ c. put (other_side d.side) (Ask n) (drawn d label c)) b.connections;
    }

-- a connection is there and wired
abbrev pub is_wired : Option Connection → Bool
is_wired None = false
is_wired (Some c) = c.wired

-- whether the request is lost, since the connection isn't wired
abbrev pub is_lost : Draft → Bus → Bool
is_lost d b = not (is_wired (connection_of d.connection b))
