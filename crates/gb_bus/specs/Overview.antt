-- What a bus tells of its connections and of what waits.
use Rattle.std.specs.Prelude.{ℕ, ◌==◌, Bool, Option, Some, None, option_and_then, option_map, find}
use Rattle.std.specs.Prelude.{if◌then◌else◌, List, [], ◌∷◌, length}
use Rattle.gb_base.specs.declared.end.End.{End}
use Rattle.gb_base.specs.declared.end.End.TheVariants as end
use Rattle.gb_base.specs.declared.end.Side.{Side}
use Rattle.gb_bus.specs.Connection.{Connection}
use Rattle.gb_bus.specs.Parts.{numbered, place_at, queue_of}
use Rattle.gb_bus.specs.declared.overview.Known.{Known}
use Rattle.gb_bus.specs.declared.overview.Waiting.{Waiting}
use Rattle.gb_machine.specs.Bus as machine
use Rattle.gb_machine.specs.Lists.{in_order}
use Rattle.gb_machine.specs.Waiting.{Queue, end_before}

-- ---- connections

-- what is told of a connection
abbrev pub known_as : Connection → Known
known_as x = record {
  number = x.number;
  ap = x.ap;
  peer = x.peer;
  protocol = x.protocol;
  clean = x.clean;
}

-- what there is to tell of a connection of the machine
abbrev pub known_of : machine.Connection → Known
known_of c = record {
  number = c.number;
  ap = c.ap;
  peer = c.peer;
  protocol = c.protocol;
  clean = c.clean;
}

-- ---- queues

-- what there is to tell of a queue of the machine
abbrev pub waiting_of : Queue → Waiting
waiting_of q = record { at = q.at; count = q.count }

-- the order is that of the ends
abbrev pub waiting_before : Waiting → Waiting → Bool
waiting_before v w = end_before v.at w.at

-- one more end where it belongs, unless nothing waits there
abbrev pub with_end : End → ℕ → List Waiting → List Waiting
with_end at count ws =
    if count == 0 then ws else in_order waiting_before (record { at = at; count = count }) ws

-- the ends of one more connection, where it is wired
abbrev pub with_ends : Connection → List Waiting → List Waiting
with_ends x ws =
    if x.wired
    then with_end (end.Ap x.ap) (length x.to_ap) (with_end x.peer (length x.to_far) ws)
    else ws

-- the ends at which something waits, in their order
abbrev pub waiting_in : List Connection → List Waiting
waiting_in [] = []
waiting_in (x ∷ xs) = with_ends x (waiting_in xs)

abbrev pub or_zero : Option ℕ → ℕ
or_zero None = 0
or_zero (Some n) = n

-- how many messages wait toward a side of the connection with a number
abbrev pub count_of : List Connection → ℕ × Side → Option ℕ
count_of xs p = option_map (λ x. length (queue_of p.1 x)) (find (numbered p.0) xs)

-- how many wait at an end, none where no wired connection names it
abbrev pub count_at : List Connection → End → ℕ
count_at xs at = or_zero (option_and_then (count_of xs) (place_at at xs))

-- what is told of an end at which something waits
abbrev pub waiting_at : List Connection → End → Waiting
waiting_at xs at = record { at = at; count = count_at xs at }
