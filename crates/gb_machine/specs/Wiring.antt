-- What becomes of the bus when a connection is made, wired, unwired, closed or removed, and when
-- bytes are injected.
use Rattle.std.specs.Prelude.{ℕ, ◌+◌, ◌==◌, Bool, true, false, ◌&&◌, Option, List, [], ◌∷◌, ◌++◌}
use Rattle.std.specs.Prelude.{find}
use Rattle.gb_base.specs.declared.end.End.{End}
use Rattle.gb_base.specs.declared.end.End.TheVariants as end
use Rattle.gb_base.specs.declared.end.Side.{Side}
use Rattle.gb_base.specs.declared.end.Side.TheVariants as side
use Rattle.gb_base.specs.declared.outcome.Outcome.{Outcome}
use Rattle.gb_base.specs.declared.outcome.Outcome.TheVariants as outcome
use Rattle.gb_machine.specs.Bus.{Bus, Connection, Raw, has_number, same_end}
use Rattle.gb_machine.specs.Lists.{at_first, without}
use Rattle.gb_machine.specs.Requests.{is_of, open_on, passes}
use Rattle.gb_machine.specs.Sending.{queued}

-- the number of the next connection
abbrev pub next_connection : Bus → ℕ
next_connection b = b.made + 1

-- a connection as it is first: not wired, and nothing was drawn
abbrev pub new_connection : ℕ → ℕ → End → ℕ → Connection
new_connection k ap peer protocol = record {
  number = k;
  ap = ap;
  peer = peer;
  protocol = protocol;
  wired = false;
  clean = true;
  shut = false;
  ap_last = 0;
  far_last = 0;
  to_ap = [];
  to_far = [];
}

-- the bus with one connection changed
abbrev pub with_connection : ℕ → (Connection → Connection) → Bus → Bus
with_connection k change b =
    record b { connections = at_first (has_number k) change b.connections }

-- A connection of a CPort of the application processor with a module's CPort is made.
abbrev pub attached : ℕ → ℕ → ℕ → ℕ → Bus → Bus
attached ap i c protocol b =
    let k = next_connection b in
    record b {
      made = k;
      connections = b.connections ++ new_connection k ap (end.Module i c) protocol ∷ [];
    }

-- A connection is wired.
abbrev pub wired : ℕ → Bus → Bus
wired k b = with_connection k (λ c. record c { wired = true }) b

-- these requests end so, in order
abbrev pub all_ended : List ℕ → Outcome → List (ℕ × Outcome) → List (ℕ × Outcome)
all_ended [] how outcomes = outcomes
all_ended (n ∷ ns) how outcomes = all_ended ns how ((n, how) ∷ outcomes)

-- The open requests of a side of a connection end as Disconnected, and those that were given up
-- are forgotten.
abbrev pub side_ended : ℕ → Side → Bus → Bus
side_ended k at b = record b {
  outcomes = all_ended (open_on k at b) outcome.Disconnected b.outcomes;
  given_up = without (passes (is_of k at) b) b.given_up;
}

-- A connection isn't wired any more: what waited in its queues is lost, and its far side ends.
abbrev pub unwired : ℕ → Bus → Bus
unwired k b =
    side_ended k side.Far
    (with_connection k (λ c. record c { wired = false; to_ap = []; to_far = [] }) b)

-- The side of the application processor is closed.
abbrev pub shut_down : ℕ → Bus → Bus
shut_down k b = side_ended k side.Ap (with_connection k (λ c. record c { shut = true }) b)

-- A connection is there no more.
abbrev pub detached : ℕ → Bus → Bus
detached k b = record b { connections = without (has_number k) b.connections }

-- Raw bytes wait toward the application processor, and the connection is unclean from then on.
abbrev pub injected : ℕ → List ℕ → Bus → Bus
injected k bytes b =
    with_connection k (λ c. queued side.Ap (Raw bytes) (record c { clean = false })) b

-- ---- which connection

-- A connection is that of a CPort of the application processor with a module's CPort.
abbrev pub joins : ℕ → ℕ → ℕ → Connection → Bool
joins ap i c x = x.ap == ap && same_end x.peer (end.Module i c)

-- The live connection of a CPort of the application processor with a module's CPort.
abbrev pub joining : ℕ → ℕ → ℕ → Bus → Option Connection
joining ap i c b = find (joins ap i c) b.connections

-- an end is at an interface
abbrev pub is_at : ℕ → End → Bool
is_at i (end.Module j c) = j == i
is_at i (end.Ap a) = false
is_at i end.Svc = false

-- A connection is wired, to a module at an interface.
abbrev pub is_wired_to : ℕ → Connection → Bool
is_wired_to i c = c.wired && is_at i c.peer
