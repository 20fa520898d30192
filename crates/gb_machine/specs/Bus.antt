-- The bus part of the machine's state: connections, requests and queues.
use Rattle.std.specs.Prelude.{ℕ, ◌+◌, ◌==◌, Bool, true, false, ◌&&◌, if◌then◌else◌, Option, Some}
use Rattle.std.specs.Prelude.{None, is_some, is_none, option_map, List, [], ◌∷◌, length, find}
use Rattle.gb_base.specs.declared.end.End.{End}
use Rattle.gb_base.specs.declared.end.End.TheVariants as end
use Rattle.gb_base.specs.declared.end.Side.{Side}
use Rattle.gb_base.specs.declared.end.Side.TheVariants as side
use Rattle.gb_base.specs.declared.outcome.Outcome.{Outcome}
use Rattle.gb_formats.specs.Protocols.{svc_protocol}
use Rattle.gb_machine.specs.Lists.{lookup, nth}

-- A request. Requests are numbered from 1 in the order in which they were made.
pub record Request : Type 0 where
  pub connection : ℕ
  pub side : Side  -- the side that made it
  pub label : ℕ  -- its identifier, 0 where it is unidirectional
  pub kind : ℕ
  pub payload : List ℕ
  pub deadline : ℕ
  pub oneway : Bool

-- What waits in a queue: a request, the reply to one, raw bytes, or the reply to a raw request.
pub data Item : Type 0 where
  Ask : ℕ → Item
  Reply : ℕ → ℕ → List ℕ → Item
  Raw : List ℕ → Item
  RawReply : ℕ → ℕ → ℕ → List ℕ → Item

-- A live connection, between a CPort of the application processor and a far end.
pub record Connection : Type 0 where
  pub number : ℕ  -- from 1, never used twice
  pub ap : ℕ  -- the CPort of the application processor
  pub peer : End
  pub protocol : ℕ
  pub wired : Bool
  pub clean : Bool  -- no raw bytes were injected
  pub shut : Bool  -- the side of the application processor is closed
  pub ap_last : ℕ  -- the last identifier drawn on each side
  pub far_last : ℕ
  pub to_ap : List Item
  pub to_far : List Item

-- The bus: its live connections, and all requests with how they ended.
pub record Bus : Type 0 where
  pub made : ℕ  -- connections made so far
  pub connections : List Connection  -- the live ones, by number
  pub requests : List Request  -- all that were ever made
  pub outcomes : List (ℕ × Outcome)  -- the newest first
  pub given_up : List ℕ

-- The connection of the supervisory controller, open for ever.
abbrev pub svc_connection : Connection
svc_connection = record {
  number = 1;
  ap = 0;
  peer = end.Svc;
  protocol = svc_protocol;
  wired = true;
  clean = true;
  shut = false;
  ap_last = 0;
  far_last = 0;
  to_ap = [];
  to_far = [];
}

-- the bus with the connection of the supervisory controller alone
abbrev pub first_bus : Bus
first_bus = record {
  made = 1;
  connections = svc_connection ∷ [];
  requests = [];
  outcomes = [];
  given_up = [];
}

-- the other side of a connection
abbrev pub other_side : Side → Side
other_side side.Ap = side.Far
other_side side.Far = side.Ap

-- the end of a connection on a side
abbrev pub end_of : Side → Connection → End
end_of side.Ap c = end.Ap c.ap
end_of side.Far c = c.peer

-- the queue toward a side
abbrev pub queue : Side → Connection → List Item
queue side.Ap c = c.to_ap
queue side.Far c = c.to_far

-- the connection with a new queue toward a side
abbrev pub with_queue : Side → List Item → Connection → Connection
with_queue side.Ap items c = record c { to_ap = items }
with_queue side.Far items c = record c { to_far = items }

-- whether two ends are one
abbrev pub same_end : End → End → Bool
same_end (end.Ap a) (end.Ap b) = a == b
same_end end.Svc end.Svc = true
same_end (end.Module i c) (end.Module j d) = i == j && c == d
same_end (end.Ap a) end.Svc = false
same_end (end.Ap a) (end.Module j d) = false
same_end end.Svc (end.Ap b) = false
same_end end.Svc (end.Module j d) = false
same_end (end.Module i c) (end.Ap b) = false
same_end (end.Module i c) end.Svc = false

-- the side of a wired connection at which an end stands
abbrev pub side_at : End → Connection → Option Side
side_at at c =
    if c.wired && same_end at (end.Ap c.ap) then Some side.Ap
    else if c.wired && same_end at c.peer then Some side.Far
    else None

-- a side of a connection
pub record Place : Type 0 where
  pub connection : Connection
  pub side : Side

-- the first of two options, or else the second
abbrev pub or_else : {A : Type 0} → Option A → Option A → Option A
or_else None later = later
or_else (Some x) later = Some x

-- the side of the wired connection that names an end
abbrev pub place_of : End → List Connection → Option Place
place_of at [] = None
place_of at (c ∷ cs) =
    or_else (option_map (λ s. record { connection = c; side = s }) (side_at at c)) (place_of at cs)

-- a connection has this number
abbrev pub has_number : ℕ → Connection → Bool
has_number k c = c.number == k

-- the live connection with a number
abbrev pub connection_of : ℕ → Bus → Option Connection
connection_of k b = find (has_number k) b.connections

-- how a request ended, None where it hasn't
abbrev pub outcome_of : ℕ → Bus → Option Outcome
outcome_of n b = lookup n b.outcomes

-- A request is open where it was made and has no outcome. A unidirectional one has one at once.
abbrev pub is_open : ℕ → Bus → Bool
is_open n b = is_some (nth n b.requests) && is_none (outcome_of n b)

-- the number of the next request
abbrev pub next_number : Bus → ℕ
next_number b = length b.requests + 1

-- request n
abbrev pub request_of : ℕ → Bus → Option Request
request_of n b = nth n b.requests
