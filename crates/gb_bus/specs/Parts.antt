-- The connections of a bus, and what changes them.
use Rattle.std.specs.Prelude.{◌≡◌, ℕ, ◌==◌, Bool, true, false, not, ◌&&◌, ◌||◌, Option}
use Rattle.std.specs.Prelude.{if◌then◌else◌, Some, None, option_and_then, option_map, List, []}
use Rattle.std.specs.Prelude.{◌∷◌, ◌++◌, find}
use Rattle.std.specs.List.{list_any}
use Rattle.gb_base.specs.declared.end.End.{End}
use Rattle.gb_base.specs.declared.end.End.TheVariants as end
use Rattle.gb_base.specs.declared.end.Side.{Side}
use Rattle.gb_base.specs.declared.end.Side.TheVariants as side
use Rattle.gb_bus.specs.Ends.{earlier}
use Rattle.gb_bus.specs.Connection.{Connection}
use Rattle.gb_bus.specs.declared.queue.Item.{Item}
use Rattle.gb_machine.specs.Bus.{or_else, same_end}
use Rattle.gb_machine.specs.Lists.{at_first, behind_first, first}
use Rattle.gb_machine.specs.Wiring.{is_at}
use Rattle.gb_ops.specs.Calls.{emptied, no_operations}
use Rattle.gb_ops.specs.Operations.{Operations, next_label}

-- ---- one connection

-- a connection as it is first
abbrev pub new_connection : ℕ → ℕ → End → ℕ → Connection
new_connection k a peer protocol = record {
  number = k;
  ap = a;
  peer = peer;
  protocol = protocol;
  wired = false;
  clean = true;
  shut = false;
  ap_ops = no_operations;
  far_ops = no_operations;
  to_ap = [];
  to_far = [];
}

abbrev pub with_wire : Connection → Connection
with_wire c = record c { wired = true }

-- the connection of the supervisory controller
abbrev pub svc : Connection
svc = with_wire (new_connection 1 0 end.Svc 0x14)

-- the side of the application processor is closed, and all its identifiers are free
abbrev pub closed : Connection → Connection
closed c = record c { shut = true; ap_ops = emptied c.ap_ops }

-- raw bytes were injected
abbrev pub soiled : Connection → Connection
soiled c = record c { clean = false }

-- nothing waits at its ends
abbrev pub idled : Connection → Connection
idled c = record c { to_ap = []; to_far = [] }

-- nor is it wired, and all identifiers of the far side are free
abbrev pub cleared : Connection → Connection
cleared c = record c { wired = false; to_ap = []; to_far = []; far_ops = emptied c.far_ops }

-- the requests of a side whose identifiers are in use
abbrev pub ops_of : Side → Connection → Operations
ops_of side.Ap c = c.ap_ops
ops_of side.Far c = c.far_ops

abbrev pub with_ops : Side → Operations → Connection → Connection
with_ops side.Ap ops c = record c { ap_ops = ops }
with_ops side.Far ops c = record c { far_ops = ops }

-- the identifier that a side draws next
abbrev pub next_of : Side → Connection → Option ℕ
next_of at c = next_label (ops_of at c)

-- the queue toward a side
abbrev pub queue_of : Side → Connection → List Item
queue_of side.Ap c = c.to_ap
queue_of side.Far c = c.to_far

abbrev pub with_queue : Side → List Item → Connection → Connection
with_queue side.Ap items c = record c { to_ap = items }
with_queue side.Far items c = record c { to_far = items }

-- a message goes to the end of the queue toward a side, unless the connection isn't wired
abbrev pub put : Side → Item → Connection → Connection
put at item c = if c.wired then with_queue at (queue_of at c ++ item ∷ []) c else c

-- without the front message toward a side
abbrev pub without_front : Side → Connection → Connection
without_front at c = with_queue at (behind_first (queue_of at c)) c

-- whether nothing is in a list
abbrev pub is_none_left : List Item → Bool
is_none_left [] = true
is_none_left (i ∷ is) = false

-- the side at which an end stands
abbrev pub side_at : End → Connection → Option Side
side_at at c =
    if not c.wired then None
    else if same_end at (end.Ap c.ap) then Some side.Ap
    else if same_end at c.peer then Some side.Far
    else None

-- the end at a side
abbrev pub end_at : Side → Connection → End
end_at side.Ap c = end.Ap c.ap
end_at side.Far c = c.peer

-- the ends of a connection: the application processor's CPort and the far end
abbrev pub ends_in : Connection → ℕ × End
ends_in c = (c.ap, c.peer)

-- the earliest of the ends at which something waits, and one that was found before
abbrev pub earliest_of : Connection → Option End → Option End
earliest_of c found =
    if c.wired
    then earlier (is_none_left c.to_ap) (end.Ap c.ap) (earlier (is_none_left c.to_far) c.peer found)
    else found

-- ---- the connections

-- a connection has this number
abbrev pub numbered : ℕ → Connection → Bool
numbered k c = c.number == k

-- a connection is that of a CPort of the application processor with a far end
abbrev pub joins : ℕ → End → Connection → Bool
joins a peer c = c.ap == a && same_end c.peer peer

-- a connection has a number, a CPort of the application processor or a far end
abbrev pub has_one_of : ℕ → ℕ → End → Connection → Bool
has_one_of k a peer c = c.number == k || (c.ap == a || same_end c.peer peer)

-- so has a live connection
abbrev pub is_taken : ℕ → ℕ → End → List Connection → Bool
is_taken k a peer cs = list_any (has_one_of k a peer) cs

-- the wired connection that names an end, and the side at which the end stands
abbrev pub place_at : End → List Connection → Option (ℕ × Side)
place_at at [] = None
place_at at (c ∷ cs) = or_else (option_map (λ s. (c.number, s)) (side_at at c)) (place_at at cs)

-- the first end at which something waits
abbrev pub earliest_in : List Connection → Option End
earliest_in [] = None
earliest_in (c ∷ cs) = earliest_of c (earliest_in cs)

-- the identifier that a side of a connection draws next
abbrev pub next_in : ℕ → Side → List Connection → Option ℕ
next_in k at cs = option_and_then (next_of at) (find (numbered k) cs)

-- whether a connection is there on which raw bytes were injected
abbrev pub is_soiled : Option Connection → Bool
is_soiled None = false
is_soiled (Some c) = not c.clean

abbrev pub is_unclean : ℕ → List Connection → Bool
is_unclean k cs = is_soiled (find (numbered k) cs)

-- the front message toward a side of a connection
abbrev pub front_in : ℕ → Side → List Connection → Option Item
front_in k at cs = option_and_then (λ c. first (queue_of at c)) (find (numbered k) cs)

-- the front message toward a side of one connection was taken, where there is one
abbrev pub TakesFront : Connection → Connection → Side → Option Item → Type 0
TakesFront old new at None = (first (queue_of at old) ≡ None) × (new ≡ old)
TakesFront old new at (Some item) =
    (first (queue_of at old) ≡ Some item) × (new ≡ without_front at old)

-- so it was on the connection with a number
abbrev pub TakesFrontAs : List Connection → List Connection → ℕ → Side → Option Item → Type 0
TakesFrontAs old new k at None = (front_in k at old ≡ None) × (new ≡ old)
TakesFrontAs old new k at (Some item) =
    (front_in k at old ≡ Some item) × (new ≡ at_first (numbered k) (without_front at) old)

-- whether a connection is there and wired
abbrev pub is_wired : Option Connection → Bool
is_wired None = false
is_wired (Some c) = c.wired

-- a connection is wired, to a module at an interface
abbrev pub is_wired_to : ℕ → Connection → Bool
is_wired_to i c = c.wired && is_at i c.peer
