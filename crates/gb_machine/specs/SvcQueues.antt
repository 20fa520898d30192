-- The two queues of the supervisory controller's connection, as laws speak of them.
use Rattle.std.specs.Prelude.{◌≡◌, ℕ, ◌==◌, Bool, true, false, not, ◌&&◌, Option, Some, None}
use Rattle.std.specs.Prelude.{Result, Ok, List, [], ◌∷◌}
use Rattle.std.specs.List.{list_any}
use Rattle.gb_base.specs.declared.end.End.TheVariants as end
use Rattle.gb_base.specs.declared.end.Side.{Side}
use Rattle.gb_base.specs.declared.end.Side.TheVariants as side
use Rattle.gb_base.specs.declared.event.Event.TheVariants as event
use Rattle.gb_formats.specs.Records.{PayloadFault}
use Rattle.gb_formats.specs.SvcRecords.{SvcAsk, read_svc_ask}
use Rattle.gb_machine.specs.Bus.{Ask, Bus, Connection, Item, Reply, Request, connection_of, queue}
use Rattle.gb_machine.specs.Bus.{request_of}
use Rattle.gb_machine.specs.Lists.{first, is_within}
use Rattle.gb_machine.specs.Runs.{Moment}

-- what waits toward a side of a connection, where it is there
abbrev pub items_in : Side → Option Connection → List Item
items_in at None = []
items_in at (Some c) = queue at c

-- What waits toward a side of the supervisory controller's connection.
abbrev pub svc_items : Side → Bus → List Item
svc_items at b = items_in at (connection_of 1 b)

-- a request in front of others, where it was made
abbrev pub request_onto : Option Request → List Request → List Request
request_onto None rs = rs
request_onto (Some r) rs = r ∷ rs

-- the requests among items, in order
abbrev pub requests_among : Bus → List Item → List Request
requests_among b [] = []
requests_among b (Ask n ∷ is) = request_onto (request_of n b) (requests_among b is)
requests_among b (_ ∷ is) = requests_among b is

-- The requests that wait toward a side of the supervisory controller's connection, in order.
abbrev pub svc_requests : Side → Bus → List Request
svc_requests at b = requests_among b (svc_items at b)

-- an item is request n
abbrev pub is_ask : ℕ → Item → Bool
is_ask n (Ask m) = m == n
is_ask n _ = false

-- an item is a reply to request n
abbrev pub is_reply_to : ℕ → Item → Bool
is_reply_to n (Reply m result payload) = m == n
is_reply_to n _ = false

-- ---- what requests speak of

-- a record of an enumeration of an interface
abbrev pub enumerates : ℕ → Result SvcAsk PayloadFault → Bool
enumerates i (Ok (SvcAsk.VsysEnable j)) = j == i
enumerates i (Ok (SvcAsk.RefclkEnable j)) = j == i
enumerates i (Ok (SvcAsk.UniproEnable j)) = j == i
enumerates i (Ok (SvcAsk.IntfActivate j)) = j == i
enumerates i (Ok (SvcAsk.IntfDeviceId j device)) = j == i
enumerates i (Ok (SvcAsk.RouteCreate i1 d1 j d2)) = j == i
enumerates i (Ok (SvcAsk.ConnCreate i1 c1 j c tc flags)) = j == i && c == 0
enumerates i _ = false

-- An enumeration request of an interface: one that powers it, gives it its device id, routes it, or
-- creates its Control connection.
abbrev pub is_enumeration_request : ℕ → Request → Bool
is_enumeration_request i r = enumerates i (read_svc_ask r.kind r.payload)

-- a record that creates or destroys a connection of an interface
abbrev pub speaks_of_connection : ℕ → Result SvcAsk PayloadFault → Bool
speaks_of_connection i (Ok (SvcAsk.ConnCreate i1 c1 j c tc flags)) = j == i
speaks_of_connection i (Ok (SvcAsk.ConnDestroy i1 c1 j c)) = j == i
speaks_of_connection i _ = false

-- A request creates or destroys a connection of an interface.
abbrev pub is_for_link : ℕ → Request → Bool
is_for_link i r = speaks_of_connection i (read_svc_ask r.kind r.payload)

-- a record that creates a connection of an interface
abbrev pub creates : ℕ → Result SvcAsk PayloadFault → Bool
creates i (Ok (SvcAsk.ConnCreate i1 c1 j c tc flags)) = j == i
creates i _ = false

-- A connection request of an interface: one that creates a connection other than Control, or
-- destroys one.
abbrev pub is_connection_request : ℕ → Request → Bool
is_connection_request i r = is_for_link i r && not (is_enumeration_request i r)

-- a record of the insertion of a module that has this interface
abbrev pub inserts : ℕ → Result SvcAsk PayloadFault → Bool
inserts i (Ok (SvcAsk.ModuleInserted p count flags)) = is_within p count i
inserts i _ = false

-- A request is MODULE_INSERTED of a module that has this interface.
abbrev pub is_insertion : ℕ → Request → Bool
is_insertion i r = inserts i (read_svc_ask r.kind r.payload)

-- Of requests with the interfaces that were pulled: request n told that this interface was.
abbrev pub is_told : ℕ → ℕ → List (ℕ × ℕ) → Bool
is_told n i pulled = list_any (λ p. p.0 == n && p.1 == i) pulled

-- An item is MODULE_REMOVED of an interface: a request that told that it was pulled.
abbrev pub is_removal_in : ℕ → List (ℕ × ℕ) → Item → Bool
is_removal_in i pulled (Ask n) = is_told n i pulled
is_removal_in i pulled _ = false

-- ---- moments

-- At a moment the front request toward the application processor on the supervisory controller's
-- connection is handled, and passes a test.
pub record HandlesAtAp (m : Moment) (test : Request → Bool) : Type 0 where
  pub number : ℕ
  pub request : Request
  pub is : m.event ≡ event.Deliver (end.Ap 0)
  pub front : first (svc_items side.Ap m.before.bus) ≡ Some (Ask number)
  pub made : request_of number m.before.bus ≡ Some request
  pub passes : test request ≡ true

-- At a moment the application processor handles the insertion of an interface.
abbrev pub HandlesInsertion : ℕ → Moment → Type 0
HandlesInsertion i m = HandlesAtAp m (is_insertion i)

-- At a moment the application processor handles the removal of an interface: the front item toward
-- it on the supervisory controller's connection is a request that told that this was pulled.
pub record HandlesRemoval (i : ℕ) (m : Moment) : Type 0 where
  pub number : ℕ
  pub is : m.event ≡ event.Deliver (end.Ap 0)
  pub front : first (svc_items side.Ap m.before.bus) ≡ Some (Ask number)
  pub told : is_told number i m.before.past.pulled ≡ true
