-- Facts of every state of a run: identifiers, items, replies, ends and names.
use Rattle.std.specs.Prelude.{◌≡◌, ◌≢◌, ◌≤◌, ℕ, ◌==◌, Bool, true, false, ◌||◌, Some, is_some, List}
use Rattle.std.specs.Prelude.{◌++◌, map}
use Rattle.gb_base.specs.declared.entry.Entry.{Entry}
use Rattle.gb_base.specs.declared.end.Side.TheVariants as side
use Rattle.gb_base.specs.declared.name.Name.{Name}
use Rattle.gb_machine.specs.Arriving.{takes}
use Rattle.gb_machine.specs.Bus.{Ask, Bus, Connection, Item, Reply, Request, is_open, request_of}
use Rattle.gb_machine.specs.Bus.{same_end}
use Rattle.gb_machine.specs.Holding.{held_on}
use Rattle.gb_machine.specs.Labels.{greatest_label}
use Rattle.gb_machine.specs.Members.{Each, EachTwo, times}
use Rattle.gb_machine.specs.Requests.{is_given_up}
use Rattle.gb_machine.specs.Runs.{HoldsThroughout}
use Rattle.gb_machine.specs.State.{Held, State}

-- A request is open, or was given up and its answer hasn't come.
abbrev pub is_awaited : ℕ → Bus → Bool
is_awaited n b = is_open n b || is_given_up n b

-- ---- labels differ

-- Requests of one side of one connection that are awaited have different identifiers, from 1
-- to the greatest.
pub record OwnLabels (b : Bus) : Type 0 where
  pub differ : (n m : ℕ) (r q : Request)
      → request_of n b ≡ Some r → request_of m b ≡ Some q
      → is_awaited n b ≡ true → is_awaited m b ≡ true
      → r.connection ≡ q.connection → r.side ≡ q.side → r.label ≡ q.label → n ≡ m
  pub range : (n : ℕ) (r : Request) → request_of n b ≡ Some r → is_awaited n b ≡ true
      → (1 ≤ r.label) × (r.label ≤ greatest_label)

-- the identifiers that are awaited differ
abbrev pub HaveOwnLabels : List Entry → State → Type 0
HaveOwnLabels told s = OwnLabels s.bus

-- Identifiers that are in use on a side of a connection differ, in every state of a run.
abbrev pub LabelsDiffer : Type 0
LabelsDiffer = HoldsThroughout HaveOwnLabels

-- ---- one item a number

-- an item is request n or the reply to it
abbrev pub is_item_of : ℕ → Item → Bool
is_item_of n (Ask m) = m == n
is_item_of n (Reply m result payload) = m == n
is_item_of n _ = false

-- what waits and what is held on a connection
abbrev pub items_of : Connection → State → List Item
items_of c s = c.to_ap ++ (c.to_far ++ map (λ (h : Held). h.item) (held_on c.number s.held))

-- Each number stands at most once in what waits and is held on a clean connection. That it is one
-- of this connection, and toward the right side, is said of all items by `HaveOwnItems`.
abbrev pub HaveOneItem : List Entry → State → Type 0
HaveOneItem told s =
    Each (λ c. c.clean ≡ true → (n : ℕ) → times (is_item_of n) (items_of c s) ≤ 1)
    s.bus.connections

-- On a clean connection each number is in one item at most, in every state of a run.
abbrev pub OneItemANumber : Type 0
OneItemANumber = HoldsThroughout HaveOneItem

-- ---- replies are awaited

-- a reply is to a request that is awaited
abbrev pub IsAwaited : Bus → Item → Type 0
IsAwaited b (Reply n result payload) = is_awaited n b ≡ true
IsAwaited b _ = Unit {0}

-- The replies that wait on a clean connection are awaited, but for those toward the application
-- processor where its side is closed, and that side takes nothing.
pub record AreAwaited (s : State) (c : Connection) : Type 0 where
  pub to_ap : c.clean ≡ true → c.shut ≡ false → Each (IsAwaited s.bus) c.to_ap
  pub to_far : c.clean ≡ true → Each (IsAwaited s.bus) c.to_far
  pub shut : c.shut ≡ true → takes side.Ap c s ≡ false

-- the replies that wait on each connection are awaited
abbrev pub HaveAwaited : List Entry → State → Type 0
HaveAwaited told s = Each (AreAwaited s) s.bus.connections

-- On a clean connection a reply that waits is awaited, in every state of a run.
abbrev pub RepliesAreAwaited : Type 0
RepliesAreAwaited = HoldsThroughout HaveAwaited

-- ---- endpoints differ

-- two connections have other numbers, other CPorts of the application processor and other far ends
pub record AreApart (c d : Connection) : Type 0 where
  pub numbers : c.number ≢ d.number
  pub aps : c.ap ≢ d.ap
  pub peers : same_end c.peer d.peer ≡ false

-- Live connections are apart.
abbrev pub HaveOwnEnds : List Entry → State → Type 0
HaveOwnEnds told s = EachTwo AreApart s.bus.connections

-- Live connections have ends of their own, in every state of a run.
abbrev pub EndpointsDiffer : Type 0
EndpointsDiffer = HoldsThroughout HaveOwnEnds

-- ---- names name requests

-- what each name names was made
abbrev pub NameRequests : State → Type 0
NameRequests s = Each (λ (p : Name × ℕ). is_some (request_of p.1 s.bus) ≡ true) s.names

-- the same, whatever was told
abbrev pub HaveNamed : List Entry → State → Type 0
HaveNamed told s = NameRequests s

-- A name names a request that was made, in every state of a run.
abbrev pub NamesNameRequests : Type 0
NamesNameRequests = HoldsThroughout HaveNamed
