-- Facts of the bus part of the machine's state that each single change of it keeps.
use Rattle.std.specs.Prelude.{◌≡◌, ◌≤◌, ◌<◌, ℕ, ◌+◌, Bool, true, false, is_some, Some, List}
use Rattle.gb_base.specs.declared.end.Side.{Side}
use Rattle.gb_base.specs.declared.end.Side.TheVariants as side
use Rattle.gb_machine.specs.Bus.{Ask, Bus, Connection, Item, Raw, RawReply, Reply, Request}
use Rattle.gb_machine.specs.Bus.{other_side, outcome_of, queue, request_of}
use Rattle.gb_machine.specs.LawsBus.{OwnLabels, is_awaited, is_item_of}
use Rattle.gb_machine.specs.LawsEnds.{is_outcome_of}
use Rattle.gb_machine.specs.Members.{Each, EachTwo, IsIn, times, total}
use Rattle.gb_machine.specs.Requests.{is_given_up}

-- ---- numbers

-- a connection comes before another
abbrev pub IsBefore : Connection → Connection → Type 0
IsBefore c d = c.number < d.number

-- a connection has a number from 1 to the number of those that were made
abbrev pub IsMade : Bus → Connection → Type 0
IsMade b c = (1 ≤ c.number) × (c.number ≤ b.made)

-- Connections rise by number, and none was made that isn't counted. Requests are on such.
pub record NumbersRise (b : Bus) : Type 0 where
  pub rise : EachTwo IsBefore b.connections
  pub range : Each (IsMade b) b.connections
  pub on : (n : ℕ) (r : Request) → request_of n b ≡ Some r → r.connection ≤ b.made

-- ---- outcomes

-- A request has one outcome at most, and was made. One that was given up has an outcome, and a
-- unidirectional one has too, and isn't given up.
pub record OutcomesFit (b : Bus) : Type 0 where
  pub once : (n : ℕ) → times (is_outcome_of n) b.outcomes ≤ 1
  pub made : (n : ℕ) → is_some (outcome_of n b) ≡ true → is_some (request_of n b) ≡ true
  pub given : (n : ℕ) → is_given_up n b ≡ true → is_some (outcome_of n b) ≡ true
  pub oneway : (n : ℕ) (r : Request) → request_of n b ≡ Some r → r.oneway ≡ true
      → is_awaited n b ≡ false

-- ---- items

-- An item that is out of the queues: it is held, or it is being handled.
pub record Loose : Type 0 where
  pub connection : ℕ
  pub side : Side  -- toward which it went
  pub item : Item

-- the side that asked the request of an item
abbrev pub asker : Side → Item → Side
asker at (Ask n) = other_side at
asker at (Reply n result payload) = at
asker at (Raw bytes) = other_side at
asker at (RawReply label kind result payload) = at

-- an item has the number of a request
abbrev pub is_numbered : Item → Bool
is_numbered (Ask n) = true
is_numbered (Reply n result payload) = true
is_numbered _ = false

-- request n was made on a connection, by this side
abbrev pub IsMadeOn : ℕ → Side → ℕ → Bus → Type 0
IsMadeOn k at n b =
    (r : Request) × (request_of n b ≡ Some r) × (r.connection ≡ k) × (r.side ≡ at)

-- The request of an item toward a side of a connection was made on that connection: an asked one by
-- the other side, the one that a reply answers by this side.
abbrev pub IsOwn : Bus → ℕ → Side → Item → Type 0
IsOwn b k at (Ask n) = IsMadeOn k (other_side at) n b
IsOwn b k at (Reply n result payload) = IsMadeOn k at n b
IsOwn b k at _ = Unit {0}

-- the request of an item is awaited, unless it is unidirectional
abbrev pub IsDue : Bus → Item → Type 0
IsDue b (Ask n) =
    (r : Request) → request_of n b ≡ Some r → r.oneway ≡ false → is_awaited n b ≡ true
IsDue b (Reply n result payload) = is_awaited n b ≡ true
IsDue b _ = Unit {0}

-- An item toward a side of a live connection that is clean has a number, and its request is
-- awaited, unless it is of the application processor's side and that is closed.
pub record IsAnswerable (b : Bus) (c : Connection) (at : Side) (item : Item) : Type 0 where
  pub numbered : c.clean ≡ true → is_numbered item ≡ true
  pub due : c.clean ≡ true → (asker at item ≡ side.Ap → c.shut ≡ false) → IsDue b item

-- how many items on a connection pass a test
abbrev pub times_on : (Item → Bool) → Connection → ℕ
times_on test c = times test c.to_ap + times test c.to_far

-- How many items pass a test: those that wait, and those that are loose.
abbrev pub times_in : (Item → Bool) → List Loose → Bus → ℕ
times_in test loose b =
    total (times_on test) b.connections + times (λ (l : Loose). test l.item) loose

-- Each item is of its own connection, and on a clean one it can be answered.
pub record ItemsFit (loose : List Loose) (b : Bus) : Type 0 where
  pub own : (c : Connection) (at : Side) (item : Item) → IsIn c b.connections
      → IsIn item (queue at c) → IsOwn b c.number at item
  pub own_loose : (l : Loose) → IsIn l loose → IsOwn b l.connection l.side l.item
  pub made_loose : (l : Loose) → IsIn l loose → l.connection ≤ b.made
  pub answerable : (c : Connection) (at : Side) (item : Item) → IsIn c b.connections
      → IsIn item (queue at c) → IsAnswerable b c at item
  pub answerable_loose : (c : Connection) (l : Loose) → IsIn c b.connections → IsIn l loose
      → c.number ≡ l.connection → IsAnswerable b c l.side l.item

-- Each number is in one item at most.
abbrev pub OneEach : List Loose → Bus → Type 0
OneEach loose b = (n : ℕ) → times_in (is_item_of n) loose b ≤ 1

-- ---- all

-- The facts of the bus that each change of it keeps.
pub record BusFits (loose : List Loose) (b : Bus) : Type 0 where
  pub numbers : NumbersRise b
  pub outcomes : OutcomesFit b
  pub labels : OwnLabels b
  pub items : ItemsFit loose b
  pub ones : OneEach loose b
