-- What queues have of the machine's, and what they go on to have once one more request was made.
use Rattle.std.proofs.Common.{◌≡◌, ℕ, Some, None, List, [], ◌∷◌, ◌++◌, map, refl, sym, ap}
use Rattle.std.proofs.Common.{◌∙◌}
use Rattle.gb_base.specs.declared.end.Side.{Side}
use Rattle.gb_base.specs.declared.end.Side.TheVariants as side
use Rattle.gb_bus.proofs.Mapped.{map-same}
use Rattle.gb_bus.proofs.Standing.{IsShown}
use Rattle.gb_bus.specs.Connection.{Connection}
use Rattle.gb_bus.specs.Parts.{queue_of}
use Rattle.gb_bus.specs.Shown.{ask_in, connection_in, item_in, reply_in, without_ops}
use Rattle.gb_bus.specs.declared.queue.Item.{Item}
use Rattle.gb_invariants.proofs.Awaiting.{same-some}
use Rattle.gb_invariants.specs.Facts.{IsOwn, ItemsFit, Loose}
use Rattle.gb_machine.proofs.Lists.{nth-more}
use Rattle.gb_machine.specs.Bus as machine
use Rattle.gb_machine.specs.Bus.{Request, queue}
use Rattle.gb_machine.specs.Lists.{first}
use Rattle.gb_machine.specs.Members.{IsIn}

-- ---- queues

-- the queue toward a side
pub queue-in : (rs : List Request) (at : Side) (c : machine.Connection)
    → queue_of at (connection_in rs c) ≡ map (item_in rs) (queue at c)
queue-in rs side.Ap c = refl
queue-in rs side.Far c = refl

pub queue-is : (rs : List Request) (at : Side) (x : Connection) (c : machine.Connection)
    → IsShown rs x c → queue_of at x ≡ map (item_in rs) (queue at c)
queue-is rs at x c s = by at ∙ ap (queue_of at) s ∙ queue-in rs at c
  where
    by : (to : Side) → queue_of to x ≡ queue_of to (without_ops x)
    by side.Ap = refl
    by side.Far = refl

-- what the front message of a queue is
pub record Front (rs : List Request) (ms : List machine.Item) (item : Item) : Type 0 where
  pub item_of : machine.Item
  pub front : first ms ≡ Some item_of
  pub item_is : item ≡ item_in rs item_of

pub front_of : (rs : List Request) (is : List Item) (ms : List machine.Item) (item : Item)
    → is ≡ map (item_in rs) ms → first is ≡ Some item → Front rs ms item
front_of rs is ms item same e = by ms (ap first (sym same) ∙ e)
  where
    by : (ms : List machine.Item) → first (map (item_in rs) ms) ≡ Some item → Front rs ms item
    by [] e = absurd cc
    by (m ∷ ms) e = record {
      item_of = m;
      front = refl;
      item_is = sym (same-some (item_in rs m) item e);
    }

-- a queue with no message has none of the machine
pub empty_of : (rs : List Request) (is : List Item) (ms : List machine.Item)
    → is ≡ map (item_in rs) ms → first is ≡ None → ms ≡ []
empty_of rs is ms same e = by ms (ap first (sym same) ∙ e)
  where
    by : (ms : List machine.Item) → first (map (item_in rs) ms) ≡ None → ms ≡ []
    by [] e = refl
    by (m ∷ ms) e = absurd cc

-- ---- one more request was made

-- an item of a request that was made is the same message
item-more : (b : machine.Bus) (r : Request) (k : ℕ) (at : Side) (m : machine.Item)
    → IsOwn b k at m → item_in (b.requests ++ r ∷ []) m ≡ item_in b.requests m
item-more b r k at (machine.Ask n) own =
    ap (ask_in n) (nth-more n b.requests r own.0 own.1 ∙ sym own.1)
item-more b r k at (machine.Reply n result bytes) own =
    ap (reply_in n result bytes) (nth-more n b.requests r own.0 own.1 ∙ sym own.1)
item-more b r k at (machine.Raw bytes) own = refl
item-more b r k at (machine.RawReply label kind result bytes) own = refl

-- and all connections are as they were
pub connections-more : (loose : List Loose) (b : machine.Bus) (r : Request) → ItemsFit loose b
    → map (connection_in (b.requests ++ r ∷ [])) b.connections
    ≡ map (connection_in b.requests) b.connections
connections-more loose b r fits =
    map-same (connection_in rs) (connection_in b.requests) b.connections one
  where
    rs : List Request
    rs = b.requests ++ r ∷ []

    queued : (c : machine.Connection) (at : Side) → IsIn c b.connections
        → map (item_in rs) (queue at c) ≡ map (item_in b.requests) (queue at c)
    queued c at there =
        map-same (item_in rs) (item_in b.requests) (queue at c)
        (λ m i. item-more b r c.number at m (fits.own c at m there i))

    one : (c : machine.Connection) → IsIn c b.connections
        → connection_in rs c ≡ connection_in b.requests c
    one c there =
        ap (λ is. record (connection_in rs c) { to_ap = is }) (queued c side.Ap there)
        ∙ ap (λ is. record (connection_in b.requests c) { to_far = is }) (queued c side.Far there)
