-- What a bus answers where connections are made, unwired or closed.
use Rattle.std.specs.Prelude.{◌≡◌, ◌<◌, ℕ, ◌+◌, ◌==◌, Bool, true, false, Some, Result, Ok}
use Rattle.std.specs.Prelude.{Err, is_some, List, ◌++◌, length, ⊤}
use Rattle.gb_base.specs.declared.end.End.{End}
use Rattle.gb_base.specs.declared.end.End.TheVariants as end
use Rattle.gb_base.specs.declared.end.Side.{Side}
use Rattle.gb_bus.specs.Ends.{greatest_number}
use Rattle.gb_bus.specs.Parts.{is_taken}
use Rattle.gb_bus.specs.Stands.{Around, Stands}
use Rattle.gb_bus.specs.declared.answers.AttachFault.{AttachFault}
use Rattle.gb_bus.specs.declared.answers.AttachFault.TheVariants as fault
use Rattle.gb_bus.specs.declared.bus.Bus.{Bus}
pub use Rattle.gb_invariants.specs.Attaching.{IsOther, MayAttach}
use Rattle.gb_invariants.specs.Facts.{Loose}
use Rattle.gb_machine.specs.Bus as machine
use Rattle.gb_machine.specs.Bus.{Connection, Place, Request, connection_of, queue, request_of}
use Rattle.gb_machine.specs.LawsBus.{is_awaited}
use Rattle.gb_machine.specs.Lists.{without}
use Rattle.gb_machine.specs.Requests.{is_of, open_on}
use Rattle.gb_machine.specs.Wiring.{attached, next_connection}

-- a connection was made
pub record Attaches (around : Around) (new : Bus) (a i c protocol : ℕ) (b : machine.Bus)
    (k : ℕ) : Type 0 where
  pub number : k ≡ next_connection b
  pub stands : Stands around new (attached a i c protocol b)

-- By cases on the answer. Nothing is taken, and after want of memory nothing is said.
abbrev pub AttachesAs : Around → Bus → ℕ → ℕ → ℕ → ℕ → machine.Bus → Result ℕ AttachFault
    → Type 0
AttachesAs around new a i c protocol b (Ok k) = Attaches around new a i c protocol b k
AttachesAs around new a i c protocol b (Err fault.Taken) = ⊥
AttachesAs around new a i c protocol b (Err (fault.Memory m)) = ⊤

-- a live connection has the next number, or one of these ends
abbrev pub is_taken_on : Bus → ℕ → ℕ → ℕ → Bool
is_taken_on x a i c = is_taken (x.made + 1) a (end.Module i c) x.connections

-- By cases on the answer: whether the number or an end is taken. Where no number is left nothing is
-- said.
abbrev pub TakenAs : Bus → ℕ → ℕ → ℕ → Result ℕ AttachFault → Type 0
TakenAs x a i c (Ok k) = is_taken_on x a i c ≡ false
TakenAs x a i c (Err fault.Taken) = is_taken_on x a i c ≡ true
TakenAs x a i c (Err (fault.Memory m)) =
    x.made < greatest_number → is_taken_on x a i c ≡ false

-- without the items that are of a connection
abbrev pub elsewhere : ℕ → Around → Around
elsewhere k around =
    record around { items = without (λ (l : Loose). l.connection == k) around.items }

-- A connection is live, and no request of one of its sides is awaited.
pub record IsQuiet (k : ℕ) (at : Side) (b : machine.Bus) : Type 0 where
  pub live : is_some (connection_of k b) ≡ true
  pub none : (n : ℕ) (r : Request) → request_of n b ≡ Some r → is_of k at r ≡ true
      → is_awaited n b ≡ false

-- The bus stands for this state, and the open requests that a side of a connection had stand behind
-- the numbers that stood there.
pub record EndsAs (around : Around) (new : Bus) (k : ℕ) (at : Side) (b after : machine.Bus)
    (was now : List ℕ) : Type 0 where
  pub stands : Stands around new after
  pub ended : now ≡ was ++ open_on k at b

-- how many items wait at a place
abbrev pub count_at : Place → ℕ
count_at p = length (queue p.side p.connection)

-- the ends of a connection: the application processor's CPort and the far end
abbrev pub ends_of : Connection → ℕ × End
ends_of c = (c.ap, c.peer)

-- the number of the connection of a place
abbrev pub number_of : Place → ℕ
number_of p = p.connection.number
