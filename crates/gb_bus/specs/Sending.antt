-- What a bus answers to a send.
use Rattle.std.specs.Prelude.{◌≡◌, ◌<◌, ℕ, Bool, true, false, Option, Some, None}
use Rattle.std.specs.Prelude.{option_and_then, is_some, Result, Ok, Err, find, ⊤}
use Rattle.gb_base.specs.declared.end.Side.{Side}
use Rattle.gb_bus.specs.Ends.{greatest_number}
use Rattle.gb_bus.specs.Parts.{numbered}
use Rattle.gb_bus.specs.Sides.{IsSpentIn}
use Rattle.gb_bus.specs.Slots.{key_at}
use Rattle.gb_bus.specs.Stands.{Around, Stands}
use Rattle.gb_bus.specs.declared.answers.SendFault.{SendFault}
use Rattle.gb_bus.specs.declared.answers.SendFault.TheVariants as fault
use Rattle.gb_bus.specs.declared.answers.Sent.{Sent}
use Rattle.gb_bus.specs.declared.bus.Bus.{Bus}
use Rattle.gb_machine.specs.Bus as machine
use Rattle.gb_machine.specs.Bus.{connection_of, next_number}
use Rattle.gb_machine.specs.Sending.{Draft, is_lost, label_for, sent}

-- The identifier that a request gets. It gets none where its connection isn't live: then
-- it isn't made.
abbrev pub label_on : Draft → machine.Bus → Option ℕ
label_on d b = option_and_then (λ c. label_for d b) (connection_of d.connection b)

-- a request was made, and the bus stands for the state after it
pub record Sends (around : Around) (new : Bus) (d : Draft) (b : machine.Bus)
    (s : Sent) : Type 0 where
  pub label : label_on d b ≡ Some s.label
  pub number : s.number ≡ next_number b
  pub lost : s.lost ≡ is_lost d b
  pub stands : Stands around new (sent d s.label b)

-- the connection is live, the request isn't unidirectional, and no identifier is left
pub record SendsNone (around : Around) (new : Bus) (d : Draft) (b : machine.Bus) : Type 0 where
  pub live : is_some (connection_of d.connection b) ≡ true
  pub needs : d.oneway ≡ false
  pub label : label_on d b ≡ None
  pub stands : Stands around new b

-- the connection isn't live
pub record SendsNowhere (around : Around) (new : Bus) (d : Draft) (b : machine.Bus) : Type 0 where
  pub gone : connection_of d.connection b ≡ None
  pub stands : Stands around new b

-- By cases on the answer. After want of memory nothing is said.
abbrev pub SendsAs : Around → Bus → Draft → machine.Bus → Result Sent SendFault → Type 0
SendsAs around new d b (Ok s) = Sends around new d b s
SendsAs around new d b (Err fault.NoLabel) = SendsNone around new d b
SendsAs around new d b (Err fault.NoConnection) = SendsNowhere around new d b
SendsAs around new d b (Err (fault.Memory m)) = ⊤

-- a live connection has a number
abbrev pub is_live_on : Bus → ℕ → Bool
is_live_on x k = is_some (find (numbered k) x.connections)

-- By cases on the answer: whether the connection is live, and why a request isn't made. Where no
-- number is left nothing is said.
abbrev pub MadeWhere : Bus → ℕ → Side → Bool → Result Sent SendFault → Type 0
MadeWhere x k at oneway (Ok s) = is_live_on x k ≡ true
MadeWhere x k at oneway (Err fault.NoLabel) = IsSpentIn x.connections k at oneway
MadeWhere x k at oneway (Err fault.NoConnection) = is_live_on x k ≡ false
MadeWhere x k at oneway (Err (fault.Memory m)) =
    x.slots.tally.requests < greatest_number → is_live_on x k ≡ true

-- ---- where a request is kept

-- the place of what is kept of a request among all that is kept, None where nothing is
abbrev pub slot_on : Bus → ℕ → Option ℕ
slot_on x n = key_at x.slots n

-- the place that comes next
abbrev pub next_slot : Bus → ℕ
next_slot x = x.slots.next
