-- What the parts of a bus's calls do to it.
use Rattle.std.specs.Prelude.{◌≡◌, ℕ, nat_lt, Bool, true, false, Option, Some, None, Result, Ok}
use Rattle.std.specs.Prelude.{Err, List}
use Rattle.gb_base.specs.declared.end.Side.{Side}
use Rattle.gb_base.specs.declared.outcome.Outcome.TheVariants as outcome
use Rattle.gb_bus.specs.Parts.{is_unclean}
use Rattle.gb_bus.specs.Sides.{MatchesIn}
use Rattle.gb_bus.specs.Slots.{MovesAt, ended_at, ends_so, forgets, slot_at}
use Rattle.gb_bus.specs.Taking.{dropped, open_kind, shown}
use Rattle.gb_bus.specs.declared.answers.Arrival.{Arrival}
use Rattle.gb_bus.specs.declared.answers.Arrival.TheVariants as arrival
use Rattle.gb_bus.specs.declared.answers.Asked.{Asked}
use Rattle.gb_bus.specs.declared.answers.DeliverFault.{DeliverFault}
use Rattle.gb_bus.specs.declared.answers.DeliverFault.TheVariants as deliver
use Rattle.gb_bus.specs.declared.bus.Bus.{Bus}
use Rattle.gb_bus.specs.Connection.{Connection}
use Rattle.gb_bus.specs.declared.queue.Item.{Item}
use Rattle.gb_bus.specs.declared.queue.Item.TheVariants as item
use Rattle.gb_bus.specs.declared.slots.Slot.{Slot}
use Rattle.gb_bus.specs.declared.tally.Tally.{Tally}
use Rattle.gb_ops.specs.declared.entries.Matched.{Matched}
use Rattle.gb_ops.specs.declared.entries.Matched.TheVariants as matched

-- the bus with these connections
abbrev pub with_connections : List Connection → Bus → Bus
with_connections cs x = record x { connections = cs }

-- what is kept of a request changes, and the connections may
pub record ChangesRequest (old new : Bus) (n : ℕ) (change : Slot → Option Slot)
    (tally : Tally) : Type 0 where
  pub rest : new ≡ record old { connections = new.connections; slots = new.slots }
  pub moves : MovesAt n change tally old.slots new.slots

-- What an answer does to the bus, by what its identifier is in use for, and by the type of its
-- request, where that is open: it ends the request, or it is late.
abbrev pub Answers : Bus → Bus → ℕ → ℕ → List ℕ → Matched → Option ℕ → Arrival → Type 0
Answers old new number code payload (matched.Open m) (Some kind) a =
    (a ≡ arrival.Ended number kind code (shown code payload))
    × ChangesRequest old new number (ends_so (outcome.Answered code (shown code payload)))
    (ended_at number (outcome.Answered code (shown code payload)) old.slots)
Answers old new number code payload m kind a =
    (a ≡ arrival.Late number) × ChangesRequest old new number forgets old.slots.tally

-- the only fault is want of memory
abbrev pub IsMemory : DeliverFault → Type 0
IsMemory (deliver.Memory m) = Unit {0}
IsMemory deliver.NoConnection = ⊥
IsMemory deliver.QueueEmpty = ⊥

-- an open request is answered
abbrev pub AnswersOpenAs : Bus → Bus → ℕ → ℕ → ℕ → List ℕ → Result Arrival DeliverFault → Type 0
AnswersOpenAs old new number kind code payload (Ok a) =
    (a ≡ arrival.Ended number kind code (shown code payload))
    × (new ≡ record old { slots = new.slots })
    × MovesAt number (ends_so (outcome.Answered code (shown code payload)))
    (ended_at number (outcome.Answered code (shown code payload)) old.slots) old.slots new.slots
AnswersOpenAs old new number kind code payload (Err e) = IsMemory e

-- what an answer to a request with a number does once its identifier is free
abbrev pub AnswersTo : Option ℕ → Bus → Bus → ℕ → ℕ → List ℕ → Matched
    → Result Arrival DeliverFault → Type 0
AnswersTo (Some kind) old new number code payload (matched.Open m) r =
    AnswersOpenAs old new number kind code payload r
AnswersTo kind old new number code payload m r =
    (r ≡ Ok (arrival.Late number)) × (new ≡ record old { slots = new.slots })
    × MovesAt number forgets old.slots.tally old.slots new.slots

-- an answer to a request with a number and an identifier came at a side of a connection
pub record Answered (old new : Bus) (k : ℕ) (at : Side) (number label code : ℕ)
    (payload : List ℕ) (a : Arrival) : Type 0 where
  pub matched : Matched
  pub matches : MatchesIn old.connections new.connections k at (Some number) label matched
  pub answers : Answers old new number code payload matched
      (open_kind (slot_at old.slots number)) a

abbrev pub AnswersAs : Bus → Bus → ℕ → Side → ℕ → ℕ → ℕ → List ℕ
    → Result Arrival DeliverFault → Type 0
AnswersAs old new k at number label code payload (Ok a) =
    Answered old new k at number label code payload a
AnswersAs old new k at number label code payload (Err e) = IsMemory e

-- What a response with an identifier does to the bus, where the identifier is in use for an open
-- request: it ends that. Wherever the bus stands the request is open by its slot too, so the case
-- None doesn't happen.
abbrev pub EndsOpen : Bus → Bus → ℕ → ℕ → ℕ → List ℕ → Option ℕ → Arrival → Type 0
EndsOpen old new label number code payload (Some kind) a =
    (a ≡ arrival.Ended number kind code (shown code payload))
    × ChangesRequest old new number (ends_so (outcome.Answered code (shown code payload)))
    (ended_at number (outcome.Answered code (shown code payload)) old.slots)
EndsOpen old new label number code payload None a =
    (a ≡ arrival.UnknownLabel label) × (new ≡ with_connections new.connections old)

abbrev pub EndsOpenAs : Bus → Bus → ℕ → ℕ → ℕ → List ℕ → Result Arrival DeliverFault → Type 0
EndsOpenAs old new number label code payload (Ok a) =
    EndsOpen old new label number code payload (open_kind (slot_at old.slots number)) a
    × (new ≡ record old { slots = new.slots })
EndsOpenAs old new number label code payload (Err e) = IsMemory e

-- what it does, by what its identifier was in use for, once that is free
abbrev pub LabelsTo : Bus → Bus → ℕ → ℕ → List ℕ → Matched → Result Arrival DeliverFault → Type 0
LabelsTo old new label code payload (matched.Open n) r = EndsOpenAs old new n label code payload r
LabelsTo old new label code payload (matched.Late n) r =
    (r ≡ Ok (arrival.LateLabel label)) × (new ≡ record old { slots = new.slots })
    × MovesAt n forgets old.slots.tally old.slots new.slots
LabelsTo old new label code payload matched.Unknown r =
    (r ≡ Ok (arrival.UnknownLabel label)) × (new ≡ old)

-- What it does, by what its identifier is in use for.
abbrev pub Labels : Bus → Bus → ℕ → ℕ → List ℕ → Matched → Arrival → Type 0
Labels old new label code payload (matched.Open n) a =
    EndsOpen old new label n code payload (open_kind (slot_at old.slots n)) a
Labels old new label code payload (matched.Late n) a =
    (a ≡ arrival.LateLabel label) × ChangesRequest old new n forgets old.slots.tally
Labels old new label code payload matched.Unknown a =
    (a ≡ arrival.UnknownLabel label) × (new ≡ with_connections new.connections old)

-- a response with an identifier came at a side of a connection
pub record Labelled (old new : Bus) (k : ℕ) (at : Side) (label code : ℕ) (payload : List ℕ)
    (a : Arrival) : Type 0 where
  pub matched : Matched
  pub matches : MatchesIn old.connections new.connections k at None label matched
  pub answers : Labels old new label code payload matched a

abbrev pub LabelledAs : Bus → Bus → ℕ → Side → ℕ → ℕ → List ℕ → Result Arrival DeliverFault
    → Type 0
LabelledAs old new k at label code payload (Ok a) = Labelled old new k at label code payload a
LabelledAs old new k at label code payload (Err e) = IsMemory e

-- a response to request number came, on a connection that is unclean or isn't
abbrev pub RepliesTo : Bool → Bus → Bus → ℕ → Side → ℕ → ℕ → ℕ → List ℕ
    → Result Arrival DeliverFault → Type 0
RepliesTo true old new k at number label code payload r =
    LabelledAs old new k at label code payload r
RepliesTo false old new k at number label code payload r =
    AnswersAs old new k at number label code payload r

-- what names a request that was delivered
abbrev pub naming : Option ℕ → ℕ → ℕ → Asked
naming number label kind = record { number = number; label = label; kind = kind }

-- a message came as raw bytes, a request or not
abbrev pub RawTakesAs : Bool → Bus → Bus → ℕ → Side → ℕ → ℕ → ℕ → List ℕ
    → Result Arrival DeliverFault → Type 0
RawTakesAs true old new k at label kind code payload r =
    (r ≡ Ok (arrival.Ask (naming None label kind) payload)) × (new ≡ old)
RawTakesAs false old new k at label kind code payload r =
    LabelledAs old new k at label code payload r

-- what a message brings to a side of a connection that takes it
abbrev pub TakesAs : Bus → Bus → ℕ → Side → Item → Result Arrival DeliverFault → Type 0
TakesAs old new k at (item.Ask number label kind payload) r =
    (r ≡ Ok (arrival.Ask (naming (Some number) label kind) payload)) × (new ≡ old)
TakesAs old new k at (item.Reply number label code payload) r =
    RepliesTo (is_unclean k old.connections) old new k at number label code payload r
TakesAs old new k at (item.Raw label kind code payload) r =
    RawTakesAs (nat_lt kind 128) old new k at label kind code payload r
TakesAs old new k at (item.BadRaw fault) r = (r ≡ Ok (arrival.BadRaw fault)) × (new ≡ old)
TakesAs old new k at (item.RawReply label code payload) r =
    LabelledAs old new k at label code payload r

-- what a message brings to a side of a connection that takes it, or doesn't
abbrev pub HandlesAs : Bus → Bus → ℕ → Side → Bool → Item → Result Arrival DeliverFault → Type 0
HandlesAs old new k at true item r = TakesAs old new k at item r
HandlesAs old new k at false item r = (r ≡ Ok (dropped item)) × (new ≡ old)
