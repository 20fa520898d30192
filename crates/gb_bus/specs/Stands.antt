-- What the value of a bus stands for.
use Rattle.std.specs.Prelude.{◌≡◌, ℕ, Bool, true, ◌&&◌, if◌then◌else◌, Option, Some, None, is_some}
use Rattle.std.specs.Prelude.{List, find, map}
use Rattle.gb_base.specs.declared.end.Side.{Side}
use Rattle.gb_base.specs.declared.outcome.Outcome.{Outcome}
use Rattle.gb_bus.specs.Counting.{Tells}
use Rattle.gb_bus.specs.Listing.{count}
use Rattle.gb_bus.specs.Parts.{numbered, ops_of}
use Rattle.gb_bus.specs.Shown.{connection_in, without_ops}
use Rattle.gb_bus.specs.Slots.{slot_at, while_asked_for}
use Rattle.gb_bus.specs.declared.bus.Bus.{Bus}
use Rattle.gb_bus.specs.Connection.{Connection}
use Rattle.gb_bus.specs.declared.slots.Slot.{Slot}
use Rattle.gb_invariants.specs.Facts.{BusFits, Loose}
use Rattle.gb_machine.specs.Bus as machine
use Rattle.gb_machine.specs.Bus.{Request, connection_of, is_open, outcome_of, request_of}
use Rattle.gb_machine.specs.Labels.{last_label}
use Rattle.gb_machine.specs.LawsBus.{AreApart, is_awaited}
use Rattle.gb_machine.specs.Members.{Each, EachTwo}
use Rattle.gb_machine.specs.Requests.{is_given_up, is_of}
use Rattle.gb_ops.specs.Operations.{Operations, holder_of, pending_at}
use Rattle.gb_ops.specs.declared.entries.Holder.{Holder}
use Rattle.gb_ops.specs.declared.entries.Pending.{Pending}

-- ---- requests

-- What there is of requests outside of the bus: items that are in none of its queues, since they
-- are held or are being handled, and the number of the request that each name names.
pub record Around : Type 0 where
  pub items : List Loose
  pub names : List ℕ

abbrev pub around_of : List Loose → List ℕ → Around
around_of items names = record { items = items; names = names }

-- names name requests that were made
abbrev pub AreMade : List ℕ → machine.Bus → Type 0
AreMade names b = Each (λ n. is_some (request_of n b) ≡ true) names

-- what is kept of a request
abbrev pub kept : ℕ → Bool → ℕ → Option Outcome → Request → Slot
kept n awaited names how r = record {
  number = n;
  connection = r.connection;
  side = r.side;
  kind = r.kind;
  deadline = r.deadline;
  outcome = how;
  awaited = awaited;
  names = names;
}

-- what is kept of a request that was made, None where nothing asks for it
abbrev pub kept_of : ℕ → Bool → ℕ → Option Outcome → Option Request → Option Slot
kept_of n awaited names how None = None
kept_of n awaited names how (Some r) = while_asked_for (kept n awaited names how r)

-- What is kept of request n: it has a slot exactly where it is open, was given up and not answered
-- yet, or has a name.
abbrev pub slot_of : List ℕ → ℕ → machine.Bus → Option Slot
slot_of names n b = kept_of n (is_awaited n b) (count n names) (outcome_of n b) (request_of n b)

-- ---- identifiers

-- an open request of a side, by whether it is open and by the request
abbrev pub pending_by : ℕ → Side → Bool → Option Request → Option Pending
pending_by k at unended None = None
pending_by k at unended (Some r) =
    if unended && is_of k at r
    then Some (record { label = r.label; deadline = r.deadline })
    else None

-- request n as an open one of a side of a connection, None where it isn't
abbrev pub pending_of : ℕ → Side → ℕ → machine.Bus → Option Pending
pending_of k at n b = pending_by k at (is_open n b) (request_of n b)

-- what the identifier of request n is in use for
abbrev pub holding : ℕ → machine.Bus → Holder
holding n b = record { number = n; given_up = is_given_up n b }

-- an identifier of a side is in use for a request that is awaited there
pub record IsHolder (k : ℕ) (at : Side) (label : ℕ) (h : Holder) (b : machine.Bus) : Type 0 where
  pub request : Request
  pub made : request_of h.number b ≡ Some request
  pub own : is_of k at request ≡ true
  pub label_is : request.label ≡ label
  pub awaited : is_awaited h.number b ≡ true
  pub is : h ≡ holding h.number b

-- What is kept of a side of a connection is what the machine has: its open requests, those whose
-- identifier is in use, and the last identifier drawn.
pub record KeepsSide (k : ℕ) (at : Side) (x : Operations) (last : ℕ) (b : machine.Bus) : Type
    0 where
  pub last_is : x.last ≡ last
  pub pending : (n : ℕ) → pending_at x n ≡ pending_of k at n b
  pub held : (n : ℕ) (r : Request) → request_of n b ≡ Some r → is_of k at r ≡ true
      → is_awaited n b ≡ true → holder_of x r.label ≡ Some (holding n b)
  pub used : (label : ℕ) (h : Holder) → holder_of x label ≡ Some h → IsHolder k at label h b

-- so it is of each side of each connection
abbrev pub KeepSides : List Connection → machine.Bus → Type 0
KeepSides xs b =
    (k : ℕ) (at : Side) (x : Connection) (c : machine.Connection)
    → find (numbered k) xs ≡ Some x → connection_of k b ≡ Some c
    → KeepsSide k at (ops_of at x) (last_label at c) b

-- ---- the bus

-- what the value of a bus has is what the machine's bus has
pub record Shows (names : List ℕ) (x : Bus) (b : machine.Bus) : Type 0 where
  pub made : x.made ≡ b.made
  pub connections : map without_ops x.connections ≡ map (connection_in b.requests) b.connections
  pub sides : KeepSides x.connections b
  pub slots : (n : ℕ) → slot_at x.slots n ≡ slot_of names n b
  pub tally : Tells x.slots.tally b

-- What every call keeps of the machine's bus, and of the items that are in none of its queues: they
-- are held, or are being handled. Numbers of connections rise, outcomes are those of requests that
-- were made, identifiers that are awaited differ and were drawn, items are those of their
-- connections, and each number is in one item at most. Live connections have ends of their own.
pub record Keeps (loose : List Loose) (b : machine.Bus) : Type 0 where
  pub fits : BusFits loose b
  pub apart : EachTwo AreApart b.connections

-- The bus stands for this bus part of the machine's state, with what is around it.
pub record Stands (around : Around) (x : Bus) (b : machine.Bus) : Type 0 where
  pub shows : Shows around.names x b
  pub named : AreMade around.names b
  pub facts : Keeps around.items b
