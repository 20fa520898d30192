-- The requests of one side of a connection whose identifiers are in use, and what changes them.
use Rattle.std.specs.Prelude.{◌≡◌, ◌⊎◌, ℕ, ◌==◌, Bool, true, false, not, Option, Some, None}
use Rattle.std.specs.Prelude.{if◌then◌else◌, is_some, option_and_then, Result, Ok, Err, List, ⊤}
use Rattle.std.specs.Prelude.{find}
use Rattle.gb_base.specs.declared.end.Side.{Side}
use Rattle.gb_bus.specs.Parts.{is_unclean, next_in, numbered, ops_of, put, with_ops}
use Rattle.gb_bus.specs.Connection.{Connection}
use Rattle.gb_bus.specs.declared.answers.SendFault.{SendFault}
use Rattle.gb_bus.specs.declared.answers.SendFault.TheVariants as send
use Rattle.gb_bus.specs.declared.queue.Item.TheVariants as item
use Rattle.gb_machine.specs.Bus.{other_side}
use Rattle.gb_machine.specs.Lists.{at_first}
use Rattle.gb_ops.specs.Calls.{Begins, Ends, Forgets, GivesUp}
use Rattle.gb_ops.specs.Operations.{Operations, holder_of, next_label, pending_at}
use Rattle.gb_ops.specs.declared.entries.BeginFault.{BeginFault}
use Rattle.gb_ops.specs.declared.entries.BeginFault.TheVariants as begin
use Rattle.gb_ops.specs.declared.entries.Holder.{Holder}
use Rattle.gb_ops.specs.declared.entries.Matched.{Matched}
use Rattle.gb_ops.specs.declared.entries.Matched.TheVariants as matched

-- ---- one side

-- whether request n isn't the one that is asked for, if one is
abbrev pub is_other : Option ℕ → ℕ → Bool
is_other None n = false
is_other (Some asked) n = not (asked == n)

-- an identifier isn't in use, or not for the request that is asked for
abbrev pub IsNotOf : Option ℕ → Option Holder → Type 0
IsNotOf number None = Unit {0}
IsNotOf number (Some h) = is_other number h.number ≡ true

-- What an answer with an identifier comes to, to one request or to whichever has the identifier:
-- the request is open, or was given up, or the identifier isn't in use for it.
-- Then nothing changes.
abbrev pub MatchesAs : Operations → Operations → Option ℕ → ℕ → Matched → Type 0
MatchesAs old new number label (matched.Open m) =
    (is_other number m ≡ false) × Ends old new label m
MatchesAs old new number label (matched.Late m) =
    (is_other number m ≡ false) × Forgets old new label m
MatchesAs old new number label matched.Unknown = IsNotOf number (holder_of old label) × (new ≡ old)

-- Request n is given up, or wasn't open.
abbrev pub GivesUpWhere : Operations → Operations → ℕ → Type 0
GivesUpWhere old new n = GivesUp old new n ⊎ ((pending_at old n ≡ None) × (new ≡ old))

-- ---- one connection

-- of a connection one side changes so
abbrev pub OnSide : Connection → Connection → Side → (Operations → Operations → Type 0) → Type 0
OnSide old new at R =
    R (ops_of at old) (ops_of at new) × (new ≡ with_ops at (ops_of at new) old)

-- By cases on the answer. After want of memory nothing is said.
abbrev pub BeginsOn : Connection → Connection → Side → ℕ → ℕ → Result ℕ BeginFault → Type 0
BeginsOn old new at n deadline (Ok label) = OnSide old new at (λ x y. Begins x y n deadline label)
BeginsOn old new at n deadline (Err begin.NoLabel) =
    (next_label (ops_of at old) ≡ None) × (new ≡ old)
BeginsOn old new at n deadline (Err (begin.Memory m)) = ⊤

-- The identifier of request n of a side: 0 where it is unidirectional. By cases on the answer.
-- After want of memory nothing is said.
abbrev pub LabelsOn : Connection → Connection → Side → ℕ → ℕ → Bool → Result ℕ SendFault → Type 0
LabelsOn old new at n deadline true r = (r ≡ Ok 0) × (new ≡ old)
LabelsOn old new at n deadline false (Ok label) =
    OnSide old new at (λ x y. Begins x y n deadline label)
LabelsOn old new at n deadline false (Err send.NoLabel) =
    (next_label (ops_of at old) ≡ None) × (new ≡ old)
LabelsOn old new at n deadline false (Err send.NoConnection) = ⊥
LabelsOn old new at n deadline false (Err (send.Memory m)) = ⊤

-- a connection has the ends of one, is wired where that is, and the same waits there
pub record HasEndsOf (old new : Connection) : Type 0 where
  pub near : new.ap ≡ old.ap
  pub far : new.peer ≡ old.peer
  pub wire : new.wired ≡ old.wired
  pub near_waits : new.to_ap ≡ old.to_ap
  pub far_waits : new.to_far ≡ old.to_far

abbrev pub MatchesOn : Connection → Connection → Side → Option ℕ → ℕ → Matched → Type 0
MatchesOn old new at number label m = OnSide old new at (λ x y. MatchesAs x y number label m)

-- the request that a response is for: the one with its number, or on an unclean connection
-- whichever has its identifier
abbrev pub asked_of : Bool → ℕ → Option ℕ
asked_of unclean number = if unclean then None else Some number

-- a response to a request with a number, with whether the connection is unclean
abbrev pub RespondsOn : Connection → Connection → Side → ℕ → ℕ → Bool × Matched → Type 0
RespondsOn old new at number label r =
    (r.0 ≡ not old.clean) × MatchesOn old new at (asked_of r.0 number) label r.1

abbrev pub GivesUpOn : Connection → Connection → Side → ℕ → Type 0
GivesUpOn old new at n = OnSide old new at (λ x y. GivesUpWhere x y n)

-- ---- the connections

-- a side of the connection with a number changes so
pub record ChangesSide (old new : List Connection) (k : ℕ) (at : Side)
    (R : Operations → Operations → Type 0) : Type 0 where
  pub connection : Connection
  pub after : Operations
  pub found : find (numbered k) old ≡ Some connection
  pub did : R (ops_of at connection) after
  pub rest : new ≡ at_first (numbered k) (with_ops at after) old

-- request n of a side has this identifier: 0 where it is unidirectional
abbrev pub LabelsIn : List Connection → List Connection → ℕ → Side → ℕ → ℕ → Bool → ℕ → Type 0
LabelsIn old new k at n deadline true label = (label ≡ 0) × (new ≡ old)
LabelsIn old new k at n deadline false label =
    ChangesSide old new k at (λ x y. Begins x y n deadline label)

-- no identifier is left on a side of a live connection, and the request needs one
pub record IsSpentIn (cs : List Connection) (k : ℕ) (at : Side) (oneway : Bool) : Type 0 where
  pub live : is_some (find (numbered k) cs) ≡ true
  pub needs : oneway ≡ false
  pub spent : next_in k at cs ≡ None

-- a request has an identifier, and waits toward the other side, or is lost
pub record Asks (old new : List Connection) (k : ℕ) (at : Side) (n kind : ℕ) (payload : List ℕ)
    (deadline : ℕ) (oneway : Bool) (label : ℕ) (lost : Bool) : Type 0 where
  pub connection : Connection
  pub found : find (numbered k) old ≡ Some connection
  pub lost_is : lost ≡ not connection.wired
  pub begun : List Connection
  pub labels : LabelsIn old begun k at n deadline oneway label
  pub waits : new
      ≡ at_first (numbered k) (put (other_side at) (item.Ask n label kind payload)) begun

-- By cases on the answer. After want of memory it is said that the connection is live.
abbrev pub AsksIn : List Connection → List Connection → ℕ → Side → ℕ → ℕ → List ℕ → ℕ → Bool
    → Result (ℕ × Bool) SendFault → Type 0
AsksIn old new k at n kind payload deadline oneway (Ok a) =
    Asks old new k at n kind payload deadline oneway a.0 a.1
AsksIn old new k at n kind payload deadline oneway (Err send.NoLabel) =
    IsSpentIn old k at oneway × (new ≡ old)
AsksIn old new k at n kind payload deadline oneway (Err send.NoConnection) =
    (find (numbered k) old ≡ None) × (new ≡ old)
AsksIn old new k at n kind payload deadline oneway (Err (send.Memory m)) =
    is_some (find (numbered k) old) ≡ true

-- a side changes so, or the connection isn't live and nothing changes
abbrev pub ChangesAs : List Connection → List Connection → ℕ → Side
    → (Operations → Operations → Type 0) → Type 0
ChangesAs old new k at R =
    ChangesSide old new k at R ⊎ ((find (numbered k) old ≡ None) × (new ≡ old))

-- By cases on the answer.
abbrev pub MatchesIn : List Connection → List Connection → ℕ → Side → Option ℕ → ℕ → Matched
    → Type 0
MatchesIn old new k at number label (matched.Open m) =
    ChangesSide old new k at (λ x y. MatchesAs x y number label (matched.Open m))
MatchesIn old new k at number label (matched.Late m) =
    ChangesSide old new k at (λ x y. MatchesAs x y number label (matched.Late m))
MatchesIn old new k at number label matched.Unknown =
    IsNotOf number (option_and_then (λ c. holder_of (ops_of at c) label) (find (numbered k) old))
    × (new ≡ old)

abbrev pub RespondsIn : List Connection → List Connection → ℕ → Side → ℕ → ℕ → Bool × Matched
    → Type 0
RespondsIn old new k at number label r =
    (r.0 ≡ is_unclean k old) × MatchesIn old new k at (asked_of r.0 number) label r.1

abbrev pub GivesUpIn : List Connection → List Connection → ℕ → Side → ℕ → Type 0
GivesUpIn old new k at n = ChangesAs old new k at (λ x y. GivesUpWhere x y n)
