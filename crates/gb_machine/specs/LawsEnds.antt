-- Laws of runs: each request ends at most once, by an answer of its own responder or by a cause
-- that came.
use Rattle.std.specs.Prelude.{◌≡◌, ◌≢◌, ◌≤◌, ◌⊎◌, ℕ, ◌==◌, Bool, true, false, is_some, Some, List}
use Rattle.gb_base.specs.declared.bridge.Reading.{Reading}
use Rattle.gb_base.specs.declared.end.Side.{Side}
use Rattle.gb_base.specs.declared.end.Side.TheVariants as side
use Rattle.gb_base.specs.declared.entry.Entry.{Entry}
use Rattle.gb_base.specs.declared.entry.Entry.TheVariants as entry
use Rattle.gb_base.specs.declared.event.Event.TheVariants as event
use Rattle.gb_base.specs.declared.name.Name.{Name}
use Rattle.gb_base.specs.declared.outcome.Outcome.{Outcome}
use Rattle.gb_base.specs.declared.outcome.Outcome.TheVariants as outcome
use Rattle.gb_base.specs.declared.interface.Link.{Link}
use Rattle.gb_formats.specs.Message.{message_size, response, spelling}
use Rattle.gb_machine.specs.Bus.{Connection, Reply, Request, connection_of, end_of, other_side}
use Rattle.gb_machine.specs.Bus.{request_of}
use Rattle.gb_machine.specs.Host.{link_at, link_of}
use Rattle.gb_machine.specs.LawsBus.{items_of}
use Rattle.gb_machine.specs.Members.{IsIn, times}
use Rattle.gb_machine.specs.Names.{named}
use Rattle.gb_machine.specs.Runs.{HoldsAtEachMoment, HoldsThroughout, Moment, after, told_at}
use Rattle.gb_machine.specs.State.{State}
use Rattle.gb_machine.specs.SvcQueues.{HandlesRemoval}

-- ---- ends at most once

-- a pair is the outcome of request n
abbrev pub is_outcome_of : ℕ → ℕ × Outcome → Bool
is_outcome_of n p = p.0 == n

-- an entry tells the end of request n
abbrev pub is_end_of : ℕ → Entry → Bool
is_end_of n (entry.Ended m how read) = m == n
is_end_of n _ = false

-- an entry tells the reply to request n
abbrev pub is_reply_of : ℕ → Entry → Bool
is_reply_of n (entry.Replied (Some m) from to result size bytes) = m == n
is_reply_of n _ = false

-- Each number has at most one outcome, and at most one end and one reply are told of it.
pub record EndOnce (told : List Entry) (s : State) : Type 0 where
  pub outcomes : (n : ℕ) → times (is_outcome_of n) s.bus.outcomes ≤ 1
  pub ends : (n : ℕ) → times (is_end_of n) told ≤ 1
  pub replies : (n : ℕ) → times (is_reply_of n) told ≤ 1

-- Each request ends at most once and is replied to at most once, in every run.
abbrev pub EndsAtMostOnce : Type 0
EndsAtMostOnce = HoldsThroughout EndOnce

-- ---- ends are told

-- An outcome was told as the end of its request, but for that of a unidirectional one, which has it
-- from the first. What was told is the outcome, of a request that was made.
pub record EndsTold (told : List Entry) (s : State) : Type 0 where
  pub said : (n : ℕ) (how : Outcome) → IsIn (n, how) s.bus.outcomes → how ≢ outcome.Sent
      → (read : Reading) × IsIn (entry.Ended n how read) told
  pub kept : (n : ℕ) (how : Outcome) (read : Reading)
      → IsIn (entry.Ended n how read) told → IsIn (n, how) s.bus.outcomes
  pub made : (n : ℕ) (how : Outcome)
      → IsIn (n, how) s.bus.outcomes → is_some (request_of n s.bus) ≡ true

-- What is told of ends is what the outcomes are, in every run.
abbrev pub EndsAreTold : Type 0
EndsAreTold = HoldsThroughout EndsTold

-- ---- answered by its own responder

-- The reply to request n was told: it came from that end of the request's own connection which
-- didn't send it, with this result and, where the result is 0, this payload.
pub record WasReplied (told : List Entry) (c : Connection) (n : ℕ) (r : Request)
    (result : ℕ) (payload : List ℕ) : Type 0 where
  pub sent : List ℕ
  pub said : IsIn (entry.Replied (Some n) (end_of (other_side r.side) c) (end_of r.side c) result
      (message_size sent) (spelling (response r.label r.kind result sent))) told
  pub same : result ≡ 0 → sent ≡ payload

-- Request n is answered by its number: the reply to it was told, and waited on its connection or
-- was held there until now.
pub record IsAnsweredByNumber (m : Moment) (c : Connection) (n : ℕ) (r : Request) (result : ℕ)
    (payload : List ℕ) : Type 0 where
  pub replied : WasReplied m.told c n r result payload
  pub waited : IsIn (Reply n result replied.sent) (items_of c m.before)

-- A request that ends as answered at a moment does so on its live connection, and where that is
-- clean by its number.
abbrev pub HadItsReply : Moment → Type 0
HadItsReply m =
    (n result : ℕ) (payload : List ℕ) (read : Reading) (r : Request)
    → IsIn (entry.Ended n (outcome.Answered result payload) read) (told_at m)
    → request_of n (after m).bus ≡ Some r
    → (c : Connection) × (connection_of r.connection m.before.bus ≡ Some c)
    × (c.clean ≡ true → IsAnsweredByNumber m c n r result payload)

-- On a clean connection a request is answered by what its own responder replied, at every moment.
abbrev pub AnsweredByItsResponder : Type 0
AnsweredByItsResponder = HoldsAtEachMoment HadItsReply

-- ---- every end has its cause

-- The event of a moment cancels a name that names request n.
abbrev pub IsCancel : Moment → ℕ → Type 0
IsCancel m n =
    (name : Name) × (m.event ≡ event.Cancel name) × (named name m.before.names ≡ Some n)

-- The event of a moment is a tick, after which the deadline of a request has come.
abbrev pub IsTimeout : Moment → Request → Type 0
IsTimeout m r =
    (millis : ℕ) × (m.event ≡ event.Tick millis) × (r.deadline ≤ (after m).now)

-- The event of a moment is the disconnect of connection k.
abbrev pub IsDisconnect : Moment → ℕ → Type 0
IsDisconnect m k =
    (i : ℕ) × (c : ℕ) × (l : Link) × (m.event ≡ event.Disconnect i c)
    × (link_at i c m.before.host ≡ Some l) × (l.connection ≡ k)

-- At a moment the removal of the interface of connection k is handled.
abbrev pub IsRemovalOf : Moment → ℕ → Type 0
IsRemovalOf m k = (l : Link) × (link_of k m.before.host ≡ Some l) × HandlesRemoval l.intf m

-- At a moment connection k is unwired.
abbrev pub IsUnwiring : Moment → ℕ → Type 0
IsUnwiring m k =
    (c : Connection) × (d : Connection) × (connection_of k m.before.bus ≡ Some c)
    × (connection_of k (after m).bus ≡ Some d) × (c.wired ≡ true) × (d.wired ≡ false)

-- what disconnects the requests of a side of connection k
abbrev pub IsDisconnection : Moment → Side → ℕ → Type 0
IsDisconnection m side.Ap k = IsDisconnect m k ⊎ IsRemovalOf m k
IsDisconnection m side.Far k = IsUnwiring m k

-- Each end by cancelling, timeout or disconnection that is told at a moment has its cause there.
pub record HasItsCause (m : Moment) : Type 0 where
  pub cancelled : (n : ℕ) (read : Reading)
      → IsIn (entry.Ended n outcome.Cancelled read) (told_at m) → IsCancel m n
  pub timeout : (n : ℕ) (read : Reading) (r : Request)
      → IsIn (entry.Ended n outcome.Timeout read) (told_at m)
      → request_of n (after m).bus ≡ Some r → IsTimeout m r
  pub disconnected : (n : ℕ) (read : Reading) (r : Request)
      → IsIn (entry.Ended n outcome.Disconnected read) (told_at m)
      → request_of n (after m).bus ≡ Some r
      → (r.connection ≢ 1) × IsDisconnection m r.side r.connection

-- A request is cancelled, times out or is disconnected only where that came, at every moment.
abbrev pub EveryEndHasItsCause : Type 0
EveryEndHasItsCause = HoldsAtEachMoment HasItsCause
