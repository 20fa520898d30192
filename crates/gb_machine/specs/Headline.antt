-- What is promised of every run of events, together: the sentence with which this project stands.
use Rattle.std.specs.Prelude.{List}
use Rattle.gb_base.specs.declared.event.Event.{Event}
use Rattle.gb_machine.specs.LawsDraining.{UncutComeToAnEnd}
use Rattle.gb_machine.specs.LawsEnds.{EndOnce, HadItsReply, HasItsCause}
use Rattle.gb_machine.specs.LawsHotPlug.{AbsentBetween, AbsentHasNoOpen, AbsentIsUnconnected}
use Rattle.gb_machine.specs.LawsHotPlug.{HaveOwnItems, OpenIsLive, TakesFromItsConnection}
use Rattle.gb_machine.specs.LawsHotPlug.{NoneForgotten, RememberedForOne, RememberedWhileLive}
use Rattle.gb_machine.specs.LawsHotPlug.{WereOpened, WiredByItsRequest, WiredOnce}
use Rattle.gb_machine.specs.Members.{Each}
use Rattle.gb_machine.specs.Runs.{AreValid, IsItsDeliveries, moments_in, state_by, told_by}

-- Once the removal of an interface is handled it is absent until its insertion is handled. While it
-- is absent no live connection names it, and no request is open on a connection that ever did. Each
-- live connection was told with its ends when it was made. Open requests of the application
-- processor are on live connections.
pub record LeavesNothing (es : List Event) : Type 0 where
  pub absent : Each AbsentBetween (moments_in es)
  pub unconnected : AbsentIsUnconnected (told_by es) (state_by es)
  pub opened : WereOpened (told_by es) (state_by es)
  pub closed : AbsentHasNoOpen (told_by es) (state_by es)
  pub live : OpenIsLive (told_by es) (state_by es)

-- A connection is wired at most once, by its own request, to a module that is plugged and routed.
-- That request was made while it was live, and is no other's.
pub record WiresItsOwn (es : List Event) : Type 0 where
  pub once : WiredOnce (told_by es) (state_by es)
  pub own : Each WiredByItsRequest (moments_in es)
  pub kept : Each NoneForgotten (moments_in es)
  pub one : RememberedForOne (told_by es) (state_by es)
  pub made : Each RememberedWhileLive (moments_in es)

-- What waits or is held on a connection was put there by a request, a reply or an injection on that
-- connection. A delivery takes the front item from there, and tells what became of that. Which
-- module a connection is wired to is up to its own request.
pub record HandlesItsOwn (es : List Event) : Type 0 where
  pub items : HaveOwnItems (told_by es) (state_by es)
  pub takes : Each TakesFromItsConnection (moments_in es)
  pub wires : WiresItsOwn es

-- On connections without injected bytes an answer goes by the number of its request, and never by
-- an identifier, and is what that request's own responder replied. Each request ends at most once:
-- so, or by a cancellation, a timeout or a disconnection that came. What is open on a connection
-- that drains, and so closes uncut, is answered, is cancelled or times out. Once a removal is
-- handled, nothing on that interface is open. No CPort handles a message of another connection. At
-- the moments of the run, in which each settle is taken apart, the same is told as in the run.
pub record Headline (es : List Event) : Type 0 where
  pub moments : IsItsDeliveries es
  pub answered : Each HadItsReply (moments_in es)
  pub once : EndOnce (told_by es) (state_by es)
  pub caused : Each HasItsCause (moments_in es)
  pub drained : UncutComeToAnEnd es
  pub removed : LeavesNothing es
  pub own : HandlesItsOwn es

-- So it is of every run of valid events, and so of each of its fronts.
abbrev pub HeadlineHolds : Type 0
HeadlineHolds = (es : List Event) → AreValid es → Headline es
