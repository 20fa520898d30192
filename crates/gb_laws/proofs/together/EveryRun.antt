-- The laws, of every run.
use Rattle.std.proofs.Common.{List, None, Some, false, refl, ℕ, ◌≡◌}
use Rattle.gb_base.specs.declared.end.Side.{Side}
use Rattle.gb_base.specs.declared.end.Side.TheVariants as side
use Rattle.gb_base.specs.declared.entry.ConnState.{ConnState}
use Rattle.gb_base.specs.declared.entry.Entry.TheVariants as entry
use Rattle.gb_base.specs.declared.event.Event.{Event}
use Rattle.gb_machine.specs.Bus.{Request, is_open, request_of}
use Rattle.gb_machine.specs.LawsBus.{EndpointsDiffer, HaveAwaited, HaveNamed, HaveOneItem}
use Rattle.gb_machine.specs.LawsBus.{HaveOwnEnds, HaveOwnLabels, LabelsDiffer, NamesNameRequests}
use Rattle.gb_machine.specs.LawsBus.{OneItemANumber, RepliesAreAwaited}
use Rattle.gb_machine.specs.LawsEnds.{AnsweredByItsResponder, EndOnce, EndsAreTold, EndsAtMostOnce}
use Rattle.gb_machine.specs.LawsEnds.{EndsTold, EveryEndHasItsCause, HadItsReply, HasItsCause}
use Rattle.gb_machine.specs.LawsHotPlug.{AbsentAfterRemoval, AbsentBetween, AbsentIsUnconnected}
use Rattle.gb_machine.specs.LawsHotPlug.{HaveOwnItems, NoForeignMessage, NoneForgotten}
use Rattle.gb_machine.specs.LawsHotPlug.{NothingLeftAfterRemoval, OpenIsLive, RememberedForOne}
use Rattle.gb_machine.specs.LawsHotPlug.{RememberedWhileLive, TakesFromItsConnection}
use Rattle.gb_machine.specs.LawsHotPlug.{WereOpened, WiredAtMostOnce, WiredByItsRequest, WiredOnce}
use Rattle.gb_machine.specs.LawsSvc.{AreRouted, AwaitedIsTheLast, AwaitsLast, FindsUnwired, IsQuiet}
use Rattle.gb_machine.specs.LawsSvc.{LeavesNothingWired, OneEnumerationRequestThenRestarts}
use Rattle.gb_machine.specs.LawsSvc.{OneThenRestarts, QuietBeforeRemoval, RemovalLeavesNothingWired}
use Rattle.gb_machine.specs.LawsSvc.{StaleIsLow, StaleRequestsMeetLowLevel, WiredMeansRouted}
use Rattle.gb_machine.specs.Runs.{AreValid, HoldsAtEachMoment, HoldsThroughout, state_by, told_by}
use Rattle.gb_machine.specs.{Host.interface_of, Members.IsIn}
use Rattle.gb_laws.proofs.runs.AllRuns.{at-all, of-all, of-state, of-untold}
use Rattle.gb_laws.proofs.opened.FarOpenRuns.{module-open_by_moments, module-seen}
use Rattle.gb_laws.proofs.opened.FarOpenRuns.{none-open_at_moments}
use Rattle.gb_laws.proofs.opened.FarOpenRuns.{unwired-open_by_moments}
use Rattle.gb_laws.proofs.points.Happened.{ends-seen, items-seen, told-seen}
use Rattle.gb_laws.proofs.identifiers.Single.{labels-by_moments, names-by_moments}
use Rattle.gb_laws.proofs.identifiers.Single.{one-item_by_moments}
use Rattle.gb_laws.proofs.opened.OpeningTold.{opened-by_moments, opened-seen}
use Rattle.gb_laws.proofs.{together.Absent.between-at_moments}
use Rattle.gb_laws.proofs.{together.Absent.unconnected-by_moments}
use Rattle.gb_laws.proofs.{ends.Answering.answered-at_moments}
use Rattle.gb_laws.proofs.{enumerations.AwaitsNewest.awaits-newest_by_moments}
use Rattle.gb_laws.proofs.{enumerations.AwaitsOwn.awaits-own_by_moments}
use Rattle.gb_laws.proofs.{enumerations.BehindRuns.none-behind_by_moments}
use Rattle.gb_laws.proofs.{ends.Causes.causes-at_moments, opened.ClosingTold.closing-none_open}
use Rattle.gb_laws.proofs.{ends.Ended.ends-told_by_moments}
use Rattle.gb_laws.proofs.{identifiers.Endpoints.endpoints-by_moments}
use Rattle.gb_laws.proofs.{enumerations.EnumRuns.restarts-by_moments}
use Rattle.gb_laws.proofs.{enumerations.EnumRuns.served-by_moments}
use Rattle.gb_laws.proofs.{enumerations.EnumSettledRuns.asked-none_by_moments}
use Rattle.gb_laws.proofs.{enumerations.EnumSettledRuns.done-none_by_moments}
use Rattle.gb_laws.proofs.{taking.Foreign.own-items}
use Rattle.gb_laws.proofs.{taking.Taken.takes-at_moments, opened.OpenRuns.open-live_by_moments}
use Rattle.gb_laws.proofs.{removals.QuietBefore.quiet-before_moments}
use Rattle.gb_laws.proofs.{removals.QuietRuns.finds-at_moments}
use Rattle.gb_laws.proofs.{removals.QuietRuns.leaves-by_moments}
use Rattle.gb_laws.proofs.{creations.RememberedLive.remembered-while_live}
use Rattle.gb_laws.proofs.{creations.Remembering.none-forgotten_at}
use Rattle.gb_laws.proofs.{creations.Remembering.remembered-for_one}
use Rattle.gb_laws.proofs.{ends.Replies.replies-by_moments, ends.Replying.ends-once_by_moments}
use Rattle.gb_laws.proofs.{together.Routed.routed-by_moments}
use Rattle.gb_laws.proofs.{creations.StaleRuns.stale-low_by_moments}
use Rattle.gb_laws.proofs.{opened.ToldRuns.absent-open_by_moments}
use Rattle.gb_laws.proofs.{opened.ToldRuns.absent-seen, svc.WiredOnceRuns.own-request_at_moments}
use Rattle.gb_laws.proofs.{svc.WiredOnceRuns.wired-once_by_moments}
use Rattle.gb_laws.proofs.{svc.WiredRemembered.wired-remembered}
use Rattle.gb_machine.specs.LawsDraining.{ClosingLeavesNoneOpen}
use Rattle.gb_laws.specs.OwnSide.{AbsentHasNoOpenOfAp, AbsentHasNoOpenOfModule, FindsNoneOpen}
use Rattle.gb_laws.specs.OwnSide.{UnwiredHasNoOpenOfFar}
use Rattle.gb_laws.specs.{OwnWaits.AwaitsOwnRequest, OwnWaits.ServedLeavesNone}
use Rattle.gb_laws.specs.{OwnWires.WiredIsRemembered}

-- Each request ends at most once and is replied to at most once.
pub ends-at-most-once : EndsAtMostOnce
ends-at-most-once = of-all EndOnce ends-seen ends-once_by_moments

-- What is told of ends is what the outcomes are.
pub ends-are-told : EndsAreTold
ends-are-told = of-all EndsTold told-seen ends-told_by_moments

-- On a clean connection a request is answered by what its own responder replied.
pub answered-by_its_responder : AnsweredByItsResponder
answered-by_its_responder = at-all HadItsReply answered-at_moments

-- A request is cancelled, times out or is disconnected only where that came.
pub every-end_has_its_cause : EveryEndHasItsCause
every-end_has_its_cause = at-all HasItsCause causes-at_moments

-- Where it is told that a connection is closing, no request of the application processor is
-- open on it.
pub closing-none : HoldsAtEachMoment ClosingLeavesNoneOpen
closing-none = at-all ClosingLeavesNoneOpen closing-none_open

-- Identifiers that are in use on a side of a connection differ.
pub labels-differ : LabelsDiffer
labels-differ = of-all HaveOwnLabels (of-state _) labels-by_moments

-- A name names a request that was made.
pub names-name : NamesNameRequests
names-name = of-all HaveNamed (of-state _) names-by_moments

-- On a clean connection each number is in one item at most.
pub one-item : OneItemANumber
one-item = of-all HaveOneItem (of-state _) one-item_by_moments

-- On a clean connection a reply that waits is awaited.
pub replies-are_awaited : RepliesAreAwaited
replies-are_awaited = of-all HaveAwaited (of-state _) replies-by_moments

-- Live connections have ends of their own.
pub endpoints-differ : EndpointsDiffer
endpoints-differ = of-all HaveOwnEnds (of-state _) endpoints-by_moments

-- No end handles a message of another connection.
pub no-foreign : NoForeignMessage
no-foreign =
    (of-all HaveOwnItems items-seen own-items, at-all TakesFromItsConnection takes-at_moments)

-- Once a removal is handled its interface is absent, and no live connection names it.
pub absent-after : AbsentAfterRemoval
absent-after = (
  of-all AbsentIsUnconnected (of-state _) unconnected-by_moments,
  at-all AbsentBetween between-at_moments,
)

-- Each open request of the application processor is on a live connection.
pub open-live : HoldsThroughout OpenIsLive
open-live = of-all OpenIsLive (of-state _) open-live_by_moments

-- Each live connection was told as opening, between its ends.
pub opening-told : HoldsThroughout WereOpened
opening-told = of-all WereOpened opened-seen opened-by_moments

-- Nothing that the application processor asked on a connection that named an absent
-- interface is open.
pub absent-open : HoldsThroughout AbsentHasNoOpenOfAp
absent-open = of-all AbsentHasNoOpenOfAp absent-seen absent-open_by_moments

-- What isn't wired has no open request of its far side.
pub unwired-open : HoldsThroughout UnwiredHasNoOpenOfFar
unwired-open = of-all UnwiredHasNoOpenOfFar (of-state _) unwired-open_by_moments

-- A removal that is handled finds none open that the module asked.
pub none-open : HoldsAtEachMoment FindsNoneOpen
none-open = at-all FindsNoneOpen none-open_at_moments

-- Nothing that a module asked on a connection that named an absent interface is open.
pub module-open : HoldsThroughout AbsentHasNoOpenOfModule
module-open = of-all AbsentHasNoOpenOfModule module-seen module-open_by_moments

-- Once the removal of an interface is handled, nothing on it is open, until it is inserted again.
pub nothing-left : NothingLeftAfterRemoval
nothing-left = record {
  absent = absent-after;
  opened = opening-told;
  closed = λ es valid i gone k own c n state r said made on.
      either es valid i gone k own c n state r said made on r.side refl;
  live = open-live;
}
  where
    either : (es : List Event) → AreValid es → (i : ℕ)
        → interface_of i (state_by es).host ≡ None → (k own c n : ℕ) (state : ConnState)
        (r : Request) → IsIn (entry.Connection k own i c state) (told_by es)
        → request_of n (state_by es).bus ≡ Some r → r.connection ≡ k → (s : Side)
        → r.side ≡ s → is_open n (state_by es).bus ≡ false
    either es valid i gone k own c n state r said made on side.Ap e =
        absent-open es valid i k own c n state r gone said made on e
    either es valid i gone k own c n state r said made on side.Far e =
        module-open es valid i k own c n state r gone said made on e

-- Which connections were ever wired is never forgotten.
pub none-forgotten : HoldsAtEachMoment NoneForgotten
none-forgotten = at-all NoneForgotten none-forgotten_at

-- A request is remembered for one connection.
pub remembered-for : HoldsThroughout RememberedForOne
remembered-for = of-all RememberedForOne (of-state _) remembered-for_one

-- It is remembered when it is made, for a connection that is live then.
pub remembered-live : HoldsAtEachMoment RememberedWhileLive
remembered-live = at-all RememberedWhileLive remembered-while_live

-- What is wired is remembered to have been.
pub remembered-wired : HoldsThroughout WiredIsRemembered
remembered-wired = of-all WiredIsRemembered (of-state _) wired-remembered

-- Each connection is remembered as wired once at most.
pub wired-once : HoldsThroughout WiredOnce
wired-once = of-all WiredOnce (of-untold WiredOnce
    (λ told more s h. record { once = h.once; remembered = h.remembered })) wired-once_by_moments

-- It is wired by its own request.
pub wired-by_request : HoldsAtEachMoment WiredByItsRequest
wired-by_request = at-all WiredByItsRequest own-request_at_moments

-- A connection is wired at most once, by its own request.
pub wired-at_most_once : WiredAtMostOnce
wired-at_most_once = record {
  once = wired-once;
  own = wired-by_request;
  kept = none-forgotten;
  one = remembered-for;
  live = remembered-live;
}

-- What is wired is routed.
pub wired-routed : WiredMeansRouted
wired-routed = of-all AreRouted (of-state _) routed-by_moments

-- While a removal waits nothing of its interface is wired, nor is it where that is handled.
pub nothing-wired : RemovalLeavesNothingWired
nothing-wired = (
  of-all LeavesNothingWired (of-untold LeavesNothingWired
      (λ told more s h. record { low = h.low; unwired = h.unwired })) leaves-by_moments,
  at-all FindsUnwired finds-at_moments,
)

-- While a removal waits, only starts wait, and no answer that is waited for comes before it.
pub quiet-removal : QuietBeforeRemoval
quiet-removal = of-all IsQuiet (of-untold IsQuiet
    (λ told more s h. record { low = h.low; starts = h.starts; unanswered = h.unanswered }))
    quiet-before_moments

-- An enumeration waits for a request of its own.
pub own-request : HoldsThroughout AwaitsOwnRequest
own-request = of-all AwaitsOwnRequest (of-state _) awaits-own_by_moments

-- Requests for connections that are gone find their interface without a route.
pub stale-unrouted : StaleRequestsMeetLowLevel
stale-unrouted = of-all StaleIsLow (of-state _) stale-low_by_moments

-- None of its requests waits once the one that it waits for was served.
pub served-leaves : HoldsThroughout ServedLeavesNone
served-leaves = of-all ServedLeavesNone (of-state _) served-by_moments

-- It waits for the last of its requests, and none waits where it waits for the module or is done.
pub awaited-last : AwaitedIsTheLast
awaited-last = of-all AwaitsLast (of-untold AwaitsLast (λ told more s h. record {
  own = h.own;
  last = h.last;
  served = h.served;
  asked = h.asked;
  done = h.done;
})) (λ es are. record {
  own = awaits-own_by_moments es are;
  last = awaits-newest_by_moments es are;
  served = served-by_moments es are;
  asked = asked-none_by_moments es are;
  done = done-none_by_moments es are;
})

-- Each of its requests that waits, but the first, is a start, and none for a connection stands
-- behind one.
pub then-restarts : OneEnumerationRequestThenRestarts
then-restarts = of-all OneThenRestarts (of-untold OneThenRestarts
    (λ told more s h. record { restarts = h.restarts; last = h.last }))
    (λ es are. record {
      restarts = restarts-by_moments es are;
      last = none-behind_by_moments es are;
    })
