-- The facts on hot-plug as tests of a state, for one interface: what LawsSvc in specs/ says, so
-- that it can be computed.
use Rattle.std.proofs.Common.{ℕ, ◌+◌, ◌==◌, Bool, true, false, not, ◌&&◌, ◌||◌, if◌then◌else◌}
use Rattle.std.proofs.Common.{Option, Some, None, is_some, List, [], ◌∷◌, nat_le, nat_lt}
use Rattle.std.specs.Prelude.{Ok, Result}
use Rattle.std.specs.List.{list_all, list_any}
use Rattle.gb_base.specs.declared.end.End.{End}
use Rattle.gb_base.specs.declared.end.End.TheVariants as end
use Rattle.gb_base.specs.declared.end.Side.TheVariants as side
use Rattle.gb_base.specs.declared.entry.IntfStage.{IntfStage}
use Rattle.gb_base.specs.declared.entry.IntfStage.TheVariants as stage
use Rattle.gb_base.specs.declared.interface.Interface.{Interface}
use Rattle.gb_base.specs.declared.steps.SequenceStep.{SequenceStep}
use Rattle.gb_formats.specs.Records.{PayloadFault}
use Rattle.gb_formats.specs.SvcRecords.{SvcAsk, read_svc_ask}
use Rattle.gb_machine.specs.Bus.{Ask, Item, Request, connection_of, request_of}
use Rattle.gb_machine.specs.Host.{interface_of}
use Rattle.gb_machine.specs.LawsSvc.{awaited_by, awaits_removal, before_removal}
use Rattle.gb_machine.specs.LawsSvc.{enumeration_requests}
use Rattle.gb_machine.specs.Lists.{behind_first}
use Rattle.gb_machine.specs.Modules.{is_plugged}
use Rattle.gb_machine.specs.Ports.{level_of}
use Rattle.gb_machine.specs.Requests.{same_side}
use Rattle.gb_machine.specs.SequenceSteps.{asks_control}
use Rattle.gb_machine.specs.State.{State}
use Rattle.gb_machine.specs.SvcQueues.{is_ask, is_connection_request, is_enumeration_request}
use Rattle.gb_machine.specs.SvcQueues.{is_for_link, is_reply_to, is_told, svc_items, svc_requests}
use Rattle.gb_machine.specs.Wiring.{is_wired_to}

-- ---- wired means routed

-- a far end is the supervisory controller, or routed
abbrev is_routed : State → End → Bool
is_routed s end.Svc = true
is_routed s (end.Ap a) = false
is_routed s (end.Module i c) = is_plugged i s.modules && level_of i s.ports == 6

-- each connection that is wired is routed
abbrev pub are_routed : State → Bool
are_routed s = list_all (λ c. not c.wired || is_routed s c.peer) s.bus.connections

-- ---- while a removal waits

-- the level is at most so much while a removal waits
abbrev pub removal_leaves : ℕ → ℕ → State → Bool
removal_leaves i level s = not (awaits_removal i s) || nat_le (level_of i s.ports) level

-- nothing is wired while a removal waits
abbrev pub removal_unwires : ℕ → State → Bool
removal_unwires i s =
    not (awaits_removal i s) || list_all (λ c. not (is_wired_to i c)) s.bus.connections

-- a record of the removal of an interface
abbrev removes : ℕ → Result SvcAsk PayloadFault → Bool
removes i (Ok (SvcAsk.ModuleRemoved j)) = j == i
removes i _ = false

-- the payload of a request says so exactly where this is said
abbrev removes_as : Bool → ℕ → Option Request → Bool
removes_as told i None = not told
removes_as true i (Some r) = removes i (read_svc_ask r.kind r.payload)
removes_as false i (Some r) = not (removes i (read_svc_ask r.kind r.payload))

-- a request told a pull of an interface exactly where its payload says so
abbrev is_told_so : ℕ → State → Item → Bool
is_told_so i s (Ask n) = removes_as (is_told n i s.past.pulled) i (request_of n s.bus)
is_told_so i s _ = true

-- so does each that waits
abbrev pub removals_are_told : ℕ → State → Bool
removals_are_told i s = list_all (is_told_so i s) (svc_items side.Ap s.bus)

-- a request starts an enumeration
abbrev is_start : Request → Bool
is_start r = r.kind == 0x21

-- no answer that is awaited stands before the last removal
abbrev is_unanswered : ℕ → State → Option (ℕ × SequenceStep) → Bool
is_unanswered i s None = true
is_unanswered i s (Some awaited) =
    list_all (λ item. not (is_reply_to awaited.0 item)) (before_removal i s)

-- no enumeration goes on while a removal waits
abbrev pub is_quiet : ℕ → State → Bool
is_quiet i s =
    not (awaits_removal i s && level_of i s.ports == 1)
    || list_all is_start (enumeration_requests i s.bus)
    && is_unanswered i s (awaited_by i s.host)

-- ---- one enumeration request and then restarts

-- no connection request stands behind an enumeration request
abbrev none_behind : ℕ → List Request → Bool
none_behind i [] = true
none_behind i (r ∷ rs) =
    (not (is_enumeration_request i r) || list_all (λ q. not (is_connection_request i q)) rs)
    && none_behind i rs

-- behind the first enumeration request are only starts
abbrev pub restarts_alone : ℕ → State → Bool
restarts_alone i s =
    list_all is_start (behind_first (enumeration_requests i s.bus))
    && none_behind i (svc_requests side.Far s.bus)

-- ---- the awaited request is the last

-- no enumeration request waits
abbrev has_no_enumeration : ℕ → State → Bool
has_no_enumeration i s =
    list_all (λ r. not (is_enumeration_request i r)) (svc_requests side.Far s.bus)

-- a request of the application processor enumerates an interface
abbrev enumerates : ℕ → Request → Bool
enumerates i r =
    r.connection == 1 && same_side r.side side.Ap && is_enumeration_request i r

-- request n enumerates, and none that was made later does
abbrev is_last_from : ℕ → ℕ → ℕ → List Request → Bool
is_last_from i n m [] = true
is_last_from i n m (r ∷ rs) =
    (not (enumerates i r) || nat_le m n) && is_last_from i n (m + 1) rs

-- a request that was made enumerates
abbrev is_own : ℕ → Option Request → Bool
is_own i None = false
is_own i (Some r) = enumerates i r

-- what an enumeration waits for is its last request, and none waits once that was served
abbrev awaits_last : ℕ → State → Option (ℕ × SequenceStep) → Bool
awaits_last i s None = true
awaits_last i s (Some awaited) =
    if asks_control awaited.1 then has_no_enumeration i s
    else is_own i (request_of awaited.0 s.bus) && is_last_from i awaited.0 1 s.bus.requests
    && (list_any (is_ask awaited.0) (svc_items side.Far s.bus) || has_no_enumeration i s)

-- an interface is enumerated
abbrev is_enumerated : IntfStage → Bool
is_enumerated stage.Enumerated = true
is_enumerated _ = false

-- nothing enumerates an interface that is enumerated
abbrev is_done : ℕ → State → Option Interface → Bool
is_done i s None = true
is_done i s (Some x) = not (is_enumerated x.stage) || has_no_enumeration i s

-- the awaited request is the last
abbrev pub awaited_is_last : ℕ → State → Bool
awaited_is_last i s =
    awaits_last i s (awaited_by i s.host) && is_done i s (interface_of i s.host)

-- ---- stale connection requests meet a low level

-- a request that was made is for a connection of an interface
abbrev is_for : ℕ → Option Request → Bool
is_for i None = false
is_for i (Some r) = is_for_link i r

-- a request that waits is for a connection of an interface that is gone
abbrev is_stale : ℕ → State → ℕ × ℕ → Bool
is_stale i s made =
    list_any (is_ask made.0) (svc_items side.Far s.bus)
    && not (is_some (connection_of made.1 s.bus)) && is_for i (request_of made.0 s.bus)

-- the level is below this while such a request waits
abbrev pub stale_is_below : ℕ → ℕ → State → Bool
stale_is_below i level s =
    nat_lt (level_of i s.ports) level || list_all (λ made. not (is_stale i s made)) s.past.made_for

-- ---- all facts

-- the facts on hot-plug hold of an interface of a module
abbrev pub facts_hold_of : ℕ → State → Bool
facts_hold_of i s =
    are_routed s && removal_leaves i 1 s && removal_unwires i s
    && is_quiet i s && restarts_alone i s && awaited_is_last i s && stale_is_below i 6 s

-- and of one that is a module by itself
abbrev pub facts_hold : ℕ → State → Bool
facts_hold i s = facts_hold_of i s && removals_are_told i s
