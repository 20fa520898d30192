-- What an event does.
use Rattle.std.specs.Prelude.{ℕ, Option, Some, None, List, [], ◌∷◌, map}
use Rattle.gb_base.specs.declared.entry.Entry.TheVariants as entry
use Rattle.gb_base.specs.declared.event.Event.{Event}
use Rattle.gb_base.specs.declared.event.Event.TheVariants as event
use Rattle.gb_base.specs.declared.host_event.HostEvent.TheVariants as host_event
use Rattle.gb_base.specs.declared.refusal.Refusal.{Refusal}
use Rattle.gb_formats.specs.Devices.{Level, Serial}
use Rattle.gb_formats.specs.Module.{module_of_kind, module_raw}
use Rattle.gb_machine.specs.Actions.{Action, Told, by_state, change, given, on_host, tell}
use Rattle.gb_machine.specs.Actions.{tell_all, ◌▸◌}
use Rattle.gb_machine.specs.Arriving.{delivers}
use Rattle.gb_machine.specs.GivingUp.{cancels, ticks}
use Rattle.gb_machine.specs.Holding.{marked}
use Rattle.gb_machine.specs.Host.{with_given}
use Rattle.gb_machine.specs.HostActs.{drains, notices}
use Rattle.gb_machine.specs.LineActions.{answers, ap_draft, bridges, copies, injects, sends}
use Rattle.gb_machine.specs.LineActions.{stirs}
use Rattle.gb_machine.specs.Loading.{loads}
use Rattle.gb_machine.specs.Names.{freed}
use Rattle.gb_machine.specs.Plugging.{boots, plugs, pulls}
use Rattle.gb_machine.specs.Refusals.{module_place, refusal}
use Rattle.gb_machine.specs.Sending.{Draft}
use Rattle.gb_machine.specs.Settling.{settles}
use Rattle.gb_machine.specs.Show.{shown}
use Rattle.gb_machine.specs.State.{State, first_state}

-- a request of the application processor to the supervisory controller
abbrev pub svc_draft : ℕ → List ℕ → ℕ → Draft
svc_draft kind payload deadline = ap_draft 1 kind payload deadline

-- the connection with this number has the hold mark
abbrev pub with_hold : ℕ → State → State
with_hold k s = record s { holds = marked k s.holds }

-- Requests that are delivered to a module's CPort are held.
abbrev pub holds : ℕ → ℕ → Action
holds i c = by_state (λ s. given (module_place i c s)
    (λ p. change (with_hold p.connection.number)))

-- the state is shown
unfoldable pub shows : Action
shows = by_state (λ s. tell_all (shown s))

-- What an event does that isn't refused.
unfoldable pub does : Event → Action
does event.Boot = boots
does (event.Insert i kinds) = plugs i (map module_of_kind kinds)
does (event.InsertRaw i manifest) = plugs i (module_raw manifest ∷ [])
does (event.Pull i) = pulls i
does (event.Connect i c) = notices (host_event.Connect i c)
does (event.Disconnect i c) = notices (host_event.Disconnect i c)
does (event.Drain i c) = drains i c
does (event.Send name to kind payload timeout) = sends name to kind payload timeout
does (event.Bridge name i c what) = bridges name i c what
does (event.Level i c line value) = stirs i c (Level line value)
does (event.SerialState i c control) = stirs i c (Serial control)
does (event.Deliver at) = delivers at
does (event.Settle most) = settles most
does (event.Hold i c) = holds i c
does (event.Answer i c place) = answers i c place
does (event.Cancel name) = cancels name
does (event.Copy x y) = copies x y
does (event.Forget name) = change (freed name)
does (event.Tick millis) = ticks millis
does (event.Inject i c bytes) = injects i c bytes
does (event.Image tag bytes) = on_host (with_given tag bytes)
does (event.Load i c tag) = loads i c tag
does event.Show = shows

-- A refused event changes nothing and tells its refusal alone.
unfoldable pub decided : Option Refusal → Event → Action
decided (Some why) e = tell (entry.Refused why)
decided None e = tell entry.Done ▸ does e

-- The machine's step.
unfoldable pub step : State → Event → Told
step s e = decided (refusal s e) e s

-- The states and entries of a run of events, from a state on.
abbrev pub trace_from : State → List Event → List Told
trace_from s [] = []
trace_from s (e ∷ es) = step s e ∷ trace_from (step s e).state es

-- The states and entries of a run of events.
abbrev pub trace : List Event → List Told
trace es = trace_from first_state es

-- The last state of a trace, which begins at this state.
abbrev pub last_state : State → List Told → State
last_state s [] = s
last_state s (t ∷ ts) = last_state t.state ts
