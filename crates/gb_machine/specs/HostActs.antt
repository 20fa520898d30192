-- The acts of the application processor, done.
use Rattle.std.specs.Prelude.{ℕ, ◌+◌, false, if◌then◌else◌, Option, Some, None, [], ◌∷◌, ◌++◌}
use Rattle.gb_base.specs.declared.entry.ConnState.TheVariants as state
use Rattle.gb_base.specs.declared.end.Side.TheVariants as side
use Rattle.gb_base.specs.declared.entry.Entry.TheVariants as entry
use Rattle.gb_base.specs.declared.host_event.HostEvent.TheVariants as host_event
use Rattle.gb_base.specs.declared.host_event.HostEvent.{HostEvent}
use Rattle.gb_base.specs.declared.outcome.Outcome.{Outcome}
use Rattle.gb_base.specs.declared.interface.Link.{Link}
use Rattle.gb_base.specs.declared.steps.Purpose.{Purpose}
use Rattle.gb_formats.specs.Grammar.{default_timeout}
use Rattle.gb_machine.specs.Actions.{Action, by_state, change, each, given, on_bus, on_host}
use Rattle.gb_machine.specs.Actions.{tell, tell_all, when, ◌▸◌}
use Rattle.gb_machine.specs.Asking.{asks}
use Rattle.gb_machine.specs.Bus.{Request, next_number, request_of}
use Rattle.gb_machine.specs.Host.{Host, link_at, with_new_link}
use Rattle.gb_machine.specs.HostTurns.{host_turn}
use Rattle.gb_machine.specs.Labels.{next_label}
use Rattle.gb_machine.specs.Loading.{load_follows}
use Rattle.gb_machine.specs.Requests.{is_idle, same_side}
use Rattle.gb_machine.specs.Sending.{Draft, draft}
use Rattle.gb_machine.specs.SequenceSteps.{is_for_connection}
use Rattle.gb_machine.specs.Failures.{unsent}
use Rattle.gb_machine.specs.Waits.{awaits}
use Rattle.gb_machine.specs.State.{State}
use Rattle.gb_machine.specs.Turns.{Act, Asking, Failing, Making, Turn}
use Rattle.gb_machine.specs.Wires.{shuts}
use Rattle.gb_machine.specs.Wiring.{attached, detached, next_connection}

-- Something fails: the application processor changes, and it is told.
unfoldable pub fails : (Host → Failing) → Action
fails f = by_state (λ s.
    let failed = f s.host in
    on_host (λ h. failed.host) ▸ tell_all failed.told)

-- the request of the application processor, as it is sent at this time
abbrev pub host_draft : Asking → ℕ → Draft
host_draft q now = draft q.on side.Ap q.kind q.payload (now + default_timeout) false

-- request n was made for a connection
abbrev pub made_for : ℕ → Option Link → State → State
made_for n None s = s
made_for n (Some l) s = record s {
  past = record s.past { made_for = s.past.made_for ++ (n, l.connection) ∷ [] };
}

-- what is remembered of request n: for which connection it is, where it creates or destroys one
abbrev pub remembered : Purpose → ℕ → State → State
remembered p n s =
    if is_for_connection p.step then made_for n (link_at p.intf p.cport s.host) s else s

-- a sequence waits for request n
abbrev pub with_awaited : Purpose → ℕ → State → State
with_awaited p n s = remembered p n (record s { host = awaits p n s.host })

-- A request is made, and its sequence waits for it; it fails where no identifier is left.
unfoldable pub asked_with : Option ℕ → Asking → Action
asked_with None q = fails (unsent q.purpose)
asked_with (Some label) q = by_state (λ s.
    asks (host_draft q s.now) ▸ change (with_awaited q.purpose (next_number s.bus)))

-- The application processor makes a request.
unfoldable pub host_asks : Asking → Action
host_asks q = by_state (λ s. asked_with (next_label q.on side.Ap s.bus) q)

-- a connection is made
abbrev pub with_made : Making → State → State
with_made m s = record s {
  bus = attached m.ap m.intf m.cport m.protocol s.bus;
  host = with_new_link (next_connection s.bus) m.ap m.intf m.cport m.protocol s.host;
}

-- A connection is made, and then the request for it; neither is where no identifier is left.
unfoldable pub made_with : Option ℕ → Making → Asking → Action
made_with None m q = fails (unsent q.purpose)
made_with (Some label) m q = by_state (λ s.
    change (with_made m)
    ▸ tell (entry.Connection (next_connection s.bus) m.ap m.intf m.cport state.Opening)
    ▸ host_asks q)

-- The application processor makes a connection.
unfoldable pub host_makes : Making → Asking → Action
host_makes m q = by_state (λ s. made_with (next_label q.on side.Ap s.bus) m q)

-- An act is done.
unfoldable pub acts : Act → Action
acts (Act.Ask q) = host_asks q
acts (Act.Make m q) = host_makes m q
acts (Act.Shut k) = shuts k
acts (Act.Leave k) = on_bus (detached k)
acts (Act.Tell e) = tell e

-- A turn is done.
unfoldable pub turns : Turn → Action
turns t = on_host (λ h. t.host) ▸ each t.acts acts

-- The application processor takes notice of something.
unfoldable pub notices : HostEvent → Action
notices e = by_state (λ s. turns (host_turn e s.host))

-- A connection that drains begins to close where no request is open on it.
unfoldable pub idles : ℕ → Action
idles k = by_state (λ s. when (is_idle k s.bus) (notices (host_event.Idle k)))

-- so it is behind the end of a request of the application processor
unfoldable pub idles_behind : Request → Action
idles_behind r = when (same_side side.Ap r.side) (idles r.connection)

-- A request ended: what waited for it goes on or fails, and a connection that drains may close.
unfoldable pub host_follows : ℕ → Outcome → Action
host_follows n how = by_state (λ s.
    notices (host_event.Ended n how) ▸ given (request_of n s.bus) idles_behind)

-- A request ended: the application processor or the module that waited for it goes on or fails.
unfoldable pub follows : ℕ → Outcome → Action
follows n how = host_follows n how ▸ load_follows n how

-- The connection to a CPort of an interface drains, and begins to close where nothing is open.
unfoldable pub drains : ℕ → ℕ → Action
drains i c = notices (host_event.Drain i c) ▸ by_state (λ s.
    given (link_at i c s.host) (λ l. idles l.connection))
