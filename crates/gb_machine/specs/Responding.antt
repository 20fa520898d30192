-- The actions of serving: what each party answers, and what that brings about.
use Rattle.std.specs.Prelude.{ℕ, ◌==◌, Bool, if◌then◌else◌, Option, Some, None, List}
use Rattle.std.specs.List.{list_any}
use Rattle.gb_base.specs.declared.end.End.{End}
use Rattle.gb_base.specs.declared.end.End.TheVariants as end
use Rattle.gb_base.specs.declared.end.Side.{Side}
use Rattle.gb_base.specs.declared.end.Side.TheVariants as side
use Rattle.gb_base.specs.declared.entry.Entry.TheVariants as entry
use Rattle.gb_base.specs.declared.outcome.Outcome.TheVariants as outcome
use Rattle.gb_formats.specs.Module.{Module}
use Rattle.gb_formats.specs.ModuleSteps.{module_serve}
use Rattle.gb_formats.specs.Results.{Step}
use Rattle.gb_machine.specs.Actions.{Action, by_state, change, each, given, nothing, on_bus}
use Rattle.gb_machine.specs.Actions.{on_host, tell, ◌▸◌}
use Rattle.gb_machine.specs.Bus.{Connection, other_side}
use Rattle.gb_machine.specs.Delivery.{replied}
use Rattle.gb_machine.specs.HostActs.{notices}
use Rattle.gb_machine.specs.HostServing.{HostServed, host_serves}
use Rattle.gb_machine.specs.Incoming.{Incoming, reply_entry, reply_item}
use Rattle.gb_machine.specs.Loading.{load_follows}
use Rattle.gb_machine.specs.Modules.{module_at, with_module}
use Rattle.gb_machine.specs.OwnAsking.{far_asks_all}
use Rattle.gb_machine.specs.Ports.{unrouted}
use Rattle.gb_machine.specs.Requests.{open_on}
use Rattle.gb_machine.specs.Serving.{Answer, answer, invalid, nonexistent, plainly, success}
use Rattle.gb_machine.specs.State.{Port, State}
use Rattle.gb_machine.specs.SvcTable.{Answered, Create, Destroy, SvcServed, SvcStep, Unroute}
use Rattle.gb_machine.specs.SvcTable.{svc_step}
use Rattle.gb_machine.specs.Wires.{unwires, wires}
use Rattle.gb_machine.specs.Wiring.{is_wired_to, joining}

-- An answer, and what is done behind the reply.
pub record Response : Type 0 where
  pub answer : Answer
  pub behind : Action

-- an answer, and this behind the reply
abbrev pub responds_with : Answer → Action → Response
responds_with a behind = record { answer = a; behind = behind }

-- a result alone, and nothing behind it
abbrev pub responds_plainly : ℕ → Response
responds_plainly result = responds_with (plainly result) nothing

-- ---- the supervisory controller

-- the interfaces change
unfoldable pub with_ports : List Port → Action
with_ports ports = change (λ s. record s { ports = ports })

-- a connection that isn't wired is wired
abbrev pub creates : Option Connection → Response
creates None = responds_plainly nonexistent
creates (Some c) =
    if c.wired then responds_plainly invalid
    else responds_with (plainly success) (wires c.number)

-- A connection is unwired, and the downloads fail whose requests ended so.
unfoldable pub disconnects : ℕ → Action
disconnects k = by_state (λ s.
    unwires k
    ▸ each (open_on k side.Far s.bus) (λ n. load_follows n outcome.Disconnected))

-- a connection that is wired is unwired
abbrev pub destroys : Option Connection → Response
destroys None = responds_plainly nonexistent
destroys (Some c) =
    if c.wired then responds_with (plainly success) (disconnects c.number)
    else responds_plainly nonexistent

-- an interface without a wired connection loses its route
abbrev pub unroutes : Bool → ℕ → List Port → Response
unroutes has_wired i ports =
    if has_wired then responds_plainly invalid
    else responds_with (plainly success) (with_ports (unrouted i ports))

-- what the connections decide
abbrev pub svc_decided : SvcServed → List Port → State → Response
svc_decided (Answered result payload) ports s =
    responds_with (answer result payload) (with_ports ports)
svc_decided (Create ap i c) ports s = creates (joining ap i c s.bus)
svc_decided (Destroy ap i c) ports s = destroys (joining ap i c s.bus)
svc_decided (Unroute i) ports s =
    unroutes (list_any (is_wired_to i) s.bus.connections) i ports

-- a step of the SVC table, with what the connections decide
abbrev pub svc_stepped : SvcStep → State → Response
svc_stepped step s = svc_decided step.served step.ports s

-- What the supervisory controller answers.
abbrev pub svc_response : Incoming → State → Response
svc_response q s = svc_stepped (svc_step s.ports q.kind q.payload) s

-- ---- modules

-- a module's step: it changes, and asks of its own
abbrev pub module_stepped : ℕ → ℕ → Step Module → Response
module_stepped k i step =
    responds_with (answer step.served.result step.served.payload)
    (change (λ s. record s { modules = with_module i step.after s.modules })
    ▸ far_asks_all k step.served.asks)

-- what a module answers at a CPort, on a connection
abbrev pub module_response : ℕ → ℕ → ℕ → Incoming → Option Module → Response
module_response k i c q None = responds_plainly nonexistent
module_response k i c q (Some m) = module_stepped k i (module_serve m c q.kind q.payload)

-- ---- the application processor

-- what it is then, what is told, and what it takes notice of
unfoldable pub host_behind : HostServed → Action
host_behind h = on_host (λ old. h.host) ▸ given h.told tell ▸ given h.notices notices

-- what the application processor serves, as a response
abbrev pub host_served : HostServed → Response
host_served h = responds_with h.answer (host_behind h)

-- ---- all parties

-- what a far end answers on a connection
abbrev pub far_response : End → ℕ → Incoming → State → Response
far_response (end.Module i c) k q s = module_response k i c q (module_at i s.modules)
far_response end.Svc k q s = svc_response q s
far_response (end.Ap a) k q s = responds_plainly nonexistent

-- What the party at a side of a connection answers.
abbrev pub response_at : Side → Connection → Incoming → State → Response
response_at side.Ap c q s = host_served (host_serves c.number q.kind q.payload s.host)
response_at side.Far c q s = far_response c.peer c.number q s

-- A reply goes to the asker.
unfoldable pub replies : Side → Connection → Incoming → Answer → Action
replies at c q a =
    on_bus (replied c.number (other_side at) (reply_item q a)) ▸ tell (reply_entry at c q a)

-- A unidirectional request gets no reply, and is ignored where the answer isn't success.
unfoldable pub serves_oneway : Incoming → Response → Action
serves_oneway q r =
    if r.answer.result == success then r.behind else tell (entry.Ignored q.kind)

-- A request is answered, and then what the answer brings about is done.
unfoldable pub responds : Side → Connection → Incoming → Response → Action
responds at c q r =
    if q.oneway then serves_oneway q r else (replies at c q r.answer ▸ r.behind)

-- A request is served.
unfoldable pub serves : Side → Connection → Incoming → Action
serves at c q = by_state (λ s. responds at c q (response_at at c q s))
