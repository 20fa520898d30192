-- The actions of the lines of a script that ask, answer, inject and stir.
use Rattle.std.specs.Prelude.{ℕ, ◌+◌, ◌-◌, false, if◌then◌else◌, Result, Ok, Err, List, [], ◌∷◌}
use Rattle.std.specs.Prelude.{◌++◌, length}
use Rattle.gb_base.specs.declared.bridge.BridgeAsk.{BridgeAsk}
use Rattle.gb_base.specs.declared.end.End.{End}
use Rattle.gb_base.specs.declared.end.End.TheVariants as end
use Rattle.gb_base.specs.declared.end.Side.TheVariants as side
use Rattle.gb_base.specs.declared.entry.Entry.TheVariants as entry
use Rattle.gb_base.specs.declared.name.Name.{Name}
use Rattle.gb_base.specs.declared.interface.Link.{Link}
use Rattle.gb_formats.specs.Bridges.{BridgeFault, bridge_answer, credits_taken}
use Rattle.gb_formats.specs.Grammar.{default_timeout}
use Rattle.gb_formats.specs.Devices.{Stir}
use Rattle.gb_formats.specs.Module.{Module}
use Rattle.gb_formats.specs.ModuleSteps.{module_stir}
use Rattle.gb_formats.specs.Results.{Stirred}
use Rattle.gb_machine.specs.Actions.{Action, by_state, change, given, nothing, on_host}
use Rattle.gb_machine.specs.Actions.{tell, ◌▸◌}
use Rattle.gb_machine.specs.Arriving.{dropped, takes}
use Rattle.gb_machine.specs.Asking.{asks}
use Rattle.gb_machine.specs.Bus.{Item, Place, next_number}
use Rattle.gb_machine.specs.Holding.{held_on, held_without}
use Rattle.gb_machine.specs.Host.{link_at, with_link}
use Rattle.gb_machine.specs.Incoming.{request_in}
use Rattle.gb_machine.specs.Lists.{nth}
use Rattle.gb_machine.specs.Modules.{module_at, with_module}
use Rattle.gb_machine.specs.Names.{bound, named}
use Rattle.gb_machine.specs.OwnAsking.{far_asks_all}
use Rattle.gb_machine.specs.Refusals.{module_place}
use Rattle.gb_machine.specs.Responding.{serves}
use Rattle.gb_machine.specs.Sending.{Draft, draft}
use Rattle.gb_machine.specs.State.{Held, State}
use Rattle.gb_machine.specs.Wiring.{injected}

-- ---- requests

-- a request of the application processor
abbrev pub ap_draft : ℕ → ℕ → List ℕ → ℕ → Draft
ap_draft k kind payload deadline = draft k side.Ap kind payload deadline false

-- A request is sent on a connection and gets its name.
unfoldable pub sends_on : Name → ℕ → ℕ → List ℕ → ℕ → Action
sends_on name k kind payload timeout = by_state (λ s.
    change (bound name (next_number s.bus)) ▸ asks (ap_draft k kind payload (s.now + timeout)))

-- A request is sent to the supervisory controller or to a module.
unfoldable pub sends : Name → End → ℕ → List ℕ → ℕ → Action
sends name end.Svc kind payload timeout = sends_on name 1 kind payload timeout
sends name (end.Ap a) kind payload timeout = nothing
sends name (end.Module i c) kind payload timeout = by_state (λ s.
    given (link_at i c s.host) (λ l. sends_on name l.connection kind payload timeout))

-- a connection has fewer credits, by the bytes of a `uart send`
abbrev pub spent : BridgeAsk → Link → Link
spent what l = record l { credits = l.credits - credits_taken what }

-- the request of a bridge line is sent
unfoldable pub bridge_sent : Name → Link → BridgeAsk → Result (ℕ × List ℕ) BridgeFault → Action
bridge_sent name l what (Ok request) =
    on_host (with_link l.intf l.cport (spent what))
    ▸ sends_on name l.connection request.0 request.1 default_timeout
bridge_sent name l what (Err fault) = nothing

-- A bridge line becomes a request.
unfoldable pub bridges : Name → ℕ → ℕ → BridgeAsk → Action
bridges name i c what = by_state (λ s.
    given (link_at i c s.host)
    (λ l. bridge_sent name l what (bridge_answer l.protocol what)))

-- A name gets a request that another name has.
unfoldable pub copies : Name → Name → Action
copies x y = by_state (λ s. given (named x s.names) (λ n. change (bound y n)))

-- ---- what is held

-- a held request is served, or dropped where its CPort is off
unfoldable pub serves_held : Place → Item → Action
serves_held p item = by_state (λ s.
    if takes p.side p.connection s
    then given (request_in item s.bus) (serves p.side p.connection)
    else tell (dropped item))

-- one request isn't held any more
abbrev pub with_fewer : ℕ → ℕ → State → State
with_fewer k place s = record s { held = held_without k place s.held }

-- a request that is held at this place among those of a connection is served
unfoldable pub answers_held : Place → ℕ → Held → Action
answers_held p place h =
    change (with_fewer p.connection.number place) ▸ serves_held p h.item

-- the request at this place among those that are held there is served
unfoldable pub answers_at : ℕ → Place → Action
answers_at place p = by_state (λ s.
    given (nth place (held_on p.connection.number s.held)) (answers_held p place))

-- A request that is held at a module's CPort is served, the oldest being the first.
unfoldable pub answers : ℕ → ℕ → ℕ → Action
answers i c place = by_state (λ s. given (module_place i c s) (answers_at place))

-- ---- what comes from outside

-- raw bytes wait on a connection, which is remembered to be unclean
abbrev pub with_injected : ℕ → List ℕ → State → State
with_injected k bytes s = record s {
  bus = injected k bytes s.bus;
  past = record s.past { unclean = s.past.unclean ++ k ∷ [] };
}

-- raw bytes go from a module's CPort to the application processor
unfoldable pub injects_at : ℕ → ℕ → List ℕ → Place → Action
injects_at i c bytes p =
    change (with_injected p.connection.number bytes)
    ▸ tell (entry.Raw (end.Module i c) (end.Ap p.connection.ap) (length bytes) bytes)

-- Raw bytes are injected at a module's CPort.
unfoldable pub injects : ℕ → ℕ → List ℕ → Action
injects i c bytes = by_state (λ s. given (module_place i c s) (injects_at i c bytes))

-- a module after a stir, and the requests that it makes, where its CPort is wired
unfoldable pub stirred : ℕ → ℕ → Stirred Module → Action
stirred i c t =
    change (λ s. record s { modules = with_module i t.after s.modules })
    ▸ by_state (λ s. given (module_place i c s)
    (λ p. far_asks_all p.connection.number t.asks))

-- A device of a module is stirred from outside.
unfoldable pub stirs : ℕ → ℕ → Stir → Action
stirs i c stir = by_state (λ s. given (module_at i s.modules)
    (λ m. given (module_stir m c stir) (stirred i c)))
