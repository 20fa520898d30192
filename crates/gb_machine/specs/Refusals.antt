-- When an event is refused: refusals in their order, each with its condition.
use Rattle.std.specs.Prelude.{ℕ, ◌+◌, ◌==◌, nat_lt, Bool, false, not, ◌||◌, Option, is_some}
use Rattle.std.specs.Prelude.{is_none, option_and_then, List, [], ◌∷◌, ◌++◌, length}
use Rattle.std.specs.List.{list_any}
use Rattle.gb_base.specs.declared.bridge.BridgeAsk.{BridgeAsk}
use Rattle.gb_base.specs.declared.end.End.{End}
use Rattle.gb_base.specs.declared.end.End.TheVariants as end
use Rattle.gb_base.specs.declared.end.Side.{Side}
use Rattle.gb_base.specs.declared.end.Side.TheVariants as side
use Rattle.gb_base.specs.declared.event.Event.{Event}
use Rattle.gb_base.specs.declared.event.Event.TheVariants as event
use Rattle.gb_base.specs.declared.name.Name.{Name}
use Rattle.gb_base.specs.declared.refusal.Refusal.{Refusal}
use Rattle.gb_base.specs.declared.refusal.Refusal.TheVariants as why
use Rattle.gb_formats.specs.Devices.{Level, Serial, Stir}
use Rattle.gb_formats.specs.Loader.{is_running}
use Rattle.gb_formats.specs.Module.{cport_state, is_on}
use Rattle.gb_formats.specs.ModuleLoads.{loader_at}
use Rattle.gb_formats.specs.ModuleSteps.{module_stir}
use Rattle.gb_formats.specs.Results.{most_payload}
use Rattle.gb_machine.specs.Bus.{Place, outcome_of, place_of, queue}
use Rattle.gb_machine.specs.Host.{control_of, link_at}
use Rattle.gb_machine.specs.HostRefusals.{bridge_conditions, connect_conditions}
use Rattle.gb_machine.specs.HostRefusals.{disconnect_conditions, drain_conditions, image_conditions}
use Rattle.gb_machine.specs.HostRefusals.{is_kept, send_conditions}
use Rattle.gb_machine.specs.Holding.{held_on}
use Rattle.gb_machine.specs.Labels.{next_label}
use Rattle.gb_machine.specs.Lists.{Condition, conditions_of, first, first_met, holds_of, span}
use Rattle.gb_machine.specs.Modules.{is_plugged, module_at}
use Rattle.gb_machine.specs.Names.{is_bound, named}
use Rattle.gb_machine.specs.State.{State}

-- the most bytes that a message has on a simulated link: a header of eight and a payload
abbrev pub longest_message : ℕ
longest_message = 8 + most_payload

-- the most bytes of a manifest that is plugged: it is told in one message
abbrev pub longest_manifest : ℕ
longest_manifest = most_payload

-- no identifier is left on a side of a connection
abbrev pub has_no_label : ℕ → Side → State → Bool
has_no_label k at s = is_none (next_label k at s.bus)

-- ---- requests

-- the types that the application processor keeps for its own sequences
abbrev pub is_reserved : ℕ → Bool
is_reserved kind =
    list_any (λ k. k == kind) (3 ∷ 7 ∷ 8 ∷ 11 ∷ 12 ∷ 33 ∷ 35 ∷ 37 ∷ 39 ∷ [])

-- a payload is too large for a message
abbrev pub is_long_payload : List ℕ → Bool
is_long_payload payload = nat_lt most_payload (length payload)

-- when a request to the supervisory controller is refused
abbrev pub svc_conditions : State → Name → ℕ → List ℕ → List Condition
svc_conditions s name kind payload =
    (is_bound name s, why.Occupied)
    ∷ (is_reserved kind, why.Unsupported)
    ∷ (is_long_payload payload, why.TooLarge)
    ∷ (has_no_label 1 side.Ap s, why.NoLabel)
    ∷ []

-- when a request to a CPort of a module is refused
abbrev pub module_conditions : State → Name → ℕ → ℕ → ℕ → List ℕ → List Condition
module_conditions s name i c kind payload =
    (is_bound name s, why.Occupied)
    ∷ send_conditions i c s.host
    ++ conditions_of (λ l.
    (is_kept l kind, why.Unsupported)
    ∷ (is_long_payload payload, why.TooLarge)
    ∷ (has_no_label l.connection side.Ap s, why.NoLabel)
    ∷ []) (link_at i c s.host)

-- when a request that a script sends is refused, by its far end
abbrev pub send_to_conditions : State → Name → End → ℕ → List ℕ → List Condition
send_to_conditions s name end.Svc kind payload = svc_conditions s name kind payload
send_to_conditions s name (end.Ap a) kind payload = []
send_to_conditions s name (end.Module i c) kind payload = module_conditions s name i c kind payload

-- when a bridge line is refused
abbrev pub line_conditions : State → Name → ℕ → ℕ → BridgeAsk → List Condition
line_conditions s name i c what =
    (is_bound name s, why.Occupied)
    ∷ send_conditions i c s.host
    ++ conditions_of (λ l.
    bridge_conditions l what ++ (has_no_label l.connection side.Ap s, why.NoLabel) ∷ [])
    (link_at i c s.host)

-- ---- deliveries

-- nothing is plugged at an interface
abbrev pub is_unplugged : ℕ → State → Bool
is_unplugged i s = not (is_plugged i s.modules)

-- an end is that of a module that isn't plugged
abbrev pub is_end_unplugged : End → State → Bool
is_end_unplugged (end.Module i c) s = is_unplugged i s
is_end_unplugged end.Svc s = false
is_end_unplugged (end.Ap a) s = false

-- nothing waits at a place
abbrev pub has_nothing : Place → Bool
has_nothing p = is_none (first (queue p.side p.connection))

-- when a delivery is refused
abbrev pub deliver_conditions : State → End → List Condition
deliver_conditions s at =
    (is_end_unplugged at s, why.NoInterface)
    ∷ (is_none (place_of at s.bus.connections), why.NoConnection)
    ∷ (holds_of has_nothing (place_of at s.bus.connections), why.QueueEmpty)
    ∷ []

-- the place of a wired connection at a module's CPort
abbrev pub module_place : ℕ → ℕ → State → Option Place
module_place i c s = place_of (end.Module i c) s.bus.connections

-- when no wired connection is there
abbrev pub wired_conditions : State → ℕ → ℕ → List Condition
wired_conditions s i c =
    (is_unplugged i s, why.NoInterface) ∷ (is_none (module_place i c s), why.NoConnection) ∷ []

-- fewer requests than this are held at a place
abbrev pub holds_fewer : State → ℕ → Place → Bool
holds_fewer s k p = nat_lt (length (held_on p.connection.number s.held)) k

-- ---- modules

-- a module with so many interfaces, from this one on, would reach beyond the last, which is 31
abbrev pub is_beyond : ℕ → ℕ → Bool
is_beyond i count = nat_lt 32 (i + count)

-- something is plugged at one of so many interfaces, from this one on
abbrev pub is_taken : ℕ → ℕ → State → Bool
is_taken i count s = list_any (λ j. is_plugged j s.modules) (span i count)

-- when a module with so many interfaces can't be plugged
abbrev pub insert_conditions : State → ℕ → ℕ → List ℕ → List Condition
insert_conditions s i count manifest =
    (is_beyond i count, why.OutOfRange)
    ∷ (is_taken i count s, why.Occupied)
    ∷ (nat_lt longest_manifest (length manifest), why.TooLarge)
    ∷ (has_no_label 1 side.Far s, why.NoLabel)
    ∷ []

-- when a device isn't there to be stirred from outside
abbrev pub stir_conditions : State → ℕ → ℕ → Stir → List Condition
stir_conditions s i c stir =
    let plugged = module_at i s.modules in
    (is_none plugged, why.NoInterface)
    ∷ (is_none (option_and_then (λ m. module_stir m c stir) plugged), why.NoCport)
    ∷ []

-- when a firmware device can't begin to download
abbrev pub load_conditions : State → ℕ → ℕ → List Condition
load_conditions s i c =
    let plugged = module_at i s.modules in
    let loader = option_and_then (λ m. loader_at m c) plugged in
    let place = module_place i c s in
    (is_none plugged, why.NoInterface)
    ∷ (is_none loader, why.NoCport)
    ∷ (not (holds_of (λ m. is_on (cport_state m c)) plugged) || is_none place, why.NoConnection)
    ∷ (holds_of is_running loader, why.Occupied)
    ∷ (holds_of (λ p. has_no_label p.connection.number side.Far s) place, why.NoLabel)
    ∷ []

-- ---- all events

-- The refusals of an event in their order, each with its condition.
abbrev pub conditions : State → Event → List Condition
conditions s event.Boot = (s.booted, why.Occupied) ∷ []
conditions s (event.Insert i kinds) = insert_conditions s i (length kinds) []
conditions s (event.InsertRaw i manifest) = insert_conditions s i 1 manifest
conditions s (event.Pull i) =
    (is_unplugged i s, why.NoInterface) ∷ (has_no_label 1 side.Far s, why.NoLabel) ∷ []
conditions s (event.Connect i c) =
    connect_conditions i c s.host ++ (has_no_label 1 side.Ap s, why.NoLabel) ∷ []
conditions s (event.Disconnect i c) =
    disconnect_conditions i c s.host
    ++ (holds_of (λ k. has_no_label k side.Ap s) (control_of i s.host), why.NoLabel) ∷ []
conditions s (event.Drain i c) = drain_conditions i c s.host
conditions s (event.Send name to kind payload timeout) = send_to_conditions s name to kind payload
conditions s (event.Bridge name i c what) = line_conditions s name i c what
conditions s (event.Level i c line value) = stir_conditions s i c (Level line value)
conditions s (event.SerialState i c control) = stir_conditions s i c (Serial control)
conditions s (event.Deliver at) = deliver_conditions s at
conditions s (event.Hold i c) = wired_conditions s i c
conditions s (event.Answer i c k) =
    wired_conditions s i c ++ (holds_of (holds_fewer s k) (module_place i c s), why.NotHeld) ∷ []
conditions s (event.Cancel name) =
    let number = named name s.names in
    (is_none number, why.NoName)
    ∷ (holds_of (λ n. is_some (outcome_of n s.bus)) number, why.AlreadyEnded)
    ∷ []
conditions s (event.Copy x y) =
    (not (is_bound x s), why.NoName) ∷ (is_bound y s, why.Occupied) ∷ []
conditions s (event.Forget name) = (not (is_bound name s), why.NoName) ∷ []
conditions s (event.Inject i c bytes) =
    wired_conditions s i c ++ (nat_lt longest_message (length bytes), why.TooLarge) ∷ []
conditions s (event.Image tag bytes) = image_conditions tag s.host
conditions s (event.Load i c tag) = load_conditions s i c
conditions s (event.Settle most) = []
conditions s (event.Tick millis) = []
conditions s event.Show = []

-- The first refusal of an event in its order, None where it is done.
abbrev pub refusal : State → Event → Option Refusal
refusal s e = first_met (conditions s e)
