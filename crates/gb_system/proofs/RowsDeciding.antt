-- Worked answers of the supervisory controller where connections decide. No script brings about all
-- of them: none asks to destroy a route, or to create a connection again.
use Rattle.std.proofs.Common.{ℕ, Some, List, [], ◌∷◌, ◌≡◌, refl}
use Rattle.gb_machine.specs.Bus.{Bus}
use Rattle.gb_machine.specs.Ports.{unrouted}
use Rattle.gb_machine.specs.Responding.{Response, disconnects, responds_plainly, responds_with}
use Rattle.gb_machine.specs.Responding.{svc_stepped, with_ports}
use Rattle.gb_machine.specs.Serving.{plainly}
use Rattle.gb_machine.specs.State.{Port, State, first_state}
use Rattle.gb_machine.specs.SvcTable.{svc_step}
use Rattle.gb_machine.specs.Wires.{wires}
use Rattle.gb_machine.specs.Wiring.{attached, wired}

-- interface 2 is routed
abbrev pub routed : List Port
routed = record { intf = 2; level = 6; device = Some 2 } ∷ []

-- a bus with interface 2
abbrev pub with_bus : Bus → State
with_bus b = record first_state { bus = b; ports = routed }

-- connection 2 is made, of CPort 1 of the application processor with CPort 3 at interface 2
abbrev pub made : Bus
made = attached 1 2 3 0 first_state.bus

abbrev pub unwired_state : State
unwired_state = with_bus made

abbrev pub wired_state : State
wired_state = with_bus (wired 2 made)

-- what a request is answered, and what is done behind the reply
abbrev pub response : ℕ → List ℕ → State → Response
response kind payload s = svc_stepped (svc_step s.ports kind payload) s

-- CONN_CREATE of CPort 1 with a CPort at interface 2
abbrev pub create : ℕ → State → Response
create c = response 0x07 (1 ∷ 1 ∷ 0 ∷ 2 ∷ c ∷ 0 ∷ 0 ∷ 0 ∷ [])

-- CONN_DESTROY of CPort 1 with CPort 3 at interface 2
abbrev pub destroy : State → Response
destroy = response 0x08 (1 ∷ 1 ∷ 0 ∷ 2 ∷ 3 ∷ 0 ∷ [])

-- ROUTE_DESTROY of interface 2
abbrev pub unroute : State → Response
unroute = response 0x0c (1 ∷ 2 ∷ [])

-- what isn't wired can't be unwired
pub destroy_of_unwired : destroy unwired_state ≡ responds_plainly 0x08
destroy_of_unwired = refl

-- no connection is there
pub create_of_another : create 4 unwired_state ≡ responds_plainly 0x08
create_of_another = refl

pub create_wires : create 3 unwired_state ≡ responds_with (plainly 0x00) (wires 2)
create_wires = refl

-- what is wired can't be wired
pub create_again : create 3 wired_state ≡ responds_plainly 0x06
create_again = refl

-- a route stays while a connection is wired
pub unroute_of_wired : unroute wired_state ≡ responds_plainly 0x06
unroute_of_wired = refl

pub destroy_unwires : destroy wired_state ≡ responds_with (plainly 0x00) (disconnects 2)
destroy_unwires = refl

pub unroute_of_unwired : unroute unwired_state
    ≡ responds_with (plainly 0x00) (with_ports (unrouted 2 routed))
unroute_of_unwired = refl
