-- What the supervisory controller decides.
use Rattle.std.specs.Prelude.{◌≡◌, List, []}
use Rattle.gb_bus.specs.Stands as bus
use Rattle.gb_bus.specs.declared.bus.Bus.{Bus}
use Rattle.gb_machine.specs.Actions.{Action, nothing}
use Rattle.gb_machine.specs.Responding.{Response, disconnects}
use Rattle.gb_machine.specs.Serving.{Answer, answer}
use Rattle.gb_machine.specs.State.{Port, State}
use Rattle.gb_machine.specs.Wires.{wires}
use Rattle.gb_switch.specs.Stands as switch
use Rattle.gb_switch.specs.declared.ladder.Ladder.{Ladder}
use Rattle.gb_system.specs.declared.deciding.Behind.{Behind}
use Rattle.gb_system.specs.declared.deciding.Behind.TheVariants as behind
use Rattle.gb_system.specs.declared.deciding.Decision.{Decision}

-- A bus, with these items in no queue, and a ladder stand for their parts of a state.
pub record BusAndPorts (around : bus.Around) (x : Bus) (y : Ladder) (s : State) : Type 0 where
  pub bus : bus.Stands around x s.bus
  pub ports : switch.Stands y s.ports

-- the answer of a decision
abbrev pub answer_of : Decision → Answer
answer_of d = answer d.result d.payload.items

-- Nothing but the interfaces changes, and the ladder stands for them.
pub record ChangesPorts (new : Ladder) (s : State) (does : Action) : Type 0 where
  pub ports : List Port
  pub stands : switch.Stands new ports
  pub is : (t : State) → t.ports ≡ s.ports
      → does t ≡ record { state = record t { ports = ports }; entries = [] }

-- The interfaces stay, and this is done.
pub record DoesThis (new : Ladder) (s : State) (does this : Action) : Type 0 where
  pub stands : switch.Stands new s.ports
  pub is : does ≡ this

-- what is done after a reply, but for what changes of the interfaces
abbrev pub action_of : Behind → Action
action_of behind.Nothing = nothing
action_of (behind.Wire k) = wires k
action_of (behind.Unwire k) = disconnects k

-- What is done after the reply at a state, by cases.
abbrev pub DoesBehind : Ladder → State → Action → Behind → Type 0
DoesBehind new s does behind.Nothing = ChangesPorts new s does
DoesBehind new s does (behind.Wire k) = DoesThis new s does (wires k)
DoesBehind new s does (behind.Unwire k) = DoesThis new s does (disconnects k)

-- A response has the answer of a decision, and this comes after it.
pub record Decides (new : Ladder) (s : State) (r : Response) (d : Decision) : Type 0 where
  pub answer : r.answer ≡ answer_of d
  pub behind : DoesBehind new s r.behind d.behind
