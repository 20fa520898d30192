-- Actions: what an event does is put together from these.
use Rattle.std.specs.Prelude.{Bool, if◌then◌else◌, Option, Some, None, List, [], ◌∷◌, ◌++◌}
use Rattle.gb_base.specs.declared.entry.Entry.{Entry}
use Rattle.gb_machine.specs.Bus.{Bus}
use Rattle.gb_machine.specs.Host.{Host}
use Rattle.gb_machine.specs.State.{State}

-- A state and what was told.
pub record Told : Type 0 where
  pub state : State
  pub entries : List Entry

-- An action takes a state to a state, and tells entries.
abbrev pub Action : Type 0
Action = State → Told

-- an entry is told
unfoldable pub tell : Entry → Action
tell e s = record { state = s; entries = e ∷ [] }

-- the state changes
unfoldable pub change : (State → State) → Action
change f s = record { state = f s; entries = [] }

-- one action after another
infixl 20 ◌▸◌
unfoldable pub ◌▸◌ : Action → Action → Action
(f ▸ g) s =
    let before = f s in
    let after = g before.state in
    record { state = after.state; entries = before.entries ++ after.entries }

-- an action that depends on the state
unfoldable pub by_state : (State → Action) → Action
by_state f s = f s s

-- nothing is done
unfoldable pub nothing : Action
nothing s = record { state = s; entries = [] }

-- an action with a value, where there is one
unfoldable pub given : {A : Type 0} → Option A → (A → Action) → Action
given None f = nothing
given (Some x) f = f x

-- an action on a condition
unfoldable pub when : Bool → Action → Action
when b f = if b then f else nothing

-- the bus part changes
unfoldable pub on_bus : (Bus → Bus) → Action
on_bus f = change (λ s. record s { bus = f s.bus })

-- the application processor changes
unfoldable pub on_host : (Host → Host) → Action
on_host f = change (λ s. record s { host = f s.host })

-- entries are told
unfoldable pub tell_all : List Entry → Action
tell_all entries s = record { state = s; entries = entries }

-- an action for each value, one after another
unfoldable pub each : {A : Type 0} → List A → (A → Action) → Action
each [] f = nothing
each (x ∷ xs) f = f x ▸ each xs f
