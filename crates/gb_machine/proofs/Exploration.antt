-- Exploration: the facts on hot-plug hold in all states that a few events lead to, from
-- a few states.
use Rattle.std.proofs.Common.{◌≡◌, ℕ, zero, suc, Bool, true, false, ◌&&◌, List, [], ◌∷◌, ◌++◌}
use Rattle.std.proofs.Common.{codes, refl}
use Rattle.std.specs.List.{list_all}
use Rattle.gb_base.specs.declared.end.End.TheVariants as end
use Rattle.gb_base.specs.declared.event.Event.{Event}
use Rattle.gb_base.specs.declared.event.Event.TheVariants as event
use Rattle.gb_base.specs.declared.event.Kind.TheVariants as kind
use Rattle.gb_machine.proofs.HotPlugTests.{facts_hold, facts_hold_of, removal_leaves}
use Rattle.gb_machine.proofs.HotPlugTests.{stale_is_below}
use Rattle.gb_machine.proofs.Scripts.{after, report_opened, setup}
use Rattle.gb_machine.specs.Events.{step}
use Rattle.gb_machine.specs.State.{State, first_state}

-- a test holds of a state, and of all states that at most so many of these events lead to from it
unfoldable pub holds_behind : ℕ → List Event → (State → Bool) → State → Bool
holds_behind zero es test s = test s
holds_behind (suc more) es test s =
    test s && list_all (λ e. holds_behind more es test (step s e).state) es

-- a module is pulled and plugged again, and the front messages are delivered
abbrev pub hot_plug : List Event
hot_plug =
    event.Pull 2 ∷ event.Insert 2 (kind.Gpio ∷ []) ∷ event.Deliver end.Svc
    ∷ event.Deliver (end.Ap 0) ∷ event.Deliver (end.Module 2 0) ∷ []

-- the same with a module of two interfaces, which is pulled by the second, and another there
abbrev pub hot_plug_two : List Event
hot_plug_two =
    event.Pull 3 ∷ event.Insert 2 (kind.Gpio ∷ kind.Gpio ∷ []) ∷ event.Insert 3 (kind.Gpio ∷ [])
    ∷ event.Deliver end.Svc ∷ event.Deliver (end.Ap 0) ∷ []

-- the same as the first, and what comes from the module's Control, and time passes
abbrev pub with_control : List Event
with_control = event.Deliver (end.Ap 1) ∷ event.Tick 1000 ∷ hot_plug

-- the same as the first, and a CPort is connected and disconnected
abbrev pub with_connects : List Event
with_connects = event.Connect 2 1 ∷ event.Disconnect 2 1 ∷ hot_plug

-- the facts hold of both interfaces
abbrev both_hold : State → Bool
both_hold s = facts_hold_of 2 s && facts_hold_of 3 s

-- the state after these lines
abbrev pub from : List (List ℕ) → State
from = after first_state

-- ---- the facts hold

-- where a module was plugged
pub plugged : holds_behind 5 hot_plug (facts_hold 2)
    (from (codes "insert 2 gpio" ∷ codes "boot" ∷ [])) ≡ true
unfolding report_opened holds_behind
plugged = refl

-- where its enumeration begins
pub beginning : holds_behind 5 hot_plug (facts_hold 2)
    (from (codes "insert 2 gpio" ∷ codes "boot" ∷ codes "settle 6" ∷ [])) ≡ true
unfolding report_opened holds_behind
beginning = refl

-- where its enumeration is under way
pub enumerating : holds_behind 4 hot_plug (facts_hold 2)
    (from (codes "insert 2 gpio" ∷ codes "boot" ∷ codes "settle 12" ∷ [])) ≡ true
unfolding report_opened holds_behind
enumerating = refl

-- where it waits for the manifest
pub waiting_for_manifest : holds_behind 4 with_control (facts_hold 2)
    (from (codes "insert 2 gpio" ∷ codes "boot" ∷ codes "settle 24" ∷ [])) ≡ true
unfolding report_opened holds_behind
waiting_for_manifest = refl

-- the script of a connection that is being closed, whose last request waits
abbrev pub closing : List (List ℕ)
closing = setup (codes "insert 2 gpio") ++ codes "disconnect 2 1" ∷ codes "settle 4" ∷ []

-- where the request that destroys a connection waits
pub closing_holds : holds_behind 4 with_control (facts_hold 2) (from closing) ≡ true
unfolding report_opened holds_behind
closing_holds = refl

-- where a connection is open
pub connected : holds_behind 4 with_connects (facts_hold 2)
    (from (setup (codes "insert 2 gpio"))) ≡ true
unfolding report_opened holds_behind
connected = refl

-- where a connection is being made while its module is pulled
pub pulled_while_connecting : holds_behind 4 with_connects (facts_hold 2)
    (from (codes "insert 2 gpio" ∷ codes "boot" ∷ codes "settle 40" ∷ codes "connect 2 1"
    ∷ codes "pull 2" ∷ [])) ≡ true
unfolding report_opened holds_behind
pulled_while_connecting = refl

-- where a module of two interfaces was plugged, and where its enumeration is under way
pub two_plugged : holds_behind 5 hot_plug_two both_hold
    (from (codes "insert 2 gpio gpio" ∷ codes "boot" ∷ codes "settle 4" ∷ [])) ≡ true
unfolding report_opened holds_behind
two_plugged = refl

pub two_enumerating : holds_behind 4 hot_plug_two both_hold
    (from (codes "insert 2 gpio gpio" ∷ codes "boot" ∷ codes "settle 20" ∷ [])) ≡ true
unfolding report_opened holds_behind
two_enumerating = refl

-- ---- pulls are remembered

-- with the requests that told them, and none of those before the start
pub pulls_are_remembered : (from (codes "insert 2 gpio" ∷ codes "pull 2" ∷ codes "insert 2 gpio"
    ∷ codes "insert 3 gpio i2c" ∷ codes "boot" ∷ codes "pull 4" ∷ codes "pull 2" ∷ [])).past.pulled
    ≡ (5, 3) ∷ (5, 4) ∷ (6, 2) ∷ []
unfolding report_opened
pulls_are_remembered = refl

-- ---- wrong facts are found

-- The power level isn't 0 whenever a removal waits: it is 1 where the supervisory controller served
-- an old start of an enumeration behind it.
pub level_1_is_found : holds_behind 4 hot_plug (removal_leaves 2 0)
    (from (codes "insert 2 gpio" ∷ codes "boot" ∷ codes "settle 6" ∷ [])) ≡ false
unfolding report_opened holds_behind
level_1_is_found = refl

-- Requests for connections that are gone do wait.
pub stale_is_found : holds_behind 4 hot_plug (stale_is_below 2 0) (from closing) ≡ false
unfolding report_opened holds_behind
stale_is_found = refl
