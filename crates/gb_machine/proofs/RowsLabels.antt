-- Which identifier comes next, as identifiers come round.
use Rattle.std.proofs.Common.{◌≡◌, ℕ, Some, None, List, [], ◌∷◌, ◌++◌, codes, refl}
use Rattle.gb_base.specs.declared.end.Side.TheVariants as side
use Rattle.gb_machine.proofs.Scripts.{after, report_opened}
use Rattle.gb_machine.specs.Bus.{Bus}
use Rattle.gb_machine.specs.Labels.{next_label}
use Rattle.gb_machine.specs.State.{first_state}
use Rattle.gb_machine.specs.Wiring.{with_connection}

-- the bus after these lines, with this identifier as the last that the application processor drew
abbrev drawn_last : ℕ → List (List ℕ) → Bus
drawn_last label script =
    with_connection 1 (λ c. record c { ap_last = label }) (after first_state script).bus

-- a ping that was given up
abbrev given_up : List (List ℕ)
given_up = codes "send @x svc ping" ∷ codes "cancel @x" ∷ []

pub first_label : next_label 1 side.Ap (drawn_last 0 []) ≡ Some 1
unfolding report_opened
first_label = refl

pub next_one : next_label 1 side.Ap (drawn_last 1 given_up) ≡ Some 2
unfolding report_opened
next_one = refl

-- behind the greatest comes the least that isn't in use
pub around_used : next_label 1 side.Ap (drawn_last 65535 given_up) ≡ Some 2
unfolding report_opened
around_used = refl

-- an identifier is free once its answer came
pub around_free : next_label 1 side.Ap (drawn_last 65535
    (given_up ++ codes "deliver svc" ∷ codes "deliver ap 0" ∷ [])) ≡ Some 1
unfolding report_opened
around_free = refl

-- an open request has its identifier
pub around_open : next_label 1 side.Ap (drawn_last 65535 (codes "send @x svc ping" ∷ [])) ≡ Some 2
unfolding report_opened
around_open = refl

-- the other side has identifiers of its own
pub far_side : next_label 1 side.Far (drawn_last 65535 (codes "send @x svc ping" ∷ [])) ≡ Some 1
unfolding report_opened
far_side = refl

pub no_connection : next_label 2 side.Ap (drawn_last 0 []) ≡ None
unfolding report_opened
no_connection = refl
