-- Which requests are open, and which were given up.
use Rattle.std.specs.Prelude.{ℕ, ◌+◌, ◌==◌, nat_le, Bool, true, false, ◌&&◌, ◌||◌, if◌then◌else◌}
use Rattle.std.specs.Prelude.{Option, Some, None, is_some, is_none, List, [], ◌∷◌, ◌++◌, find}
use Rattle.std.specs.List.{list_any}
use Rattle.gb_base.specs.declared.end.Side.{Side}
use Rattle.gb_base.specs.declared.end.Side.TheVariants as side
use Rattle.gb_base.specs.declared.outcome.Outcome.{Outcome}
use Rattle.gb_machine.specs.Bus.{Bus, Request, outcome_of, request_of}
use Rattle.gb_machine.specs.Lists.{first}

-- two sides are one
abbrev pub same_side : Side → Side → Bool
same_side side.Ap side.Ap = true
same_side side.Far side.Far = true
same_side side.Ap side.Far = false
same_side side.Far side.Ap = false

-- A request was made by a side of a connection.
abbrev pub is_of : ℕ → Side → Request → Bool
is_of k at r = r.connection == k && same_side at r.side

-- A request was made by a side of a connection, and has an identifier.
abbrev pub has_label : ℕ → Side → ℕ → Request → Bool
has_label k at label r = is_of k at r && r.label == label

-- A request's deadline came.
abbrev pub is_due : ℕ → Request → Bool
is_due now r = nat_le r.deadline now

-- the numbers of the requests of a list that pass a test and have no outcome, the first of the list
-- being request n
abbrev pub open_from : ℕ → (Request → Bool) → Bus → List Request → List ℕ
open_from n test b [] = []
open_from n test b (r ∷ rs) =
    let later = open_from (n + 1) test b rs in
    if test r && is_none (outcome_of n b) then n ∷ later else later

-- The open requests that pass a test, in order of number.
abbrev pub open_requests : (Request → Bool) → Bus → List ℕ
open_requests test b = open_from 1 test b b.requests

-- The open requests that a side of a connection made, in order of number.
abbrev pub open_on : ℕ → Side → Bus → List ℕ
open_on k at b = open_requests (is_of k at) b

-- No request of the application processor is open on a connection.
abbrev pub is_idle : ℕ → Bus → Bool
is_idle k b = is_none (first (open_on k side.Ap b))

-- a request that was made passes a test
abbrev pub made_passes : (Request → Bool) → Option Request → Bool
made_passes test None = false
made_passes test (Some r) = test r

-- Request n was made and passes a test.
abbrev pub passes : (Request → Bool) → Bus → ℕ → Bool
passes test b n = made_passes test (request_of n b)

-- Request n was given up, and its answer hasn't come.
abbrev pub is_given_up : ℕ → Bus → Bool
is_given_up n b = list_any (λ m. m == n) b.given_up

-- The open request of a side of a connection that has an identifier.
abbrev pub open_with : ℕ → Side → ℕ → Bus → Option ℕ
open_with k at label b = first (open_requests (has_label k at label) b)

-- The request of a side of a connection that was given up and has an identifier.
abbrev pub given_up_with : ℕ → Side → ℕ → Bus → Option ℕ
given_up_with k at label b = find (passes (has_label k at label) b) b.given_up

-- An identifier is in use on a side of a connection: its request is open, or it was given up and
-- its answer hasn't come.
abbrev pub is_used : ℕ → Side → Bus → ℕ → Bool
is_used k at b label = is_some (open_with k at label b) || is_some (given_up_with k at label b)

-- A request is given up: it ends so, and its identifier stays in use until its answer comes.
abbrev pub gave_up : ℕ → Outcome → Bus → Bus
gave_up n how b =
    record b { outcomes = (n, how) ∷ b.outcomes; given_up = b.given_up ++ n ∷ [] }
