-- Held requests.
use Rattle.std.specs.Prelude.{ℕ, ◌-◌, ◌==◌, Bool, if◌then◌else◌, List, [], ◌∷◌, ◌++◌}
use Rattle.std.specs.List.{filter, list_any}
use Rattle.gb_machine.specs.State.{Held}

-- a request is held on a connection
abbrev pub is_held_on : ℕ → Held → Bool
is_held_on k h = h.connection == k

-- The requests that are held on a connection, the oldest first.
abbrev pub held_on : ℕ → List Held → List Held
held_on k held = filter (is_held_on k) held

-- What is held but for one request: the one at this place, from 1, among those of a connection.
abbrev pub held_without : ℕ → ℕ → List Held → List Held
held_without k place [] = []
held_without k place (h ∷ hs) =
    let behind = held_without k (place - 1) hs in
    let kept = held_without k place hs in
    if is_held_on k h then (if place == 1 then hs else h ∷ behind) else h ∷ kept

-- a connection has the hold mark from now on
abbrev pub marked : ℕ → List ℕ → List ℕ
marked k holds = if list_any (λ j. j == k) holds then holds else holds ++ k ∷ []
