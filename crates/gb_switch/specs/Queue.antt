-- What waits at an end, and what calls do.
use Rattle.std.specs.Prelude.{◌≡◌, Bool, true, false, Option, Some, None, List, [], ◌∷◌}

-- some item is in a queue
abbrev pub has_items : {T : Type 0} → List T → Bool
has_items [] = false
has_items (x ∷ xs) = true

-- By cases on what was taken: nothing waited, or it was in front of what waits now.
abbrev pub TakesAs : {T : Type 0} → List T → List T → Option T → Type 0
TakesAs old new None = (old ≡ []) × (new ≡ [])
TakesAs old new (Some item) = old ≡ item ∷ new
