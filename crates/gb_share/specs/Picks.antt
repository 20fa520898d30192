-- Lines of a script, by their places there.
use Rattle.std.specs.Prelude.{◌<◌, ℕ, ⊤, List, [], ◌∷◌, ◌++◌, Option, Some, None}
use Rattle.std.specs.List.{filter, slice_get}
use Rattle.gb_base.specs.declared.parts.Asked.{Asked}
use Rattle.gb_formats.specs.Orders.{is_by}

-- the lines of a requester, in order
abbrev pub lines_by : ℕ → List Asked → List Asked
lines_by r asked = filter (is_by r) asked

-- a line, where there is one
abbrev pub one_of : Option Asked → List Asked
one_of None = []
one_of (Some a) = a ∷ []

-- the lines at these places
abbrev pub picked : List Asked → List ℕ → List Asked
picked all [] = []
picked all (p ∷ ps) = one_of (slice_get all p) ++ picked all ps

-- these places are below a number
abbrev pub AreBelow : ℕ → List ℕ → Type 0
AreBelow n [] = ⊤
AreBelow n (p ∷ ps) = (p < n) × AreBelow n ps
