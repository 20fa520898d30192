-- The lines of a text.
use Rattle.std.specs.Prelude.{ℕ, Bool, ◌==◌, ◌-◌, if◌then◌else◌, List, [], ◌∷◌, ◌++◌, length, take}
use Rattle.std.specs.Prelude.{slice_index}
use Rattle.std.specs.List.{list_any}

-- one CR before the LF is part of the line's end
abbrev pub without_cr : List ℕ → List ℕ
without_cr line =
    if slice_index line (length line - 1) == 13 then take (length line - 1) line else line

-- the last line may lack its LF
abbrev pub last_line : List ℕ → List (List ℕ)
last_line [] = []
last_line (b ∷ bs) = (b ∷ bs) ∷ []

-- the lines, where `front` has been read of the first
abbrev pub lines_after : List ℕ → List ℕ → List (List ℕ)
lines_after front [] = last_line front
lines_after front (b ∷ bs) =
    let later = lines_after [] bs in
    if b == 10 then without_cr front ∷ later else lines_after (front ++ b ∷ []) bs

-- Lines end with LF.
abbrev pub lines : List ℕ → List (List ℕ)
lines text = lines_after [] text

-- ---- inputs

-- how many bytes an input may have
abbrev pub longest_input : ℕ
longest_input = 1048576

-- the line end LF
abbrev pub is_lf : ℕ → Bool
is_lf b = b == 10

-- the lines of a text that end with LF: all up to the last LF
abbrev pub ended_lines : List ℕ → List ℕ
ended_lines [] = []
ended_lines (b ∷ bs) =
    let later = ended_lines bs in if list_any is_lf (b ∷ bs) then b ∷ later else []
