-- The words of a line.
use Rattle.std.specs.Prelude.{ℕ, ◌==◌, if◌then◌else◌, List, [], ◌∷◌, ◌++◌}

-- a word ends where a space comes, and spaces in a row make no word
abbrev pub word_of : List ℕ → List (List ℕ)
word_of [] = []
word_of (b ∷ bs) = (b ∷ bs) ∷ []

-- the words, where `front` has been read of the first
abbrev pub words_after : List ℕ → List ℕ → List (List ℕ)
words_after front [] = word_of front
words_after front (b ∷ bs) =
    let later = words_after [] bs in
    if b == 32 then word_of front ++ later else words_after (front ++ b ∷ []) bs

-- Words are parted by one or more spaces. Spaces at both ends don't count.
abbrev pub words : List ℕ → List (List ℕ)
words line = words_after [] line
