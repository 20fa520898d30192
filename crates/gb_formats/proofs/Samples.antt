-- Names, texts and bytes that theorems on samples share.
use Rattle.std.specs.Prelude.{ℕ, List, [], ◌∷◌, ◌++◌}
use Rattle.gb_base.specs.declared.name.Name.{Name}

-- a name of a requester
abbrev pub named_of : ℕ → List ℕ → Name
named_of who word = record { who = who; word = word }

-- a name of requester 0
abbrev pub named : List ℕ → Name
named word = named_of 0 word

-- the text of some lines, each ended by LF
abbrev pub text_of : List (List ℕ) → List ℕ
text_of [] = []
text_of (line ∷ more) = line ++ 10 ∷ text_of more

-- the SVC's ping with identifier 1
abbrev pub ping_bytes : List ℕ
ping_bytes = 0x08 ∷ 0x00 ∷ 0x01 ∷ 0x00 ∷ 0x13 ∷ 0x00 ∷ 0x00 ∷ 0x00 ∷ []
