-- Members of lists, as laws speak of them.
use Rattle.std.specs.Prelude.{◌≡◌, ◌⊎◌, ℕ, ◌+◌, Bool, if◌then◌else◌, List, [], ◌∷◌, ⊤}

-- A value is a member of a list.
abbrev pub IsIn : {A : Type 0} → A → List A → Type 0
IsIn x [] = ⊥
IsIn x (y ∷ ys) = (x ≡ y) ⊎ IsIn x ys

-- Each member of a list is so.
abbrev pub Each : {A : Type 0} → (A → Type 0) → List A → Type 0
Each P [] = ⊤
Each P (x ∷ xs) = P x × Each P xs

-- Each member of a list and each later one are so.
abbrev pub EachTwo : {A : Type 0} → (A → A → Type 0) → List A → Type 0
EachTwo R [] = ⊤
EachTwo R (x ∷ xs) = Each (R x) xs × EachTwo R xs

-- How many members pass a test.
abbrev pub times : {A : Type 0} → (A → Bool) → List A → ℕ
times test [] = 0
times test (x ∷ xs) = if test x then times test xs + 1 else times test xs

-- The sum of a number of each member.
abbrev pub total : {A : Type 0} → (A → ℕ) → List A → ℕ
total number [] = 0
total number (x ∷ xs) = number x + total number xs
