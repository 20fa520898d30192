-- Words on lists that stand for maps.
use Rattle.std.specs.Prelude.{ℕ, zero, suc, ◌+◌, Bool, not, if◌then◌else◌, Option, Some, None, List}
use Rattle.std.specs.List.{filter}

-- the members that don't pass the test
abbrev pub without : {A : Type 0} → (A → Bool) → List A → List A
without test xs = filter (λ x. not (test x)) xs

-- the first of so many numbers, from n on, that isn't taken
unfoldable pub first_free : (ℕ → Bool) → ℕ → ℕ → Option ℕ
first_free taken zero n = None
first_free taken (suc tries) n =
    let later = first_free taken tries (n + 1) in
    if taken n then later else Some n
