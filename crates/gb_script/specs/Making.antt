-- A made script whose events are given one after the other.
use Rattle.std.specs.Prelude.{◌≡◌, ◌<◌, ◌≤◌, ◌+◌, ℕ}
use Rattle.gb_formats.specs.Made.{last_named, made_number}

-- the seed, and how many events were given
pub record Making : Type 0 where
  pub seed : ℕ
  pub given : ℕ

-- an event was given
abbrev pub further : Making → Making
further m = record { seed = m.seed; given = m.given + 1 }

-- the generator's number after so many draws, and the last of their lines that names a request
pub record AreDrawn (seed draws number named : ℕ) : Type 0 where
  pub number_is : number ≡ made_number seed draws
  pub small : number < 2147483648
  pub named_is : named ≡ last_named seed draws
  pub most : named ≤ draws
