-- The words that can be a name.
use Rattle.std.specs.Prelude.{◌≡◌, ◌≤◌, ◌++◌, ◌-◌, ℕ, Bool, List, length, nat_lt, nat_le, ◌&&◌, ◌||◌}
use Rattle.std.specs.Prelude.{IsTrue, replicate, take}
use Rattle.std.specs.List.{list_all}

-- `a` to `z` or `0` to `9`
abbrev pub is_name_byte : ℕ → Bool
is_name_byte b = nat_le 97 b && nat_le b 122 || nat_le 48 b && nat_le b 57

-- 1 to 16 of them
abbrev pub is_name : List ℕ → Bool
is_name w = nat_lt 0 (length w) && nat_le (length w) 16 && list_all is_name_byte w

-- a word, with zeros behind it up to 16 bytes
abbrev pub padded : List ℕ → List ℕ
padded w = w ++ replicate (16 - length w) 0

-- The first so many of these bytes are a name, and the others are zeros.
pub record HoldsName (count : ℕ) (places : List ℕ) : Type 0 where
  pub few : count ≤ 16
  pub name : IsTrue (is_name (take count places))
  pub zeros : places ≡ padded (take count places)
