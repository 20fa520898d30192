-- The words that can be the tag of a firmware image.
use Rattle.std.specs.Prelude.{ℕ, Bool, List, length, nat_lt, nat_le, ◌&&◌}
use Rattle.std.specs.List.{list_all}
use Rattle.gb_base.specs.Name.{is_name_byte}

-- the most bytes of a tag
abbrev pub longest_tag : ℕ
longest_tag = 9

-- 1 to 9 of `a` to `z` and `0` to `9`
abbrev pub is_tag : List ℕ → Bool
is_tag w = nat_lt 0 (length w) && nat_le (length w) longest_tag && list_all is_name_byte w
