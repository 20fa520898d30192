-- The ends where an item waits.
use Rattle.std.specs.Prelude.{◌≡◌, ◌≢◌, Bool, true, false, Option, Some, None, List, ◌∷◌}
use Rattle.std.specs.BTreeMap.{is_at}
use Rattle.std.specs.List.{list_any}
use Rattle.std.specs.Ordering.{is_gt}
use Rattle.std.specs.declared.cmp.Ordering.TheVariants.{Less}
use Rattle.gb_base.specs.declared.end.End.{End}
use Rattle.gb_switch.specs.Places.{end_cmp}

-- whether an end is one of these
abbrev pub is_in : List End → End → Bool
is_in ends at = list_any (is_at (end_cmp at)) ends

-- an end is marked or not, and the others as before
pub record Marks (old new : List End) (at : End) (mark : Bool) : Type 0 where
  pub here : is_in new at ≡ mark
  pub others : (other : End) → other ≢ at → is_in new other ≡ is_in old other

-- By cases on the least end: none is there, or it is one of them and none is less.
abbrev pub IsLeast : List End → Option End → Type 0
IsLeast ends None = (at : End) → is_in ends at ≡ false
IsLeast ends (Some least) =
    (is_in ends least ≡ true)
    × ((at : End) → is_in ends at ≡ true → is_gt (end_cmp least at) ≡ false)

-- the least end and the others
abbrev pub ends_of : Option End → List End → List End
ends_of None others = others
ends_of (Some first) others = first ∷ others

-- an end comes before all of these
abbrev pub IsBelow : End → List End → Type 0
IsBelow least ends = (at : End) → is_in ends at ≡ true → end_cmp least at ≡ Less

-- the first comes before the others, which are absent where there is none
abbrev pub ComesBefore : Option End → List End → Type 0
ComesBefore None others = (at : End) → is_in others at ≡ false
ComesBefore (Some first) others = IsBelow first others
