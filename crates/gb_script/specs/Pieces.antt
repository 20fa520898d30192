-- The bytes of a read, and the first LF among them.
use Rattle.std.specs.Prelude.{◌≡◌, ◌<◌, ℕ, Bool, true, false, Option, Some, None}
use Rattle.std.specs.Prelude.{Result, Ok, Err, List, [], length, take, slice_index}
use Rattle.std.specs.List.{list_any}
use Rattle.std.specs.Io.KnownBytes.{Consumes, IsAtEnd, prepend_known}
use Rattle.gb_base.specs.declared.errors.Failed.{Failed}
use Rattle.gb_formats.specs.Lines.{is_lf}

-- The bytes that a piece shows: the line that was lent last, without its end, and the bytes that
-- weren't taken.
pub record PieceBytes : Type 0 where
  pub line : List ℕ
  pub left : List ℕ

-- an LF is among these bytes
abbrev pub has_lf : List ℕ → Bool
has_lf bytes = list_any is_lf bytes

-- no LF is among these bytes
abbrev pub HasNoLf : List ℕ → Type 0
HasNoLf bytes = has_lf bytes ≡ false

-- so many bytes stand before the first LF
pub record EndsAt (bytes : List ℕ) (n : ℕ) : Type 0 where
  pub within : n < length bytes
  pub plain : HasNoLf (take n bytes)
  pub lf : slice_index bytes n ≡ 10

-- where the first LF stands, None where there is none
abbrev pub TellsLf : Option ℕ → List ℕ → Type 0
TellsLf None bytes = HasNoLf bytes
TellsLf (Some n) bytes = EndsAt bytes n

-- By cases on the answer, whether bytes are held then; `held` are the bytes that were read and not
-- taken, `left` what the source has left, each before and after.
abbrev pub Fills : (held held_after : List ℕ) (left left_after : Option (List ℕ))
    → Result Bool Failed → Type 0
Fills held held_after left after (Ok true) =
    Consumes (prepend_known held left) (prepend_known held_after after) [] × (0 < length held_after)
Fills held held_after left after (Ok false) =
    Consumes (prepend_known held left) (prepend_known held_after after) [] × IsAtEnd after
    × (held_after ≡ [])
Fills held held_after left after (Err failed) = Consumes (prepend_known held left) after []
