-- What a reader has handed out of a text, and what it holds.
use Rattle.std.specs.Prelude.{◌≡◌, ◌<◌, ◌≤◌, ◌+◌, ℕ, Bool, true, false, Option, Result, Ok, Err}
use Rattle.std.specs.Prelude.{List, [], ◌∷◌, ◌++◌, length, take, drop}
use Rattle.std.specs.Io.KnownBytes.{Consumes, IsAtEnd, prepend_known}
use Rattle.gb_formats.specs.Lines.{without_cr}
use Rattle.gb_script.specs.LineBuffers.{HoldsLine, HoldsText}
use Rattle.gb_script.specs.Pieces.{HasNoLf, PieceBytes}
use Rattle.gb_script.specs.declared.held.Held.{Held}
use Rattle.gb_script.specs.declared.held.LineStop.{LineStop}
use Rattle.gb_script.specs.declared.held.LineStop.TheVariants as stop

-- the bytes that are to come: those held, and those that the source has left
abbrev pub to_come : Held → Option (List ℕ) → Option (List ℕ)
to_come h left = prepend_known h.piece.left left

-- ---- where a line stands

-- a line stands in a piece
pub record StandsIn (piece : PieceBytes) (line : List ℕ) : Type 0 where
  pub line_is : piece.line ≡ line
  pub short : length line ≤ 4096

-- By cases on whether the line that came last is lent from the piece: else the buffer keeps it.
abbrev pub ShowsWhere : (lent : Bool) → Held → List ℕ → Type 0
ShowsWhere true h line = StandsIn h.piece line
ShowsWhere false h line = HoldsText h.buffer line

-- the line that came last
abbrev pub Shows : Held → List ℕ → Type 0
Shows h line = ShowsWhere h.lent h line

-- these bytes of the line came so far, and the buffer keeps them
abbrev pub Gathers : Held → List ℕ → Type 0
Gathers h raw = (h.lent ≡ false) × HoldsLine h.buffer raw

-- ---- what is taken

-- so many bytes within the limit were taken, and the first n of them are of the line
pub record Took (old new : Held) (n count : ℕ) : Type 0 where
  pub taken : new.piece.left ≡ drop count old.piece.left
  pub kept : (raw : List ℕ) → Gathers old raw → Gathers new (raw ++ take n old.piece.left)
  pub room : count + new.room ≡ old.room

-- the line that ends with the LF behind n bytes was taken, within the limit; `raw` came before
pub record TookLine (old new : Held) (raw : List ℕ) (n : ℕ) : Type 0 where
  pub taken : new.piece.left ≡ drop (n + 1) old.piece.left
  pub shows : Shows new (without_cr (raw ++ take n old.piece.left))
  pub room : n + 1 + new.room ≡ old.room

-- so many bytes are beyond the limit, and none was taken
pub record TooMany (old new : Held) (count : ℕ) (e : LineStop) : Type 0 where
  pub long : e ≡ stop.TooLong
  pub same : new ≡ old
  pub beyond : old.room < count

-- ---- one line

-- these bytes came, and the LF behind them
pub record IsEnded (old new : Held) (left left_after : Option (List ℕ)) : Type 0 where
  pub raw : List ℕ
  pub plain : HasNoLf raw
  pub taken : Consumes (to_come old left) (to_come new left_after) (raw ++ 10 ∷ [])
  pub shows : Shows new (without_cr raw)
  pub room : length raw + 1 + new.room ≡ old.room

-- these bytes came, and then the end
pub record IsLast (old new : Held) (left left_after : Option (List ℕ)) : Type 0 where
  pub raw : List ℕ
  pub plain : HasNoLf raw
  pub taken : Consumes (to_come old left) (to_come new left_after) raw
  pub at_end : IsAtEnd (to_come new left_after)
  pub gathers : Gathers new raw
  pub room : length raw + new.room ≡ old.room

-- these bytes came, and then the source failed
pub record IsCut (old : Held) (left left_after : Option (List ℕ)) : Type 0 where
  pub raw : List ℕ
  pub plain : HasNoLf raw
  pub taken : Consumes (to_come old left) left_after raw
  pub within : length raw ≤ old.room

-- these bytes came up to the limit, and at most 4,096 others beyond it
pub record IsBeyond (old : Held) (left left_after : Option (List ℕ)) : Type 0 where
  pub raw : List ℕ
  pub plain : HasNoLf raw
  pub beyond : List ℕ
  pub taken : Consumes (to_come old left) left_after (raw ++ beyond)
  pub full : length raw ≡ old.room
  pub more : 0 < length beyond
  pub few : length beyond ≤ 4096

-- By cases on the answer, whether the line ended with LF or with the text.
abbrev pub ReadsLine : (old new : Held) (left left_after : Option (List ℕ))
    → Result Bool LineStop → Type 0
ReadsLine old new left after (Ok true) = IsEnded old new left after
ReadsLine old new left after (Ok false) = IsLast old new left after
ReadsLine old new left after (Err stop.ReadFault) = IsCut old left after
ReadsLine old new left after (Err stop.TooLong) = IsBeyond old left after
