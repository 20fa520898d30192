-- What is kept of a line.
use Rattle.std.specs.Prelude.{◌≡◌, nat_lt, ℕ, Bool, List, length, take}
use Rattle.gb_script.specs.declared.line_buffer.LineBuffer.{LineBuffer}

-- how many bytes of a line are handed out
abbrev pub longest_text : ℕ
longest_text = 8192

abbrev pub is_long_text : List ℕ → Bool
is_long_text line = nat_lt longest_text (length line)

-- of these bytes so many are kept as there are, up to one more than may be handed out
pub record Keeps (size : ℕ) (bytes raw : List ℕ) : Type 0 where
  pub size_is : size ≡ length raw
  pub kept : take size bytes ≡ take 8193 raw

abbrev pub HoldsLine : LineBuffer → List ℕ → Type 0
HoldsLine b raw = Keeps b.size b.bytes.items raw

-- what is handed out of this line is kept
pub record KeepsText (size : ℕ) (bytes line : List ℕ) : Type 0 where
  pub long : nat_lt longest_text size ≡ is_long_text line
  pub text : take longest_text (take size bytes) ≡ take longest_text line

abbrev pub HoldsText : LineBuffer → List ℕ → Type 0
HoldsText b line = KeepsText b.size b.bytes.items line
