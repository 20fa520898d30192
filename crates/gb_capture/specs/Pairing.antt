-- What pairs are, in words of the whole capture.
use Rattle.std.specs.Prelude.{◌≡◌, ◌≢◌, ◌<◌, ℕ, Bool, true, false, ⊤, List, [], ◌∷◌, ◌++◌}
use Rattle.std.specs.List.{list_any}
use Rattle.gb_formats.specs.Audit.{Pair, findings, has_id, is_answer_to, is_request_of, is_response}
use Rattle.gb_formats.specs.Audit.{pairs}
use Rattle.gb_formats.specs.Captures.{Heard}

-- one of a list's members
pub record IsIn {A : Type 0} (x : A) (xs : List A) : Type 0 where
  pub before : List A
  pub behind : List A
  pub whole : xs ≡ before ++ x ∷ behind

-- each message stands on a later line than those before it, behind this line
abbrev pub AreRising : ℕ → List Heard → Type 0
AreRising line [] = ⊤
AreRising line (m ∷ ms) = (line < m.line) × AreRising m.line ms

-- a request of the same direction and with the same identifier as this one
abbrev pub is_like : Heard → Heard → Bool
is_like q m = is_request_of q.from_ap q.message.id m

-- A pair is a request with an identifier and the first response to it: this goes the other way, has
-- its identifier and its type, and between them stands no further request of its direction
-- with its identifier.
pub record IsPaired (ms : List Heard) (pair : Pair) : Type 0 where
  pub before : List Heard
  pub between : List Heard
  pub behind : List Heard
  pub whole : ms ≡ before ++ pair.0 ∷ between ++ pair.1 ∷ behind
  pub has : has_id pair.0.message ≡ true
  pub asks : is_response pair.0.message ≡ false
  pub answers : is_answer_to pair.0 pair.1 ≡ true
  pub first : list_any (is_answer_to pair.0) between ≡ false
  pub last : list_any (is_like pair.0) between ≡ false

-- Two pairs of a list of pairs have no message in common: theirs stand on other lines.
abbrev pub AreApart : List Pair → Type 0
AreApart ps =
    (before between behind : List Pair) → (a b : Pair)
    → ps ≡ before ++ a ∷ between ++ b ∷ behind → (a.0.line ≢ b.0.line) × (a.1.line < b.1.line)

-- nothing is found
abbrev pub IsClean : List Heard → Type 0
IsClean ms = findings ms ≡ []

-- a response is in a pair
abbrev pub IsAnswering : List Heard → Heard → Type 0
IsAnswering ms m = (q : Heard) × IsIn (q, m) (pairs ms)

-- Where a request with an identifier comes behind one like it, a response to that stands between.
abbrev pub AreAnsweredBefore : List Heard → Type 0
AreAnsweredBefore ms =
    (before between behind : List Heard) → (q m : Heard)
    → ms ≡ before ++ q ∷ between ++ m ∷ behind → has_id m.message ≡ true
    → is_like m m ≡ true → is_like m q ≡ true → list_any (is_answer_to q) between ≡ true
