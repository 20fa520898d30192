-- Orders of the lines of a script with requesters.
use Rattle.std.specs.Prelude.{◌≡◌, ◌≤◌, ◌+◌, ℕ, ◌==◌, Bool, true, if◌then◌else◌, Option, Some, None}
use Rattle.std.specs.Prelude.{⊤, List, [], ◌∷◌, ◌++◌, find, map}
use Rattle.gb_base.specs.declared.parts.Asked.{Asked}

-- A place of an order: the requester whose next line it is, and whether that line is full: it was
-- answered that there is no room for its request, and isn't done.
abbrev pub Place : Type 0
Place = ℕ × Bool

-- a line, and whether it is full
abbrev pub Merged : Type 0
Merged = Asked × Bool

-- a line is this requester's
abbrev pub is_by : ℕ → Asked → Bool
is_by who a = a.who == who

-- the first line of a requester
abbrev pub first_of : ℕ → List Asked → Option Asked
first_of who asked = find (is_by who) asked

-- the lines without the first one of a requester
abbrev pub without_first : ℕ → List Asked → List Asked
without_first who [] = []
without_first who (a ∷ more) = if is_by who a then more else a ∷ without_first who more

-- a line at its place, in front of those that follow
abbrev pub placed : Option Asked → Bool → List Merged → List Merged
placed None full more = more
placed (Some a) full more = (a, full) ∷ more

-- The lines in an order: at each place stands the next line of its requester.
abbrev pub merge : List Asked → List Place → List Merged
merge asked [] = []
merge asked ((who, full) ∷ order) =
    placed (first_of who asked) full (merge (without_first who asked) order)

-- ---- which orders there are

-- places of requester 0
abbrev pub AreOpening : List Place → Type 0
AreOpening [] = ⊤
AreOpening (p ∷ ps) = (p.0 ≡ 0) × AreOpening ps

-- full places of requesters that rise from this one on
abbrev pub AreLeading : ℕ → List Place → Type 0
AreLeading least [] = ⊤
AreLeading least (p ∷ ps) = (p.1 ≡ true) × (least ≤ p.0) × AreLeading p.0 ps

-- places of requesters from 1 on, of which a full one stands right behind one of its requester;
-- the place in front of them is of requester `last`
abbrev pub AreThreaded : ℕ → List Place → Type 0
AreThreaded last [] = ⊤
AreThreaded last (p ∷ ps) = (1 ≤ p.0) × (p.1 ≡ true → p.0 ≡ last) × AreThreaded p.0 ps

-- one more where two requesters are one
abbrev pub one_of : ℕ → ℕ → ℕ
one_of who other = if other == who then 1 else 0

-- how often a requester stands in a list
abbrev pub times_of : ℕ → List ℕ → ℕ
times_of who [] = 0
times_of who (r ∷ rs) = one_of who r + times_of who rs

-- the requesters of places
abbrev pub who_at : List Place → List ℕ
who_at order = map (λ p. p.0) order

-- the requesters of lines
abbrev pub who_asked : List Asked → List ℕ
who_asked asked = map (λ a. a.who) asked

-- The lines can be done in an order: requester 0's places come first. Then come the full places of
-- requesters that have none earlier, the requesters rising. Each other full place stands right
-- behind a place of its requester. Each requester has as many places as lines.
pub record IsFair (asked : List Asked) (order : List Place) : Type 0 where
  pub opening : List Place
  pub leading : List Place
  pub threads : List Place
  pub order_is : order ≡ opening ++ leading ++ threads
  pub opens : AreOpening opening
  pub leads : AreLeading 1 leading
  pub follow : AreThreaded 0 threads
  pub each : (who : ℕ) → times_of who (who_at order) ≡ times_of who (who_asked asked)
