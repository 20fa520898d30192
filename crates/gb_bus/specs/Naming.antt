-- What a bus tells of a request that is kept, and what names do.
use Rattle.std.specs.Prelude.{ℕ, ◌==◌, ◌<◌, nat_lt, Bool, ◌||◌, if◌then◌else◌, Option, None}
use Rattle.std.specs.Prelude.{is_some, List, [], ◌∷◌, length}
use Rattle.gb_base.specs.declared.outcome.Outcome.{Outcome}
use Rattle.gb_bus.specs.Listing.{count}
use Rattle.gb_bus.specs.Slots.{most_names}
use Rattle.gb_bus.specs.Stands.{Around, Stands}
use Rattle.gb_bus.specs.declared.answers.About.{About}
use Rattle.gb_bus.specs.declared.bus.Bus.{Bus}
use Rattle.gb_machine.specs.Bus as machine
use Rattle.gb_machine.specs.Bus.{Request, outcome_of, request_of}
use Rattle.gb_machine.specs.LawsBus.{is_awaited}

-- something asks for a request: it is open, was given up and not answered yet, or has a name
abbrev pub is_asked_for : List ℕ → ℕ → machine.Bus → Bool
is_asked_for names n b = is_awaited n b || nat_lt 0 (count n names)

-- the request with a number, where something asks for it
abbrev pub asked_for : List ℕ → ℕ → machine.Bus → Option Request
asked_for names n b = if is_asked_for names n b then request_of n b else None

-- where a request was made, and its type
abbrev pub about_of : Request → About
about_of r = record { connection = r.connection; side = r.side; kind = r.kind }

-- how a request ended, where something asks for it
abbrev pub told_outcome : List ℕ → ℕ → machine.Bus → Option Outcome
told_outcome names n b = if is_some (asked_for names n b) then outcome_of n b else None

-- a request has one more name
abbrev pub with_name : ℕ → Around → Around
with_name n around = record around { names = n ∷ around.names }

-- without the first that is so
abbrev pub without_one : ℕ → List ℕ → List ℕ
without_one n [] = []
without_one n (m ∷ ms) = let later = without_one n ms in if m == n then ms else m ∷ later

-- a request has one name less, if it has any
abbrev pub without_name : ℕ → Around → Around
without_name n around = record around { names = without_one n around.names }

-- A request has one more name, where something asks for it. Nothing is said where there are as many
-- names as have a number.
abbrev pub KeepsAs : Around → Bus → ℕ → machine.Bus → Type 0
KeepsAs around new n b =
    length around.names < most_names
    → Stands (if is_some (asked_for around.names n b) then with_name n around else around) new b
