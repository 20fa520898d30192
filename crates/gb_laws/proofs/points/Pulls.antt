-- Which pulls are remembered stays within a step, but where one is told, and each was told by a
-- request that was made.
use Rattle.std.proofs.Common.{Bool, List, None, Option, Some, ap, false, refl, subst, sym, true, ℕ}
use Rattle.std.proofs.Common.{◌∙◌, ◌≡◌}
use Rattle.std.specs.Prelude.{is_some, ◌==◌}
use Rattle.gb_machine.specs.Bus.{Bus, Request, next_number, request_of}
use Rattle.gb_machine.specs.{Runs.Moment, SvcQueues.is_told}
use Rattle.gb_invariants.proofs.{Awaiting.not-both, BusChanges.KeepsRequests, Outcomes.same-number}
use Rattle.gb_laws.proofs.marks.Marks.{ArePulled, next-none, told-other}
use Rattle.gb_laws.proofs.points.Points.{Change, acts_asked, changed, recalls}
use Rattle.gb_laws.proofs.{points.Awaited.awaited-rest, points.ChangeBuses.keeps-requests}
use Rattle.gb_laws.proofs.{points.PointParts.Point}

-- ---- what is remembered

-- a change remembers no pull
abbrev pub RecallsNone : (m : Moment) (a : Point) → Change m a → Type 0
RecallsNone m a (recalls n i of made) = ⊥
RecallsNone m a _ = Unit {0}

-- What is remembered stays.
pub pulled-still : (m : Moment) (a : Point) (x : Change m a) → RecallsNone m a x
    → (changed m a x).state.past.pulled ≡ a.state.past.pulled
pulled-still m a (recalls n i of made) none = absurd none
pulled-still m a (acts_asked q n rest is) none = (awaited-rest q.purpose n).pulled
pulled-still m a _ none = refl

-- ---- each was told by a request that was made

abbrev pub TellsMade : List (ℕ × ℕ) → Bus → Type 0
TellsMade ps b = (n i : ℕ) → is_told n i ps ≡ true → is_some (request_of n b) ≡ true

pub pulled-made : (ps : List (ℕ × ℕ)) (b : Bus) → ArePulled ps b → TellsMade ps b
pulled-made ps b pulled n i e = ap is_some (pulled n i e).made

made-more : (b after : Bus) (n : ℕ) → KeepsRequests b after → is_some (request_of n b) ≡ true
    → is_some (request_of n after) ≡ true
made-more b after n keeps e = by (request_of n b) refl e
  where
    by : (o : Option Request) → request_of n b ≡ o → is_some o ≡ true
        → is_some (request_of n after) ≡ true
    by None f g = absurd (not-both false g refl)
    by (Some r) f g = ap is_some (keeps n r f)

-- At each point it is so.
abbrev pub PulledAt : Point → Type 0
PulledAt a = TellsMade a.state.past.pulled a.state.bus

pub pulled-kept : (m : Moment) (a : Point) (x : Change m a) → PulledAt a → PulledAt (changed m a x)
pulled-kept m a (recalls n i of made) h k j e = by (n == k) refl
  where
    by : (t : Bool) → (n == k) ≡ t → is_some (request_of k a.state.bus) ≡ true
    by true f = subst (λ z. is_some (request_of z a.state.bus) ≡ true) (same-number n k f) made.0
    by false f = h k j (sym (told-other n i k j a.state.past.pulled f) ∙ e)
pulled-kept m a x h n i e =
    made-more a.state.bus (changed m a x).state.bus n (keeps-requests m a x)
    (h n i (sym (ap (is_told n i) (pulled-still m a x tt)) ∙ e))

-- A request that isn't made yet told nothing.
pub next-untold : (i : ℕ) (ps : List (ℕ × ℕ)) (b : Bus) → TellsMade ps b
    → is_told (next_number b) i ps ≡ false
next-untold i ps b made = by (is_told (next_number b) i ps) refl
  where
    by : (t : Bool) → is_told (next_number b) i ps ≡ t → t ≡ false
    by false e = refl
    by true e = absurd (not-both false (sym (ap is_some (next-none b))
        ∙ made (next_number b) i e) refl)
