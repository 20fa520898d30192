-- What it says that an event isn't refused: none of the conditions of its refusals is met.
use Rattle.std.proofs.Common.{◌≡◌, Bool, true, false, cond, Some, None, List, [], ◌∷◌, ◌++◌}
use Rattle.std.proofs.Common.{is_none, refl, sym, ap, ◌∙◌}
use Rattle.gb_base.specs.declared.end.End.{End}
use Rattle.gb_base.specs.declared.event.Event.{Event}
use Rattle.gb_base.specs.declared.event.Event.TheVariants as event
use Rattle.gb_machine.proofs.Options.{some-of}
use Rattle.gb_machine.specs.Bus.{Item, Place, place_of, queue}
use Rattle.gb_machine.specs.Lists.{Condition, first, first_met, holds_of}
use Rattle.gb_machine.specs.Members.{Each}
use Rattle.gb_machine.specs.Refusals.{conditions, has_nothing, refusal}
use Rattle.gb_machine.specs.State.{State}

-- none of these conditions is met
abbrev pub AreUnmet : List Condition → Type 0
AreUnmet cs = Each (λ c. c.0 ≡ false) cs

-- where there is no refusal, no condition is met
pub unmet : (cs : List Condition) → first_met cs ≡ None → AreUnmet cs
unmet [] h = tt
unmet (c ∷ cs) h = let split = by c.0 refl h in (split.0, unmet cs split.1)
  where
    by : (met : Bool) → c.0 ≡ met → cond met (Some c.1) (first_met cs) ≡ None
        → (c.0 ≡ false) × (first_met cs ≡ None)
    by true e f = absurd cc
    by false e f = (e, f)

-- where no condition is met, there is no refusal
pub unrefused : (cs : List Condition) → AreUnmet cs → first_met cs ≡ None
unrefused [] h = refl
unrefused (c ∷ cs) h = ap (λ met. cond met (Some c.1) (first_met cs)) h.0 ∙ unrefused cs h.1

-- the first of these conditions aren't met either
pub front-unmet : (cs ds : List Condition) → AreUnmet (cs ++ ds) → AreUnmet cs
front-unmet [] ds h = tt
front-unmet (c ∷ cs) ds h = (h.0, front-unmet cs ds h.1)

-- An event that isn't refused meets none of the conditions of its refusals.
pub free : (s : State) (e : Event) → refusal s e ≡ None → AreUnmet (conditions s e)
free s e h = unmet (conditions s e) h

-- Something waits at an end.
pub record Waits (s : State) (at : End) : Type 0 where
  pub place : Place
  pub item : Item
  pub named : place_of at s.bus.connections ≡ Some place
  pub front : first (queue place.side place.connection) ≡ Some item

-- Where a delivery isn't refused, something waits.
pub waits : (s : State) (at : End) → refusal s (event.Deliver at) ≡ None → Waits s at
waits s at h =
    let met = free s (event.Deliver at) h in
    let named = some-of (place_of at s.bus.connections) met.1.0 in
    let p = named.0 in
    let there : is_none (first (queue p.side p.connection)) ≡ false =
    sym (ap (holds_of has_nothing) named.1) ∙ met.1.1.0 in
    let front = some-of (first (queue p.side p.connection)) there in
    record { place = p; item = front.0; named = named.1; front = front.1 }
