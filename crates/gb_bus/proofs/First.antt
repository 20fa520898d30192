-- The bus on which nothing was sent stands for the machine's first one.
use Rattle.std.proofs.Common.{◌≡◌, ℕ, None, [], ◌∷◌, refl, rules, subst, sym}
use Rattle.gb_bus.specs.Counting.{Tells, no_requests}
use Rattle.gb_bus.specs.Parts.{svc}
use Rattle.gb_bus.specs.Stands.{KeepSides, Keeps, slot_of}
use Rattle.gb_bus.specs.declared.tally.Tally.{Tally}
use Rattle.gb_machine.specs.Bus.{first_bus}

pub first-sides : KeepSides (svc ∷ []) first_bus
first-sides = search rules

pub first-slots : (n : ℕ) → slot_of [] n first_bus ≡ None
first-slots n = search rules

pub first-facts : Keeps [] first_bus
first-facts = search rules

pub first-tally : (t : Tally) → t ≡ no_requests → Tells t first_bus
first-tally t is =
    subst (λ x. Tells x first_bus) (sym is)
    (record {
      requests = refl;
      answered = refl;
      cancelled = refl;
      timeout = refl;
      disconnected = refl;
      sent = refl;
      left_open = refl;
    })
