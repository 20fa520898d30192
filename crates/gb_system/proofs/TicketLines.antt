-- The lines of names are told one by one.
use Rattle.std.proofs.Common.{◌≡◌, ℕ, cond, Option, None, List, ◌∷◌, ◌++◌, append_assoc, ap, ◌∙◌}
use Rattle.std.proofs.Common.{subst, sym}
use Rattle.gb_base.specs.declared.name.Name.{Name}
use Rattle.gb_base.specs.declared.outcome.Outcome.{Outcome}
use Rattle.gb_bus.specs.Naming.{told_outcome}
use Rattle.gb_formats.specs.ShowTexts.{ticket_line}
use Rattle.gb_formats.specs.Texts.{ended}
use Rattle.gb_machine.specs.Bus.{Bus, outcome_of}
use Rattle.gb_machine.specs.Shared.{tickets_text}
use Rattle.gb_system.specs.Showing.{AreTold}

-- one more name is told
pub ticket-told : (numbers : List ℕ) (b : Bus) (name shown : Name) (n : ℕ)
    (names rest : List (Name × ℕ)) (how : Option Outcome) (before after whole : List ℕ)
    → names ≡ (name, n) ∷ rest → AreTold numbers names b → shown ≡ name
    → how ≡ told_outcome numbers n b → after ≡ before ++ ended (ticket_line shown n how)
    → before ++ tickets_text b names ≡ whole
    → AreTold numbers rest b × (after ++ tickets_text b rest ≡ whole)
ticket-told numbers b name shown n names rest how before after whole split told same is added all =
    let first = subst (λ ps. AreTold numbers ps b) split told in (
      first.1,
      ap (λ t. t ++ tickets_text b rest) added
          ∙ append_assoc before (ended (ticket_line shown n how)) (tickets_text b rest)
          ∙ ap (λ x. before ++ (ended (ticket_line x n how) ++ tickets_text b rest)) same
          ∙ ap (λ h. before ++ (ended (ticket_line name n h) ++ tickets_text b rest))
          (is ∙ ap (λ t. cond t (outcome_of n b) None) first.0)
          ∙ ap (λ ps. before ++ tickets_text b ps) (sym split)
          ∙ all,
    )
