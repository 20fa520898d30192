-- A history with one event more.
use Rattle.std.proofs.Common.{◌≡◌, List, [], ◌∷◌, ◌++◌, refl, sym, ap, subst}
use Rattle.gb_base.specs.declared.journal.JournalEntry.{JournalEntry}
use Rattle.gb_machine.specs.Events.{step}
use Rattle.gb_machine.specs.Journal.{IsLegal, after, events_of}
use Rattle.gb_machine.specs.State.{State}

-- the state after it
pub after_more : (s : State) (es : List JournalEntry) (e : JournalEntry)
    → after s (events_of (es ++ e ∷ [])) ≡ (step (after s (events_of es)) e.event).state
after_more s [] e = refl
after_more s (x ∷ es) e = after_more (step s x.event).state es e

-- it is legal where the event was answered as the machine steps it
pub legal_more : (s t : State) (es : List JournalEntry) (e : JournalEntry) → IsLegal s es t
    → e.entries ≡ (step t e.event).entries
    → IsLegal s (es ++ e ∷ []) (step t e.event).state
legal_more s t [] e is told = (
  subst (λ x. e.entries ≡ (step x e.event).entries) (sym is) told,
  ap (λ x. (step x e.event).state) is,
)
legal_more s t (x ∷ es) e is told = (is.0, legal_more (step s x.event).state t es e is.1 told)
