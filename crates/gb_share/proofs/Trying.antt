-- An event that is tried until it gets the turn.
use Rattle.std.proofs.Common.{◌≡◌, ℕ, Result, Ok, Err, List, [], ◌∷◌, ◌++◌}
use Rattle.std.proofs.Common.{ap, ◌∙◌, subst, arith}
use Rattle.std.proofs.lemmas.List.{append-nil}
use Rattle.gb_base.specs.declared.entry.Entry.{Entry}
use Rattle.gb_base.specs.declared.event.Event.{Event}
use Rattle.gb_desk.specs.declared.desk_fault.DeskFault.{DeskFault}
use Rattle.gb_desk.specs.declared.desk_fault.DeskFault.TheVariants as fault
use Rattle.gb_desk.specs.declared.view.View.{View}
use Rattle.gb_share.proofs.Places.{longer_length}
use Rattle.gb_share.proofs.Teams.{longer_both}
use Rattle.gb_share.specs.Doing.{Adds, DoesAs, Stays, tagged}

-- behind nothing the same is done
pub stays_adds : (more : ℕ → List Event) (u v w : View) → Stays u v → Adds more v w → Adds more u w
stays_adds more u v w s a =
    let long = longer_length u.seen v.seen s.seen in record {
      seen = longer_both u.seen v.seen w.seen s.seen a.seen;
      low = λ n low. a.low n (omega arith) ∙ s.low n low;
      done = λ r. a.done r ∙ ap (λ l. l ++ more r) (s.done r ∙ append-nil _);
      first = a.first ∙ s.first;
      told = a.told ∙ s.told;
    }

pub stays_does : (u v : View) (by : ℕ) (e : Event) (answer : Result (List Entry) DeskFault)
    (w : View) → Stays u v → v.parts ≡ u.parts → DoesAs v by e answer w → DoesAs u by e answer w
stays_does u v by e (Ok entries) w s parts d = stays_adds (tagged by (e ∷ [])) u v w s d
stays_does u v by e (Err fault.Busy) w s parts d =
    (stays_adds (λ r. []) u v w s d.0, (λ all. d.1 (parts ∙ all)))
stays_does u v by e (Err fault.Full) w s parts d = (stays_adds (λ r. []) u v w s d.0, d.1, d.2)
stays_does u v by e (Err fault.JournalSpent) w s parts d = d
stays_does u v by e (Err fault.PassSpent) w s parts d = d
stays_does u v by e (Err (fault.Memory refused)) w s parts d = d

pub busy_stays : (u v : View) (by : ℕ) (e : Event) (answer : Result (List Entry) DeskFault)
    (w : View) → answer ≡ Err fault.Busy → Stays u v → v.parts ≡ u.parts
    → DoesAs v by e answer w → Stays u w
busy_stays u v by e answer w is s parts d =
    (subst (λ a. DoesAs u by e a w) is (stays_does u v by e answer w s parts d)).0
