-- What is left at the end of a desk that requesters shared.
use Rattle.std.proofs.Common.{◌≡◌, ℕ, zero, suc, false, Some, List, ◌∷◌, ap, ◌∙◌, subst}
use Rattle.std.specs.List.{slice_get}
use Rattle.gb_base.specs.declared.journal.JournalEntry.{JournalEntry}
use Rattle.gb_desk.specs.Calls.{Closes, first_view}
use Rattle.gb_desk.specs.declared.view.View.{View}
use Rattle.gb_machine.specs.State.{first_state}
use Rattle.gb_share.proofs.AloneEnds.{closed_exact}
use Rattle.gb_share.proofs.Ends.{others_none, run_of}
use Rattle.gb_share.proofs.BehindFull.{late_closed, others_marked}
use Rattle.gb_share.proofs.Valids.{history_valid}
use Rattle.gb_share.specs.Alone.{IsExact}
use Rattle.gb_share.specs.Doing.{IsWithin, done_by}
use Rattle.gb_share.specs.Fulls.{AreExact}
use Rattle.gb_share.specs.Placing.{marked}
use Rattle.gb_share.specs.Requesters.{AllValid, AreLateFrom, AreNumbered, AreWhole, HaveOpened}
use Rattle.gb_share.specs.Requesters.{IsMarked, ran_by}
use Rattle.gb_share.specs.Shares.{IsRunOf, IsShared}
use Rattle.gb_share.specs.declared.requester.Requester.{Requester}
use Rattle.gb_system.specs.Stands.{Stands}
use Rattle.gb_system.specs.declared.system.System.{System}

pub shared_end : (first : Requester) (others : List Requester) (v w : View) (x system : System)
    (journal : List JournalEntry) → first.who ≡ 0 → AreNumbered others → v ≡ first_view x
    → Stands x first_state → IsWithin w → HaveOpened first others v w → Closes w system journal
    → AreWhole (first ∷ others) → AllValid (first ∷ others) → IsExact first w
    → IsShared (first ∷ others) system journal
shared_end first others v w x system journal who numbered is stands within opened closes whole valid
    exact =
    let began : w.first ≡ Some x =
    opened.later.adds.first ∙ (opened.opening.first ∙ ap (λ u. u.first) is) in
    let untold : w.told ≡ false =
    opened.later.adds.told ∙ (opened.opening.told ∙ ap (λ u. u.told) is) in record {
      legal = closes.legal x began first_state stands;
      stands = closes.stands untold x began first_state stands;
      whole = whole;
      run = run;
      late = λ n y k at is_some.
          late_closed w system x journal y.who k closes began stands
          (history_valid (first ∷ others) journal valid run.each)
          (closes.legal x began first_state stands)
          (subst (λ o. AreLateFrom y.who o w) is_some (all_marked n y at).late);
      exact = λ y at.
          subst (λ (r : Requester). AreExact (marked r.lines r.full))
          (let same : first ≡ y = cc in same)
          (closed_exact first x system w journal exact began stands closes);
    }
  where
    run : IsRunOf (first ∷ others) journal
    run = run_of first others v w system journal who numbered (λ r. ap (λ u. done_by r u) is)
        within opened closes

    all_marked : (n : ℕ) (y : Requester) → slice_get (first ∷ others) n ≡ Some y → IsMarked y w
    all_marked zero y at =
        let same : first ≡ y = cc in
        subst (λ z. IsMarked z w) same
        (others_marked (ran_by others) opened.middle w first opened.later.adds
        (ap (λ r. ran_by others r) who ∙ others_none others numbered) opened.marked)
    all_marked (suc n) y at = opened.later.marked n y at
