-- What a run with requesters leaves.
use Rattle.std.proofs.Common.{◌≡◌, ℕ}
use Rattle.std.proofs.Common.{List, [], ◌∷◌, ◌++◌, length, refl, sym, ap, ◌∙◌, arith, append_assoc}
use Rattle.std.proofs.lemmas.List.{append-nil, length-append}
use Rattle.std.specs.Prelude.{◌==◌}
use mathlib.Core.List.{IsPrefix}
use Rattle.gb_base.specs.declared.journal.JournalEntry.{JournalEntry}
use Rattle.gb_desk.specs.Calls.{Closes}
use Rattle.gb_desk.specs.declared.view.View.{View}
use Rattle.gb_share.proofs.Places.{all_from, longer_length, once_low, some_stands}
use Rattle.gb_share.proofs.Teams.{longer_both, ran_by_none, tagged_other}
use Rattle.gb_share.proofs.Views.{closed_done}
use Rattle.gb_share.specs.Doing.{IsWithin, done_by, events_by, one_if, tagged}
use Rattle.gb_share.specs.Requesters.{AreNumbered, HaveOpened, ran_by, ran_of}
use Rattle.gb_share.specs.Shares.{IsRunOf}
use Rattle.gb_share.specs.declared.requester.Requester.{Requester}
use Rattle.gb_system.specs.declared.system.System.{System}

pub events_append : (r : ℕ) (xs ys : List JournalEntry)
    → events_by r (xs ++ ys) ≡ events_by r xs ++ events_by r ys
events_append r [] ys = refl
events_append r (x ∷ xs) ys =
    ap (λ l. one_if (x.by == r) x.event ++ l) (events_append r xs ys)
    ∙ sym (append_assoc (one_if (x.by == r) x.event) (events_by r xs) (events_by r ys))

nothing_more : {A : Type 0} (xs ys : List A) → xs ++ ys ≡ xs → ys ≡ []
nothing_more xs [] same = refl
nothing_more xs (y ∷ ys) same =
    let long = ap (λ l. length l) same in absurd (omega (arith, length-append xs (y ∷ ys)))

-- requesters from one on
pub others_none : (xs : List Requester) → AreNumbered xs → ran_by xs 0 ≡ []
others_none xs numbered =
    ran_by_none xs 0 (λ n x at same. (let number = numbered n x at in omega arith))

-- Requester 0's events come first, and each requester's are in order.
pub run_of : (first : Requester) (others : List Requester) (v w : View) (system : System)
    (journal : List JournalEntry) → first.who ≡ 0 → AreNumbered others
    → ((r : ℕ) → done_by r v ≡ []) → IsWithin w → HaveOpened first others v w
    → Closes w system journal → IsRunOf (first ∷ others) journal
run_of first others v w system journal who numbered none within opened closes = record {
  opening = u.seen;
  threads = begins.0;
  journal_is = sym begins.1;
  opens = λ r some. sym (seen_all r) ∙ (did r
      ∙ tagged_other 0 r (ran_of first) (λ same. omega arith));
  follow = nothing_more (events_by 0 u.seen) (events_by 0 begins.0)
      (sym (events_append 0 u.seen begins.0)
      ∙ (ap (λ es. events_by 0 es) begins.1
      ∙ (sym (closed_done w system journal within closes 0)
      ∙ (opened.later.adds.done 0
      ∙ (ap (λ l. done_by 0 u ++ l) (others_none others numbered)
      ∙ (append-nil (done_by 0 u) ∙ seen_all 0))))));
  each = λ r. sym (closed_done w system journal within closes r)
      ∙ (opened.later.adds.done r
      ∙ (ap (λ l. l ++ ran_by others r) (did r)
      ∙ ap (λ n. tagged n (ran_of first) r ++ ran_by others r) (sym who)));
}
  where
    u : View
    u = opened.middle

    begins : IsPrefix opened.middle.seen journal
    begins = longer_both opened.middle.seen w.seen journal opened.later.adds.seen closes.seen

    did : (r : ℕ) → done_by r opened.middle ≡ tagged 0 (ran_of first) r
    did r = opened.opening.done r ∙ ap (λ l. l ++ tagged 0 (ran_of first) r) (none r)

    seen_all : (r : ℕ) → done_by r opened.middle ≡ events_by r opened.middle.seen
    seen_all r = all_from r opened.middle.mine 0 opened.middle.seen (length opened.middle.seen)
        (omega arith) (λ m low.
        sym (opened.later.adds.low m low)
        ∙ (let long = longer_length opened.middle.seen journal
        (longer_both opened.middle.seen w.seen journal opened.later.adds.seen closes.seen) in
        let once = once_low m (length journal) (omega arith) in
        let is = closes.places m in
        some_stands m w.mine (omega arith)))
