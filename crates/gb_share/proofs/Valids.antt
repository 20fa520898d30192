-- The events of a history are valid where the lines of its requesters are.
use Rattle.std.proofs.Common.{◌≡◌, ℕ, zero, suc, Bool, true, false, List, [], ◌∷◌, ◌++◌, refl, sym}
use Rattle.std.proofs.Common.{subst}
use Rattle.std.specs.Prelude.{◌==◌, if◌then◌else◌}
use Rattle.gb_base.specs.declared.event.Event.{Event}
use Rattle.gb_base.specs.declared.journal.JournalEntry.{JournalEntry}
use Rattle.gb_base.specs.declared.parts.Asked.{Asked}
use Rattle.gb_machine.specs.Journal.{events_of}
use Rattle.gb_machine.specs.Runs as runs
use Rattle.gb_share.proofs.Growing.{own_events}
use Rattle.gb_share.specs.Doing.{events_by, one_if, tagged}
use Rattle.gb_share.specs.Lines.{AreValid, ran}
use Rattle.gb_share.specs.Requesters.{AllValid, ran_by, ran_of}
use Rattle.gb_share.specs.declared.requester.Requester.{Requester}

valid_both : (xs ys : List Event) → runs.AreValid xs → runs.AreValid ys → runs.AreValid (xs ++ ys)
valid_both [] ys one two = two
valid_both (x ∷ xs) ys one two = (one.0, valid_both xs ys one.1 two)

valid_back : (xs ys : List Event) → runs.AreValid (xs ++ ys) → runs.AreValid ys
valid_back [] ys all = all
valid_back (x ∷ xs) ys all = valid_back xs ys all.1

valid_ran : (ls : List Asked) (fs : List Bool) → AreValid ls → runs.AreValid (ran ls fs)
valid_ran [] fs valid = tt
valid_ran (l ∷ ls) [] valid = tt
valid_ran (l ∷ ls) (true ∷ fs) valid = valid_ran ls fs (λ n x at. valid (suc n) x at)
valid_ran (l ∷ ls) (false ∷ fs) valid =
    (valid zero l refl, valid_ran ls fs (λ n x at. valid (suc n) x at))

valid_by : (xs : List Requester) (r : ℕ) → AllValid xs → runs.AreValid (ran_by xs r)
valid_by [] r valid = tt
valid_by (x ∷ xs) r valid =
    valid_both (tagged x.who (ran_of x) r) (ran_by xs r)
    (go (x.who == r) (valid_ran x.lines x.full (valid zero x refl)))
    (valid_by xs r (λ n y at. valid (suc n) y at))
  where
    go : (b : Bool) → runs.AreValid (ran_of x) → runs.AreValid (if b then ran_of x else [])
    go true all = all
    go false all = tt

entries_valid : (es : List JournalEntry) → ((r : ℕ) → runs.AreValid (events_by r es))
    → runs.AreValid (events_of es)
entries_valid [] all = tt
entries_valid (e ∷ es) all = (
  (subst runs.AreValid (own_events e es) (all e.by)).0,
  entries_valid es (λ r. valid_back (one_if (e.by == r) e.event) (events_by r es) (all r)),
)

-- Each requester's events are those that it ran.
pub history_valid : (xs : List Requester) (journal : List JournalEntry) → AllValid xs
    → ((r : ℕ) → events_by r journal ≡ ran_by xs r) → runs.AreValid (events_of journal)
history_valid xs journal valid each =
    entries_valid journal (λ r. subst runs.AreValid (sym (each r)) (valid_by xs r valid))
