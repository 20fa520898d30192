-- What a run with requesters leaves.
use Rattle.std.specs.Prelude.{◌≡◌, ◌<◌, ◌≤◌, ℕ, Bool, List, [], ◌++◌, length, Some}
use Rattle.std.specs.List.{slice_get}
use mathlib.Core.List.{IsPrefix}
use Rattle.gb_base.specs.declared.journal.JournalEntry.{JournalEntry}
use Rattle.gb_base.specs.declared.parts.Asked.{Asked}
use Rattle.gb_machine.specs.Journal.{IsLegal, after, events_of}
use Rattle.gb_machine.specs.Shared.{IsTold}
use Rattle.gb_machine.specs.State.{first_state}
use Rattle.gb_share.specs.Doing.{events_by}
use Rattle.gb_share.specs.Fulls.{AreExact, AskMost}
use Rattle.gb_share.specs.Lines.{before_full}
use Rattle.gb_share.specs.Parting.{AreRequesters}
use Rattle.gb_share.specs.Placing.{marked}
use Rattle.gb_share.specs.Requesters.{AreSame, AreWhole, ran_by}
use Rattle.gb_share.specs.declared.requester.Requester.{Requester}
use Rattle.gb_system.specs.Stands.{Stands}
use Rattle.gb_system.specs.declared.system.System.{System}

-- The events of a history with a tag are those that this requester has run, in order. Requester 0's
-- come first.
pub record IsRunOf (xs : List Requester) (journal : List JournalEntry) : Type 0 where
  pub opening : List JournalEntry
  pub threads : List JournalEntry
  pub journal_is : journal ≡ opening ++ threads
  pub opens : (r : ℕ) → 0 < r → events_by r opening ≡ []
  pub follow : events_by 0 threads ≡ []
  pub each : (r : ℕ) → events_by r journal ≡ ran_by xs r

-- Some beginning of a history asks as many requests as there is room for, and has k events at most
-- with this tag.
pub record AreLate (r k : ℕ) (journal : List JournalEntry) : Type 0 where
  pub early : List JournalEntry
  pub begins : IsPrefix early journal
  pub enough : AskMost (events_of early)
  pub few : length (events_by r early) ≤ k

-- The history is that of the machine from its first state, and the system stands for the state
-- after it. Each requester has run all its lines: those that found a slot are the events of the
-- history with its tag. Where one didn't, those behind it came late; and of requester 0 exactly
-- those didn't that ask a request where there is no room.
pub record IsShared (xs : List Requester) (system : System) (journal : List JournalEntry)
    : Type 0 where
  pub legal : IsLegal first_state journal (after first_state (events_of journal))
  pub stands : Stands system (after first_state (events_of journal))
  pub whole : AreWhole xs
  pub run : IsRunOf xs journal
  pub late : (n : ℕ) (x : Requester) (k : ℕ) → slice_get xs n ≡ Some x
      → before_full x.full ≡ Some k → AreLate x.who k journal
  pub exact : (x : Requester) → slice_get xs 0 ≡ Some x → AreExact (marked x.lines x.full)

-- The requesters of a script's lines were run.
pub record WereRun (asked : List Asked) (xs : List Requester) (system : System)
    (journal : List JournalEntry) : Type 0 where
  pub fresh : List Requester
  pub are : AreRequesters asked fresh
  pub same : AreSame fresh xs
  pub shared : IsShared xs system journal

-- A text is what is written of the lines of these requesters, whichever script they are of.
abbrev pub Tells : Bool → List Requester → System → List JournalEntry → List ℕ → Type 0
Tells hex xs system journal written = (asked : List Asked) → WereRun asked xs system journal
    → IsTold hex asked written
