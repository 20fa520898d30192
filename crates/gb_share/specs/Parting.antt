-- The lines of a script by their requesters.
use Rattle.std.specs.Prelude.{◌≡◌, ◌≤◌, ◌<◌, ℕ, List, [], length, Some}
use Rattle.std.specs.List.{slice_get}
use Rattle.gb_base.specs.declared.parts.Asked.{Asked}
use Rattle.gb_desk.specs.Rules.{all_parts}
use Rattle.gb_share.specs.Lines.{AreValid}
use Rattle.gb_share.specs.Picks.{lines_by}
use Rattle.gb_share.specs.Requesters.{parts_for}
use Rattle.gb_share.specs.declared.requester.Requester.{Requester}

-- The first requesters of a script, from 0 on, which have run nothing.
abbrev pub AreFirst : List Asked → List Requester → Type 0
AreFirst asked xs = (n : ℕ) (x : Requester) → slice_get xs n ≡ Some x
    → (x.who ≡ n) × (x.lines ≡ lines_by n asked) × (x.full ≡ [])

-- The requesters of a script: those from 0 on, up to one behind which there are no lines.
pub record AreRequesters (asked : List Asked) (xs : List Requester) : Type 0 where
  pub first : AreFirst asked xs
  pub none : (r : ℕ) → length xs ≤ r → lines_by r asked ≡ []
  pub some : 0 < length xs
  pub few : length xs ≤ 256

-- Requesters that can be run: from 0 on, with valid lines and few enough, of which none was run.
pub record AreReadyToRun (xs : List Requester) : Type 0 where
  pub some : 0 < length xs
  pub who : (n : ℕ) (x : Requester) → slice_get xs n ≡ Some x → x.who ≡ n
  pub fresh : (n : ℕ) (x : Requester) → slice_get xs n ≡ Some x → x.full ≡ []
  pub valid : (n : ℕ) (x : Requester) → slice_get xs n ≡ Some x → AreValid x.lines
  pub few : parts_for xs < all_parts
