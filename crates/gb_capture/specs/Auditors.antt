-- The lines of a capture that an auditor has taken.
use Rattle.std.specs.Prelude.{◌≡◌, ℕ, None, Result, Ok, Err, ⊤, List, [], ◌∷◌, ◌++◌}
use Rattle.std.specs.Prelude.{length, reverse, is_some, true}
use Rattle.std.specs.String.{string_bytes}
use Rattle.gb_base.specs.declared.errors.OutOfMemory.{OutOfMemory}
use Rattle.gb_capture.specs.Audits.{Stands}
use Rattle.gb_capture.specs.declared.auditor.Auditor.{Auditor}
use Rattle.gb_capture.specs.declared.auditor.Turn.{Turn}
use Rattle.gb_capture.specs.declared.auditor.Turn.TheVariants as turn
use Rattle.gb_formats.specs.AuditTexts.{audited}
use Rattle.gb_formats.specs.Captures.{first_bad, heard}

-- what is written of the line that was taken last
abbrev pub written : Auditor → List ℕ
written x = string_bytes x.text

-- how many lines were taken
abbrev pub number_of : Auditor → ℕ
number_of x = x.number

-- These lines were taken, and none is bad.
pub record HasTaken (x : Auditor) (given : List (List ℕ)) : Type 0 where
  pub stands : Stands x.audit (reverse (heard given))
  pub number : number_of x ≡ length given
  pub good : first_bad given ≡ None

-- A line was taken: behind the earlier lines this is written of it, whatever lines follow.
pub record GoesOn (x : Auditor) (given : List (List ℕ)) (line : List ℕ) : Type 0 where
  pub taken : HasTaken x (given ++ line ∷ [])
  pub text : audited (given ++ line ∷ []) ≡ audited given ++ written x

-- A line is bad: this is written behind the earlier lines, and nothing of the lines that follow.
pub record Ends (x : Auditor) (given : List (List ℕ)) (line : List ℕ) : Type 0 where
  pub text : (later : List (List ℕ)) → audited (given ++ line ∷ later) ≡ audited given ++ written x
  pub bad : (later : List (List ℕ)) → is_some (first_bad (given ++ line ∷ later)) ≡ true

-- By cases on the answer. After want of memory nothing is said.
abbrev pub TurnsAs : Auditor → List (List ℕ) → List ℕ → Result Turn OutOfMemory → Type 0
TurnsAs x given line (Ok turn.Next) = GoesOn x given line
TurnsAs x given line (Ok turn.Refused) = Ends x given line
TurnsAs x given line (Err refused) = ⊤
