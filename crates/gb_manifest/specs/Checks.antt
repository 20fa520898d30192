-- What checking bytes answers.
use Rattle.std.specs.Prelude.{◌≡◌, ◌≤◌, ℕ, Some, None, Result, Ok, Err, List, length}
use Rattle.gb_formats.specs.Manifest as formats
use Rattle.gb_formats.specs.Manifest.{header_refusal, refusal}
use Rattle.gb_formats.specs.ManifestRules as rules
use Rattle.gb_formats.specs.ManifestRules.{Placed}
use Rattle.gb_manifest.specs.Met.{AreDeclared}
use Rattle.gb_manifest.specs.Values.{refused_of}
use Rattle.gb_manifest.specs.declared.declared.Declared.{Declared}
use Rattle.gb_manifest.specs.declared.refusal.Refused.{Refused}

-- the answer is the same, as the code has it
abbrev pub Answers : Result formats.Manifest Refused → Result formats.Manifest rules.Refused
    → Type 0
Answers (Ok m) answer = answer ≡ Ok m
Answers (Err why) answer = answer ≡ Err (refused_of why)

-- A check of the bytes accepts them as a manifest.
abbrev pub IsAccepted : List ℕ → Type 0
IsAccepted bytes = refusal bytes ≡ None

-- nothing is wrong with the header, which has this size
pub record HeaderIs (bytes : List ℕ) (size : ℕ) : Type 0 where
  pub sound : header_refusal bytes ≡ None
  pub size_is : size ≡ length bytes
  pub four : 4 ≤ size

-- By cases on the answer: the size in the header, or what the header breaks.
abbrev pub IsHeader : List ℕ → Result ℕ Refused → Type 0
IsHeader bytes (Ok size) = HeaderIs bytes size
IsHeader bytes (Err why) = header_refusal bytes ≡ Some (refused_of why)

-- the walk meets no refusal, and this is what its descriptors declare
pub record Declares (walk : Result (List Placed) rules.Refused) (x : Declared) : Type 0 where
  pub all : List Placed
  pub whole : walk ≡ Ok all
  pub declared_are : AreDeclared x all

-- By cases on the answer: what the walk's descriptors declare, or the walk's refusal.
abbrev pub Gathers : Result (List Placed) rules.Refused → Declared → Result Unit Refused → Type 0
Gathers walk x (Ok done) = Declares walk x
Gathers walk x (Err why) = walk ≡ Err (refused_of why)
