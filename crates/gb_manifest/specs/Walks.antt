-- Walks over bytes that are to be descriptors.
use Rattle.std.specs.Prelude.{◌≡◌, ◌<◌, ◌≤◌, ℕ, Option, Some, None, Result, Ok, Err, List, []}
use Rattle.std.specs.Prelude.{length, map}
use Rattle.gb_formats.specs.Descriptors.{size_at, least_size_at}
use Rattle.gb_formats.specs.Descriptors as formats
use Rattle.gb_formats.specs.Manifest.{descriptor_refusal, descriptors_from, in_front}
use Rattle.gb_formats.specs.ManifestRules as rules
use Rattle.gb_formats.specs.ManifestRules.{Placed}
use Rattle.gb_manifest.specs.Values.{descriptor_of, refused_of}
use Rattle.gb_manifest.specs.declared.descriptor.Descriptor.{Descriptor}
use Rattle.gb_manifest.specs.declared.refusal.Refused.{Refused}
use Rattle.gb_manifest.specs.declared.walk.Walk.{Walk}

-- the descriptors that the bytes from a place on are, or the refusal of the first that isn't one
unfoldable pub walk_from : ℕ → List ℕ → Result (List Placed) rules.Refused
walk_from at bytes = descriptors_from 0 at bytes

-- the descriptor at the front has this size, and nothing is wrong with it by itself
pub record FrontIs (at : ℕ) (bytes : List ℕ) (size : ℕ) : Type 0 where
  pub sound : descriptor_refusal at bytes ≡ None
  pub size_is : size ≡ size_at bytes
  pub eight : 8 ≤ size
  pub least : least_size_at bytes ≤ size
  pub within : size ≤ length bytes

-- By cases on the answer: the size of the descriptor at the front, or what it breaks by itself.
abbrev pub IsSized : ℕ → List ℕ → Result ℕ Refused → Type 0
IsSized at bytes (Ok size) = FrontIs at bytes size
IsSized at bytes (Err why) = descriptor_refusal at bytes ≡ Some (refused_of why)

-- a descriptor of the code, with its place
abbrev pub placed_of : ℕ × Descriptor → Placed
placed_of d = record { at = d.0; descriptor = descriptor_of d.1 }

-- what a walk has before it
abbrev pub walk_of : Walk → Result (List Placed) rules.Refused
walk_of w = walk_from w.at w.rest.now

-- a descriptor was passed
pub record Passes (old new : Walk) (d : ℕ × Descriptor) : Type 0 where
  pub passed : walk_of old ≡ in_front (placed_of d) (walk_of new)
  pub shorter : length new.rest.now < length old.rest.now

-- By cases on the answer: the size of the descriptor at the front, or the walk's refusal.
abbrev pub SizesNext : Walk → Result ℕ Refused → Type 0
SizesNext w (Ok size) = FrontIs w.at w.rest.now size
SizesNext w (Err why) = walk_of w ≡ Err (refused_of why)

-- By cases on the answer: the walk had this descriptor in front, or none.
abbrev pub GoesOn : Walk → Walk → Option (ℕ × Descriptor) → Type 0
GoesOn old new (Some d) = Passes old new d
GoesOn old new None = (walk_of old ≡ Ok []) × (new ≡ old)

-- the descriptors of a walk that meets no refusal
abbrev pub descriptors_in : Result (List Placed) rules.Refused → List formats.Descriptor
descriptors_in (Ok placed) = map (λ p. p.descriptor) placed
descriptors_in (Err why) = []
