-- Manifests that are written from a spec, with least sizes and zero pads.
use Rattle.std.specs.Prelude.{ℕ, ◌+◌, nat_lt, if◌then◌else◌, Option, Some, None, Result, Ok, Err}
use Rattle.std.specs.Prelude.{List, [], ◌∷◌, ◌++◌, map, length}
use Rattle.std.specs.List.{concat}
use Rattle.gb_base.specs.declared.reasons.Reason.{Reason}
use Rattle.gb_formats.specs.Bytes.{le16}
use Rattle.gb_formats.specs.Descriptors.{Descriptor, least_size, plain_descriptor}
use Rattle.gb_formats.specs.ManifestRules.{Placed, Refused, written_rules, first_of}

-- a string: its id and its bytes
pub record StringSpec : Type 0 where
  pub id : ℕ
  pub bytes : List ℕ

-- a bundle: its id and its class
pub record BundleSpec : Type 0 where
  pub id : ℕ
  pub class : ℕ

-- a CPort: its id, bundle and protocol
pub record CportSpec : Type 0 where
  pub id : ℕ
  pub bundle : ℕ
  pub protocol : ℕ

-- What a manifest is to have: version 0.minor, an interface, strings, bundles and CPorts.
pub record ManifestSpec : Type 0 where
  pub minor : ℕ
  pub vendor : ℕ
  pub product : ℕ
  pub features : ℕ
  pub strings : List StringSpec
  pub bundles : List BundleSpec
  pub cports : List CportSpec

-- the descriptor of a string
abbrev pub string_descriptor : StringSpec → Descriptor
string_descriptor s = Descriptor.Words s.id s.bytes

-- the descriptor of a bundle
abbrev pub bundle_descriptor : BundleSpec → Descriptor
bundle_descriptor b = Descriptor.Bundle b.id b.class

-- the descriptor of a CPort
abbrev pub cport_descriptor : CportSpec → Descriptor
cport_descriptor c = Descriptor.Cport c.id c.bundle c.protocol

-- the descriptors of a spec: the interface, then strings, bundles and CPorts in order
abbrev pub spec_descriptors : ManifestSpec → List Descriptor
spec_descriptors spec =
    Descriptor.Interface spec.vendor spec.product spec.features
    ∷ map string_descriptor spec.strings ++ (map bundle_descriptor spec.bundles
    ++ map cport_descriptor spec.cports)

-- descriptors in a row from this place on, each with its least size
abbrev pub placed_from : ℕ → List Descriptor → List Placed
placed_from at [] = []
placed_from at (d ∷ ds) = record { at = at; descriptor = d } ∷ placed_from (at + least_size d) ds

-- the bytes of a spec's descriptors
abbrev pub plain_body : ManifestSpec → List ℕ
plain_body spec = concat (map plain_descriptor (spec_descriptors spec))

-- the size of a spec's manifest
abbrev pub plain_size : ManifestSpec → ℕ
plain_size spec = 4 + length (plain_body spec)

-- The plain manifest of a spec: version 0.minor, its descriptors with least sizes and zero pads.
abbrev pub plain : ManifestSpec → List ℕ
plain spec = le16 (plain_size spec) ++ (0 ∷ spec.minor ∷ plain_body spec)

-- Why no manifest is written: a string has more than 255 bytes, the bytes would break a rule, or
-- the size is above 65,535.
pub data WriteFault : Type 0 where
  StringLong : ℕ → WriteFault
  Rule : Reason → WriteFault
  TooLong : WriteFault

-- the id of the first string that is too long
abbrev pub long_string : List StringSpec → Option ℕ
long_string [] = None
long_string (s ∷ ss) =
    let later = long_string ss in if nat_lt 255 (length s.bytes) then Some s.id else later

-- what is written where no rule is broken
abbrev pub write_sized : ManifestSpec → Result (List ℕ) WriteFault
write_sized spec = if nat_lt 65535 (plain_size spec) then Err TooLong else Ok (plain spec)

-- what is written where no string is too long
abbrev pub write_unless_broken : Option Refused → ManifestSpec → Result (List ℕ) WriteFault
write_unless_broken None spec = write_sized spec
write_unless_broken (Some why) spec = Err (Rule why.reason)

-- what is written, unless a string is too long
abbrev pub write_unless_long : Option ℕ → ManifestSpec → Result (List ℕ) WriteFault
write_unless_long None spec =
    write_unless_broken (first_of (written_rules (placed_from 4 (spec_descriptors spec)))) spec
write_unless_long (Some id) spec = Err (StringLong id)

-- What writing a spec answers.
abbrev pub write_answer : ManifestSpec → Result (List ℕ) WriteFault
write_answer spec = write_unless_long (long_string spec.strings) spec
