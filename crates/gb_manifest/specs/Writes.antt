-- What writing a spec answers.
use Rattle.std.specs.Prelude.{◌≡◌, ◌<◌, ◌≤◌, ℕ, ⊤, Option, Some, None, Result, Ok, Err, List, []}
use Rattle.std.specs.Prelude.{◌∷◌, ◌++◌, length, map}
use Rattle.gb_formats.specs.Descriptors as descriptors
use Rattle.gb_formats.specs.Descriptors.{IdFits}
use Rattle.gb_formats.specs.Manifest as manifest
use Rattle.gb_formats.specs.ManifestRules.{Placed}
use Rattle.gb_formats.specs.ManifestSpec as formats
use Rattle.gb_formats.specs.ManifestSpec.{string_descriptor, bundle_descriptor, cport_descriptor}
use Rattle.gb_formats.specs.ManifestSpec.{plain_size, spec_descriptors}
use Rattle.gb_manifest.specs.Declarations.{place}
use Rattle.gb_manifest.specs.Values.{descriptor_of}
use Rattle.gb_manifest.specs.declared.descriptor.Descriptor.{Descriptor}
use Rattle.gb_manifest.specs.declared.listed.Listed.{Listed}
use Rattle.gb_manifest.specs.declared.spec.BundleSpec.{BundleSpec}
use Rattle.gb_manifest.specs.declared.spec.CportSpec.{CportSpec}
use Rattle.gb_manifest.specs.declared.spec.ManifestSpec.{ManifestSpec}
use Rattle.gb_manifest.specs.declared.spec.StringSpec.{StringSpec}
use Rattle.gb_manifest.specs.declared.writing.WriteFault.{WriteFault}
use Rattle.gb_manifest.specs.declared.writing.WriteFault.TheVariants as fault

-- ---- specs

abbrev pub string_spec : StringSpec → formats.StringSpec
string_spec s = record { id = s.id; bytes = s.bytes }

abbrev pub bundle_spec : BundleSpec → formats.BundleSpec
bundle_spec b = record { id = b.id; class = b.class }

abbrev pub cport_spec : CportSpec → formats.CportSpec
cport_spec c = record { id = c.id; bundle = c.bundle; protocol = c.protocol }

-- the spec that a value of the code stands for
abbrev pub spec_of : ManifestSpec → formats.ManifestSpec
spec_of s = record {
  minor = s.minor;
  vendor = s.vendor;
  product = s.product;
  features = s.features;
  strings = map string_spec s.strings;
  bundles = map bundle_spec s.bundles;
  cports = map cport_spec s.cports;
}

-- the manifest of a spec, with this size
abbrev pub written : formats.ManifestSpec → ℕ → manifest.Manifest
written spec size =
    record { minor = spec.minor; size = size; descriptors = spec_descriptors spec }

-- ---- the descriptors of a spec

-- the interface's descriptor, where it is left
abbrev pub interface_left : Option (ℕ × ℕ × ℕ) → List descriptors.Descriptor
interface_left None = []
interface_left (Some i) = descriptors.Descriptor.Interface i.0 i.1 i.2 ∷ []

-- what is left of a spec
abbrev pub listed_of : Listed → List descriptors.Descriptor
listed_of l =
    interface_left l.interface
    ++ (map string_descriptor (map string_spec l.strings.now)
    ++ (map bundle_descriptor (map bundle_spec l.bundles.now)
    ++ map cport_descriptor (map cport_spec l.cports.now)))

-- a descriptor is taken from the front
pub record TakesFirst (old new : List descriptors.Descriptor) (d : Descriptor) : Type 0 where
  pub first : old ≡ descriptor_of d ∷ new
  pub fits : IdFits (descriptor_of d)

-- By cases on the answer: the first descriptor, or none is left.
abbrev pub Takes : List descriptors.Descriptor → List descriptors.Descriptor → Option Descriptor
    → Type 0
Takes old new (Some d) = TakesFirst old new d
Takes old new None = old ≡ []

-- descriptors without their places
abbrev pub unplaced : List descriptors.Descriptor → List Placed
unplaced ds = map (place 0) ds

-- the ids of all CPorts fit in their two bytes
abbrev pub AllFit : List descriptors.Descriptor → Type 0
AllFit [] = ⊤
AllFit (d ∷ ds) = IdFits d × AllFit ds

-- a string's length fits in its byte
abbrev pub IsShort : descriptors.Descriptor → Type 0
IsShort (descriptors.Descriptor.Words id bytes) = length bytes ≤ 255
IsShort _ = ⊤

-- ---- answers

-- the size of a spec's manifest, which can have it
pub record HasSize (spec : formats.ManifestSpec) (size : ℕ) : Type 0 where
  pub size_is : size ≡ plain_size spec
  pub within : size ≤ 65535
  pub fit : AllFit (spec_descriptors spec)

-- By cases on the answer: the size, or it is too great.
abbrev pub IsSizeOf : formats.ManifestSpec → Option ℕ → Type 0
IsSizeOf spec (Some size) = HasSize spec size
IsSizeOf spec None = 65535 < plain_size spec

-- By cases on the answer: it is the same, as the code has it. After want of memory nothing is said.
abbrev pub WritesBut : WriteFault → Result (List ℕ) formats.WriteFault → Type 0
WritesBut (fault.StringLong id) answer = answer ≡ Err (formats.WriteFault.StringLong id)
WritesBut (fault.Rule reason) answer = answer ≡ Err (formats.WriteFault.Rule reason)
WritesBut fault.TooLong answer = answer ≡ Err formats.WriteFault.TooLong
WritesBut (fault.Memory refused) answer = ⊤

abbrev pub Writes : Result (List ℕ) WriteFault → Result (List ℕ) formats.WriteFault → Type 0
Writes (Ok bytes) answer = answer ≡ Ok bytes
Writes (Err why) answer = WritesBut why answer
