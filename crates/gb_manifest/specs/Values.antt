-- What the values of the code stand for.
use Rattle.std.specs.Prelude.{◌≡◌, ℕ, if◌then◌else◌, Option, Some, None}
use Rattle.gb_formats.specs.Descriptors as formats
use Rattle.gb_formats.specs.Manifest as manifest
use Rattle.gb_formats.specs.ManifestRules as rules
use Rattle.gb_manifest.specs.declared.descriptor.Descriptor.{Descriptor}
use Rattle.gb_manifest.specs.declared.descriptor.Descriptor.TheVariants as code
use Rattle.gb_manifest.specs.declared.manifest.CportView.{CportView}
use Rattle.gb_manifest.specs.declared.refusal.Refused.{Refused}

abbrev pub descriptor_of : Descriptor → formats.Descriptor
descriptor_of (code.Interface vendor product features) =
    formats.Descriptor.Interface vendor product features
descriptor_of (code.Words id bytes) = formats.Descriptor.Words id bytes.now
descriptor_of (code.Bundle id class) = formats.Descriptor.Bundle id class
descriptor_of (code.Cport id bundle protocol) = formats.Descriptor.Cport id bundle protocol

abbrev pub refused_of : Refused → rules.Refused
refused_of r = record { at = r.at; reason = r.reason }

abbrev pub view_of : CportView → manifest.CportView
view_of v = record { bundle = v.bundle; protocol = v.protocol }

-- what a descriptor says of the CPort with this id
abbrev pub SaysOfCport : ℕ → formats.Descriptor → Option manifest.CportView → Type 0
SaysOfCport id d said =
    said ≡ (if rules.is_cport id d then Some (manifest.cport_view d) else None)
