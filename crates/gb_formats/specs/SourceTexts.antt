-- The text that a manifest is written back as, and what the program says of a text.
use Rattle.std.specs.Prelude.{ℕ, ◌==◌, ◌&&◌, not, Bool, if◌then◌else◌, Option, Some, Result}
use Rattle.std.specs.Prelude.{Ok, Err, List, [], ◌∷◌, ◌++◌, find, codes}
use Rattle.std.specs.List.{flat_map}
use Rattle.std.specs.Fmt.{decimal}
use Rattle.gb_base.specs.declared.reasons.MnfsReason.{MnfsReason}
use Rattle.gb_base.specs.declared.reasons.MnfsReason.TheVariants as mnfs
use Rattle.gb_base.specs.declared.status.Status.{Status}
use Rattle.gb_base.specs.declared.status.Status.TheVariants as status
use Rattle.gb_formats.specs.Bytes.{byte_text, joined}
use Rattle.gb_formats.specs.Descriptors.{Descriptor}
use Rattle.gb_formats.specs.Dump.{refused_text}
use Rattle.gb_formats.specs.Manifest.{Manifest}
use Rattle.gb_formats.specs.ManifestRules.{Refused, is_interface}
use Rattle.gb_formats.specs.ManifestSpec.{ManifestSpec, StringSpec, BundleSpec, CportSpec}
use Rattle.gb_formats.specs.ManifestSpec.{WriteFault}
use Rattle.gb_formats.specs.Reasons.{reason_text}
use Rattle.gb_formats.specs.Script.{is_printable}
use Rattle.gb_formats.specs.Source.{SourceFault}
use Rattle.gb_formats.specs.Texts.{ended}

-- ---- the spec of a manifest

-- the string of a descriptor
abbrev pub string_in : Descriptor → List StringSpec
string_in (Descriptor.Words id bytes) = record { id = id; bytes = bytes } ∷ []
string_in _ = []

-- the bundle of a descriptor
abbrev pub bundle_in : Descriptor → List BundleSpec
bundle_in (Descriptor.Bundle id class) = record { id = id; class = class } ∷ []
bundle_in _ = []

-- the CPort of a descriptor
abbrev pub cport_in : Descriptor → List CportSpec
cport_in (Descriptor.Cport id bundle protocol) =
    record { id = id; bundle = bundle; protocol = protocol } ∷ []
cport_in _ = []

-- the vendor's string of an interface
abbrev pub vendor_of : Option Descriptor → ℕ
vendor_of (Some (Descriptor.Interface vendor product features)) = vendor
vendor_of _ = 0

-- the product's string of an interface
abbrev pub product_of : Option Descriptor → ℕ
product_of (Some (Descriptor.Interface vendor product features)) = product
product_of _ = 0

-- the features of an interface
abbrev pub features_of : Option Descriptor → ℕ
features_of (Some (Descriptor.Interface vendor product features)) = features
features_of _ = 0

-- The spec of a manifest: its minor version, its interface, and its strings, bundles and CPorts,
-- each in its order.
abbrev pub manifest_spec : Manifest → ManifestSpec
manifest_spec m = record {
  minor = m.minor;
  vendor = vendor_of (find is_interface m.descriptors);
  product = product_of (find is_interface m.descriptors);
  features = features_of (find is_interface m.descriptors);
  strings = flat_map string_in m.descriptors;
  bundles = flat_map bundle_in m.descriptors;
  cports = flat_map cport_in m.descriptors;
}

-- ---- the lines of a spec

-- `KEY = VALUE`
abbrev pub pair_line : List ℕ → List ℕ → List ℕ
pair_line key value = joined (key ∷ codes " = " ∷ value ∷ [])

-- `[NAME N]`
abbrev pub numbered_line : List ℕ → ℕ → List ℕ
numbered_line name n = joined (codes "[" ∷ name ∷ codes " " ∷ decimal n ∷ codes "]" ∷ [])

-- a number of one byte as `0x` and two hex digits
abbrev pub hex_value : ℕ → List ℕ
hex_value n = codes "0x" ++ byte_text n

-- a byte of a string that stands as it is: 20 to 7e other than the backslash
abbrev pub is_plain_byte : ℕ → Bool
is_plain_byte b = is_printable b && not (b == 92)

-- a byte of a string as `\xNN`
abbrev pub escaped_byte : ℕ → List ℕ
escaped_byte b = codes "\\x" ++ byte_text b

-- a byte inside a string: as it is, `\\`, or `\xNN`
abbrev pub inner_byte : ℕ → List ℕ
inner_byte b =
    if is_plain_byte b then b ∷ [] else if b == 92 then codes "\\\\" else escaped_byte b

-- the first or last byte of a string: a space isn't as it is
abbrev pub end_byte : ℕ → List ℕ
end_byte b = if b == 32 then escaped_byte b else inner_byte b

-- the bytes behind the first one
abbrev pub later_bytes : List ℕ → List ℕ
later_bytes [] = []
later_bytes (b ∷ []) = end_byte b
later_bytes (b ∷ c ∷ bs) = inner_byte b ++ later_bytes (c ∷ bs)

-- The text of a string.
abbrev pub string_value : List ℕ → List ℕ
string_value [] = []
string_value (b ∷ bs) = end_byte b ++ later_bytes bs

-- the header's section
abbrev pub header_lines : ℕ → List (List ℕ)
header_lines minor =
    codes "[manifest-header]"
    ∷ pair_line (codes "version-major") (codes "0")
    ∷ pair_line (codes "version-minor") (decimal minor)
    ∷ []

-- the interface's section
abbrev pub interface_lines : ℕ → ℕ → ℕ → List (List ℕ)
interface_lines vendor product features =
    codes "[interface-descriptor]"
    ∷ pair_line (codes "vendor-string-id") (decimal vendor)
    ∷ pair_line (codes "product-string-id") (decimal product)
    ∷ pair_line (codes "features") (decimal features)
    ∷ []

-- a string's section, behind an empty line
abbrev pub string_lines : StringSpec → List (List ℕ)
string_lines s =
    [] ∷ numbered_line (codes "string-descriptor") s.id
    ∷ pair_line (codes "string") (string_value s.bytes)
    ∷ []

-- a bundle's section, behind an empty line
abbrev pub bundle_lines : BundleSpec → List (List ℕ)
bundle_lines b =
    [] ∷ numbered_line (codes "bundle-descriptor") b.id
    ∷ pair_line (codes "class") (hex_value b.class)
    ∷ []

-- a CPort's section, behind an empty line
abbrev pub cport_lines : CportSpec → List (List ℕ)
cport_lines c =
    [] ∷ numbered_line (codes "cport-descriptor") c.id
    ∷ pair_line (codes "bundle") (decimal c.bundle)
    ∷ pair_line (codes "protocol") (hex_value c.protocol)
    ∷ []

-- The lines of a spec: the header, the interface, then strings, bundles and CPorts in order, with
-- an empty line between sections.
abbrev pub source_lines : ManifestSpec → List (List ℕ)
source_lines spec =
    header_lines spec.minor
    ++ ([] ∷ interface_lines spec.vendor spec.product spec.features
    ++ (flat_map string_lines spec.strings ++ (flat_map bundle_lines spec.bundles
    ++ flat_map cport_lines spec.cports)))

-- lines, each with its end
abbrev pub lines_text : List (List ℕ) → List ℕ
lines_text all = flat_map ended all

-- The text of a spec, which is a source of it.
abbrev pub source_text : ManifestSpec → List ℕ
source_text spec = lines_text (source_lines spec)

-- ---- what the program writes, and how it ends

-- why a line is refused
abbrev pub mnfs_reason_text : MnfsReason → List ℕ
mnfs_reason_text mnfs.NotALine = codes "not a line"
mnfs_reason_text mnfs.NotHere = codes "not here"
mnfs_reason_text mnfs.Twice = codes "twice"
mnfs_reason_text mnfs.BadValue = codes "bad value"
mnfs_reason_text mnfs.Missing = codes "missing"

-- why no manifest is written
abbrev pub write_fault_text : WriteFault → List ℕ
write_fault_text (WriteFault.StringLong id) =
    joined (codes "string " ∷ decimal id ∷ codes " too long" ∷ [])
write_fault_text (WriteFault.Rule reason) = joined (codes "refused " ∷ reason_text reason ∷ [])
write_fault_text WriteFault.TooLong = codes "manifest too long"

-- why no manifest is made of a text, without the line's end
abbrev pub source_fault_text : SourceFault → List ℕ
source_fault_text (SourceFault.Line line reason) =
    joined (codes "line " ∷ decimal line ∷ codes ": " ∷ mnfs_reason_text reason ∷ [])
source_fault_text (SourceFault.Write why) = write_fault_text why

-- What `compile` writes: the manifest of a text, or the line of its refusal.
abbrev pub compile_text : Result (List ℕ) SourceFault → List ℕ
compile_text (Ok bytes) = bytes
compile_text (Err why) = ended (source_fault_text why)

-- How `compile` ends.
abbrev pub compile_verdict : Result (List ℕ) SourceFault → Status
compile_verdict (Ok bytes) = status.Success
compile_verdict (Err why) = status.Refused

-- What `decompile` writes: the text of a manifest's spec, or `refused PLACE REASON`.
abbrev pub decompile_text : Result Manifest Refused → List ℕ
decompile_text (Ok m) = source_text (manifest_spec m)
decompile_text (Err why) = refused_text why

-- How `decompile` ends.
abbrev pub decompile_verdict : Result Manifest Refused → Status
decompile_verdict (Ok m) = status.Success
decompile_verdict (Err why) = status.Refused
