-- The texts of `check` and `dump`.
use Rattle.std.specs.Prelude.{ℕ, ◌==◌, nat_le, Bool, not, ◌&&◌, if◌then◌else◌, List, [], ◌∷◌, ◌++◌}
use Rattle.std.specs.Prelude.{map, codes, Result, Ok, Err}
use Rattle.std.specs.List.{concat}
use Rattle.std.specs.Fmt.{decimal}
use Rattle.gb_base.specs.declared.status.Status.{Status}
use Rattle.gb_base.specs.declared.status.Status.TheVariants as status
use Rattle.gb_formats.specs.Bytes.{byte_text, joined}
use Rattle.gb_formats.specs.Descriptors.{Descriptor}
use Rattle.gb_formats.specs.Manifest.{Manifest}
use Rattle.gb_formats.specs.ManifestRules.{Refused}
use Rattle.gb_formats.specs.Reasons.{reason_text}
use Rattle.gb_formats.specs.Texts.{ended}

-- a byte that stands as it is in a string of the dump: 20 to 7e other than `"` and `\`
abbrev pub stands_as_is : ℕ → Bool
stands_as_is b = nat_le 32 b && nat_le b 126 && not (b == 34) && not (b == 92)

-- a byte of a string, or `\xNN`
abbrev pub string_byte_text : ℕ → List ℕ
string_byte_text b = if stands_as_is b then b ∷ [] else codes "\\x" ++ byte_text b

-- a string of the dump
abbrev pub string_text : List ℕ → List ℕ
string_text bytes = concat (map string_byte_text bytes)

-- the line of a descriptor
abbrev pub descriptor_line : Descriptor → List ℕ
descriptor_line (Descriptor.Interface vendor product features) =
    joined (codes "interface vendor " ∷ decimal vendor ∷ codes " product " ∷ decimal product
    ∷ codes " features " ∷ byte_text features ∷ [])
descriptor_line (Descriptor.Words id bytes) =
    joined (codes "string " ∷ decimal id ∷ codes " \"" ∷ string_text bytes ∷ codes "\"" ∷ [])
descriptor_line (Descriptor.Bundle id class) =
    joined (codes "bundle " ∷ decimal id ∷ codes " class " ∷ byte_text class ∷ [])
descriptor_line (Descriptor.Cport id bundle protocol) =
    joined (codes "cport " ∷ decimal id ∷ codes " bundle " ∷ decimal bundle ∷ codes " protocol "
    ∷ byte_text protocol ∷ [])

-- the line of a manifest's version and size
abbrev pub manifest_line : Manifest → List ℕ
manifest_line m =
    joined (codes "manifest version 0." ∷ decimal m.minor ∷ codes " size " ∷ decimal m.size ∷ [])

-- the lines of some descriptors, each with its end
abbrev pub descriptors_text : List Descriptor → List ℕ
descriptors_text [] = []
descriptors_text (d ∷ ds) = ended (descriptor_line d) ++ descriptors_text ds

-- The dump: the line of the manifest, then its descriptors in order.
abbrev pub dump_text : Manifest → List ℕ
dump_text m = ended (manifest_line m) ++ descriptors_text m.descriptors

-- `manifest ok N`, what `check` writes of a manifest
abbrev pub check_text : Manifest → List ℕ
check_text m = ended (joined (codes "manifest ok " ∷ decimal m.size ∷ []))

-- `refused PLACE REASON`, what `check` and `dump` write of other bytes
abbrev pub refused_text : Refused → List ℕ
refused_text why =
    ended (joined (codes "refused " ∷ decimal why.at ∷ codes " " ∷ reason_text why.reason ∷ []))

-- ---- what the program writes, and how it ends

-- What `check` and `dump` write: `manifest ok N` or the dump, or `refused PLACE REASON`.
abbrev pub manifest_text : Bool → Result Manifest Refused → List ℕ
manifest_text dump (Ok m) = if dump then dump_text m else check_text m
manifest_text dump (Err why) = refused_text why

-- How `check` and `dump` end.
abbrev pub manifest_verdict : Result Manifest Refused → Status
manifest_verdict (Ok m) = status.Success
manifest_verdict (Err why) = status.Refused
