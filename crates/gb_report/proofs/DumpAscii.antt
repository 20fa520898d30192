-- The texts of the dump are ASCII.
use Rattle.std.proofs.Common.{◌≡◌, ℕ, Bool, true, false, if◌then◌else◌, List, [], ◌∷◌, ◌++◌, refl}
use Rattle.std.proofs.Common.{codes, IsAscii, ◌∙◌, arith}
use Rattle.std.specs.Fmt.{decimal}
use Rattle.std.proofs.lemmas.Bool.Decides.{nat_tests}
use Rattle.gb_formats.specs.Bytes.{byte_text, joined}
use Rattle.gb_formats.specs.Descriptors.{Descriptor}
use Rattle.gb_formats.specs.Dump.{check_text, descriptor_line, descriptors_text, dump_text}
use Rattle.gb_formats.specs.Dump.{refused_text, stands_as_is, string_byte_text, string_text}
use Rattle.gb_formats.specs.Manifest.{Manifest}
use Rattle.gb_formats.specs.ManifestRules.{Refused}
use Rattle.gb_formats.specs.Reasons.{reason_text}
use Rattle.gb_formats.proofs.Ascii.{because, byte, cat, dec, end_of_line, is_ascii, seen}

-- a byte of a string
escaped : (b : ℕ) → is_ascii (codes "\\x" ++ byte_text b) ≡ true
escaped b = cat (codes "\\x") (byte_text b) ∙ byte b

shown : (b : ℕ) (t : Bool) → stands_as_is b ≡ t
    → is_ascii (if t then b ∷ [] else codes "\\x" ++ byte_text b) ≡ true
shown b true h = grind (arith, nat_tests)
shown b false h = escaped b

string : (bs : List ℕ) → is_ascii (string_text bs) ≡ true
string [] = refl
string (b ∷ bs) =
    cat (string_byte_text b) (string_text bs)
    ∙ rw (shown b (stands_as_is b) refl, string bs) refl

line : (d : Descriptor) → is_ascii (descriptor_line d) ≡ true
line (Descriptor.Interface v p f) = simp (cat, dec, byte)
line (Descriptor.Words id bs) = simp (cat, dec, string)
line (Descriptor.Bundle id class) = simp (cat, dec, byte)
line (Descriptor.Cport id bundle protocol) = simp (cat, dec, byte)

descriptors : (ds : List Descriptor) → is_ascii (descriptors_text ds) ≡ true
descriptors [] = refl
descriptors (d ∷ ds) = simp (cat, line, descriptors ds)

pub IsAscii-dump_text : (m : Manifest) → IsAscii (dump_text m)
IsAscii-dump_text m = seen (dump_text m) (simp (cat, dec, descriptors))

pub IsAscii-check_text : (m : Manifest) → IsAscii (check_text m)
IsAscii-check_text m =
    end_of_line (joined (codes "manifest ok " ∷ decimal m.size ∷ [])) (dec m.size)

pub IsAscii-refused_text : (why : Refused) → IsAscii (refused_text why)
IsAscii-refused_text why = end_of_line
    (joined (codes "refused " ∷ decimal why.at ∷ codes " " ∷ reason_text why.reason ∷ []))
    (simp (cat, dec, because))
