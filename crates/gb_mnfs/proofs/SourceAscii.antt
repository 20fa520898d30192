-- The texts of manifests and of refusals are ASCII.
use Rattle.std.proofs.Common.{◌≡◌, ℕ, Bool, true, false, if◌then◌else◌, List, [], ◌∷◌, ◌++◌, refl}
use Rattle.std.proofs.Common.{codes, IsAscii, ◌∙◌, sym, subst, arith, Option, Some, None}
use Rattle.std.specs.Prelude.{◌==◌, IsSomeAnd}
use Rattle.std.specs.List.{flat_map}
use Rattle.std.proofs.lemmas.Bool.Decides.{nat_tests}
use Rattle.gb_base.specs.declared.reasons.MnfsReason.{MnfsReason}
use Rattle.gb_base.specs.declared.reasons.MnfsReason.TheVariants as mnfs
use Rattle.gb_base.specs.declared.reasons.Reason.{Reason}
use Rattle.gb_formats.specs.Bytes.{byte_text}
use Rattle.gb_formats.specs.ManifestSpec.{BundleSpec, CportSpec, ManifestSpec, StringSpec}
use Rattle.gb_formats.specs.ManifestSpec.{WriteFault}
use Rattle.gb_formats.specs.Reasons.{reason_text}
use Rattle.gb_formats.specs.Source.{SourceFault}
use Rattle.gb_formats.specs.SourceTexts.{bundle_lines, cport_lines, end_byte}
use Rattle.gb_formats.specs.SourceTexts.{escaped_byte, header_lines, inner_byte, interface_lines}
use Rattle.gb_formats.specs.SourceTexts.{is_plain_byte, later_bytes, lines_text, mnfs_reason_text}
use Rattle.gb_formats.specs.SourceTexts.{source_fault_text, source_text, string_lines, string_value}
use Rattle.gb_formats.specs.Texts.{ended}
use Rattle.gb_formats.proofs.Ascii.{because, byte, cat, dec, end_of_line, is_ascii, seen}
use Rattle.gb_mnfs.proofs.SourceText.{lines_text-append}

-- ---- strings

escaped : (b : ℕ) → is_ascii (escaped_byte b) ≡ true
escaped b = cat (codes "\\x") (byte_text b) ∙ byte b

unplain : (b : ℕ) (t : Bool) → is_ascii (if t then codes "\\\\" else escaped_byte b) ≡ true
unplain b true = refl
unplain b false = escaped b

plain : (b : ℕ) (t : Bool) → is_plain_byte b ≡ t
    → is_ascii (if t then b ∷ [] else if b == 92 then codes "\\\\" else escaped_byte b) ≡ true
plain b true e = grind (arith, nat_tests)
plain b false e = unplain b (b == 92)

inner : (b : ℕ) → is_ascii (inner_byte b) ≡ true
inner b = plain b (is_plain_byte b) refl

space : (b : ℕ) (t : Bool) → is_ascii (if t then escaped_byte b else inner_byte b) ≡ true
space b true = escaped b
space b false = inner b

end : (b : ℕ) → is_ascii (end_byte b) ≡ true
end b = space b (b == 32)

later : (bs : List ℕ) → is_ascii (later_bytes bs) ≡ true
later [] = refl
later (b ∷ []) = end b
later (b ∷ c ∷ bs) =
    cat (inner_byte b) (later_bytes (c ∷ bs)) ∙ rw (inner b, later (c ∷ bs)) refl

value : (bs : List ℕ) → is_ascii (string_value bs) ≡ true
value [] = refl
value (b ∷ bs) = cat (end_byte b) (later_bytes bs) ∙ rw (end b, later bs) refl

-- ---- sections

header : (minor : ℕ) → is_ascii (lines_text (header_lines minor)) ≡ true
header minor = simp (cat, dec)

interface : (v p f : ℕ) → is_ascii (lines_text ([] ∷ interface_lines v p f)) ≡ true
interface v p f = simp (cat, dec)

strings : (ss : List StringSpec) → is_ascii (lines_text (flat_map string_lines ss)) ≡ true
strings [] = refl
strings (s ∷ ss) = simp (cat, dec, value, strings ss)

bundles : (bs : List BundleSpec) → is_ascii (lines_text (flat_map bundle_lines bs)) ≡ true
bundles [] = refl
bundles (b ∷ bs) = simp (cat, dec, byte, bundles bs)

cports : (cs : List CportSpec) → is_ascii (lines_text (flat_map cport_lines cs)) ≡ true
cports [] = refl
cports (c ∷ cs) = simp (cat, dec, byte, cports cs)

both : (xs ys : List (List ℕ)) → is_ascii (lines_text xs) ≡ true → is_ascii (lines_text ys) ≡ true
    → is_ascii (lines_text (xs ++ ys)) ≡ true
both xs ys p q = rw (lines_text-append xs ys, cat (lines_text xs) (lines_text ys), p, q) refl

pub IsAscii-source_text : (spec : ManifestSpec) → IsAscii (source_text spec)
IsAscii-source_text spec =
    let i = [] ∷ interface_lines spec.vendor spec.product spec.features in
    let s = flat_map string_lines spec.strings in
    let b = flat_map bundle_lines spec.bundles in
    let c = flat_map cport_lines spec.cports in
    seen (source_text spec)
    (both (header_lines spec.minor) (i ++ (s ++ (b ++ c))) (header spec.minor)
    (both i (s ++ (b ++ c)) (interface spec.vendor spec.product spec.features)
    (both s (b ++ c) (strings spec.strings)
    (both b c (bundles spec.bundles) (cports spec.cports)))))

-- ---- refusals

because_line : (why : MnfsReason) → is_ascii (mnfs_reason_text why) ≡ true
because_line mnfs.NotALine = refl
because_line mnfs.NotHere = refl
because_line mnfs.Twice = refl
because_line mnfs.BadValue = refl
because_line mnfs.Missing = refl

because_rule : (why : Reason) → is_ascii (codes "refused " ++ reason_text why) ≡ true
because_rule why = cat (codes "refused ") (reason_text why) ∙ because why

fault : (why : SourceFault) → is_ascii (source_fault_text why) ≡ true
fault (SourceFault.Line line reason) = simp (cat, dec, because_line)
fault (SourceFault.Write (WriteFault.StringLong id)) = simp (cat, dec)
fault (SourceFault.Write (WriteFault.Rule reason)) = because_rule reason
fault (SourceFault.Write WriteFault.TooLong) = refl

-- the line of a fault that isn't for want of memory
pub fault_line : (o : Option SourceFault) (line : List ℕ)
    → IsSomeAnd o (λ why. line ≡ source_fault_text why) → IsAscii (ended line)
fault_line (Some why) line e =
    subst (λ (l : List ℕ). IsAscii (ended l)) (sym e)
    (end_of_line (source_fault_text why) (fault why))
fault_line None line e = absurd e
