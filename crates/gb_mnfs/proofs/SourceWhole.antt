-- The text of a spec is a source of it.
use Rattle.std.proofs.Common.{◌≡◌, ℕ, ◌<◌, ◌&&◌, List, [], ◌∷◌, ◌++◌, refl}
use Rattle.std.proofs.Common.{sym, ap, ◌∙◌, Some, None, Ok, append-nil, arith, codes}
use Rattle.std.specs.Prelude.{if◌then◌else◌}
use Rattle.std.specs.Fmt.{decimal}
use Rattle.std.specs.List.{flat_map}
use Rattle.gb_formats.specs.ManifestSpec.{ManifestSpec}
use Rattle.gb_formats.specs.Source.{Front, IsSource, Opened, at_start, first_lacking}
use Rattle.gb_formats.specs.Source.{is_interface_section, missing_line, sections_from}
use Rattle.gb_formats.specs.Source.{sections_of, some_section}
use Rattle.gb_formats.specs.SourceLines.{Form, Section, set}
use Rattle.gb_formats.specs.SourceTexts.{bundle_lines, cport_lines, header_lines, interface_lines}
use Rattle.gb_formats.specs.SourceTexts.{source_lines, source_text, string_lines}
use Rattle.gb_mnfs.specs.Fits.{Fits}
use Rattle.gb_mnfs.proofs.Numerals.{decimal_back}
use Rattle.gb_mnfs.proofs.SourceBack.{Good, bundles_printable, bundles_read, byte_small}
use Rattle.gb_mnfs.proofs.SourceBack.{cports_printable, cports_read, front, said, step}
use Rattle.gb_mnfs.proofs.SourceBack.{strings_printable, strings_read}
use Rattle.gb_mnfs.proofs.SourceForms.{pair_printable, pair_says}
use Rattle.gb_mnfs.proofs.SourceLinesBack.{ArePrintable, lines_back, printable_both}
use Rattle.gb_mnfs.proofs.SourceValues.{IsValue-decimal}

-- the header's section
abbrev header : ℕ → Opened
header minor = record { line = 1; section = Section.Header (Some 0) (Some minor) }

-- the interface's section, behind the header
abbrev begun : ℕ → ℕ → ℕ → ℕ → Front
begun m v p f = front (header m ∷ []) 5 (Section.Interface (Some v) (Some p) (Some f))

header_read : (m : ℕ) (ls : List (List ℕ)) → m < 256
    → sections_from 1 at_start (header_lines m ++ ls)
    ≡ sections_from 4 (front [] 1 (Section.Header (Some 0) (Some m))) ls
header_read m ls h =
    let none = Section.Header None None in
    let major = Section.Header (Some 0) None in
    let number = decimal_back 255 m (omega (arith, h)) (byte_small m h) in
    step 1 at_start (front [] 1 none) (Form.Opens (Some none)) _ _ refl refl
    ∙ step 2 (front [] 1 none) (front [] 1 major)
    (Form.Says (codes "version-major") (codes "0")) _ _ refl refl
    ∙ step 3 (front [] 1 major) (front [] 1 (Section.Header (Some 0) (Some m)))
    (Form.Says (codes "version-minor") (decimal m)) _ _
    (pair_says (codes "version-minor") (decimal m) (IsValue-decimal m (byte_small m h)) refl refl
    refl refl refl refl refl refl)
    (said [] 1 major (Section.Header (Some 0) (Some m)) (codes "version-minor") (decimal m) 3
    (ap (λ n. set None n (λ x. Section.Header (Some 0) (Some x))) number))

interface_read : (m v p f : ℕ) (ls : List (List ℕ)) → v < 256 → p < 256 → f < 256
    → sections_from 4 (front [] 1 (Section.Header (Some 0) (Some m)))
    ([] ∷ (interface_lines v p f ++ ls))
    ≡ sections_from 9 (begun m v p f) ls
interface_read m v p f ls vh ph fh =
    let closed = header m ∷ [] in
    let before = front [] 1 (Section.Header (Some 0) (Some m)) in
    let a = Section.Interface None None None in
    let b = Section.Interface (Some v) None None in
    let c = Section.Interface (Some v) (Some p) None in
    let d = Section.Interface (Some v) (Some p) (Some f) in
    step 4 before before Form.Nothing [] _ refl refl
    ∙ step 5 before (front closed 5 a) (Form.Opens (Some a)) _ _ refl refl
    ∙ step 6 (front closed 5 a) (front closed 5 b)
    (Form.Says (codes "vendor-string-id") (decimal v)) _ _
    (pair_says (codes "vendor-string-id") (decimal v) (IsValue-decimal v (byte_small v vh)) refl
    refl
    refl refl refl refl refl refl)
    (said closed 5 a b (codes "vendor-string-id") (decimal v) 6
    (ap (λ n. set None n (λ x. Section.Interface (Some x) None None))
    (decimal_back 255 v (omega (arith, vh)) (byte_small v vh))))
    ∙ step 7 (front closed 5 b) (front closed 5 c)
    (Form.Says (codes "product-string-id") (decimal p)) _ _
    (pair_says (codes "product-string-id") (decimal p) (IsValue-decimal p (byte_small p ph)) refl
    refl refl refl refl refl refl refl)
    (said closed 5 b c (codes "product-string-id") (decimal p) 7
    (ap (λ n. set None n (λ x. Section.Interface (Some v) (Some x) None))
    (decimal_back 255 p (omega (arith, ph)) (byte_small p ph))))
    ∙ step 8 (front closed 5 c) (front closed 5 d) (Form.Says (codes "features") (decimal f)) _ _
    (pair_says (codes "features") (decimal f) (IsValue-decimal f (byte_small f fh)) refl refl refl
    refl refl refl refl refl)
    (said closed 5 c d (codes "features") (decimal f) 8
    (ap (λ n. set None n (λ x. Section.Interface (Some v) (Some p) (Some x)))
    (decimal_back 255 f (omega (arith, fh)) (byte_small f fh))))

-- the spec of the header and the interface
abbrev first_spec : ManifestSpec → ManifestSpec
first_spec spec = record spec { strings = []; bundles = []; cports = [] }

begun_good : (spec : ManifestSpec)
    → Good (begun spec.minor spec.vendor spec.product spec.features) (first_spec spec)
begun_good spec = record { lacking = refl; header = refl; interface = refl; spec_is = refl }

-- ---- all lines

header_printable : (m : ℕ) → m < 256 → ArePrintable (header_lines m)
header_printable m h = (
  refl,
  (
    refl,
    (
      pair_printable (codes "version-minor") (decimal m) refl
          (IsValue-decimal m (byte_small m h)),
      tt,
    ),
  ),
)

interface_printable : (v p f : ℕ) → v < 256 → p < 256 → f < 256
    → ArePrintable ([] ∷ interface_lines v p f)
interface_printable v p f vh ph fh = (
  refl,
  (
    refl,
    (
      pair_printable (codes "vendor-string-id") (decimal v) refl
          (IsValue-decimal v (byte_small v vh)),
      (
        pair_printable (codes "product-string-id") (decimal p)
            refl (IsValue-decimal p (byte_small p ph)),
        (
          pair_printable (codes "features") (decimal f) refl
              (IsValue-decimal f (byte_small f fh)),
          tt,
        ),
      ),
    ),
  ),
)

all_printable : (spec : ManifestSpec) → Fits spec → ArePrintable (source_lines spec)
all_printable spec h =
    let s = flat_map string_lines spec.strings in
    let b = flat_map bundle_lines spec.bundles in
    let c = flat_map cport_lines spec.cports in
    let i = [] ∷ interface_lines spec.vendor spec.product spec.features in
    printable_both (header_lines spec.minor) (i ++ (s ++ (b ++ c)))
    (header_printable spec.minor h.minor)
    (printable_both i (s ++ (b ++ c))
    (interface_printable spec.vendor spec.product spec.features h.vendor h.product h.features)
    (printable_both s (b ++ c) (strings_printable spec.strings h.strings)
    (printable_both b c (bundles_printable spec.bundles h.bundles)
    (cports_printable spec.cports h.cports))))

ended_at : (at : ℕ) (f : Front) → sections_from at f [] ≡ Ok (sections_of f)
unfolding sections_from
ended_at at f = refl

nothing_missing : (f : Front) (spec : ManifestSpec) → Good f spec
    → missing_line (sections_of f) ≡ None
nothing_missing f spec h =
    ap (λ t. if t && some_section is_interface_section (sections_of f)
    then first_lacking (sections_of f) else Some 0) h.header
    ∙ ap (λ t. if t then first_lacking (sections_of f) else Some 0) h.interface
    ∙ h.lacking

-- The text of a spec is a source of it.
pub source_back : (spec : ManifestSpec) → Fits spec → IsSource (source_text spec) spec
source_back spec h =
    let s = flat_map string_lines spec.strings in
    let b = flat_map bundle_lines spec.bundles in
    let c = flat_map cport_lines spec.cports in
    let i = interface_lines spec.vendor spec.product spec.features in
    let f = begun spec.minor spec.vendor spec.product spec.features in
    let one = first_spec spec in
    let two = record one { strings = spec.strings } in
    let three = record two { bundles = spec.bundles } in
    let strings = strings_read spec.strings 9 f one (b ++ c) h.strings (begun_good spec) in
    let bundles = bundles_read spec.bundles strings.at_next strings.next two c h.bundles
    strings.good in
    let cports = cports_read spec.cports bundles.at_next bundles.next three [] h.cports
    bundles.good in
    record {
      all = sections_of cports.next;
      sound =
          ap (λ ls. sections_from 1 at_start ls) (lines_back (source_lines spec)
          (all_printable spec h))
          ∙ header_read spec.minor ([] ∷ (i ++ (s ++ (b ++ c)))) h.minor
          ∙ interface_read spec.minor spec.vendor spec.product spec.features (s ++ (b ++ c))
          h.vendor h.product h.features
          ∙ strings.same
          ∙ bundles.same
          ∙ ap (λ ls. sections_from bundles.at_next bundles.next ls) (sym (append-nil c))
          ∙ cports.same
          ∙ ended_at cports.at_next cports.next;
      whole = nothing_missing cports.next spec cports.good;
      spec_is = sym cports.good.spec_is;
    }
