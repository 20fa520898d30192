-- The plain manifest of a spec declares that spec.
use Rattle.std.proofs.Common.{◌≡◌, ℕ, ◌≤◌, Bool, true, false, List, [], ◌∷◌, ◌++◌, length, map}
use Rattle.std.proofs.Common.{refl}
use Rattle.std.proofs.Common.{ap, ◌∙◌, Option, Some, None, Ok, Err, append-nil, arith}
use Rattle.std.specs.Prelude.{nat_lt, if◌then◌else◌}
use Rattle.std.specs.List.{flat_map}
use Rattle.std.proofs.lemmas.Bool.Decides.{nat_tests}
use Rattle.gb_formats.specs.Descriptors.{Descriptor}
use Rattle.gb_formats.specs.Manifest.{IsManifest, Manifest}
use Rattle.gb_formats.specs.ManifestRules.{Refused, first_of, rules_refusal, written_rules}
use Rattle.gb_formats.specs.ManifestSpec.{BundleSpec, CportSpec, ManifestSpec, StringSpec}
use Rattle.gb_formats.specs.ManifestSpec.{WriteFault, bundle_descriptor, cport_descriptor}
use Rattle.gb_formats.specs.ManifestSpec.{long_string, placed_from, plain, plain_size}
use Rattle.gb_formats.specs.ManifestSpec.{spec_descriptors, string_descriptor, write_answer}
use Rattle.gb_formats.specs.ManifestSpec.{write_sized, write_unless_broken, write_unless_long}
use Rattle.gb_formats.specs.SourceTexts.{bundle_in, cport_in, manifest_spec, string_in}
use Rattle.gb_manifest.specs.Writes.{AllFit, unplaced, written}
use Rattle.gb_manifest.proofs.Law.{answered}
use Rattle.gb_manifest.proofs.Places.{reason_in}
use Rattle.gb_manifest.proofs.Written.{checked_back, rule_is}
use Rattle.gb_mnfs.specs.Fits.{CportsFit, Fits}

-- ---- what an Ok of a write comes from

not_long : (o : Option ℕ) (spec : ManifestSpec) (bytes : List ℕ)
    → write_unless_long o spec ≡ Ok bytes
    → write_unless_broken (first_of (written_rules (placed_from 4 (spec_descriptors spec)))) spec
    ≡ Ok bytes
not_long None spec bytes h = h
not_long (Some id) spec bytes h = absurd cc

not_broken : (r : Option Refused) (spec : ManifestSpec) (bytes : List ℕ)
    → write_unless_broken r spec ≡ Ok bytes → (r ≡ None) × (write_sized spec ≡ Ok bytes)
not_broken None spec bytes h = (refl, h)
not_broken (Some r) spec bytes h = absurd cc

sized : (t : Bool) (whole bytes : List ℕ)
    → (if t then Err WriteFault.TooLong else Ok whole) ≡ Ok bytes → (t ≡ false) × (bytes ≡ whole)
sized true whole bytes h = absurd cc
sized false whole bytes h = (refl, cc)

small : (n : ℕ) → nat_lt 65535 n ≡ false → n ≤ 65535
small n h = grind (arith, nat_tests)

-- ---- ids fit

fit_cports : (cs : List CportSpec) → CportsFit cs → AllFit (map cport_descriptor cs)
fit_cports [] h = tt
fit_cports (c ∷ cs) h = (h.0, fit_cports cs h.3)

fit_bundles : (bs : List BundleSpec) (more : List Descriptor) → AllFit more
    → AllFit (map bundle_descriptor bs ++ more)
fit_bundles [] more h = h
fit_bundles (b ∷ bs) more h = (tt, fit_bundles bs more h)

fit_strings : (ss : List StringSpec) (more : List Descriptor) → AllFit more
    → AllFit (map string_descriptor ss ++ more)
fit_strings [] more h = h
fit_strings (s ∷ ss) more h = (tt, fit_strings ss more h)

all_fit : (spec : ManifestSpec) → Fits spec → AllFit (spec_descriptors spec)
all_fit spec h = (
  tt,
  fit_strings spec.strings (map bundle_descriptor spec.bundles
      ++ map cport_descriptor spec.cports) (fit_bundles spec.bundles
      (map cport_descriptor spec.cports)
      (fit_cports spec.cports h.cports)),
)

-- ---- what the descriptors of a spec declare

strings_of_strings : (ss : List StringSpec) (more : List Descriptor)
    → flat_map string_in (map string_descriptor ss ++ more) ≡ ss ++ flat_map string_in more
strings_of_strings [] more = refl
strings_of_strings (s ∷ ss) more = ap (λ l. s ∷ l) (strings_of_strings ss more)

strings_of_bundles : (bs : List BundleSpec) (cs : List CportSpec)
    → flat_map string_in (map bundle_descriptor bs ++ map cport_descriptor cs) ≡ []
strings_of_bundles [] [] = refl
strings_of_bundles [] (c ∷ cs) = strings_of_bundles [] cs
strings_of_bundles (b ∷ bs) cs = strings_of_bundles bs cs

bundles_of_strings : (ss : List StringSpec) (more : List Descriptor)
    → flat_map bundle_in (map string_descriptor ss ++ more) ≡ flat_map bundle_in more
bundles_of_strings [] more = refl
bundles_of_strings (s ∷ ss) more = bundles_of_strings ss more

bundles_of_bundles : (bs : List BundleSpec) (cs : List CportSpec)
    → flat_map bundle_in (map bundle_descriptor bs ++ map cport_descriptor cs) ≡ bs
bundles_of_bundles [] [] = refl
bundles_of_bundles [] (c ∷ cs) = bundles_of_bundles [] cs
bundles_of_bundles (b ∷ bs) cs = ap (λ l. b ∷ l) (bundles_of_bundles bs cs)

cports_of_strings : (ss : List StringSpec) (more : List Descriptor)
    → flat_map cport_in (map string_descriptor ss ++ more) ≡ flat_map cport_in more
cports_of_strings [] more = refl
cports_of_strings (s ∷ ss) more = cports_of_strings ss more

cports_of_bundles : (bs : List BundleSpec) (cs : List CportSpec)
    → flat_map cport_in (map bundle_descriptor bs ++ map cport_descriptor cs) ≡ cs
cports_of_bundles [] [] = refl
cports_of_bundles [] (c ∷ cs) = ap (λ l. c ∷ l) (cports_of_bundles [] cs)
cports_of_bundles (b ∷ bs) cs = cports_of_bundles bs cs

-- the spec of what is written of a spec
spec_back : (spec : ManifestSpec) (n : ℕ) → manifest_spec (written spec n) ≡ spec
spec_back spec n =
    let rest = map bundle_descriptor spec.bundles ++ map cport_descriptor spec.cports in
    let s : flat_map string_in (map string_descriptor spec.strings ++ rest) ≡ spec.strings =
    strings_of_strings spec.strings rest
    ∙ ap (λ l. spec.strings ++ l) (strings_of_bundles spec.bundles spec.cports)
    ∙ append-nil spec.strings in
    let b = bundles_of_strings spec.strings rest ∙ bundles_of_bundles spec.bundles spec.cports in
    let c = cports_of_strings spec.strings rest ∙ cports_of_bundles spec.bundles spec.cports in
    ap (λ l. record spec {
      strings = l;
      bundles = flat_map bundle_in (map string_descriptor spec.strings ++ rest);
      cports = flat_map cport_in (map string_descriptor spec.strings ++ rest);
    }) s
    ∙ ap (λ l. record spec {
      bundles = l;
      cports = flat_map cport_in (map string_descriptor spec.strings ++ rest);
    }) b
    ∙ ap (λ l. record spec { cports = l }) c

-- The manifest that was written of a spec has this spec.
pub spec_is : (spec : ManifestSpec) (bytes : List ℕ) (m : Manifest) → Fits spec
    → write_answer spec ≡ Ok bytes → IsManifest bytes m
    → (manifest_spec m ≡ spec) × (bytes ≡ plain spec)
spec_is spec bytes m fit w h =
    let all = written_rules (placed_from 4 (spec_descriptors spec)) in
    let a = not_long (long_string spec.strings) spec bytes w in
    let b = not_broken (first_of all) spec bytes a in
    let c = sized (nat_lt 65535 (plain_size spec)) (plain spec) bytes b.1 in
    let none : reason_in (rules_refusal 0 (unplaced (spec_descriptors spec))) ≡ None =
    rule_is spec ∙ ap reason_in b.0 in
    let back = checked_back spec bytes c.1 (all_fit spec fit) (small (plain_size spec) c.0) none in
    let told = answered bytes m h in
    let same : m ≡ written spec (length bytes) = cc in
    (ap manifest_spec same ∙ spec_back spec (length bytes), c.1)
