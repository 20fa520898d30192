-- What writing a spec answers, and what a check of it answers.
use Rattle.std.proofs.Common.{◌≡◌, ◌<◌, ◌≤◌, ℕ, ◌+◌, Bool, true, false, List, [], ◌∷◌, ◌++◌, length}
use Rattle.std.proofs.Common.{map, Option, Some, None, Ok, Err, refl, sym, ap, ◌∙◌, arith}
use Rattle.std.specs.Prelude.{nat_lt, if◌then◌else◌}
use Rattle.std.proofs.lemmas.Bool.Decides.{nat_tests}
use Rattle.gb_base.specs.declared.reasons.Reason.{Reason}
use Rattle.gb_formats.specs.Bytes.{le16}
use Rattle.gb_formats.specs.Descriptors.{Descriptor, least_size}
use Rattle.gb_formats.specs.Manifest.{IsManifest, check_answer}
use Rattle.gb_formats.specs.ManifestRules.{Placed, Refused, first_breach, first_of, is_interface}
use Rattle.gb_formats.specs.ManifestRules.{rules_refusal, second_interface, written_rules}
use Rattle.gb_formats.specs.ManifestSpec.{BundleSpec, CportSpec, ManifestSpec, StringSpec}
use Rattle.gb_formats.specs.ManifestSpec.{WriteFault, bundle_descriptor, cport_descriptor}
use Rattle.gb_formats.specs.ManifestSpec.{long_string, placed_from, plain, plain_body, plain_size}
use Rattle.gb_formats.specs.ManifestSpec.{spec_descriptors, string_descriptor, write_answer}
use Rattle.gb_formats.specs.ManifestSpec.{write_sized, write_unless_broken, write_unless_long}
use Rattle.gb_manifest.specs.Declarations.{place}
use Rattle.gb_manifest.specs.Writes.{AllFit, unplaced, written}
use Rattle.gb_manifest.proofs.Law.{answered}
use Rattle.gb_manifest.proofs.Places.{bare-placed_from, bare-unplaced, reason_in, same_reason}
use Rattle.gb_manifest.proofs.PlainBytes.{are_plain}

-- ---- a spec has one interface

-- no descriptor of these is an interface
abbrev HasNone : List Placed → Type 0
HasNone [] = Unit {0}
HasNone (p ∷ ps) = (is_interface p.descriptor ≡ false) × HasNone ps

no_second : (before ps : List Placed) → HasNone ps → first_breach second_interface before ps ≡ None
no_second before [] h = refl
no_second before (p ∷ ps) h = rw h.0 (no_second (before ++ p ∷ []) ps h.1)

none_unplaced : (ss : List StringSpec) (bs : List BundleSpec) (cs : List CportSpec)
    → HasNone (unplaced (map string_descriptor ss
    ++ (map bundle_descriptor bs ++ map cport_descriptor cs)))
none_unplaced (s ∷ ss) bs cs = (refl, none_unplaced ss bs cs)
none_unplaced [] (b ∷ bs) cs = (refl, none_unplaced [] bs cs)
none_unplaced [] [] (c ∷ cs) = (refl, none_unplaced [] [] cs)
none_unplaced [] [] [] = tt

none_placed : (at : ℕ) (ss : List StringSpec) (bs : List BundleSpec) (cs : List CportSpec)
    → HasNone (placed_from at
    (map string_descriptor ss ++ (map bundle_descriptor bs ++ map cport_descriptor cs)))
none_placed at (s ∷ ss) bs cs = (refl, none_placed (at + least_size (string_descriptor s)) ss bs cs)
none_placed at [] (b ∷ bs) cs = (refl, none_placed (at + 8) [] bs cs)
none_placed at [] [] (c ∷ cs) = (refl, none_placed (at + 8) [] [] cs)
none_placed at [] [] [] = tt

-- with one interface in front, the rules on interfaces are kept
rules_written : (len : ℕ) (p : Placed) (ps : List Placed) → is_interface p.descriptor ≡ true
    → HasNone ps → rules_refusal len (p ∷ ps) ≡ first_of (written_rules (p ∷ ps))
rules_written len p ps i h = simp (i, no_second (p ∷ []) ps h)

-- the interface of a spec
abbrev interface_of : ManifestSpec → Descriptor
interface_of spec = Descriptor.Interface spec.vendor spec.product spec.features

-- the descriptors of a spec behind the interface
abbrev behind : ManifestSpec → List Descriptor
behind spec =
    map string_descriptor spec.strings
    ++ (map bundle_descriptor spec.bundles ++ map cport_descriptor spec.cports)

-- the rule that is found without places is the one that is found at the places
pub rule_is : (spec : ManifestSpec)
    → reason_in (rules_refusal 0 (unplaced (spec_descriptors spec)))
    ≡ reason_in (first_of (written_rules (placed_from 4 (spec_descriptors spec))))
rule_is spec =
    ap reason_in
    (rules_written 0 (place 0 (interface_of spec)) (unplaced (behind spec)) refl
    (none_unplaced spec.strings spec.bundles spec.cports))
    ∙ same_reason (unplaced (spec_descriptors spec)) (placed_from 4 (spec_descriptors spec))
    (bare-unplaced (spec_descriptors spec) ∙ sym (bare-placed_from 4 (spec_descriptors spec)))

reason_none : (r : Option Refused) → reason_in r ≡ None → r ≡ None
reason_none None e = refl
reason_none (Some r) e = absurd cc

reason_some : (r : Option Refused) (why : Reason) (spec : ManifestSpec)
    → reason_in r ≡ Some why → write_unless_broken r spec ≡ Err (WriteFault.Rule why)
reason_some None why spec e = absurd cc
reason_some (Some r) why spec e = cc

-- ---- what writing answers

pub write_rule : (spec : ManifestSpec) (why : Reason) → long_string spec.strings ≡ None
    → reason_in (rules_refusal 0 (unplaced (spec_descriptors spec))) ≡ Some why
    → write_answer spec ≡ Err (WriteFault.Rule why)
write_rule spec why short broken =
    ap (λ l. write_unless_long l spec) short ∙ reason_some _ why spec (sym (rule_is spec) ∙ broken)

-- no rule is broken
kept : (spec : ManifestSpec) → reason_in (rules_refusal 0 (unplaced (spec_descriptors spec))) ≡ None
    → first_of (written_rules (placed_from 4 (spec_descriptors spec))) ≡ None
kept spec e = reason_none _ (sym (rule_is spec) ∙ e)

write_kept : (spec : ManifestSpec) → long_string spec.strings ≡ None
    → reason_in (rules_refusal 0 (unplaced (spec_descriptors spec))) ≡ None
    → write_answer spec ≡ write_sized spec
write_kept spec short e =
    ap (λ l. write_unless_long l spec) short ∙ ap (λ r. write_unless_broken r spec) (kept spec e)

over : (n : ℕ) → 65535 < n → nat_lt 65535 n ≡ true
over n h = grind (arith, nat_tests)

within : (n : ℕ) → n ≤ 65535 → nat_lt 65535 n ≡ false
within n h = grind (arith, nat_tests)

pub write_too_long : (spec : ManifestSpec) → long_string spec.strings ≡ None
    → reason_in (rules_refusal 0 (unplaced (spec_descriptors spec))) ≡ None
    → 65535 < plain_size spec → write_answer spec ≡ Err WriteFault.TooLong
write_too_long spec short e long =
    write_kept spec short e
    ∙ ap (λ (b : Bool). if b then Err WriteFault.TooLong else Ok (plain spec))
    (over (plain_size spec) long)

pub write_plain : (spec : ManifestSpec) → long_string spec.strings ≡ None
    → reason_in (rules_refusal 0 (unplaced (spec_descriptors spec))) ≡ None
    → plain_size spec ≤ 65535 → write_answer spec ≡ Ok (plain spec)
write_plain spec short e fits =
    write_kept spec short e
    ∙ ap (λ (b : Bool). if b then Err WriteFault.TooLong else Ok (plain spec))
    (within (plain_size spec) fits)

-- ---- the way back

length-plain : (spec : ManifestSpec) → length (plain spec) ≡ plain_size spec
length-plain spec = omega arith

is_manifest : (spec : ManifestSpec) → AllFit (spec_descriptors spec) → plain_size spec ≤ 65535
    → first_of (written_rules (placed_from 4 (spec_descriptors spec))) ≡ None
    → IsManifest (plain spec) (written spec (length (plain spec)))
is_manifest spec fit fits ruled =
    let len = length-plain spec in
    record {
      rest = plain_body spec;
      placed = placed_from 4 (spec_descriptors spec);
      spelt = ap (λ n. le16 n ++ (0 ∷ spec.minor ∷ plain_body spec)) (sym len);
      size = refl;
      fits = omega (arith, len);
      descriptors = are_plain (spec_descriptors spec) 4 fit (omega arith);
      listed = sym (bare-placed_from 4 (spec_descriptors spec));
      ruled =
          rules_written (length (plain spec)) (place 4 (interface_of spec))
          (placed_from 12 (behind spec)) refl (none_placed 12 spec.strings spec.bundles spec.cports)
          ∙ ruled;
    }

-- a check of what is written gives the spec back
pub checked_back : (spec : ManifestSpec) (bytes : List ℕ) → bytes ≡ plain spec
    → AllFit (spec_descriptors spec) → plain_size spec ≤ 65535
    → reason_in (rules_refusal 0 (unplaced (spec_descriptors spec))) ≡ None
    → check_answer bytes ≡ Ok (written spec (length bytes))
checked_back spec bytes is fit fits e =
    let answer = answered (plain spec) (written spec (length (plain spec)))
    (is_manifest spec fit fits (kept spec e)) in
    rw is answer
