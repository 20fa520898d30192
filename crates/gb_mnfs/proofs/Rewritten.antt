-- The spec of a manifest is written.
use Rattle.std.proofs.Common.{◌≡◌, ℕ, suc, ◌+◌, ◌<◌, ◌≤◌, ◌||◌, Bool, true, false}
use Rattle.std.proofs.Common.{List, [], ◌∷◌, ◌++◌, length, map, refl, sym, ap, ◌∙◌, subst}
use Rattle.std.proofs.Common.{Option, Some, None, Ok, arith, length-append}
use Rattle.std.specs.Prelude.{⊤, nat_lt, if◌then◌else◌}
use Rattle.std.specs.List.{concat, flat_map, list_any}
use Rattle.std.proofs.lemmas.Bool.Decides.{nat_tests}
use Rattle.gb_base.specs.Bytes.{AreBytes}
use Rattle.gb_base.specs.declared.reasons.Reason.{Reason}
use Rattle.gb_base.specs.declared.reasons.Reason.TheVariants as reason
use Rattle.gb_formats.specs.Descriptors.{Descriptor, IsDescriptor, least_size}
use Rattle.gb_formats.specs.Descriptors.{plain_descriptor}
use Rattle.gb_formats.specs.Manifest.{AreDescriptors, IsManifest, Manifest}
use Rattle.gb_formats.specs.ManifestRules.{Placed, Refused, breach, first_breach, first_of, has}
use Rattle.gb_formats.specs.ManifestRules.{is_interface, no_interface, rules_refusal}
use Rattle.gb_formats.specs.ManifestRules.{second_interface, written_rules}
use Rattle.gb_formats.specs.ManifestSpec.{ManifestSpec, long_string, plain}
use Rattle.gb_formats.specs.ManifestSpec.{spec_descriptors, write_answer, placed_from}
use Rattle.gb_formats.specs.SourceTexts.{manifest_spec, string_in}
use Rattle.gb_manifest.specs.Declarations.{place}
use Rattle.gb_manifest.specs.Writes.{unplaced}
use Rattle.gb_manifest.proofs.Places.{bare, bare-placed_from, bare-unplaced, reason_in, same_reason}
use Rattle.gb_manifest.proofs.PlainBytes.{plain_descriptor-length}
use Rattle.gb_manifest.proofs.Written.{rule_is, write_plain}
use Rattle.gb_mnfs.proofs.ManifestFits.{at, bytes_back, bytes_front, split}
use Rattle.gb_mnfs.proofs.Reordered.{above_kept, bundle_kept, bundles, control_kept, cports}
use Rattle.gb_mnfs.proofs.Reordered.{product_kept, reordered, strings, vendor_kept, zero_kept}
use Rattle.gb_mnfs.proofs.ReorderedIds.{bundles_kept, cports_kept, strings_kept}

-- ---- the rules

first_none : (o : Option Refused) (os : List (Option Refused)) → first_of (o ∷ os) ≡ None
    → (o ≡ None) × (first_of os ≡ None)
first_none None os h = (refl, h)
first_none (Some r) os h = absurd cc

none_first : (o : Option Refused) (os : List (Option Refused)) → o ≡ None → first_of os ≡ None
    → first_of (o ∷ os) ≡ None
none_first None os p q = q
none_first (Some r) os p q = absurd cc

unbroken : (why : Reason) (o : Option ℕ) → breach why o ≡ None → o ≡ None
unbroken why None h = refl
unbroken why (Some at) h = absurd cc

-- a rule of a list that is kept goes over to another
carry : (why : Reason) (o p : Option ℕ) (os ps : List (Option Refused))
    → (o ≡ None → p ≡ None) → (first_of os ≡ None → first_of ps ≡ None)
    → first_of (breach why o ∷ os) ≡ None → first_of (breach why p ∷ ps) ≡ None
carry why o p os ps one more h =
    let f = first_none (breach why o) os h in
    none_first (breach why p) ps (ap (breach why) (one (unbroken why o f.0))) (more f.1)

rules_kept : (ds : List Descriptor) → list_any is_interface ds ≡ true
    → first_of (written_rules (unplaced ds)) ≡ None
    → first_of (written_rules (unplaced (reordered ds))) ≡ None
rules_kept ds some =
    carry _ _ _ _ _ (zero_kept ds some) (
    carry _ _ _ _ _ (strings_kept ds) (
    carry _ _ _ _ _ (bundles_kept ds) (
    carry _ _ _ _ _ (above_kept ds some) (
    carry _ _ _ _ _ (cports_kept ds) (
    carry _ _ _ _ _ (bundle_kept ds some) (
    carry _ _ _ _ _ (control_kept ds some) (
    carry _ _ _ _ _ (vendor_kept ds some) (
    carry _ _ _ _ _ (product_kept ds some) (λ e. e)))))))))

reason_none : (r : Option Refused) → reason_in r ≡ None → r ≡ None
reason_none None e = refl
reason_none (Some r) e = absurd cc

-- the rules of placed descriptors are those of the bare ones
pub bare_rules : (placed : List Placed) → first_of (written_rules placed) ≡ None
    → first_of (written_rules (unplaced (bare placed))) ≡ None
bare_rules placed h =
    reason_none (first_of (written_rules (unplaced (bare placed))))
    (same_reason (unplaced (bare placed)) placed (bare-unplaced (bare placed)) ∙ ap reason_in h)

has_bare : (placed : List Placed) → has is_interface placed ≡ list_any is_interface (bare placed)
has_bare [] = refl
has_bare (p ∷ ps) = ap (λ t. is_interface p.descriptor || t) (has_bare ps)

there : (t : Bool) (why : Refused) → (if t then None else Some why) ≡ None → t ≡ true
there true why h = refl
there false why h = absurd cc

-- what the rules of a manifest say of its descriptors
record Ruled (ds : List Descriptor) : Type 0 where
  some : list_any is_interface ds ≡ true
  rules : first_of (written_rules (unplaced ds)) ≡ None

ruled : (len : ℕ) (placed : List Placed) → rules_refusal len placed ≡ None → Ruled (bare placed)
ruled len placed h =
    let second = breach reason.SecondInterface (first_breach second_interface [] placed) in
    let one = first_none (no_interface len placed) (second ∷ written_rules placed) h in
    let two = first_none second (written_rules placed) one.1 in
    record {
      some =
          sym (has_bare placed)
          ∙ there (has is_interface placed)
          (record { at = len; reason = reason.NoInterface }) one.0;
      rules = bare_rules placed two.1;
    }

no_reason : (spec : ManifestSpec)
    → first_of (written_rules (unplaced (spec_descriptors spec))) ≡ None
    → reason_in (rules_refusal 0 (unplaced (spec_descriptors spec))) ≡ None
no_reason spec h =
    rule_is spec
    ∙ same_reason (placed_from 4 (spec_descriptors spec)) (unplaced (spec_descriptors spec))
    (bare-placed_from 4 (spec_descriptors spec) ∙ sym (bare-unplaced (spec_descriptors spec)))
    ∙ ap reason_in h

-- ---- strings

abbrev ShortDescriptor : Descriptor → Type 0
ShortDescriptor (Descriptor.Words id bytes) = length bytes < 256
ShortDescriptor _ = ⊤

abbrev AllShort : List Descriptor → Type 0
AllShort [] = ⊤
AllShort (d ∷ ds) = ShortDescriptor d × AllShort ds

short : (bytes : List ℕ) (d : Descriptor) → IsDescriptor bytes d → AreBytes bytes
    → ShortDescriptor d
short bytes (Descriptor.Interface v p f) h are = tt
short bytes (Descriptor.Words id string) h are = at bytes _ 4 (length string) h.spelt refl are
short bytes (Descriptor.Bundle id class) h are = tt
short bytes (Descriptor.Cport id b p) h are = tt

all_short : (place : ℕ) (bytes : List ℕ) (placed : List Placed) → AreDescriptors place bytes placed
    → AreBytes bytes → AllShort (bare placed)
all_short place bytes [] h are = tt
all_short place bytes (d ∷ ds) (front, back, parts, at_is, spelt, later) are =
    let whole = split bytes front back parts are in (
      short front d.descriptor spelt (bytes_front front back whole),
      all_short (place + length front) back ds later (bytes_back front back whole),
    )

not_long : (n id : ℕ) (later : Option ℕ) → n < 256 → later ≡ None
    → (if nat_lt 255 n then Some id else later) ≡ None
not_long n id later h e =
    let few : nat_lt 255 n ≡ false = grind (arith, nat_tests) in
    ap (λ t. if t then Some id else later) few ∙ e

none_long : (ds : List Descriptor) → AllShort ds → long_string (flat_map string_in ds) ≡ None
none_long [] h = refl
none_long (Descriptor.Interface v p f ∷ ds) h = none_long ds h.1
none_long (Descriptor.Words id bytes ∷ ds) h =
    not_long (length bytes) id (long_string (flat_map string_in ds)) h.0 (none_long ds h.1)
none_long (Descriptor.Bundle id class ∷ ds) h = none_long ds h.1
none_long (Descriptor.Cport id b p ∷ ds) h = none_long ds h.1

-- ---- sizes

abbrev size : List Descriptor → ℕ
size [] = 0
size (d ∷ ds) = least_size d + size ds

body_length : (ds : List Descriptor) → length (concat (map plain_descriptor ds)) ≡ size ds
body_length [] = refl
body_length (d ∷ ds) =
    let one = plain_descriptor-length d in
    let more = body_length ds in
    omega (arith, length-append (plain_descriptor d) (concat (map plain_descriptor ds)), one, more)

size-append : (xs ys : List Descriptor) → size (xs ++ ys) ≡ size xs + size ys
size-append [] ys = omega arith
size-append (x ∷ xs) ys = let more = size-append xs ys in omega (arith, more)

-- the kinds are no longer than all
kinds_fit : (ds : List Descriptor)
    → size (strings ds) + size (bundles ds) + size (cports ds) ≤ size ds
kinds_fit [] = omega arith
kinds_fit (Descriptor.Interface v p f ∷ ds) = let more = kinds_fit ds in omega (arith, more)
kinds_fit (Descriptor.Words id bytes ∷ ds) = let more = kinds_fit ds in omega (arith, more)
kinds_fit (Descriptor.Bundle id class ∷ ds) = let more = kinds_fit ds in omega (arith, more)
kinds_fit (Descriptor.Cport id b p ∷ ds) = let more = kinds_fit ds in omega (arith, more)

all_kinds_fit : (ds : List Descriptor) → list_any is_interface ds ≡ true
    → 8 + (size (strings ds) + size (bundles ds) + size (cports ds)) ≤ size ds
all_kinds_fit [] some = absurd cc
all_kinds_fit (Descriptor.Interface v p f ∷ ds) some =
    let more = kinds_fit ds in omega (arith, more)
all_kinds_fit (Descriptor.Words id bytes ∷ ds) some =
    let more = all_kinds_fit ds some in omega (arith, more)
all_kinds_fit (Descriptor.Bundle id class ∷ ds) some =
    let more = all_kinds_fit ds some in omega (arith, more)
all_kinds_fit (Descriptor.Cport id b p ∷ ds) some =
    let more = all_kinds_fit ds some in omega (arith, more)

reordered_size : (ds : List Descriptor) → list_any is_interface ds ≡ true
    → size (reordered ds) ≤ size ds
reordered_size ds some =
    let whole = all_kinds_fit ds some in
    omega (
      arith,
      whole,
      size-append (strings ds) (bundles ds ++ cports ds),
      size-append (bundles ds) (cports ds),
    )

read_size : (place : ℕ) (bytes : List ℕ) (placed : List Placed) → AreDescriptors place bytes placed
    → size (bare placed) ≤ length bytes
read_size place bytes [] h = omega arith
read_size place bytes (d ∷ ds) (front, back, parts, at_is, spelt, later) =
    let more = read_size (place + length front) back ds later in
    omega (arith, more, spelt.least, ap length parts, length-append front back)

-- ---- the whole

written_with : (ds : List Descriptor) (spec : ManifestSpec) → spec_descriptors spec ≡ reordered ds
    → spec.strings ≡ flat_map string_in ds → Ruled ds → AllShort ds → 4 + size ds ≤ 65535
    → write_answer spec ≡ Ok (plain spec)
written_with ds spec same strings_are r short fits =
    let rules = ap (λ l. first_of (written_rules (unplaced l))) same
    ∙ rules_kept ds r.some r.rules in
    let long : long_string spec.strings ≡ None = ap long_string strings_are ∙ none_long ds short in
    let len = body_length (spec_descriptors spec) ∙ ap size same in
    let small = reordered_size ds r.some in
    write_plain spec long (no_reason spec rules) (omega (arith, len, small, fits))

-- The spec of a manifest is written, with no refusal.
pub manifest_written : (bytes : List ℕ) (m : Manifest) → AreBytes bytes → IsManifest bytes m
    → write_answer (manifest_spec m) ≡ Ok (plain (manifest_spec m))
manifest_written bytes m are h =
    let whole = subst AreBytes h.spelt are in
    let ds = bare h.placed in
    let rest_are : AreBytes h.rest = λ k. whole (suc (suc (suc (suc k)))) in
    let read = read_size 4 h.rest h.placed h.descriptors in
    let fits : 4 + size ds ≤ 65535 = omega (arith, read, h.fits, ap length h.spelt) in
    subst (λ (l : List Descriptor). write_answer (manifest_spec (record m { descriptors = l }))
    ≡ Ok (plain (manifest_spec (record m { descriptors = l })))) (sym h.listed)
    (written_with ds (manifest_spec (record m { descriptors = ds })) refl refl
    (ruled (length bytes) h.placed h.ruled) (all_short 4 h.rest h.placed h.descriptors rest_are)
    fits)
