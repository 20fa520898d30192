-- The answer of a check, from its header, its descriptors and the rules.
use Rattle.std.proofs.Common.{◌≡◌, ℕ, List, drop, length, map, Option, None, Ok, Err, ap, ◌∙◌}
use Rattle.gb_formats.specs.Descriptors.{Descriptor}
use Rattle.gb_formats.specs.Manifest.{Manifest, check_answer, header_refusal, manifest_after}
use Rattle.gb_formats.specs.Manifest.{manifest_of, manifest_unless, minor_field}
use Rattle.gb_formats.specs.ManifestRules.{Placed, Refused, rules_refusal}
use Rattle.gb_manifest.specs.Walks.{walk_from}

-- a descriptor is refused
pub answer_descriptor : (bytes : List ℕ) (why : Refused) → header_refusal bytes ≡ None
    → walk_from 4 (drop 4 bytes) ≡ Err why → check_answer bytes ≡ Err why
unfolding walk_from
answer_descriptor bytes why sound walk =
    ap (λ r. manifest_after r bytes) sound ∙ ap (λ w. manifest_of bytes w) walk

-- the rules decide
pub answer_rules : (bytes : List ℕ) (all : List Placed) (broken : Option Refused)
    → header_refusal bytes ≡ None → walk_from 4 (drop 4 bytes) ≡ Ok all
    → rules_refusal (length bytes) all ≡ broken
    → check_answer bytes ≡ manifest_unless broken bytes all
unfolding walk_from
answer_rules bytes all broken sound walk rule =
    ap (λ r. manifest_after r bytes) sound
    ∙ ap (λ w. manifest_of bytes w) walk
    ∙ ap (λ r. manifest_unless r bytes all) rule

-- the manifest of these parts
pub manifest_is : (bytes : List ℕ) (all : List Placed) (size : ℕ) (ds : List Descriptor)
    (m : Manifest)
    → size ≡ length bytes → ds ≡ map (λ p. p.descriptor) all
    → m ≡ record { minor = minor_field bytes; size = size; descriptors = ds }
    → manifest_unless None bytes all ≡ Ok m
manifest_is bytes all size ds m s d e = cc
