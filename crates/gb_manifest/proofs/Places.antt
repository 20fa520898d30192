-- Which rule is broken doesn't rest on the places of the descriptors.
use Rattle.std.proofs.Common.{◌≡◌, ℕ, ◌+◌, Bool, true, false, List, [], ◌∷◌, ◌++◌, map, Option}
use Rattle.std.proofs.Common.{Some, None, refl, sym, ap, ◌∙◌, option_map}
use Rattle.std.specs.Prelude.{◌&&◌, ◌||◌, ◌==◌, not, is_some, if◌then◌else◌}
use Rattle.std.specs.List.{list_any}
use Rattle.gb_base.specs.declared.reasons.Reason.{Reason}
use Rattle.gb_formats.specs.Descriptors.{Descriptor, least_size}
use Rattle.gb_formats.specs.ManifestRules.{Placed, Refused, breach, bundle_twice, cport_above}
use Rattle.gb_formats.specs.ManifestRules.{cport_twice, first_breach, first_of, has, is_bundle}
use Rattle.gb_formats.specs.ManifestRules.{is_cport, is_string, lacks_string, string_twice}
use Rattle.gb_formats.specs.ManifestRules.{string_zero, without_bundle, without_product}
use Rattle.gb_formats.specs.ManifestRules.{without_vendor, written_rules, wrong_control}
use Rattle.gb_formats.specs.ManifestSpec.{placed_from}
use Rattle.gb_manifest.specs.Declarations.{place}
use Rattle.gb_manifest.specs.Writes.{unplaced}

-- descriptors without their places
abbrev pub bare : List Placed → List Descriptor
bare ps = map (λ p. p.descriptor) ps

pub bare-unplaced : (ds : List Descriptor) → bare (unplaced ds) ≡ ds
bare-unplaced [] = refl
bare-unplaced (d ∷ ds) = ap (λ l. d ∷ l) (bare-unplaced ds)

pub bare-placed_from : (at : ℕ) (ds : List Descriptor) → bare (placed_from at ds) ≡ ds
bare-placed_from at [] = refl
bare-placed_from at (d ∷ ds) = ap (λ l. d ∷ l) (bare-placed_from (at + least_size d) ds)

has-bare : (test : Descriptor → Bool) (ps : List Placed) → has test ps ≡ list_any test (bare ps)
has-bare test [] = refl
has-bare test (p ∷ ps) = ap (λ b. test p.descriptor || b) (has-bare test ps)

has_same : (test : Descriptor → Bool) (a b : List Placed)
    → bare a ≡ bare b → has test a ≡ has test b
has_same test a b e = has-bare test a ∙ ap (λ l. list_any test l) e ∙ sym (has-bare test b)

bare-more : (a b : List Placed) (x y : Placed)
    → bare a ≡ bare b → x.descriptor ≡ y.descriptor → bare (a ++ x ∷ []) ≡ bare (b ++ y ∷ [])
bare-more [] [] x y e d = ap (λ v. v ∷ []) d
bare-more [] (q ∷ b) x y e d = absurd cc
bare-more (p ∷ a) [] x y e d = absurd cc
bare-more (p ∷ a) (q ∷ b) x y e d =
    let head : p.descriptor ≡ q.descriptor = cc in
    let tail : bare a ≡ bare b = cc in
    ap (λ v. v ∷ bare (a ++ x ∷ [])) head ∙ ap (λ l. q.descriptor ∷ l) (bare-more a b x y tail d)

-- ---- the rules

abbrev Rule : Type 0
Rule = List Placed → Descriptor → Bool

-- two rules are broken alike
abbrev Alike : Rule → Rule → Type 0
Alike r s = (a b : List Placed) (d : Descriptor) → bare a ≡ bare b → r a d ≡ s b d

turn : (b c : Bool) (at place : ℕ) (p q : Option ℕ) → b ≡ c → is_some p ≡ is_some q
    → is_some (if b then Some at else p) ≡ is_some (if c then Some place else q)
turn true true at place p q e h = refl
turn true false at place p q e h = absurd cc
turn false true at place p q e h = absurd cc
turn false false at place p q e h = h

-- a rule is broken in both lists or in none
broken_alike : (r s : Rule) → Alike r s → (front back a b : List Placed) → bare front ≡ bare back
    → bare a ≡ bare b → is_some (first_breach r front a) ≡ is_some (first_breach s back b)
broken_alike r s alike front back [] [] f e = refl
broken_alike r s alike front back [] (y ∷ b) f e = absurd cc
broken_alike r s alike front back (x ∷ a) [] f e = absurd cc
broken_alike r s alike front back (x ∷ a) (y ∷ b) f e =
    let head : x.descriptor ≡ y.descriptor = cc in
    let tail : bare a ≡ bare b = cc in
    turn (r front x.descriptor) (s back y.descriptor) x.at y.at _ _
    (alike front back x.descriptor f ∙ ap (λ d. s back d) head)
    (broken_alike r s alike (front ++ x ∷ []) (back ++ y ∷ []) a b (bare-more front back x y f head)
    tail)

alike-string_zero : Alike string_zero string_zero
alike-string_zero a b d e = refl

alike-string_twice : Alike string_twice string_twice
alike-string_twice a b (Descriptor.Words id bytes) e = has_same (is_string id) a b e
alike-string_twice a b (Descriptor.Interface v p f) e = refl
alike-string_twice a b (Descriptor.Bundle id class) e = refl
alike-string_twice a b (Descriptor.Cport id bundle protocol) e = refl

alike-bundle_twice : Alike bundle_twice bundle_twice
alike-bundle_twice a b (Descriptor.Words id bytes) e = refl
alike-bundle_twice a b (Descriptor.Interface v p f) e = refl
alike-bundle_twice a b (Descriptor.Bundle id class) e = has_same (is_bundle id) a b e
alike-bundle_twice a b (Descriptor.Cport id bundle protocol) e = refl

alike-cport_above : Alike cport_above cport_above
alike-cport_above a b (Descriptor.Words id bytes) e = refl
alike-cport_above a b (Descriptor.Interface v p f) e = refl
alike-cport_above a b (Descriptor.Bundle id class) e = refl
alike-cport_above a b (Descriptor.Cport id bundle protocol) e = refl

alike-cport_twice : Alike cport_twice cport_twice
alike-cport_twice a b (Descriptor.Words id bytes) e = refl
alike-cport_twice a b (Descriptor.Interface v p f) e = refl
alike-cport_twice a b (Descriptor.Bundle id class) e = refl
alike-cport_twice a b (Descriptor.Cport id bundle protocol) e = has_same (is_cport id) a b e

alike-wrong_control : Alike wrong_control wrong_control
alike-wrong_control a b (Descriptor.Words id bytes) e = refl
alike-wrong_control a b (Descriptor.Interface v p f) e = refl
alike-wrong_control a b (Descriptor.Bundle id class) e = refl
alike-wrong_control a b (Descriptor.Cport id bundle protocol) e = refl

alike-without_bundle : (xs ys : List Placed)
    → bare xs ≡ bare ys → Alike (without_bundle xs) (without_bundle ys)
alike-without_bundle xs ys s a b (Descriptor.Words id bytes) e = refl
alike-without_bundle xs ys s a b (Descriptor.Interface v p f) e = refl
alike-without_bundle xs ys s a b (Descriptor.Bundle id class) e = refl
alike-without_bundle xs ys s a b (Descriptor.Cport id bundle protocol) e =
    ap not (has_same (is_bundle bundle) xs ys s)

lacks_same : (xs ys : List Placed) (id : ℕ)
    → bare xs ≡ bare ys → lacks_string xs id ≡ lacks_string ys id
lacks_same xs ys id s = ap (λ b. not (id == 0) && not b) (has_same (is_string id) xs ys s)

alike-without_vendor : (xs ys : List Placed)
    → bare xs ≡ bare ys → Alike (without_vendor xs) (without_vendor ys)
alike-without_vendor xs ys s a b (Descriptor.Words id bytes) e = refl
alike-without_vendor xs ys s a b (Descriptor.Interface v p f) e = lacks_same xs ys v s
alike-without_vendor xs ys s a b (Descriptor.Bundle id class) e = refl
alike-without_vendor xs ys s a b (Descriptor.Cport id bundle protocol) e = refl

alike-without_product : (xs ys : List Placed)
    → bare xs ≡ bare ys → Alike (without_product xs) (without_product ys)
alike-without_product xs ys s a b (Descriptor.Words id bytes) e = refl
alike-without_product xs ys s a b (Descriptor.Interface v p f) e = lacks_same xs ys p s
alike-without_product xs ys s a b (Descriptor.Bundle id class) e = refl
alike-without_product xs ys s a b (Descriptor.Cport id bundle protocol) e = refl

-- ---- the first reason

abbrev pub reason_in : Option Refused → Option Reason
reason_in r = option_map (λ w. w.reason) r

step : (why : Reason) (p q : Option ℕ) (xs ys : List (Option Refused)) → is_some p ≡ is_some q
    → reason_in (first_of xs) ≡ reason_in (first_of ys)
    → reason_in (first_of (breach why p ∷ xs)) ≡ reason_in (first_of (breach why q ∷ ys))
step why None None xs ys e h = h
step why None (Some y) xs ys e h = absurd cc
step why (Some x) None xs ys e h = absurd cc
step why (Some x) (Some y) xs ys e h = refl

-- the first rule that is broken is the same
pub same_reason : (a b : List Placed) → bare a ≡ bare b
    → reason_in (first_of (written_rules a)) ≡ reason_in (first_of (written_rules b))
same_reason a b s =
    step _ _ _ _ _ (broken_alike _ _ alike-string_zero [] [] a b refl s) (
    step _ _ _ _ _ (broken_alike _ _ alike-string_twice [] [] a b refl s) (
    step _ _ _ _ _ (broken_alike _ _ alike-bundle_twice [] [] a b refl s) (
    step _ _ _ _ _ (broken_alike _ _ alike-cport_above [] [] a b refl s) (
    step _ _ _ _ _ (broken_alike _ _ alike-cport_twice [] [] a b refl s) (
    step _ _ _ _ _ (broken_alike _ _ (alike-without_bundle a b s) [] [] a b refl s) (
    step _ _ _ _ _ (broken_alike _ _ alike-wrong_control [] [] a b refl s) (
    step _ _ _ _ _ (broken_alike _ _ (alike-without_vendor a b s) [] [] a b refl s) (
    step _ _ _ _ _ (broken_alike _ _ (alike-without_product a b s) [] [] a b refl s) refl))))))))
