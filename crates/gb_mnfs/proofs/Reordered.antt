-- A manifest's rules are kept where strings stand before bundles before CPorts.
use Rattle.std.proofs.Common.{◌≡◌, ℕ, ◌&&◌, ◌||◌, Bool, true, false}
use Rattle.std.proofs.Common.{List, [], ◌∷◌, ◌++◌, map, refl, sym, ap, ◌∙◌, Option}
use Rattle.std.proofs.Common.{Some, None}
use Rattle.std.specs.Prelude.{◌==◌, not, if◌then◌else◌, find}
use Rattle.std.specs.List.{flat_map, list_any}
use Rattle.std.proofs.lemmas.List.Folds.{list_any-append}
use Rattle.gb_formats.specs.Descriptors.{Descriptor}
use Rattle.gb_formats.specs.ManifestRules.{Placed, cport_above}
use Rattle.gb_formats.specs.ManifestRules.{first_breach, has, is_bundle, is_interface}
use Rattle.gb_formats.specs.ManifestRules.{is_string, lacks_string, string_zero}
use Rattle.gb_formats.specs.ManifestRules.{without_bundle, without_product, without_vendor}
use Rattle.gb_formats.specs.ManifestRules.{wrong_control}
use Rattle.gb_formats.specs.ManifestSpec.{bundle_descriptor}
use Rattle.gb_formats.specs.ManifestSpec.{cport_descriptor, string_descriptor}
use Rattle.gb_formats.specs.SourceTexts.{bundle_in, cport_in, features_of, product_of, string_in}
use Rattle.gb_formats.specs.SourceTexts.{vendor_of}
use Rattle.gb_manifest.specs.Declarations.{place}
use Rattle.gb_manifest.specs.Writes.{unplaced}

-- ---- kinds

abbrev pub strings : List Descriptor → List Descriptor
strings ds = map string_descriptor (flat_map string_in ds)

abbrev pub bundles : List Descriptor → List Descriptor
bundles ds = map bundle_descriptor (flat_map bundle_in ds)

abbrev pub cports : List Descriptor → List Descriptor
cports ds = map cport_descriptor (flat_map cport_in ds)

-- the first interface
abbrev pub first_interface : List Descriptor → Descriptor
first_interface ds =
    Descriptor.Interface (vendor_of (find is_interface ds)) (product_of (find is_interface ds))
    (features_of (find is_interface ds))

-- the descriptors by kinds
abbrev pub reordered : List Descriptor → List Descriptor
reordered ds = first_interface ds ∷ strings ds ++ (bundles ds ++ cports ds)

-- ---- none of some descriptors passes a test

or_none : (a b : Bool) → (a || b) ≡ false → (a ≡ false) × (b ≡ false)
or_none true b h = absurd cc
or_none false b h = (refl, h)

none_or : (a b : Bool) → a ≡ false → b ≡ false → (a || b) ≡ false
none_or true b p q = absurd cc
none_or false b p q = q

no_strings : (q : Descriptor → Bool) (ds : List Descriptor) → list_any q ds ≡ false
    → list_any q (strings ds) ≡ false
no_strings q [] h = refl
no_strings q (Descriptor.Interface v p f ∷ ds) h = no_strings q ds (or_none _ _ h).1
no_strings q (Descriptor.Words id bytes ∷ ds) h =
    let o = or_none (q (Descriptor.Words id bytes)) (list_any q ds) h in
    none_or (q (Descriptor.Words id bytes)) _ o.0 (no_strings q ds o.1)
no_strings q (Descriptor.Bundle id class ∷ ds) h = no_strings q ds (or_none _ _ h).1
no_strings q (Descriptor.Cport id b p ∷ ds) h = no_strings q ds (or_none _ _ h).1

no_bundles : (q : Descriptor → Bool) (ds : List Descriptor) → list_any q ds ≡ false
    → list_any q (bundles ds) ≡ false
no_bundles q [] h = refl
no_bundles q (Descriptor.Interface v p f ∷ ds) h = no_bundles q ds (or_none _ _ h).1
no_bundles q (Descriptor.Words id bytes ∷ ds) h = no_bundles q ds (or_none _ _ h).1
no_bundles q (Descriptor.Bundle id class ∷ ds) h =
    let o = or_none (q (Descriptor.Bundle id class)) (list_any q ds) h in
    none_or (q (Descriptor.Bundle id class)) _ o.0 (no_bundles q ds o.1)
no_bundles q (Descriptor.Cport id b p ∷ ds) h = no_bundles q ds (or_none _ _ h).1

no_cports : (q : Descriptor → Bool) (ds : List Descriptor) → list_any q ds ≡ false
    → list_any q (cports ds) ≡ false
no_cports q [] h = refl
no_cports q (Descriptor.Interface v p f ∷ ds) h = no_cports q ds (or_none _ _ h).1
no_cports q (Descriptor.Words id bytes ∷ ds) h = no_cports q ds (or_none _ _ h).1
no_cports q (Descriptor.Bundle id class ∷ ds) h = no_cports q ds (or_none _ _ h).1
no_cports q (Descriptor.Cport id b p ∷ ds) h =
    let o = or_none (q (Descriptor.Cport id b p)) (list_any q ds) h in
    none_or (q (Descriptor.Cport id b p)) _ o.0 (no_cports q ds o.1)

no_interface : (q : Descriptor → Bool) (ds : List Descriptor)
    → list_any is_interface ds ≡ true → list_any q ds ≡ false → q (first_interface ds) ≡ false
no_interface q [] some h = absurd cc
no_interface q (Descriptor.Interface v p f ∷ ds) some h = (or_none _ _ h).0
no_interface q (Descriptor.Words id bytes ∷ ds) some h = no_interface q ds some (or_none _ _ h).1
no_interface q (Descriptor.Bundle id class ∷ ds) some h = no_interface q ds some (or_none _ _ h).1
no_interface q (Descriptor.Cport id b p ∷ ds) some h = no_interface q ds some (or_none _ _ h).1

both_none : (q : Descriptor → Bool) (xs ys : List Descriptor) → list_any q xs ≡ false
    → list_any q ys ≡ false → list_any q (xs ++ ys) ≡ false
both_none q xs ys p r = list_any-append q xs ys ∙ none_or (list_any q xs) (list_any q ys) p r

none_reordered : (q : Descriptor → Bool) (ds : List Descriptor)
    → list_any is_interface ds ≡ true → list_any q ds ≡ false
    → list_any q (reordered ds) ≡ false
none_reordered q ds some h =
    none_or (q (first_interface ds)) (list_any q (strings ds ++ (bundles ds ++ cports ds)))
    (no_interface q ds some h)
    (both_none q (strings ds) (bundles ds ++ cports ds) (no_strings q ds h)
    (both_none q (bundles ds) (cports ds) (no_bundles q ds h) (no_cports q ds h)))

-- ---- what is declared is declared

string_there : (id : ℕ) (ds : List Descriptor)
    → list_any (is_string id) (strings ds) ≡ list_any (is_string id) ds
string_there id [] = refl
string_there id (Descriptor.Interface v p f ∷ ds) = string_there id ds
string_there id (Descriptor.Words other bytes ∷ ds) =
    ap (λ t. other == id || t) (string_there id ds)
string_there id (Descriptor.Bundle other class ∷ ds) = string_there id ds
string_there id (Descriptor.Cport other b p ∷ ds) = string_there id ds

bundle_there : (id : ℕ) (ds : List Descriptor)
    → list_any (is_bundle id) (bundles ds) ≡ list_any (is_bundle id) ds
bundle_there id [] = refl
bundle_there id (Descriptor.Interface v p f ∷ ds) = bundle_there id ds
bundle_there id (Descriptor.Words other bytes ∷ ds) = bundle_there id ds
bundle_there id (Descriptor.Bundle other class ∷ ds) =
    ap (λ t. other == id || t) (bundle_there id ds)
bundle_there id (Descriptor.Cport other b p ∷ ds) = bundle_there id ds

true_left : (a b : Bool) → a ≡ true → (a || b) ≡ true
true_left true b h = refl
true_left false b h = absurd cc

true_right : (a b : Bool) → b ≡ true → (a || b) ≡ true
true_right true b h = refl
true_right false b h = h

any_left : (q : Descriptor → Bool) (xs ys : List Descriptor) → list_any q xs ≡ true
    → list_any q (xs ++ ys) ≡ true
any_left q xs ys h = list_any-append q xs ys ∙ true_left (list_any q xs) (list_any q ys) h

any_right : (q : Descriptor → Bool) (xs ys : List Descriptor) → list_any q ys ≡ true
    → list_any q (xs ++ ys) ≡ true
any_right q xs ys h = list_any-append q xs ys ∙ true_right (list_any q xs) (list_any q ys) h

has_bare : (q : Descriptor → Bool) (ds : List Descriptor) → has q (unplaced ds) ≡ list_any q ds
has_bare q [] = refl
has_bare q (d ∷ ds) = ap (λ t. q d || t) (has_bare q ds)

has_string : (id : ℕ) (ds : List Descriptor) → has (is_string id) (unplaced ds) ≡ true
    → has (is_string id) (unplaced (reordered ds)) ≡ true
has_string id ds h =
    has_bare (is_string id) (reordered ds)
    ∙ any_left (is_string id) (strings ds) (bundles ds ++ cports ds)
    (string_there id ds ∙ sym (has_bare (is_string id) ds) ∙ h)

has_bundle : (id : ℕ) (ds : List Descriptor) → has (is_bundle id) (unplaced ds) ≡ true
    → has (is_bundle id) (unplaced (reordered ds)) ≡ true
has_bundle id ds h =
    has_bare (is_bundle id) (reordered ds)
    ∙ any_right (is_bundle id) (strings ds) (bundles ds ++ cports ds)
    (any_left (is_bundle id) (bundles ds) (cports ds)
    (bundle_there id ds ∙ sym (has_bare (is_bundle id) ds) ∙ h))

-- ---- rules on each descriptor by itself

broken : (t : Bool) (later : Option ℕ) → (if t then Some 0 else later) ≡ None
    → (t ≡ false) × (later ≡ None)
broken true later h = absurd cc
broken false later h = (refl, h)

unbroken : (t : Bool) (later : Option ℕ) → t ≡ false → later ≡ None
    → (if t then Some 0 else later) ≡ None
unbroken true later p q = absurd cc
unbroken false later p q = q

none_of : (rule : List Placed → Descriptor → Bool) (q : Descriptor → Bool)
    → ((before : List Placed) (d : Descriptor) → rule before d ≡ q d)
    → (before : List Placed) (ds : List Descriptor)
    → first_breach rule before (unplaced ds) ≡ None → list_any q ds ≡ false
none_of rule q same before [] h = refl
none_of rule q same before (d ∷ ds) h =
    let b = broken (rule before d) (first_breach rule (before ++ place 0 d ∷ []) (unplaced ds)) h in
    none_or (q d) (list_any q ds) (sym (same before d) ∙ b.0)
    (none_of rule q same (before ++ place 0 d ∷ []) ds b.1)

of_none : (rule : List Placed → Descriptor → Bool) (q : Descriptor → Bool)
    → ((before : List Placed) (d : Descriptor) → rule before d ≡ q d)
    → (before : List Placed) (ds : List Descriptor)
    → list_any q ds ≡ false → first_breach rule before (unplaced ds) ≡ None
of_none rule q same before [] h = refl
of_none rule q same before (d ∷ ds) h =
    let o = or_none (q d) (list_any q ds) h in
    unbroken (rule before d) (first_breach rule (before ++ place 0 d ∷ []) (unplaced ds))
    (same before d ∙ o.0) (of_none rule q same (before ++ place 0 d ∷ []) ds o.1)

fewer : (q r : Descriptor → Bool) → ((d : Descriptor) → q d ≡ false → r d ≡ false)
    → (ds : List Descriptor) → list_any q ds ≡ false → list_any r ds ≡ false
fewer q r less [] h = refl
fewer q r less (d ∷ ds) h =
    let o = or_none (q d) (list_any q ds) h in
    none_or (r d) (list_any r ds) (less d o.0) (fewer q r less ds o.1)

-- such a rule, which is kept, is kept where the descriptors stand by kinds
alone : (rule other : List Placed → Descriptor → Bool) (q r : Descriptor → Bool)
    → ((before : List Placed) (d : Descriptor) → rule before d ≡ q d)
    → ((before : List Placed) (d : Descriptor) → other before d ≡ r d)
    → ((d : Descriptor) → q d ≡ false → r d ≡ false) → (ds : List Descriptor)
    → list_any is_interface ds ≡ true → first_breach rule [] (unplaced ds) ≡ None
    → first_breach other [] (unplaced (reordered ds)) ≡ None
alone rule other q r same alike less ds some h =
    of_none other r alike [] (reordered ds)
    (none_reordered r ds some (fewer q r less ds (none_of rule q same [] ds h)))

by_itself : (rule : List Placed → Descriptor → Bool)
    → ((before : List Placed) (d : Descriptor) → rule before d ≡ rule [] d)
    → (ds : List Descriptor) → list_any is_interface ds ≡ true
    → first_breach rule [] (unplaced ds) ≡ None
    → first_breach rule [] (unplaced (reordered ds)) ≡ None
by_itself rule same ds some h =
    alone rule rule (rule []) (rule []) same same (λ d e. e) ds some h

pub zero_kept : (ds : List Descriptor) → list_any is_interface ds ≡ true
    → first_breach string_zero [] (unplaced ds) ≡ None
    → first_breach string_zero [] (unplaced (reordered ds)) ≡ None
zero_kept ds some h = by_itself string_zero (λ b d. refl) ds some h

above_alone : (b : List Placed) (d : Descriptor) → cport_above b d ≡ cport_above [] d
above_alone b (Descriptor.Interface v p f) = refl
above_alone b (Descriptor.Words id bytes) = refl
above_alone b (Descriptor.Bundle id class) = refl
above_alone b (Descriptor.Cport id bundle p) = refl

pub above_kept : (ds : List Descriptor) → list_any is_interface ds ≡ true
    → first_breach cport_above [] (unplaced ds) ≡ None
    → first_breach cport_above [] (unplaced (reordered ds)) ≡ None
above_kept ds some h = by_itself cport_above above_alone ds some h

control_alone : (b : List Placed) (d : Descriptor) → wrong_control b d ≡ wrong_control [] d
control_alone b (Descriptor.Interface v p f) = refl
control_alone b (Descriptor.Words id bytes) = refl
control_alone b (Descriptor.Bundle id class) = refl
control_alone b (Descriptor.Cport id bundle p) = refl

pub control_kept : (ds : List Descriptor) → list_any is_interface ds ≡ true
    → first_breach wrong_control [] (unplaced ds) ≡ None
    → first_breach wrong_control [] (unplaced (reordered ds)) ≡ None
control_kept ds some h = by_itself wrong_control control_alone ds some h

-- ---- rules that look for what is declared

not_more : (a b : Bool) → (a ≡ true → b ≡ true) → not a ≡ false → not b ≡ false
not_more true b up h = ap not (up refl)
not_more false b up h = absurd cc

lacks_less : (ds : List Descriptor) (id : ℕ) → lacks_string (unplaced ds) id ≡ false
    → lacks_string (unplaced (reordered ds)) id ≡ false
lacks_less ds id h =
    at (id == 0) (has (is_string id) (unplaced ds)) (has (is_string id) (unplaced (reordered ds)))
    (has_string id ds) h
  where
    at : (z a b : Bool) → (a ≡ true → b ≡ true) → (not z && not a) ≡ false
        → (not z && not b) ≡ false
    at true a b up h = refl
    at false a b up h = not_more a b up h

bundle_alone : (all b : List Placed) (d : Descriptor)
    → without_bundle all b d ≡ without_bundle all [] d
bundle_alone all b (Descriptor.Interface v p f) = refl
bundle_alone all b (Descriptor.Words id bytes) = refl
bundle_alone all b (Descriptor.Bundle id class) = refl
bundle_alone all b (Descriptor.Cport id bundle p) = refl

bundle_less : (ds : List Descriptor) (d : Descriptor)
    → without_bundle (unplaced ds) [] d ≡ false
    → without_bundle (unplaced (reordered ds)) [] d ≡ false
bundle_less ds (Descriptor.Interface v p f) h = refl
bundle_less ds (Descriptor.Words id bytes) h = refl
bundle_less ds (Descriptor.Bundle id class) h = refl
bundle_less ds (Descriptor.Cport id bundle p) h =
    not_more (has (is_bundle bundle) (unplaced ds))
    (has (is_bundle bundle) (unplaced (reordered ds)))
    (has_bundle bundle ds) h

pub bundle_kept : (ds : List Descriptor) → list_any is_interface ds ≡ true
    → first_breach (without_bundle (unplaced ds)) [] (unplaced ds) ≡ None
    → first_breach (without_bundle (unplaced (reordered ds))) [] (unplaced (reordered ds)) ≡ None
bundle_kept ds some h =
    alone (without_bundle (unplaced ds)) (without_bundle (unplaced (reordered ds)))
    (without_bundle (unplaced ds) []) (without_bundle (unplaced (reordered ds)) [])
    (bundle_alone (unplaced ds)) (bundle_alone (unplaced (reordered ds))) (bundle_less ds) ds some h

vendor_alone : (all b : List Placed) (d : Descriptor)
    → without_vendor all b d ≡ without_vendor all [] d
vendor_alone all b (Descriptor.Interface v p f) = refl
vendor_alone all b (Descriptor.Words id bytes) = refl
vendor_alone all b (Descriptor.Bundle id class) = refl
vendor_alone all b (Descriptor.Cport id bundle p) = refl

vendor_less : (ds : List Descriptor) (d : Descriptor)
    → without_vendor (unplaced ds) [] d ≡ false
    → without_vendor (unplaced (reordered ds)) [] d ≡ false
vendor_less ds (Descriptor.Interface v p f) h = lacks_less ds v h
vendor_less ds (Descriptor.Words id bytes) h = refl
vendor_less ds (Descriptor.Bundle id class) h = refl
vendor_less ds (Descriptor.Cport id bundle p) h = refl

pub vendor_kept : (ds : List Descriptor) → list_any is_interface ds ≡ true
    → first_breach (without_vendor (unplaced ds)) [] (unplaced ds) ≡ None
    → first_breach (without_vendor (unplaced (reordered ds))) [] (unplaced (reordered ds)) ≡ None
vendor_kept ds some h =
    alone (without_vendor (unplaced ds)) (without_vendor (unplaced (reordered ds)))
    (without_vendor (unplaced ds) []) (without_vendor (unplaced (reordered ds)) [])
    (vendor_alone (unplaced ds)) (vendor_alone (unplaced (reordered ds))) (vendor_less ds) ds some h

product_alone : (all b : List Placed) (d : Descriptor)
    → without_product all b d ≡ without_product all [] d
product_alone all b (Descriptor.Interface v p f) = refl
product_alone all b (Descriptor.Words id bytes) = refl
product_alone all b (Descriptor.Bundle id class) = refl
product_alone all b (Descriptor.Cport id bundle p) = refl

product_less : (ds : List Descriptor) (d : Descriptor)
    → without_product (unplaced ds) [] d ≡ false
    → without_product (unplaced (reordered ds)) [] d ≡ false
product_less ds (Descriptor.Interface v p f) h = lacks_less ds p h
product_less ds (Descriptor.Words id bytes) h = refl
product_less ds (Descriptor.Bundle id class) h = refl
product_less ds (Descriptor.Cport id bundle p) h = refl

pub product_kept : (ds : List Descriptor) → list_any is_interface ds ≡ true
    → first_breach (without_product (unplaced ds)) [] (unplaced ds) ≡ None
    → first_breach (without_product (unplaced (reordered ds))) [] (unplaced (reordered ds)) ≡ None
product_kept ds some h =
    alone (without_product (unplaced ds)) (without_product (unplaced (reordered ds)))
    (without_product (unplaced ds) []) (without_product (unplaced (reordered ds)) [])
    (product_alone (unplaced ds)) (product_alone (unplaced (reordered ds))) (product_less ds) ds
    some
    h
