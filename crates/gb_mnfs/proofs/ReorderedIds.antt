-- Ids are met once where strings stand before bundles before CPorts, if they were before.
use Rattle.std.proofs.Common.{◌≡◌, ℕ, ◌&&◌, ◌||◌, Bool, true, false, List, [], ◌∷◌, ◌++◌, map, refl}
use Rattle.std.proofs.Common.{sym, ap, ◌∙◌, Option, Some, None, append-nil, append_assoc}
use Rattle.std.specs.Prelude.{◌==◌, not, if◌then◌else◌, option_to_list}
use Rattle.std.specs.List.{flat_map, list_any}
use Rattle.gb_formats.specs.Descriptors.{Descriptor}
use Rattle.gb_formats.specs.ManifestRules.{Placed, bundle_twice, cport_twice, first_breach, has}
use Rattle.gb_formats.specs.ManifestRules.{is_bundle, is_cport, is_string, string_twice}
use Rattle.gb_formats.specs.ManifestSpec.{BundleSpec, CportSpec, StringSpec, bundle_descriptor}
use Rattle.gb_formats.specs.ManifestSpec.{cport_descriptor, string_descriptor}
use Rattle.gb_formats.specs.SourceTexts.{bundle_in, cport_in, string_in}
use Rattle.gb_manifest.specs.Declarations.{place}
use Rattle.gb_manifest.specs.Writes.{unplaced}
use Rattle.gb_manifest.proofs.Places.{bare}
use Rattle.gb_mnfs.proofs.Reordered.{bundles, cports, first_interface, reordered, strings}

-- ---- the ids of a kind

abbrev string_id : Descriptor → Option ℕ
string_id (Descriptor.Words id bytes) = Some id
string_id _ = None

abbrev bundle_id : Descriptor → Option ℕ
bundle_id (Descriptor.Bundle id class) = Some id
bundle_id _ = None

abbrev cport_id : Descriptor → Option ℕ
cport_id (Descriptor.Cport id bundle protocol) = Some id
cport_id _ = None

abbrev ids : (Descriptor → Option ℕ) → List Descriptor → List ℕ
ids i [] = []
ids i (d ∷ ds) = option_to_list (i d) ++ ids i ds

abbrev member : ℕ → List ℕ → Bool
member id xs = list_any (λ x. x == id) xs

-- whether an id of a kind was met
abbrev met : Option ℕ → List ℕ → Bool
met None before = false
met (Some id) before = member id before

-- whether no id is met twice
abbrev once : List ℕ → List ℕ → Bool
once before [] = true
once before (x ∷ xs) = not (member x before) && once (before ++ x ∷ []) xs

ids-more : (i : Descriptor → Option ℕ) (before : List Placed) (d : Descriptor)
    → ids i (bare (before ++ place 0 d ∷ [])) ≡ ids i (bare before) ++ option_to_list (i d)
ids-more i [] d = append-nil (option_to_list (i d))
ids-more i (p ∷ ps) d =
    ap (λ l. option_to_list (i p.descriptor) ++ l) (ids-more i ps d)
    ∙ sym (append_assoc (option_to_list (i p.descriptor)) (ids i (bare ps)) (option_to_list (i d)))

-- a rule that no id is met twice
abbrev Twice : (List Placed → Descriptor → Bool) → (Descriptor → Option ℕ) → Type 0
Twice rule i =
    (before : List Placed) (d : Descriptor) → rule before d ≡ met (i d) (ids i (bare before))

once_here : (o : Option ℕ) (before rest : List ℕ) (later : Option ℕ)
    → (if met o before then Some 0 else later) ≡ None
    → (later ≡ None → once (before ++ option_to_list o) rest ≡ true)
    → once before (option_to_list o ++ rest) ≡ true
once_here None before rest later h up = ap (λ l. once l rest) (sym (append-nil before)) ∙ up h
once_here (Some id) before rest later h up = at (member id before) h
  where
    at : (t : Bool) → (if t then Some 0 else later) ≡ None
        → (not t && once (before ++ id ∷ []) rest) ≡ true
    at true e = absurd cc
    at false e = up e

here_once : (o : Option ℕ) (before rest : List ℕ) (later : Option ℕ)
    → once before (option_to_list o ++ rest) ≡ true
    → (once (before ++ option_to_list o) rest ≡ true → later ≡ None)
    → (if met o before then Some 0 else later) ≡ None
here_once None before rest later h up = up (ap (λ l. once l rest) (append-nil before) ∙ h)
here_once (Some id) before rest later h up = at (member id before) h
  where
    at : (t : Bool) → (not t && once (before ++ id ∷ []) rest) ≡ true
        → (if t then Some 0 else later) ≡ None
    at true e = absurd cc
    at false e = up e

once_of : (rule : List Placed → Descriptor → Bool) (i : Descriptor → Option ℕ) → Twice rule i
    → (before : List Placed) (ds : List Descriptor)
    → first_breach rule before (unplaced ds) ≡ None → once (ids i (bare before)) (ids i ds) ≡ true
once_of rule i is before [] h = refl
once_of rule i is before (d ∷ ds) h =
    let later = first_breach rule (before ++ place 0 d ∷ []) (unplaced ds) in
    once_here (i d) (ids i (bare before)) (ids i ds) later
    (ap (λ t. if t then Some 0 else later) (sym (is before d)) ∙ h)
    (λ e. ap (λ l. once l (ids i ds)) (sym (ids-more i before d))
    ∙ once_of rule i is (before ++ place 0 d ∷ []) ds e)

of_once : (rule : List Placed → Descriptor → Bool) (i : Descriptor → Option ℕ) → Twice rule i
    → (before : List Placed) (ds : List Descriptor)
    → once (ids i (bare before)) (ids i ds) ≡ true → first_breach rule before (unplaced ds) ≡ None
of_once rule i is before [] h = refl
of_once rule i is before (d ∷ ds) h =
    let later = first_breach rule (before ++ place 0 d ∷ []) (unplaced ds) in
    ap (λ t. if t then Some 0 else later) (is before d)
    ∙ here_once (i d) (ids i (bare before)) (ids i ds) later h
    (λ e. of_once rule i is (before ++ place 0 d ∷ []) ds
    (ap (λ l. once l (ids i ds)) (ids-more i before d) ∙ e))

-- ---- the three rules

strings_met_by : (id : ℕ) (d : Descriptor) (rest : Bool) (more : List ℕ) → rest ≡ member id more
    → (is_string id d || rest) ≡ member id (option_to_list (string_id d) ++ more)
strings_met_by id (Descriptor.Interface v p f) rest more e = e
strings_met_by id (Descriptor.Bundle other class) rest more e = e
strings_met_by id (Descriptor.Cport other b p) rest more e = e
strings_met_by id (Descriptor.Words other bytes) rest more e = ap (λ t. other == id || t) e

strings_met : (id : ℕ) (before : List Placed)
    → has (is_string id) before ≡ member id (ids string_id (bare before))
strings_met id [] = refl
strings_met id (p ∷ ps) =
    strings_met_by id p.descriptor (has (is_string id) ps) (ids string_id (bare ps))
    (strings_met id ps)

string_rule : Twice string_twice string_id
string_rule before (Descriptor.Interface v p f) = refl
string_rule before (Descriptor.Bundle other class) = refl
string_rule before (Descriptor.Cport other b p) = refl
string_rule before (Descriptor.Words other bytes) = strings_met other before

bundles_met_by : (id : ℕ) (d : Descriptor) (rest : Bool) (more : List ℕ) → rest ≡ member id more
    → (is_bundle id d || rest) ≡ member id (option_to_list (bundle_id d) ++ more)
bundles_met_by id (Descriptor.Interface v p f) rest more e = e
bundles_met_by id (Descriptor.Words other bytes) rest more e = e
bundles_met_by id (Descriptor.Cport other b p) rest more e = e
bundles_met_by id (Descriptor.Bundle other class) rest more e = ap (λ t. other == id || t) e

bundles_met : (id : ℕ) (before : List Placed)
    → has (is_bundle id) before ≡ member id (ids bundle_id (bare before))
bundles_met id [] = refl
bundles_met id (p ∷ ps) =
    bundles_met_by id p.descriptor (has (is_bundle id) ps) (ids bundle_id (bare ps))
    (bundles_met id ps)

bundle_rule : Twice bundle_twice bundle_id
bundle_rule before (Descriptor.Interface v p f) = refl
bundle_rule before (Descriptor.Words other bytes) = refl
bundle_rule before (Descriptor.Cport other b p) = refl
bundle_rule before (Descriptor.Bundle other class) = bundles_met other before

cports_met_by : (id : ℕ) (d : Descriptor) (rest : Bool) (more : List ℕ) → rest ≡ member id more
    → (is_cport id d || rest) ≡ member id (option_to_list (cport_id d) ++ more)
cports_met_by id (Descriptor.Interface v p f) rest more e = e
cports_met_by id (Descriptor.Words other bytes) rest more e = e
cports_met_by id (Descriptor.Bundle other class) rest more e = e
cports_met_by id (Descriptor.Cport other b p) rest more e = ap (λ t. other == id || t) e

cports_met : (id : ℕ) (before : List Placed)
    → has (is_cport id) before ≡ member id (ids cport_id (bare before))
cports_met id [] = refl
cports_met id (p ∷ ps) =
    cports_met_by id p.descriptor (has (is_cport id) ps) (ids cport_id (bare ps)) (cports_met id ps)

cport_rule : Twice cport_twice cport_id
cport_rule before (Descriptor.Interface v p f) = refl
cport_rule before (Descriptor.Words other bytes) = refl
cport_rule before (Descriptor.Bundle other class) = refl
cport_rule before (Descriptor.Cport other b p) = cports_met other before

kept_by : (rule : List Placed → Descriptor → Bool) (i : Descriptor → Option ℕ) → Twice rule i
    → (ds : List Descriptor) → ids i (reordered ds) ≡ ids i ds
    → first_breach rule [] (unplaced ds) ≡ None
    → first_breach rule [] (unplaced (reordered ds)) ≡ None
kept_by rule i is ds same h =
    of_once rule i is [] (reordered ds) (ap (λ l. once [] l) same ∙ once_of rule i is [] ds h)

ids-append : (i : Descriptor → Option ℕ) (xs ys : List Descriptor)
    → ids i (xs ++ ys) ≡ ids i xs ++ ids i ys
ids-append i [] ys = refl
ids-append i (x ∷ xs) ys =
    ap (λ l. option_to_list (i x) ++ l) (ids-append i xs ys)
    ∙ sym (append_assoc (option_to_list (i x)) (ids i xs) (ids i ys))

-- ---- the ids where the descriptors stand by kinds

no_string_ids : (i : Descriptor → Option ℕ) → ((s : StringSpec) → i (string_descriptor s) ≡ None)
    → (ss : List StringSpec) → ids i (map string_descriptor ss) ≡ []
no_string_ids i none [] = refl
no_string_ids i none (s ∷ ss) =
    ap (λ o. option_to_list o ++ ids i (map string_descriptor ss)) (none s)
    ∙ no_string_ids i none ss

no_bundle_ids : (i : Descriptor → Option ℕ) → ((b : BundleSpec) → i (bundle_descriptor b) ≡ None)
    → (bs : List BundleSpec) → ids i (map bundle_descriptor bs) ≡ []
no_bundle_ids i none [] = refl
no_bundle_ids i none (b ∷ bs) =
    ap (λ o. option_to_list o ++ ids i (map bundle_descriptor bs)) (none b)
    ∙ no_bundle_ids i none bs

no_cport_ids : (i : Descriptor → Option ℕ) → ((c : CportSpec) → i (cport_descriptor c) ≡ None)
    → (cs : List CportSpec) → ids i (map cport_descriptor cs) ≡ []
no_cport_ids i none [] = refl
no_cport_ids i none (c ∷ cs) =
    ap (λ o. option_to_list o ++ ids i (map cport_descriptor cs)) (none c)
    ∙ no_cport_ids i none cs

by_kinds : (i : Descriptor → Option ℕ) (ds : List Descriptor) (s b c : List ℕ)
    → i (first_interface ds) ≡ None → ids i (strings ds) ≡ s → ids i (bundles ds) ≡ b
    → ids i (cports ds) ≡ c → ids i (reordered ds) ≡ s ++ (b ++ c)
by_kinds i ds s b c none is_s is_b is_c =
    ap (λ o. option_to_list o ++ ids i (strings ds ++ (bundles ds ++ cports ds))) none
    ∙ ids-append i (strings ds) (bundles ds ++ cports ds)
    ∙ ap (λ l. l ++ ids i (bundles ds ++ cports ds)) is_s
    ∙ ap (λ l. s ++ l) (ids-append i (bundles ds) (cports ds))
    ∙ ap (λ l. s ++ (l ++ ids i (cports ds))) is_b
    ∙ ap (λ l. s ++ (b ++ l)) is_c

own_strings : (ds : List Descriptor) → ids string_id (strings ds) ≡ ids string_id ds
own_strings [] = refl
own_strings (Descriptor.Interface v p f ∷ ds) = own_strings ds
own_strings (Descriptor.Bundle other class ∷ ds) = own_strings ds
own_strings (Descriptor.Cport other b p ∷ ds) = own_strings ds
own_strings (Descriptor.Words other bytes ∷ ds) = ap (λ l. other ∷ l) (own_strings ds)

own_bundles : (ds : List Descriptor) → ids bundle_id (bundles ds) ≡ ids bundle_id ds
own_bundles [] = refl
own_bundles (Descriptor.Interface v p f ∷ ds) = own_bundles ds
own_bundles (Descriptor.Words other bytes ∷ ds) = own_bundles ds
own_bundles (Descriptor.Cport other b p ∷ ds) = own_bundles ds
own_bundles (Descriptor.Bundle other class ∷ ds) = ap (λ l. other ∷ l) (own_bundles ds)

own_cports : (ds : List Descriptor) → ids cport_id (cports ds) ≡ ids cport_id ds
own_cports [] = refl
own_cports (Descriptor.Interface v p f ∷ ds) = own_cports ds
own_cports (Descriptor.Words other bytes ∷ ds) = own_cports ds
own_cports (Descriptor.Bundle other class ∷ ds) = own_cports ds
own_cports (Descriptor.Cport other b p ∷ ds) = ap (λ l. other ∷ l) (own_cports ds)

pub strings_kept : (ds : List Descriptor) → first_breach string_twice [] (unplaced ds) ≡ None
    → first_breach string_twice [] (unplaced (reordered ds)) ≡ None
strings_kept ds h =
    kept_by string_twice string_id string_rule ds
    (by_kinds string_id ds (ids string_id ds) [] [] refl (own_strings ds)
    (no_bundle_ids string_id (λ b. refl) (flat_map bundle_in ds))
    (no_cport_ids string_id (λ c. refl) (flat_map cport_in ds))
    ∙ append-nil (ids string_id ds)) h

pub bundles_kept : (ds : List Descriptor) → first_breach bundle_twice [] (unplaced ds) ≡ None
    → first_breach bundle_twice [] (unplaced (reordered ds)) ≡ None
bundles_kept ds h =
    kept_by bundle_twice bundle_id bundle_rule ds
    (by_kinds bundle_id ds [] (ids bundle_id ds) [] refl
    (no_string_ids bundle_id (λ s. refl) (flat_map string_in ds)) (own_bundles ds)
    (no_cport_ids bundle_id (λ c. refl) (flat_map cport_in ds))
    ∙ append-nil (ids bundle_id ds)) h

pub cports_kept : (ds : List Descriptor) → first_breach cport_twice [] (unplaced ds) ≡ None
    → first_breach cport_twice [] (unplaced (reordered ds)) ≡ None
cports_kept ds h =
    kept_by cport_twice cport_id cport_rule ds
    (by_kinds cport_id ds [] [] (ids cport_id ds) refl
    (no_string_ids cport_id (λ s. refl) (flat_map string_in ds))
    (no_bundle_ids cport_id (λ b. refl) (flat_map bundle_in ds)) (own_cports ds)) h
