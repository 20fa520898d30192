-- What is kept of the descriptors that were met, with one more.
use Rattle.std.proofs.Common.{◌≡◌, ◌<◌, ◌≤◌, ℕ, Bool, true, false, List, [], ◌∷◌, ◌++◌, Option}
use Rattle.std.proofs.Common.{Some, None, refl, sym, ap, ◌∙◌, arith}
use Rattle.std.proofs.lemmas.Bool.Decides.{nat_tests}
use Rattle.std.specs.Prelude.{◌||◌, ◌==◌, nat_lt}
use Rattle.gb_formats.specs.Descriptors.{Descriptor}
use Rattle.gb_formats.specs.ManifestRules.{Placed, first_breach, has, is_interface, is_string}
use Rattle.gb_formats.specs.ManifestRules.{is_bundle, is_cport, second_interface, string_zero}
use Rattle.gb_formats.specs.ManifestRules.{string_twice, bundle_twice, cport_above, cport_twice}
use Rattle.gb_formats.specs.ManifestRules.{wrong_control}
use Rattle.gb_manifest.specs.Declarations.{first_place, is_met, place}
use Rattle.gb_manifest.specs.Met.{AreInterfaces, AreStrings, AreBundles, AreCports, AreDeclared}
use Rattle.gb_manifest.specs.declared.declared.MetInterfaces.{MetInterfaces}
use Rattle.gb_manifest.specs.declared.declared.MetStrings.{MetStrings}
use Rattle.gb_manifest.specs.declared.declared.MetBundles.{MetBundles}
use Rattle.gb_manifest.specs.declared.declared.MetCports.{MetCports}
use Rattle.gb_manifest.specs.declared.declared.Declared.{Declared}
use Rattle.gb_manifest.proofs.Breaches.{or-swap, first_breach-last, has-last, first_breach-kept}
use Rattle.gb_manifest.proofs.Breaches.{has-kept}

-- ---- a descriptor of another kind

pub interfaces_kept : (x : MetInterfaces) (before : List Placed) (at : ℕ) (d : Descriptor)
    → is_interface d ≡ false → second_interface before d ≡ false → AreInterfaces x before
    → AreInterfaces x (before ++ place at d ∷ [])
interfaces_kept x before at d e s h = record {
  any = h.any ∙ sym (has-kept is_interface before at d e);
  second = h.second ∙ sym (first_breach-kept second_interface before at d s);
}

pub strings_kept : (x : MetStrings) (before : List Placed) (at : ℕ) (d : Descriptor)
    → string_zero before d ≡ false → string_twice before d ≡ false
    → ((id : ℕ) → is_string id d ≡ false) → AreStrings x before
    → AreStrings x (before ++ place at d ∷ [])
strings_kept x before at d z t e h = record {
  zero = h.zero ∙ sym (first_breach-kept string_zero before at d z);
  twice = h.twice ∙ sym (first_breach-kept string_twice before at d t);
  met = λ id b. h.met id b ∙ sym (has-kept (is_string id) before at d (e id));
}

pub bundles_kept : (x : MetBundles) (before : List Placed) (at : ℕ) (d : Descriptor)
    → bundle_twice before d ≡ false → ((id : ℕ) → is_bundle id d ≡ false) → AreBundles x before
    → AreBundles x (before ++ place at d ∷ [])
bundles_kept x before at d t e h = record {
  twice = h.twice ∙ sym (first_breach-kept bundle_twice before at d t);
  met = λ id b. h.met id b ∙ sym (has-kept (is_bundle id) before at d (e id));
}

pub cports_kept : (x : MetCports) (before : List Placed) (at : ℕ) (d : Descriptor)
    → cport_above before d ≡ false → cport_twice before d ≡ false → wrong_control before d ≡ false
    → ((id : ℕ) → is_cport id d ≡ false) → AreCports x before
    → AreCports x (before ++ place at d ∷ [])
cports_kept x before at d a t w e h = record {
  above = h.above ∙ sym (first_breach-kept cport_above before at d a);
  twice = λ none. h.twice none ∙ sym (first_breach-kept cport_twice before at d t);
  control = h.control ∙ sym (first_breach-kept wrong_control before at d w);
  met = λ id b. h.met id b ∙ sym (has-kept (is_cport id) before at d (e id));
}

-- ---- a descriptor of the kind

-- an id is met where it is this one or was met before
pub met_more : (test : Descriptor → Bool) (before : List Placed) (at : ℕ) (d : Descriptor)
    (new old : Bool)
    → new ≡ (test d || old) → old ≡ has test before → new ≡ has test (before ++ place at d ∷ [])
met_more test before at d new old n o =
    n ∙ or-swap (test d) old ∙ ap (λ b. b || test d) o ∙ sym (has-last test before at d)

-- the first breach is told by the earlier one and by this descriptor
pub breach_more : (breaks : List Placed → Descriptor → Bool) (before : List Placed) (at : ℕ)
    (d : Descriptor) (new old : Option ℕ) (broken : Bool)
    → new ≡ first_place old broken at → old ≡ first_breach breaks [] before
    → broken ≡ breaks before d → new ≡ first_breach breaks [] (before ++ place at d ∷ [])
breach_more breaks before at d new old broken n o b =
    n ∙ ap (λ p. first_place p broken at) o
    ∙ ap (λ t. first_place (first_breach breaks [] before) t at) b
    ∙ sym (first_breach-last breaks before at d)

-- ---- all kinds

pub declared_interface : (x : Declared) (y : MetInterfaces) (before : List Placed) (at v p f : ℕ)
    → AreInterfaces y (before ++ place at (Descriptor.Interface v p f) ∷ []) → AreDeclared x before
    → AreDeclared (record x { interfaces = y })
    (before ++ place at (Descriptor.Interface v p f) ∷ [])
declared_interface x y before at v p f more h = record {
  interfaces = more;
  strings = strings_kept x.strings before at _ refl refl (λ id. refl) h.strings;
  bundles = bundles_kept x.bundles before at _ refl (λ id. refl) h.bundles;
  cports = cports_kept x.cports before at _ refl refl refl (λ id. refl) h.cports;
}

pub declared_words : (x : Declared) (y : MetStrings) (before : List Placed) (at id : ℕ)
    (bytes : List ℕ)
    → AreStrings y (before ++ place at (Descriptor.Words id bytes) ∷ []) → AreDeclared x before
    → AreDeclared (record x { strings = y }) (before ++ place at (Descriptor.Words id bytes) ∷ [])
declared_words x y before at id bytes more h = record {
  interfaces = interfaces_kept x.interfaces before at _ refl refl h.interfaces;
  strings = more;
  bundles = bundles_kept x.bundles before at _ refl (λ id. refl) h.bundles;
  cports = cports_kept x.cports before at _ refl refl refl (λ id. refl) h.cports;
}

pub declared_bundle : (x : Declared) (y : MetBundles) (before : List Placed) (at id class : ℕ)
    → AreBundles y (before ++ place at (Descriptor.Bundle id class) ∷ []) → AreDeclared x before
    → AreDeclared (record x { bundles = y }) (before ++ place at (Descriptor.Bundle id class) ∷ [])
declared_bundle x y before at id class more h = record {
  interfaces = interfaces_kept x.interfaces before at _ refl refl h.interfaces;
  strings = strings_kept x.strings before at _ refl refl (λ id. refl) h.strings;
  bundles = more;
  cports = cports_kept x.cports before at _ refl refl refl (λ id. refl) h.cports;
}

pub declared_cport : (x : Declared) (y : MetCports) (before : List Placed)
    (at id bundle protocol : ℕ)
    → AreCports y (before ++ place at (Descriptor.Cport id bundle protocol) ∷ [])
    → AreDeclared x before
    → AreDeclared (record x { cports = y })
    (before ++ place at (Descriptor.Cport id bundle protocol) ∷ [])
declared_cport x y before at id bundle protocol more h = record {
  interfaces = interfaces_kept x.interfaces before at _ refl refl h.interfaces;
  strings = strings_kept x.strings before at _ refl refl (λ id. refl) h.strings;
  bundles = bundles_kept x.bundles before at _ refl (λ id. refl) h.bundles;
  cports = more;
}

-- ---- a descriptor of the kind, as the code takes it

pub interface_taken : (x y : MetInterfaces) (before : List Placed) (at v p f : ℕ) → y.any ≡ true
    → y.second ≡ first_place x.second x.any at → AreInterfaces x before
    → AreInterfaces y (before ++ place at (Descriptor.Interface v p f) ∷ [])
interface_taken x y before at v p f any second h = record {
  any =
      any
      ∙ sym (has-last is_interface before at (Descriptor.Interface v p f)
      ∙ or-swap (has is_interface before) true);
  second =
      breach_more second_interface before at (Descriptor.Interface v p f) _ _ x.any second h.second
      h.any;
}

pub words_taken : (x y : MetStrings) (before : List Placed) (at id : ℕ) (bytes : List ℕ) → id < 256
    → y.zero ≡ first_place x.zero (id == 0) at
    → y.twice ≡ first_place x.twice (is_met x.met.marks id) at
    → ((k : ℕ) → is_met y.met.marks k ≡ (id == k || is_met x.met.marks k)) → AreStrings x before
    → AreStrings y (before ++ place at (Descriptor.Words id bytes) ∷ [])
words_taken x y before at id bytes fits zero twice met h = record {
  zero = breach_more string_zero before at (Descriptor.Words id bytes) _ _ _ zero h.zero refl;
  twice =
      breach_more string_twice before at (Descriptor.Words id bytes) _ _ _ twice h.twice
      (h.met id fits);
  met = λ k b. met_more (is_string k) before at (Descriptor.Words id bytes) _ _ (met k) (h.met k b);
}

pub bundle_taken : (x y : MetBundles) (before : List Placed) (at id class : ℕ) → id < 256
    → y.twice ≡ first_place x.twice (is_met x.met.marks id) at
    → ((k : ℕ) → is_met y.met.marks k ≡ (id == k || is_met x.met.marks k)) → AreBundles x before
    → AreBundles y (before ++ place at (Descriptor.Bundle id class) ∷ [])
bundle_taken x y before at id class fits twice met h = record {
  twice =
      breach_more bundle_twice before at (Descriptor.Bundle id class) _ _ _ twice h.twice
      (h.met id fits);
  met = λ k b.
      met_more (is_bundle k) before at (Descriptor.Bundle id class) _ _ (met k) (h.met k b);
}

-- there was no breach before either
first_place-none : (p : Option ℕ) (broken : Bool) (at : ℕ)
    → first_place p broken at ≡ None → p ≡ None
first_place-none None broken at e = refl
first_place-none (Some x) broken at e = absurd cc

-- a breach here is one
first_place-some : (p : Option ℕ) (broken : Bool) (at : ℕ)
    → broken ≡ true → first_place p broken at ≡ None → ⊥
first_place-some p false at b e = absurd cc
first_place-some None true at b e = absurd cc
first_place-some (Some x) true at b e = absurd cc

pub cport_taken : (x y : MetCports) (before : List Placed) (at id bundle protocol : ℕ)
    (wrong : Bool)
    → id ≤ 4095 → wrong ≡ wrong_control before (Descriptor.Cport id bundle protocol)
    → y.control ≡ first_place x.control wrong at → y.above ≡ first_place x.above (nat_lt 4095 id) at
    → y.twice ≡ first_place x.twice (is_met x.met.marks id) at
    → ((k : ℕ) → is_met y.met.marks k ≡ (id == k || is_met x.met.marks k)) → AreCports x before
    → AreCports y (before ++ place at (Descriptor.Cport id bundle protocol) ∷ [])
cport_taken x y before at id bundle protocol wrong fits is_wrong control above twice met h =
    let below : id < 4096 = omega arith in
    record {
      above =
          breach_more cport_above before at (Descriptor.Cport id bundle protocol) _ _ _ above
          h.above refl;
      twice = λ none.
          breach_more cport_twice before at (Descriptor.Cport id bundle protocol) _ _ _ twice
          (h.twice (first_place-none _ _ at (sym above ∙ none))) (h.met id below);
      control =
          breach_more wrong_control before at (Descriptor.Cport id bundle protocol) _ _ wrong
          control h.control is_wrong;
      met = λ k b.
          met_more (is_cport k) before at (Descriptor.Cport id bundle protocol) _ _ (met k)
          (h.met k b);
    }

-- an id above the greatest isn't kept
pub cport_above_taken : (x y : MetCports) (before : List Placed) (at id bundle protocol : ℕ)
    (wrong : Bool)
    → 4095 < id → wrong ≡ wrong_control before (Descriptor.Cport id bundle protocol)
    → y.control ≡ first_place x.control wrong at → y.above ≡ first_place x.above (nat_lt 4095 id) at
    → y.met.marks ≡ x.met.marks → AreCports x before
    → AreCports y (before ++ place at (Descriptor.Cport id bundle protocol) ∷ [])
cport_above_taken x y before at id bundle protocol wrong over is_wrong control above met h =
    let broken : nat_lt 4095 id ≡ true = grind (arith, nat_tests) in
    record {
      above =
          breach_more cport_above before at (Descriptor.Cport id bundle protocol) _ _ _ above
          h.above refl;
      twice = λ none. absurd (first_place-some _ _ at broken (sym above ∙ none));
      control =
          breach_more wrong_control before at (Descriptor.Cport id bundle protocol) _ _ wrong
          control h.control is_wrong;
      met = λ k b.
          ap (λ ms. is_met ms k) met
          ∙ h.met k b
          ∙ sym (has-kept (is_cport k) before at (Descriptor.Cport id bundle protocol)
          (other id k b over));
    }
  where
    other : (id k : ℕ) → k < 4096 → 4095 < id → (id == k) ≡ false
    other id k b over = grind (arith, nat_tests)
