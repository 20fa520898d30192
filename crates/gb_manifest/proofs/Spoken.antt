-- What isn't declared, with one descriptor more.
use Rattle.std.proofs.Common.{◌≡◌, ℕ, Bool, false, List, [], ◌∷◌, ◌++◌, refl, sym, ap, ◌∙◌}
use Rattle.std.specs.Prelude.{not}
use Rattle.gb_formats.specs.Descriptors.{Descriptor}
use Rattle.gb_formats.specs.ManifestRules.{Placed, has, is_bundle, lacks_string, without_bundle}
use Rattle.gb_formats.specs.ManifestRules.{without_vendor, without_product}
use Rattle.gb_manifest.specs.Declarations.{first_place, place}
use Rattle.gb_manifest.specs.Met.{AreUndeclared}
use Rattle.gb_manifest.specs.declared.undeclared.Undeclared.{Undeclared}
use Rattle.gb_manifest.proofs.Breaches.{first_breach-kept}
use Rattle.gb_manifest.proofs.Declarations.{breach_more}

pub interface_seen : (x y : Undeclared) (all before : List Placed) (at v p f : ℕ)
    (vendor product : Bool)
    → y.bundle ≡ x.bundle → y.vendor ≡ first_place x.vendor vendor at
    → y.product ≡ first_place x.product product at → vendor ≡ lacks_string all v
    → product ≡ lacks_string all p → AreUndeclared x all before
    → AreUndeclared y all (before ++ place at (Descriptor.Interface v p f) ∷ [])
interface_seen x y all before at v p f vendor product b e g lacks_v lacks_p h = record {
  bundle =
      b ∙ h.bundle
      ∙ sym (first_breach-kept (without_bundle all) before at (Descriptor.Interface v p f) refl);
  vendor =
      breach_more (without_vendor all) before at (Descriptor.Interface v p f) _ _ vendor e h.vendor
      lacks_v;
  product =
      breach_more (without_product all) before at (Descriptor.Interface v p f) _ _ product g
      h.product lacks_p;
}

pub cport_seen : (x y : Undeclared) (all before : List Placed) (at id bundle protocol : ℕ)
    (declared : Bool)
    → y.bundle ≡ first_place x.bundle (not declared) at → y.vendor ≡ x.vendor
    → y.product ≡ x.product → declared ≡ has (is_bundle bundle) all → AreUndeclared x all before
    → AreUndeclared y all (before ++ place at (Descriptor.Cport id bundle protocol) ∷ [])
cport_seen x y all before at id bundle protocol declared b e g has_bundle h = record {
  bundle =
      breach_more (without_bundle all) before at (Descriptor.Cport id bundle protocol) _ _ _ b
      h.bundle (ap not has_bundle);
  vendor =
      e ∙ h.vendor
      ∙ sym (first_breach-kept (without_vendor all) before at (Descriptor.Cport id bundle protocol)
      refl);
  product =
      g ∙ h.product
      ∙ sym (first_breach-kept (without_product all) before at (Descriptor.Cport id bundle protocol)
      refl);
}

-- a descriptor that speaks of nothing
pub passed : (x : Undeclared) (all before : List Placed) (at : ℕ) (d : Descriptor)
    → without_bundle all before d ≡ false → without_vendor all before d ≡ false
    → without_product all before d ≡ false → AreUndeclared x all before
    → AreUndeclared x all (before ++ place at d ∷ [])
passed x all before at d b v p h = record {
  bundle = h.bundle ∙ sym (first_breach-kept (without_bundle all) before at d b);
  vendor = h.vendor ∙ sym (first_breach-kept (without_vendor all) before at d v);
  product = h.product ∙ sym (first_breach-kept (without_product all) before at d p);
}
