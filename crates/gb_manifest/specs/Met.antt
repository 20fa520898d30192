-- What the code keeps of the descriptors that it has met.
use Rattle.std.specs.Prelude.{◌≡◌, ◌<◌, ℕ, None, List, []}
use Rattle.gb_formats.specs.ManifestRules.{Placed, first_breach, has, is_interface, is_string}
use Rattle.gb_formats.specs.ManifestRules.{is_bundle, is_cport, second_interface, string_zero}
use Rattle.gb_formats.specs.ManifestRules.{string_twice, bundle_twice, cport_above, cport_twice}
use Rattle.gb_formats.specs.ManifestRules.{wrong_control, without_bundle, without_vendor}
use Rattle.gb_formats.specs.ManifestRules.{without_product}
use Rattle.gb_manifest.specs.Declarations.{is_met}
use Rattle.gb_manifest.specs.declared.declared.MetInterfaces.{MetInterfaces}
use Rattle.gb_manifest.specs.declared.declared.MetStrings.{MetStrings}
use Rattle.gb_manifest.specs.declared.declared.MetBundles.{MetBundles}
use Rattle.gb_manifest.specs.declared.declared.MetCports.{MetCports}
use Rattle.gb_manifest.specs.declared.declared.Declared.{Declared}
use Rattle.gb_manifest.specs.declared.undeclared.Undeclared.{Undeclared}

pub record AreInterfaces (x : MetInterfaces) (all : List Placed) : Type 0 where
  pub any : x.any ≡ has is_interface all
  pub second : x.second ≡ first_breach second_interface [] all

pub record AreStrings (x : MetStrings) (all : List Placed) : Type 0 where
  pub zero : x.zero ≡ first_breach string_zero [] all
  pub twice : x.twice ≡ first_breach string_twice [] all
  pub met : (id : ℕ) → id < 256 → is_met x.met.marks id ≡ has (is_string id) all

pub record AreBundles (x : MetBundles) (all : List Placed) : Type 0 where
  pub twice : x.twice ≡ first_breach bundle_twice [] all
  pub met : (id : ℕ) → id < 256 → is_met x.met.marks id ≡ has (is_bundle id) all

-- An id above the greatest has no mark. Where there is none, the marks are those of all CPorts.
pub record AreCports (x : MetCports) (all : List Placed) : Type 0 where
  pub above : x.above ≡ first_breach cport_above [] all
  pub twice : x.above ≡ None → x.twice ≡ first_breach cport_twice [] all
  pub control : x.control ≡ first_breach wrong_control [] all
  pub met : (id : ℕ) → id < 4096 → is_met x.met.marks id ≡ has (is_cport id) all

pub record AreDeclared (x : Declared) (all : List Placed) : Type 0 where
  pub interfaces : AreInterfaces x.interfaces all
  pub strings : AreStrings x.strings all
  pub bundles : AreBundles x.bundles all
  pub cports : AreCports x.cports all

-- Of a list of descriptors, those before some place.
pub record AreUndeclared (x : Undeclared) (all before : List Placed) : Type 0 where
  pub bundle : x.bundle ≡ first_breach (without_bundle all) [] before
  pub vendor : x.vendor ≡ first_breach (without_vendor all) [] before
  pub product : x.product ≡ first_breach (without_product all) [] before
