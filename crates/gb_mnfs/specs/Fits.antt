-- Specs whose numbers fit in their bytes.
use Rattle.std.specs.Prelude.{◌<◌, ⊤, List, [], ◌∷◌}
use Rattle.gb_base.specs.Bytes.{AreBytes}
use Rattle.gb_formats.specs.ManifestSpec.{BundleSpec, CportSpec, ManifestSpec, StringSpec}

-- the ids and the bytes of strings
abbrev pub StringsFit : List StringSpec → Type 0
StringsFit [] = ⊤
StringsFit (s ∷ ss) = (s.id < 256) × AreBytes s.bytes × StringsFit ss

-- the ids and classes of bundles
abbrev pub BundlesFit : List BundleSpec → Type 0
BundlesFit [] = ⊤
BundlesFit (b ∷ bs) = (b.id < 256) × (b.class < 256) × BundlesFit bs

-- the ids, bundles and protocols of CPorts
abbrev pub CportsFit : List CportSpec → Type 0
CportsFit [] = ⊤
CportsFit (c ∷ cs) = (c.id < 65536) × (c.bundle < 256) × (c.protocol < 256) × CportsFit cs

-- The id of a CPort has two bytes, all other numbers one.
pub record Fits (spec : ManifestSpec) : Type 0 where
  pub minor : spec.minor < 256
  pub vendor : spec.vendor < 256
  pub product : spec.product < 256
  pub features : spec.features < 256
  pub strings : StringsFit spec.strings
  pub bundles : BundlesFit spec.bundles
  pub cports : CportsFit spec.cports
