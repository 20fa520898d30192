-- The numbers of a manifest's spec fit in their bytes.
use Rattle.std.proofs.Common.{◌≡◌, ℕ, zero, suc, ◌+◌, ◌<◌, List, [], ◌∷◌, ◌++◌, length, map, refl}
use Rattle.std.proofs.Common.{sym, ap, ◌∙◌, subst, Option, arith}
use Rattle.std.specs.Prelude.{⊤, slice_index, find}
use Rattle.std.specs.List.{flat_map}
use Rattle.gb_base.specs.Bytes.{AreBytes}
use Rattle.gb_formats.specs.Descriptors.{Descriptor, IsDescriptor}
use Rattle.gb_formats.specs.Manifest.{AreDescriptors, IsManifest, Manifest}
use Rattle.gb_formats.specs.ManifestRules.{Placed, is_interface}
use Rattle.gb_formats.specs.SourceTexts.{bundle_in, cport_in, features_of, manifest_spec}
use Rattle.gb_formats.specs.SourceTexts.{product_of, string_in, vendor_of}
use Rattle.gb_mnfs.specs.Fits.{BundlesFit, CportsFit, Fits, StringsFit}

-- ---- parts of bytes are bytes

pub bytes_front : (xs ys : List ℕ) → AreBytes (xs ++ ys) → AreBytes xs
bytes_front [] ys are k = omega arith
bytes_front (x ∷ xs) ys are zero = are 0
bytes_front (x ∷ xs) ys are (suc k) = bytes_front xs ys (λ k. are (suc k)) k

pub bytes_back : (xs ys : List ℕ) → AreBytes (xs ++ ys) → AreBytes ys
bytes_back [] ys are = are
bytes_back (x ∷ xs) ys are = bytes_back xs ys (λ k. are (suc k))

pub split : (bytes xs ys : List ℕ) → bytes ≡ xs ++ ys → AreBytes bytes → AreBytes (xs ++ ys)
split bytes xs ys e are = subst AreBytes e are

pub at : (bytes other : List ℕ) (k n : ℕ) → bytes ≡ other → slice_index other k ≡ n → AreBytes bytes
    → n < 256
at bytes other k n e is are =
    subst (λ (x : ℕ). x < 256) (ap (λ l. slice_index l k) e ∙ is) (are k)

-- ---- descriptors

-- the numbers of a descriptor fit
abbrev DescriptorFits : Descriptor → Type 0
DescriptorFits (Descriptor.Interface vendor product features) =
    (vendor < 256) × (product < 256) × (features < 256)
DescriptorFits (Descriptor.Words id bytes) = (id < 256) × AreBytes bytes
DescriptorFits (Descriptor.Bundle id class) = (id < 256) × (class < 256)
DescriptorFits (Descriptor.Cport id bundle protocol) =
    (id < 65536) × (bundle < 256) × (protocol < 256)

descriptor_fits : (bytes : List ℕ) (d : Descriptor) → IsDescriptor bytes d → AreBytes bytes
    → DescriptorFits d
descriptor_fits bytes (Descriptor.Interface vendor product features) h are = (
  at bytes _ 4 vendor h.spelt refl are,
  at bytes _ 5 product h.spelt refl are,
  at bytes _ 6 features h.spelt refl are,
)
descriptor_fits bytes (Descriptor.Words id string) h are =
    let whole = subst AreBytes h.spelt are in (
      at bytes _ 5 id h.spelt refl are,
      bytes_front string h.rest
          (λ k. whole (suc (suc (suc (suc (suc (suc k))))))),
    )
descriptor_fits bytes (Descriptor.Bundle id class) h are =
    (at bytes _ 4 id h.spelt refl are, at bytes _ 5 class h.spelt refl are)
descriptor_fits bytes (Descriptor.Cport id bundle protocol) h are =
    (h.id_fits, at bytes _ 6 bundle h.spelt refl are, at bytes _ 7 protocol h.spelt refl are)

abbrev AllDescriptorsFit : List Descriptor → Type 0
AllDescriptorsFit [] = ⊤
AllDescriptorsFit (d ∷ ds) = DescriptorFits d × AllDescriptorsFit ds

all_fit : (place : ℕ) (bytes : List ℕ) (placed : List Placed) → AreDescriptors place bytes placed
    → AreBytes bytes → AllDescriptorsFit (map (λ p. p.descriptor) placed)
all_fit place bytes [] h are = tt
all_fit place bytes (d ∷ ds) (front, back, parts, at_is, spelt, later) are =
    let whole = split bytes front back parts are in (
      descriptor_fits front d.descriptor spelt (bytes_front front back whole),
      all_fit (place + length front) back ds later (bytes_back front back whole),
    )

-- ---- what is declared

strings_fit : (ds : List Descriptor) → AllDescriptorsFit ds → StringsFit (flat_map string_in ds)
strings_fit [] h = tt
strings_fit (Descriptor.Interface v p f ∷ ds) h = strings_fit ds h.1
strings_fit (Descriptor.Words id bytes ∷ ds) h = (h.0.0, h.0.1, strings_fit ds h.1)
strings_fit (Descriptor.Bundle id class ∷ ds) h = strings_fit ds h.1
strings_fit (Descriptor.Cport id bundle protocol ∷ ds) h = strings_fit ds h.1

bundles_fit : (ds : List Descriptor) → AllDescriptorsFit ds → BundlesFit (flat_map bundle_in ds)
bundles_fit [] h = tt
bundles_fit (Descriptor.Interface v p f ∷ ds) h = bundles_fit ds h.1
bundles_fit (Descriptor.Words id bytes ∷ ds) h = bundles_fit ds h.1
bundles_fit (Descriptor.Bundle id class ∷ ds) h = (h.0.0, h.0.1, bundles_fit ds h.1)
bundles_fit (Descriptor.Cport id bundle protocol ∷ ds) h = bundles_fit ds h.1

cports_fit : (ds : List Descriptor) → AllDescriptorsFit ds → CportsFit (flat_map cport_in ds)
cports_fit [] h = tt
cports_fit (Descriptor.Interface v p f ∷ ds) h = cports_fit ds h.1
cports_fit (Descriptor.Words id bytes ∷ ds) h = cports_fit ds h.1
cports_fit (Descriptor.Bundle id class ∷ ds) h = cports_fit ds h.1
cports_fit (Descriptor.Cport id bundle protocol ∷ ds) h =
    (h.0.0, h.0.1, h.0.2, cports_fit ds h.1)

-- the interface's numbers fit
abbrev InterfaceFits : Option Descriptor → Type 0
InterfaceFits d = (vendor_of d < 256) × (product_of d < 256) × (features_of d < 256)

interface_fits : (ds : List Descriptor) → AllDescriptorsFit ds
    → InterfaceFits (find is_interface ds)
interface_fits [] h = (omega arith, omega arith, omega arith)
interface_fits (Descriptor.Interface v p f ∷ ds) h = h.0
interface_fits (Descriptor.Words id bytes ∷ ds) h = interface_fits ds h.1
interface_fits (Descriptor.Bundle id class ∷ ds) h = interface_fits ds h.1
interface_fits (Descriptor.Cport id bundle protocol ∷ ds) h = interface_fits ds h.1

spec_fits : (m : Manifest) → m.minor < 256 → AllDescriptorsFit m.descriptors
    → Fits (manifest_spec m)
spec_fits m minor h =
    let i = interface_fits m.descriptors h in
    record {
      minor = minor;
      vendor = i.0;
      product = i.1;
      features = i.2;
      strings = strings_fit m.descriptors h;
      bundles = bundles_fit m.descriptors h;
      cports = cports_fit m.descriptors h;
    }

-- The spec of a manifest has numbers that fit.
pub manifest_fits : (bytes : List ℕ) (m : Manifest) → AreBytes bytes → IsManifest bytes m
    → Fits (manifest_spec m)
manifest_fits bytes m are h =
    let whole = subst AreBytes h.spelt are in
    let all = all_fit 4 h.rest h.placed h.descriptors
    (λ k. whole (suc (suc (suc (suc k))))) in
    spec_fits m (at bytes _ 3 m.minor h.spelt refl are)
    (subst AllDescriptorsFit (sym h.listed) all)
