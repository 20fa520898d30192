-- Manifests: the kinds' bytes, what other bytes are refused for, and the dump.
use Rattle.std.proofs.Common.{◌≡◌, ℕ, ◌+◌, List, [], ◌∷◌, refl, arith}
use Rattle.std.specs.Prelude.{◌/◌, ◌%◌, Option, Some, None, Result, Ok, Err, option_and_then}
use Rattle.std.specs.Prelude.{replicate, ◌++◌, map, option_map, length, slice_set, take, codes}
use Rattle.std.specs.Fmt.{digits}
use Rattle.hex.specs.Hex.{encode_with}
use Rattle.gb_base.specs.declared.event.Kind.TheVariants as kind
use Rattle.gb_base.specs.declared.reasons.Reason.TheVariants as reason
use Rattle.gb_formats.specs.Descriptors.{Descriptor, IsDescriptor}
use Rattle.gb_formats.specs.Dump.{dump_text, string_text, check_text, refused_text}
use Rattle.gb_formats.specs.Kinds.{kind_manifest, string_of, bundle_of, cport_of}
use Rattle.gb_formats.specs.Manifest.{Manifest, IsManifest, check_answer, refusal, refusal_at}
use Rattle.gb_formats.specs.Manifest.{cport}
use Rattle.gb_formats.specs.ManifestRules.{Refused}
use Rattle.gb_formats.specs.ManifestSpec.{ManifestSpec, write_answer, WriteFault}
use Rattle.gb_formats.proofs.Samples.{text_of}

-- the manifest of the gpio kind, 72 bytes
abbrev pub gpio_bytes : List ℕ
gpio_bytes =
    0x48 ∷ 0x00 ∷ 0x00 ∷ 0x01
    ∷ 0x08 ∷ 0x00 ∷ 0x01 ∷ 0x00 ∷ 0x01 ∷ 0x02 ∷ 0x00 ∷ 0x00
    ∷ 0x10 ∷ 0x00 ∷ 0x02 ∷ 0x00 ∷ 0x07 ∷ 0x01
    ∷ 0x47 ∷ 0x72 ∷ 0x65 ∷ 0x79 ∷ 0x62 ∷ 0x75 ∷ 0x73 ∷ 0x00 ∷ 0x00 ∷ 0x00
    ∷ 0x0c ∷ 0x00 ∷ 0x02 ∷ 0x00 ∷ 0x04 ∷ 0x02 ∷ 0x47 ∷ 0x50 ∷ 0x49 ∷ 0x4f ∷ 0x00 ∷ 0x00
    ∷ 0x08 ∷ 0x00 ∷ 0x03 ∷ 0x00 ∷ 0x00 ∷ 0x00 ∷ 0x00 ∷ 0x00
    ∷ 0x08 ∷ 0x00 ∷ 0x03 ∷ 0x00 ∷ 0x01 ∷ 0x0a ∷ 0x00 ∷ 0x00
    ∷ 0x08 ∷ 0x00 ∷ 0x04 ∷ 0x00 ∷ 0x00 ∷ 0x00 ∷ 0x00 ∷ 0x00
    ∷ 0x08 ∷ 0x00 ∷ 0x04 ∷ 0x00 ∷ 0x01 ∷ 0x00 ∷ 0x01 ∷ 0x02 ∷ []

-- the manifest of the bridge kind, 96 bytes
abbrev pub bridge_bytes : List ℕ
bridge_bytes =
    0x60 ∷ 0x00 ∷ 0x00 ∷ 0x01
    ∷ 0x08 ∷ 0x00 ∷ 0x01 ∷ 0x00 ∷ 0x01 ∷ 0x02 ∷ 0x00 ∷ 0x00
    ∷ 0x10 ∷ 0x00 ∷ 0x02 ∷ 0x00 ∷ 0x07 ∷ 0x01
    ∷ 0x47 ∷ 0x72 ∷ 0x65 ∷ 0x79 ∷ 0x62 ∷ 0x75 ∷ 0x73 ∷ 0x00 ∷ 0x00 ∷ 0x00
    ∷ 0x0c ∷ 0x00 ∷ 0x02 ∷ 0x00 ∷ 0x06 ∷ 0x02 ∷ 0x42 ∷ 0x72 ∷ 0x69 ∷ 0x64 ∷ 0x67 ∷ 0x65
    ∷ 0x08 ∷ 0x00 ∷ 0x03 ∷ 0x00 ∷ 0x00 ∷ 0x00 ∷ 0x00 ∷ 0x00
    ∷ 0x08 ∷ 0x00 ∷ 0x03 ∷ 0x00 ∷ 0x01 ∷ 0x0a ∷ 0x00 ∷ 0x00
    ∷ 0x08 ∷ 0x00 ∷ 0x04 ∷ 0x00 ∷ 0x00 ∷ 0x00 ∷ 0x00 ∷ 0x00
    ∷ 0x08 ∷ 0x00 ∷ 0x04 ∷ 0x00 ∷ 0x01 ∷ 0x00 ∷ 0x01 ∷ 0x02
    ∷ 0x08 ∷ 0x00 ∷ 0x04 ∷ 0x00 ∷ 0x02 ∷ 0x00 ∷ 0x01 ∷ 0x03
    ∷ 0x08 ∷ 0x00 ∷ 0x04 ∷ 0x00 ∷ 0x03 ∷ 0x00 ∷ 0x01 ∷ 0x0b
    ∷ 0x08 ∷ 0x00 ∷ 0x04 ∷ 0x00 ∷ 0x04 ∷ 0x00 ∷ 0x01 ∷ 0x04 ∷ []

pub gpio-bytes : kind_manifest kind.Gpio ≡ gpio_bytes
gpio-bytes = refl

pub bridge-bytes : kind_manifest kind.Bridge ≡ bridge_bytes
bridge-bytes = refl

-- what is checked, if it is a manifest
abbrev pub ok_of : Result Manifest Refused → Option Manifest
ok_of (Ok m) = Some m
ok_of (Err why) = None

-- the other kinds have 72 bytes
pub kinds-length : map (λ k. length (kind_manifest k)) (kind.I2c ∷ kind.Spi ∷ kind.Uart ∷ [])
    ≡ 72 ∷ 72 ∷ 72 ∷ []
kinds-length = refl

-- the descriptors of the bridge manifest
pub bridge-check_answer : check_answer bridge_bytes ≡ Ok (record {
  minor = 1;
  size = 96;
  descriptors =
      Descriptor.Interface 1 2 0
      ∷ Descriptor.Words 1 (codes "Greybus")
      ∷ Descriptor.Words 2 (codes "Bridge")
      ∷ Descriptor.Bundle 0 0
      ∷ Descriptor.Bundle 1 10
      ∷ Descriptor.Cport 0 0 0
      ∷ Descriptor.Cport 1 1 2
      ∷ Descriptor.Cport 2 1 3
      ∷ Descriptor.Cport 3 1 11
      ∷ Descriptor.Cport 4 1 4
      ∷ [];
})
bridge-check_answer = refl

-- a manifest of an interface alone
pub interface-alone : IsManifest (12 ∷ 0 ∷ 0 ∷ 1 ∷ 8 ∷ 0 ∷ 1 ∷ 9 ∷ 0 ∷ 0 ∷ 7 ∷ 5 ∷ [])
    (record { minor = 1; size = 12; descriptors = Descriptor.Interface 0 0 7 ∷ [] })
interface-alone = record {
  rest = 8 ∷ 0 ∷ 1 ∷ 9 ∷ 0 ∷ 0 ∷ 7 ∷ 5 ∷ [];
  placed = record { at = 4; descriptor = Descriptor.Interface 0 0 7 } ∷ [];
  spelt = refl;
  size = refl;
  fits = omega arith;
  descriptors = (8 ∷ 0 ∷ 1 ∷ 9 ∷ 0 ∷ 0 ∷ 7 ∷ 5 ∷ [], [], refl, refl, alone, refl);
  listed = refl;
  ruled = refl;
}
  where
    alone : IsDescriptor (8 ∷ 0 ∷ 1 ∷ 9 ∷ 0 ∷ 0 ∷ 7 ∷ 5 ∷ []) (Descriptor.Interface 0 0 7)
    alone = record {
      pad = 9;
      rest = 5 ∷ [];
      spelt = refl;
      fits = omega arith;
      id_fits = tt;
      fours = refl;
      least = omega arith;
    }

-- ---- the gpio manifest, changed

-- a table of bytes and what they are refused for
abbrev pub changed : List (List ℕ × Refused)
changed =
    (take 71 gpio_bytes, refusal_at 0 reason.Size)
    ∷ (slice_set gpio_bytes 0 73, refusal_at 0 reason.Size)
    ∷ (slice_set gpio_bytes 4 6, refusal_at 4 reason.DescriptorSize)
    ∷ (slice_set gpio_bytes 6 5, refusal_at 6 reason.DescriptorType)
    ∷ (slice_set gpio_bytes 2 1, refusal_at 2 reason.Version)
    ∷ (slice_set gpio_bytes 16 11, refusal_at 12 reason.DescriptorShort)
    ∷ (slice_set gpio_bytes 42 1, refusal_at 40 reason.SecondInterface)
    ∷ ([], refusal_at 0 reason.ShortHeader)
    ∷ (3 ∷ 0 ∷ [], refusal_at 2 reason.ShortHeader)
    ∷ (slice_set (gpio_bytes ++ 0 ∷ []) 0 73, refusal_at 72 reason.ShortDescriptor)
    ∷ (slice_set gpio_bytes 64 12, refusal_at 64 reason.DescriptorSize)
    ∷ (slice_set gpio_bytes 64 4, refusal_at 64 reason.DescriptorShort)
    ∷ (slice_set gpio_bytes 6 3, refusal_at 72 reason.NoInterface)
    ∷ (slice_set gpio_bytes 17 0, refusal_at 12 reason.StringId)
    ∷ (slice_set gpio_bytes 33 1, refusal_at 28 reason.StringTwice)
    ∷ (slice_set gpio_bytes 52 0, refusal_at 48 reason.BundleTwice)
    ∷ (slice_set gpio_bytes 69 16, refusal_at 64 reason.CportId)
    ∷ (slice_set gpio_bytes 68 0, refusal_at 64 reason.CportTwice)
    ∷ (slice_set gpio_bytes 70 7, refusal_at 64 reason.CportBundle)
    ∷ (slice_set gpio_bytes 62 1, refusal_at 56 reason.ControlCport)
    ∷ (slice_set gpio_bytes 63 2, refusal_at 56 reason.ControlCport)
    ∷ (slice_set gpio_bytes 8 3, refusal_at 4 reason.VendorString)
    ∷ (slice_set gpio_bytes 9 3, refusal_at 4 reason.ProductString)
    ∷ []

pub changed-refusal_at : map (λ row. refusal row.0) changed ≡ map (λ row. Some row.1) changed
changed-refusal_at = refl

-- changes that leave a manifest
abbrev pub accepted : List (List ℕ)
accepted =
    gpio_bytes
    ∷ slice_set gpio_bytes 16 10
    ∷ slice_set gpio_bytes 8 0
    ∷ slice_set gpio_bytes 3 255
    ∷ slice_set gpio_bytes 69 15
    ∷ []

pub accepted-all : map refusal accepted ≡ map (λ bytes. None) accepted
accepted-all = refl

-- ---- strings of length 0, 2, 3 and 255

-- a header, an interface without strings, and one string descriptor
abbrev pub with_string : List ℕ → List ℕ
with_string s =
    let size = 12 + length s in
    size % 256 ∷ size / 256 ∷ 0 ∷ 1 ∷ 8 ∷ 0 ∷ 1 ∷ 0 ∷ 0 ∷ 0 ∷ 0 ∷ 0 ∷ s

pub strings-accepted : map refusal
    (with_string (8 ∷ 0 ∷ 2 ∷ 0 ∷ 0 ∷ 5 ∷ 0 ∷ 0 ∷ [])
    ∷ with_string (8 ∷ 0 ∷ 2 ∷ 0 ∷ 2 ∷ 5 ∷ 97 ∷ 98 ∷ [])
    ∷ with_string (12 ∷ 0 ∷ 2 ∷ 0 ∷ 3 ∷ 5 ∷ 97 ∷ 98 ∷ 99 ∷ 0 ∷ 0 ∷ 0 ∷ [])
    ∷ with_string (8 ∷ 1 ∷ 2 ∷ 0 ∷ 255 ∷ 5 ∷ replicate 258 97)
    ∷ with_string (8 ∷ 0 ∷ 2 ∷ 0 ∷ 3 ∷ 5 ∷ 97 ∷ 98 ∷ [])
    ∷ with_string (4 ∷ 1 ∷ 2 ∷ 0 ∷ 255 ∷ 5 ∷ replicate 254 97)
    ∷ [])
    ≡ None ∷ None ∷ None ∷ None ∷ Some (refusal_at 12 reason.DescriptorShort)
    ∷ Some (refusal_at 12 reason.DescriptorShort) ∷ []
strings-accepted = refl

-- ---- writing

-- the gpio manifest's spec with a CPort 1 of this bundle
abbrev pub gpio_spec : ℕ → ManifestSpec
gpio_spec bundle = record {
  minor = 1;
  vendor = 1;
  product = 2;
  features = 0;
  strings = string_of 1 (codes "Greybus") ∷ string_of 2 (codes "GPIO") ∷ [];
  bundles = bundle_of 0 0 ∷ bundle_of 1 10 ∷ [];
  cports = cport_of 0 0 0 ∷ cport_of 1 bundle 2 ∷ [];
}

pub gpio-write_answer : write_answer (gpio_spec 1) ≡ Ok gpio_bytes
gpio-write_answer = refl

pub bundle-missing : write_answer (gpio_spec 7) ≡ Err (WriteFault.Rule reason.CportBundle)
bundle-missing = refl

-- a string that is too long comes before a broken rule
pub string-long : write_answer
    (record (gpio_spec 7) { strings = string_of 9 (replicate 256 97) ∷ [] })
    ≡ Err (WriteFault.StringLong 9)
string-long = refl

-- ---- CPorts and texts

pub cport-found : option_and_then (λ m. cport m 1) (ok_of (check_answer gpio_bytes))
    ≡ Some (record { bundle = 1; protocol = 2 })
cport-found = refl

pub cport-missing : option_and_then (λ m. cport m 2) (ok_of (check_answer gpio_bytes)) ≡ None
cport-missing = refl

-- the eleven lines of the bridge manifest's dump
pub bridge-dump : option_map dump_text (ok_of (check_answer bridge_bytes)) ≡ Some (text_of (
    codes "manifest version 0.1 size 96"
    ∷ codes "interface vendor 1 product 2 features 00"
    ∷ codes "string 1 \"Greybus\""
    ∷ codes "string 2 \"Bridge\""
    ∷ codes "bundle 0 class 00"
    ∷ codes "bundle 1 class 0a"
    ∷ codes "cport 0 bundle 0 protocol 00"
    ∷ codes "cport 1 bundle 1 protocol 02"
    ∷ codes "cport 2 bundle 1 protocol 03"
    ∷ codes "cport 3 bundle 1 protocol 0b"
    ∷ codes "cport 4 bundle 1 protocol 04"
    ∷ []))
unfolding digits encode_with
bridge-dump = refl

pub string-dump : string_text (34 ∷ 92 ∷ 31 ∷ 32 ∷ 126 ∷ 127 ∷ 255 ∷ [])
    ≡ codes "\\x22\\x5c\\x1f ~\\x7f\\xff"
unfolding encode_with
string-dump = refl

pub check-text : option_map check_text (ok_of (check_answer bridge_bytes))
    ≡ Some (codes "manifest ok 96" ++ 10 ∷ [])
unfolding digits
check-text = refl

pub refused-text : refused_text (refusal_at 12 reason.DescriptorShort)
    ≡ codes "refused 12 descriptor short" ++ 10 ∷ []
unfolding digits
refused-text = refl
