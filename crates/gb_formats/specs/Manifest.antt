-- Manifests (Greybus Specification, "Manifest"; in Linux's greybus_manifest.h
-- `greybus_manifest_header`): which bytes are one, and where and why others aren't.
use Rattle.std.specs.Prelude.{◌≡◌, ◌≤◌, ℕ, zero, suc, ◌+◌, ◌-◌, ◌%◌, ◌==◌, nat_lt, nat_le, Bool}
use Rattle.std.specs.Prelude.{not, ◌&&◌, ◌||◌, if◌then◌else◌, Option, Some, None, option_map}
use Rattle.std.specs.Prelude.{Result, Ok, Err, List, [], ◌∷◌, ◌++◌, map, length, drop, slice_index}
use Rattle.std.specs.Prelude.{find}
use Rattle.gb_base.specs.declared.reasons.Reason.{Reason}
use Rattle.gb_base.specs.declared.reasons.Reason.TheVariants as reason
use Rattle.gb_formats.specs.Bytes.{le16}
use Rattle.gb_formats.specs.Descriptors.{Descriptor, IsDescriptor, size_at, type_at, least_size_at}
use Rattle.gb_formats.specs.Descriptors.{descriptor_at}
use Rattle.gb_formats.specs.ManifestRules.{Placed, Refused, rules_refusal, is_cport}

-- A manifest: its minor version, its size in bytes, and its descriptors in order.
pub record Manifest : Type 0 where
  pub minor : ℕ
  pub size : ℕ
  pub descriptors : List Descriptor

-- ---- which bytes are a manifest

-- The bytes from a place on are descriptors in order, which fill them.
abbrev pub AreDescriptors : ℕ → List ℕ → List Placed → Type 0
AreDescriptors at bytes [] = bytes ≡ []
AreDescriptors at bytes (d ∷ ds) =
    (front : List ℕ) × (back : List ℕ) × (bytes ≡ front ++ back) × (d.at ≡ at)
    × IsDescriptor front d.descriptor × AreDescriptors (at + length front) back ds

-- The bytes are their own length, major version 0, the minor version, and then descriptors in order
-- that fill the rest and break no rule.
pub record IsManifest (bytes : List ℕ) (m : Manifest) : Type 0 where
  pub rest : List ℕ
  pub placed : List Placed
  pub spelt : bytes ≡ le16 (length bytes) ++ (0 ∷ m.minor ∷ rest)
  pub size : m.size ≡ length bytes
  pub fits : length bytes ≤ 65535
  pub descriptors : AreDescriptors 4 rest placed
  pub listed : m.descriptors ≡ map (λ d. d.descriptor) placed
  pub ruled : rules_refusal (length bytes) placed ≡ None

-- ---- the refusal of other bytes

-- a refusal at a place, for a reason
abbrev pub refusal_at : ℕ → Reason → Refused
refusal_at at reason = record { at = at; reason = reason }

-- the major version in a manifest's header
abbrev pub major_field : List ℕ → ℕ
major_field bytes = slice_index bytes 2

-- the minor version in a manifest's header
abbrev pub minor_field : List ℕ → ℕ
minor_field bytes = slice_index bytes 3

-- what the header breaks: fewer than four bytes, a size that isn't the length, a major above 0
abbrev pub header_refusal : List ℕ → Option Refused
header_refusal bytes =
    if nat_lt (length bytes) 4 then Some (refusal_at (length bytes) reason.ShortHeader)
    else if not (size_at bytes == length bytes) then Some (refusal_at 0 reason.Size)
    else if nat_lt 0 (major_field bytes) then Some (refusal_at 2 reason.Version)
    else None

-- a size below 4, no multiple of four, or more than is left
abbrev pub wrong_size : ℕ → ℕ → Bool
wrong_size size left = nat_lt size 4 || not (size % 4 == 0) || nat_lt left size

-- what a descriptor breaks by itself, where these bytes are left from its place on
abbrev pub descriptor_refusal : ℕ → List ℕ → Option Refused
descriptor_refusal at bytes =
    if nat_lt (length bytes) 4 then Some (refusal_at at reason.ShortDescriptor)
    else if wrong_size (size_at bytes) (length bytes)
    then Some (refusal_at at reason.DescriptorSize)
    else if not (nat_le 0x01 (type_at bytes) && nat_le (type_at bytes) 0x04)
    then Some (refusal_at (at + 2) reason.DescriptorType)
    else if nat_lt (size_at bytes) (least_size_at bytes)
    then Some (refusal_at at reason.DescriptorShort)
    else None

-- a descriptor in front of others
abbrev pub in_front : Placed → Result (List Placed) Refused → Result (List Placed) Refused
in_front d (Ok ds) = Ok (d ∷ ds)
in_front d (Err why) = Err why

-- the descriptor at the front, unless it is refused; the rest goes on behind its size
abbrev pub descriptor_then : Option Refused → ℕ → List ℕ → (ℕ → Result (List Placed) Refused)
    → Result (List Placed) Refused
descriptor_then (Some why) at bytes later = Err why
descriptor_then None at bytes later =
    in_front (record { at = at; descriptor = descriptor_at bytes }) (later (size_at bytes - 1))

-- the descriptors of these bytes, whose first has this place, after so many bytes are passed over
abbrev pub descriptors_from : ℕ → ℕ → List ℕ → Result (List Placed) Refused
descriptors_from skip at [] = Ok []
descriptors_from (suc skip) at (b ∷ bs) = descriptors_from skip (at + 1) bs
descriptors_from zero at (b ∷ bs) =
    descriptor_then (descriptor_refusal at (b ∷ bs)) at (b ∷ bs)
    (λ skip. descriptors_from skip (at + 1) bs)

-- the manifest of these bytes, unless a rule is broken
abbrev pub manifest_unless : Option Refused → List ℕ → List Placed → Result Manifest Refused
manifest_unless (Some why) bytes placed = Err why
manifest_unless None bytes placed = Ok (record {
  minor = minor_field bytes;
  size = length bytes;
  descriptors = map (λ d. d.descriptor) placed;
})

-- the manifest of these bytes with these descriptors
abbrev pub manifest_of : List ℕ → Result (List Placed) Refused → Result Manifest Refused
manifest_of bytes (Err why) = Err why
manifest_of bytes (Ok placed) =
    manifest_unless (rules_refusal (length bytes) placed) bytes placed

-- the manifest of these bytes, unless the header is refused
abbrev pub manifest_after : Option Refused → List ℕ → Result Manifest Refused
manifest_after (Some why) bytes = Err why
manifest_after None bytes = manifest_of bytes (descriptors_from 0 4 (drop 4 bytes))

-- The manifest that the bytes are, or the first step of the table that they meet, and where.
abbrev pub check_answer : List ℕ → Result Manifest Refused
check_answer bytes = manifest_after (header_refusal bytes) bytes

-- the refusal of bytes that aren't a manifest
abbrev pub refusal_in : Result Manifest Refused → Option Refused
refusal_in (Ok m) = None
refusal_in (Err why) = Some why

-- Where and why the bytes aren't a manifest, if they aren't.
abbrev pub refusal : List ℕ → Option Refused
refusal bytes = refusal_in (check_answer bytes)

-- ---- CPorts

-- a CPort's bundle and protocol
pub record CportView : Type 0 where
  pub bundle : ℕ
  pub protocol : ℕ

-- what a CPort descriptor says of the CPort
abbrev pub cport_view : Descriptor → CportView
cport_view (Descriptor.Cport id bundle protocol) = record { bundle = bundle; protocol = protocol }
cport_view _ = record { bundle = 0; protocol = 0 }

-- The CPort with this id.
abbrev pub cport : Manifest → ℕ → Option CportView
cport m id = option_map cport_view (find (is_cport id) m.descriptors)
