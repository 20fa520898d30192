-- The rules on the descriptors of a manifest as a whole, in the order in which they are tried.
use Rattle.std.specs.Prelude.{ℕ, ◌==◌, nat_lt, Bool, true, false, not, ◌&&◌, if◌then◌else◌, Option}
use Rattle.std.specs.Prelude.{Some, None, option_map, List, [], ◌∷◌, ◌++◌}
use Rattle.std.specs.List.{list_any}
use Rattle.gb_base.specs.declared.reasons.Reason.{Reason}
use Rattle.gb_base.specs.declared.reasons.Reason.TheVariants as reason
use Rattle.gb_formats.specs.Descriptors.{Descriptor}
use Rattle.gb_formats.specs.Protocols.{control_protocol}

-- a descriptor with its place in bytes
pub record Placed : Type 0 where
  pub at : ℕ
  pub descriptor : Descriptor

-- where and why bytes aren't a manifest
pub record Refused : Type 0 where
  pub at : ℕ
  pub reason : Reason

-- the greatest id of a CPort
abbrev pub greatest_cport : ℕ
greatest_cport = 4095

-- the place of the first descriptor that breaks a rule, given those before it
abbrev pub first_breach : (List Placed → Descriptor → Bool) → List Placed → List Placed → Option ℕ
first_breach breaks before [] = None
first_breach breaks before (d ∷ ds) =
    let later = first_breach breaks (before ++ d ∷ []) ds in
    if breaks before d.descriptor then Some d.at else later

-- whether some descriptor of a list passes a test
abbrev pub has : (Descriptor → Bool) → List Placed → Bool
has test ds = list_any (λ d. test d.descriptor) ds

-- an interface descriptor
abbrev pub is_interface : Descriptor → Bool
is_interface (Descriptor.Interface vendor product features) = true
is_interface _ = false

-- a string descriptor with this id
abbrev pub is_string : ℕ → Descriptor → Bool
is_string id (Descriptor.Words other bytes) = other == id
is_string id _ = false

-- a bundle descriptor with this id
abbrev pub is_bundle : ℕ → Descriptor → Bool
is_bundle id (Descriptor.Bundle other class) = other == id
is_bundle id _ = false

-- a CPort descriptor with this id
abbrev pub is_cport : ℕ → Descriptor → Bool
is_cport id (Descriptor.Cport other bundle protocol) = other == id
is_cport id _ = false

-- a further interface descriptor
abbrev pub second_interface : List Placed → Descriptor → Bool
second_interface before d = is_interface d && has is_interface before

-- string id 0
abbrev pub string_zero : List Placed → Descriptor → Bool
string_zero before d = is_string 0 d

-- an earlier string has the id
abbrev pub string_twice : List Placed → Descriptor → Bool
string_twice before (Descriptor.Words id bytes) = has (is_string id) before
string_twice before _ = false

-- an earlier bundle has the id
abbrev pub bundle_twice : List Placed → Descriptor → Bool
bundle_twice before (Descriptor.Bundle id class) = has (is_bundle id) before
bundle_twice before _ = false

-- a CPort id above 4,095
abbrev pub cport_above : List Placed → Descriptor → Bool
cport_above before (Descriptor.Cport id bundle protocol) = nat_lt greatest_cport id
cport_above before _ = false

-- an earlier CPort has the id
abbrev pub cport_twice : List Placed → Descriptor → Bool
cport_twice before (Descriptor.Cport id bundle protocol) = has (is_cport id) before
cport_twice before _ = false

-- the CPort's bundle isn't declared anywhere
abbrev pub without_bundle : List Placed → List Placed → Descriptor → Bool
without_bundle all before (Descriptor.Cport id bundle protocol) = not (has (is_bundle bundle) all)
without_bundle all before _ = false

-- CPort 0 not in bundle 0 or not with the Control protocol
abbrev pub wrong_control : List Placed → Descriptor → Bool
wrong_control before (Descriptor.Cport id bundle protocol) =
    id == 0 && not (bundle == 0 && protocol == control_protocol)
wrong_control before _ = false

-- a string id that isn't 0 and isn't declared
abbrev pub lacks_string : List Placed → ℕ → Bool
lacks_string all id = not (id == 0) && not (has (is_string id) all)

-- the vendor's string isn't there
abbrev pub without_vendor : List Placed → List Placed → Descriptor → Bool
without_vendor all before (Descriptor.Interface vendor product features) = lacks_string all vendor
without_vendor all before _ = false

-- the product's string isn't there
abbrev pub without_product : List Placed → List Placed → Descriptor → Bool
without_product all before (Descriptor.Interface vendor product features) =
    lacks_string all product
without_product all before _ = false

-- a breach, if there is one, with its reason
abbrev pub breach : Reason → Option ℕ → Option Refused
breach reason place = option_map (λ at. record { at = at; reason = reason }) place

-- the first refusal that there is
abbrev pub first_of : List (Option Refused) → Option Refused
first_of [] = None
first_of (None ∷ more) = first_of more
first_of (Some refused ∷ more) = Some refused

-- no interface descriptor, told at the length
abbrev pub no_interface : ℕ → List Placed → Option Refused
no_interface len all =
    if has is_interface all then None
    else Some (record { at = len; reason = reason.NoInterface })

-- the rules that a written manifest can break
abbrev pub written_rules : List Placed → List (Option Refused)
written_rules all =
    breach reason.StringId (first_breach string_zero [] all)
    ∷ breach reason.StringTwice (first_breach string_twice [] all)
    ∷ breach reason.BundleTwice (first_breach bundle_twice [] all)
    ∷ breach reason.CportId (first_breach cport_above [] all)
    ∷ breach reason.CportTwice (first_breach cport_twice [] all)
    ∷ breach reason.CportBundle (first_breach (without_bundle all) [] all)
    ∷ breach reason.ControlCport (first_breach wrong_control [] all)
    ∷ breach reason.VendorString (first_breach (without_vendor all) [] all)
    ∷ breach reason.ProductString (first_breach (without_product all) [] all)
    ∷ []

-- The first rule that the descriptors of a manifest of this length break, and where.
abbrev pub rules_refusal : ℕ → List Placed → Option Refused
rules_refusal len all =
    first_of (no_interface len all
    ∷ breach reason.SecondInterface (first_breach second_interface [] all)
    ∷ written_rules all)
