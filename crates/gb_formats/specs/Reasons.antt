-- The words of refusals, of events and of manifests.
use Rattle.std.specs.Prelude.{ℕ, List, codes}
use Rattle.gb_base.specs.declared.reasons.Reason.{Reason}
use Rattle.gb_base.specs.declared.reasons.Reason.TheVariants as reason
use Rattle.gb_base.specs.declared.refusal.Refusal.{Refusal}
use Rattle.gb_base.specs.declared.refusal.Refusal.TheVariants as refusal

-- why an event is refused
abbrev pub refusal_text : Refusal → List ℕ
refusal_text refusal.NoInterface = codes "NoInterface"
refusal_text refusal.Occupied = codes "Occupied"
refusal_text refusal.NotEnumerated = codes "NotEnumerated"
refusal_text refusal.NoConnection = codes "NoConnection"
refusal_text refusal.Closing = codes "Closing"
refusal_text refusal.Failed = codes "Failed"
refusal_text refusal.Unsupported = codes "Unsupported"
refusal_text refusal.NoLabel = codes "NoLabel"
refusal_text refusal.NoCport = codes "NoCport"
refusal_text refusal.CportsSpent = codes "CportsSpent"
refusal_text refusal.TooLarge = codes "TooLarge"
refusal_text refusal.NoName = codes "NoName"
refusal_text refusal.AlreadyEnded = codes "AlreadyEnded"
refusal_text refusal.QueueEmpty = codes "QueueEmpty"
refusal_text refusal.NotHeld = codes "NotHeld"
refusal_text refusal.NoCredit = codes "NoCredit"
refusal_text refusal.Full = codes "Full"
refusal_text refusal.OutOfRange = codes "OutOfRange"

-- why a manifest is refused
abbrev pub reason_text : Reason → List ℕ
reason_text reason.ShortHeader = codes "short header"
reason_text reason.Size = codes "size"
reason_text reason.Version = codes "version"
reason_text reason.ShortDescriptor = codes "short descriptor"
reason_text reason.DescriptorSize = codes "descriptor size"
reason_text reason.DescriptorType = codes "descriptor type"
reason_text reason.DescriptorShort = codes "descriptor short"
reason_text reason.NoInterface = codes "no interface"
reason_text reason.SecondInterface = codes "second interface"
reason_text reason.StringId = codes "string id"
reason_text reason.StringTwice = codes "string twice"
reason_text reason.BundleTwice = codes "bundle twice"
reason_text reason.CportId = codes "cport id"
reason_text reason.CportTwice = codes "cport twice"
reason_text reason.CportBundle = codes "cport bundle"
reason_text reason.ControlCport = codes "control cport"
reason_text reason.VendorString = codes "vendor string"
reason_text reason.ProductString = codes "product string"
