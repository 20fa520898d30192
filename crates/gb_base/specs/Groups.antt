-- The kinds of entries, by what they tell.
use Rattle.std.specs.Prelude.{Bool, true, false}
use Rattle.gb_base.specs.declared.entry.Entry.{Entry}
use Rattle.gb_base.specs.declared.entry.Entry.TheVariants as entry

-- a message that is put in a queue
abbrev pub is_message : Entry → Bool
is_message (entry.Asked n from to kind size bytes lost) = true
is_message (entry.Replied item from to result size bytes) = true
is_message e = false

-- what becomes of a request
abbrev pub is_request : Entry → Bool
is_request (entry.Held item) = true
is_request (entry.Ended n how read) = true
is_request (entry.Late n) = true
is_request (entry.Dropped item reply) = true
is_request (entry.Ignored kind) = true
is_request e = false

-- injected bytes, and what comes of them
abbrev pub is_raw : Entry → Bool
is_raw (entry.Raw from to size bytes) = true
is_raw (entry.BadRaw fault) = true
is_raw (entry.LateLabel label) = true
is_raw (entry.UnknownLabel label) = true
is_raw e = false

-- an interface or a connection
abbrev pub is_link : Entry → Bool
is_link (entry.Interface i stage) = true
is_link (entry.Manifest i at reason) = true
is_link (entry.Connection n ap i c state) = true
is_link e = false

-- what a device told
abbrev pub is_device : Entry → Bool
is_device (entry.Irq i c irq) = true
is_device (entry.Received i c bytes) = true
is_device (entry.Serial i c control) = true
is_device (entry.Credits i c total) = true
is_device (entry.Download i c tag size) = true
is_device e = false
