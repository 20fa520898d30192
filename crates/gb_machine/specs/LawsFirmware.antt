-- Laws of runs: the image that a firmware device keeps is the image that was given.
use Rattle.std.specs.Prelude.{◌≡◌, ◌≤◌, ℕ, ◌+◌, Bool, Option, Some, None, option_and_then, Result}
use Rattle.std.specs.Prelude.{Ok, List, [], ◌∷◌, ◌++◌, length, take, drop, find}
use Rattle.gb_base.specs.declared.end.End.{End}
use Rattle.gb_base.specs.declared.end.End.TheVariants as end
use Rattle.gb_base.specs.declared.end.Side.TheVariants as side
use Rattle.gb_base.specs.declared.entry.Entry.{Entry}
use Rattle.gb_base.specs.declared.entry.Entry.TheVariants as entry
use Rattle.gb_base.specs.declared.event.Event.TheVariants as event
use Rattle.gb_base.specs.declared.interface.Link.{Link}
use Rattle.gb_formats.specs.FirmwareRecords.{FirmwareAsk, read_firmware_ask}
use Rattle.gb_formats.specs.Images.{Image, image_of, lent_bytes}
use Rattle.gb_formats.specs.Message.{response, spelling}
use Rattle.gb_formats.specs.ModuleLoads.{kept_at}
use Rattle.gb_formats.specs.Records.{PayloadFault}
use Rattle.gb_formats.specs.Results.{success}
use Rattle.gb_machine.specs.Bus.{Bus, Item, Place, Request, place_of, queue, request_of}
use Rattle.gb_machine.specs.Host.{link_of}
use Rattle.gb_machine.specs.Incoming.{Incoming, request_in}
use Rattle.gb_machine.specs.Lists.{first}
use Rattle.gb_machine.specs.Loading.{is_trail_at}
use Rattle.gb_machine.specs.Members.{Each, IsIn}
use Rattle.gb_machine.specs.Modules.{module_at}
use Rattle.gb_machine.specs.Runs.{HoldsAtEachMoment, HoldsThroughout, Moment, told_at}
use Rattle.gb_machine.specs.State.{State, Trail}

-- ---- what is kept

-- The image that the firmware device at a module's CPort keeps.
abbrev pub kept : ℕ → ℕ → State → Option Image
kept i c s = option_and_then (λ m. kept_at m c) (module_at i s.modules)

-- the offset and the size of a FETCH; no other request has them
abbrev pub range_in : Result FirmwareAsk PayloadFault → List (ℕ × ℕ)
range_in (Ok (FirmwareAsk.Fetch id offset size)) = (offset, size) ∷ []
range_in _ = []

-- the same of a request
abbrev pub range_of : Option Request → List (ℕ × ℕ)
range_of None = []
range_of (Some r) = range_in (read_firmware_ask r.kind r.payload)

-- The ranges of the FETCH requests among these, in order.
abbrev pub ranges_of : List ℕ → Bus → List (ℕ × ℕ)
ranges_of [] b = []
ranges_of (n ∷ ns) b = range_of (request_of n b) ++ ranges_of ns b

-- Ranges follow one another from one place to another, so that each byte between is in one of them.
abbrev pub Follow : ℕ → List (ℕ × ℕ) → ℕ → Type 0
Follow at [] to = at ≡ to
Follow at (r ∷ rs) to = (r.0 ≡ at) × (1 ≤ r.1) × Follow (at + r.1) rs to

-- It was told that an end made request n.
pub record WasAsked (told : List Entry) (n : ℕ) (from : End) : Type 0 where
  pub to : End
  pub kind : ℕ
  pub size : ℕ
  pub bytes : List ℕ
  pub lost : Bool
  pub said : IsIn (entry.Asked n from to kind size bytes lost) told

-- Request n was made by the CPort of a trail, on the trail's connection.
pub record IsOnTrail (told : List Entry) (s : State) (t : Trail) (n : ℕ) : Type 0 where
  pub request : Request
  pub is : request_of n s.bus ≡ Some request
  pub connection : request.connection ≡ t.connection
  pub side : request.side ≡ side.Far
  pub asked : WasAsked told n (end.Module t.intf t.cport)

-- No bytes were ever injected on connection k.
abbrev pub WasClean : ℕ → State → Type 0
WasClean k s = IsIn k s.past.unclean → ⊥

-- An image came by the requests of the last download at its CPort that was done. Where nothing was
-- ever injected on their connection, the ranges that they ask for follow one another from 0 to the
-- image's size, and it is the image that was given under its tag.
pub record IsLoaded (told : List Entry) (s : State) (i c : ℕ) (image : Image) : Type 0 where
  pub trail : Trail
  pub is : find (is_trail_at i c) s.past.loaded ≡ Some trail
  pub made : Each (IsOnTrail told s trail) trail.requests
  pub ranges : WasClean trail.connection s
      → Follow 0 (ranges_of trail.requests s.bus) (length image.bytes)
  pub given : WasClean trail.connection s
      → image_of image.tag s.host.images ≡ Some image.bytes

-- each image that is kept came so
abbrev pub AreLoaded : List Entry → State → Type 0
AreLoaded told s =
    (i c : ℕ) (image : Image) → kept i c s ≡ Some image → IsLoaded told s i c image

-- What a firmware device keeps is the image that was given, in every state of every run.
abbrev pub KeptIsTheImage : Type 0
KeptIsTheImage = HoldsThroughout AreLoaded

-- ---- what is fetched

-- The request that a delivery at a CPort of the application processor brings: it comes on the
-- connection of the place, as the first of its queue.
pub record Brings (m : Moment) (a : ℕ) (p : Place) (q : Incoming) : Type 0 where
  pub event : m.event ≡ event.Deliver (end.Ap a)
  pub place : place_of (end.Ap a) m.before.bus.connections ≡ Some p
  pub item : Item
  pub front : first (queue p.side p.connection) ≡ Some item
  pub is : request_in item m.before.bus ≡ Some q

-- A message answers a FETCH with the bytes of the image that is lent under its id, all of which lie
-- in that image.
pub record HasTheBytes (m : Moment) (k : ℕ) (q : Incoming) (bytes : List ℕ) : Type 0 where
  pub id : ℕ
  pub offset : ℕ
  pub size : ℕ
  pub asked : read_firmware_ask q.kind q.payload ≡ Ok (FirmwareAsk.Fetch id offset size)
  pub image : List ℕ
  pub lent : lent_bytes k id m.before.host.images ≡ Some image
  pub inside : offset + size ≤ length image
  pub message : bytes
      ≡ spelling (response q.label q.kind success (take size (drop offset image)))

-- At a moment each FETCH of a firmware device that is answered with success has its bytes.
abbrev pub AnswersWithTheBytes : Moment → Type 0
AnswersWithTheBytes m =
    (a : ℕ) (p : Place) (q : Incoming) (l : Link) → Brings m a p q
    → link_of p.connection.number m.before.host ≡ Some l → l.protocol ≡ 0x17 → q.kind ≡ 0x02
    → (number : Option ℕ) (from to : End) (size : ℕ) (bytes : List ℕ)
    → IsIn (entry.Replied number from to success size bytes) (told_at m)
    → HasTheBytes m p.connection.number q bytes

-- So it is at every moment.
abbrev pub FetchedIsTheImage : Type 0
FetchedIsTheImage = HoldsAtEachMoment AnswersWithTheBytes
