-- The loader of a firmware device, which downloads images of the application processor: FIND, FETCH
-- of one piece after another, and RELEASE.
use Rattle.std.specs.Prelude.{ℕ, ◌-◌, ◌==◌, min, Bool, if◌then◌else◌, Option, Some, None, is_some}
use Rattle.std.specs.Prelude.{Result, Ok, List, [], ◌++◌, length, replicate}
use Rattle.gb_base.specs.declared.download.Next.{Next}
use Rattle.gb_base.specs.declared.download.Next.TheVariants as next
use Rattle.gb_base.specs.declared.outcome.Outcome.{Outcome}
use Rattle.gb_base.specs.declared.outcome.Outcome.TheVariants as outcome
use Rattle.gb_base.specs.declared.served.OwnAsk.{OwnAsk}
use Rattle.gb_formats.specs.FirmwareRecords.{FirmwareAsk, FirmwareReply, firmware_ask_kind}
use Rattle.gb_formats.specs.FirmwareRecords.{firmware_ask_payload, read_firmware_reply, tag_field}
use Rattle.gb_formats.specs.Images.{Image}
use Rattle.gb_formats.specs.Records.{PayloadFault}
use Rattle.gb_formats.specs.Results.{own_ask, success}

-- What a download waits for: the answer of FIND; of FETCH, with the id and the size of the image;
-- or of RELEASE.
pub data Awaits : Type 0 where
  Find : Awaits
  Fetch : (id size : ℕ) → Awaits
  Release : Awaits

-- a running download: the tag of its image, what it waits for, and the bytes so far
pub record Download : Type 0 where
  pub tag : List ℕ
  pub awaits : Awaits
  pub bytes : List ℕ

-- a loader: its running download, and the image that it keeps
pub record Loader : Type 0 where
  pub running : Option Download
  pub kept : Option Image

-- nothing runs, and no image is kept
abbrev pub first_loader : Loader
first_loader = record { running = None; kept = None }

-- a download runs
abbrev pub is_running : Loader → Bool
is_running l = is_some l.running

-- the tag of a running download, no byte where none runs
abbrev pub tag_in : Option Download → List ℕ
tag_in None = []
tag_in (Some d) = d.tag

-- The tag of the running download, no byte where none runs.
abbrev pub loader_tag : Loader → List ℕ
loader_tag l = tag_in l.running

-- ---- requests

-- a request of the loader's own
abbrev pub firmware_own : FirmwareAsk → OwnAsk
firmware_own ask = own_ask (firmware_ask_kind ask) (firmware_ask_payload ask)

-- a tag with zeros behind it, as its field has it
abbrev pub padded : List ℕ → List ℕ
padded tag = tag ++ replicate (tag_field - length tag) 0

-- FIND of a tag
abbrev pub find_ask : List ℕ → OwnAsk
find_ask tag = firmware_own (FirmwareAsk.Find (padded tag))

-- the most bytes that one FETCH asks for
abbrev pub most_fetched : ℕ
most_fetched = 512

-- how many bytes the next FETCH asks for: what is left of an image of this size, 512 at most
abbrev pub piece : ℕ → List ℕ → ℕ
piece size bytes = min most_fetched (size - length bytes)

-- FETCH of the next piece
abbrev pub fetch_ask : ℕ → ℕ → List ℕ → OwnAsk
fetch_ask id size bytes =
    firmware_own (FirmwareAsk.Fetch id (length bytes) (piece size bytes))

-- RELEASE
abbrev pub release_ask : ℕ → OwnAsk
release_ask id = firmware_own (FirmwareAsk.Release id)

-- ---- a load

-- A download begins, with FIND.
abbrev pub loader_begun : List ℕ → Loader → Loader
loader_begun tag l =
    record l { running = Some (record { tag = tag; awaits = Awaits.Find; bytes = [] }) }

-- The running download fails.
abbrev pub loader_failed : Loader → Loader
loader_failed l = record l { running = None }

-- ---- the end of the request that a download waits for

-- What a loader is then, and what follows.
pub record Loaded : Type 0 where
  pub after : Loader
  pub next : Next

-- it goes on, with this request
abbrev pub goes_on : Download → OwnAsk → Loader → Loaded
goes_on d ask l = record { after = record l { running = Some d }; next = next.Ask ask }

-- it fails
abbrev pub fails : Download → Loader → Loaded
fails d l = record { after = loader_failed l; next = next.Failed d.tag }

-- it is done: the image is kept
abbrev pub is_done : Download → Loader → Loaded
is_done d l = record {
  after = record { running = None; kept = Some (record { tag = d.tag; bytes = d.bytes }) };
  next = next.Done d.tag (length d.bytes);
}

-- the next piece of an image of this size is fetched, or it is released where nothing is left
abbrev pub fetches : ℕ → ℕ → Download → Loader → Loaded
fetches id size d l =
    if length d.bytes == size
    then goes_on (record d { awaits = Awaits.Release }) (release_ask id) l
    else goes_on (record d { awaits = Awaits.Fetch id size }) (fetch_ask id size d.bytes) l

-- FIND was answered with success
abbrev pub found : Result FirmwareReply PayloadFault → Download → Loader → Loaded
found (Ok (FirmwareReply.Find id size)) d l = fetches id size d l
found _ d l = fails d l

-- a FETCH was answered with success: with as many bytes as it asked for
abbrev pub fetched : ℕ → ℕ → List ℕ → Download → Loader → Loaded
fetched id size payload d l =
    if length payload == piece size d.bytes
    then fetches id size (record d { bytes = d.bytes ++ payload }) l
    else fails d l

-- RELEASE was answered with success
abbrev pub released : Result FirmwareReply PayloadFault → Download → Loader → Loaded
released (Ok FirmwareReply.Release) d l = is_done d l
released _ d l = fails d l

-- the request that it waits for was answered with success
abbrev pub answered : Awaits → List ℕ → Download → Loader → Loaded
answered Awaits.Find payload d l = found (read_firmware_reply 0x01 payload) d l
answered (Awaits.Fetch id size) payload d l = fetched id size payload d l
answered Awaits.Release payload d l = released (read_firmware_reply 0x03 payload) d l

-- the request that it waits for ended
abbrev pub ended_so : Outcome → Download → Loader → Loaded
ended_so (outcome.Answered result payload) d l =
    if result == success then answered d.awaits payload d l else fails d l
ended_so _ d l = fails d l

-- a download runs, or nothing follows
abbrev pub ended_in : Option Download → Outcome → Loader → Option Loaded
ended_in None how l = None
ended_in (Some d) how l = Some (ended_so how d l)

-- What follows the end of the request that a loader waits for, None where no download runs.
abbrev pub loader_ended : Outcome → Loader → Option Loaded
loader_ended how l = ended_in l.running how l
