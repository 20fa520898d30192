-- What is known of a download that runs at a firmware device: its requests, and, where nothing was
-- injected on their connection, that what it has so far is a part of the image.
use Rattle.std.proofs.Common.{List, None, Option, Some, length, ℕ, [], ◌++◌, ◌+◌, ◌<◌, ◌∷◌, ◌≡◌}
use Rattle.std.proofs.Common.{◌≢◌, ◌⊎◌}
use Rattle.std.specs.List.{find}
use Rattle.std.specs.Prelude.{drop, take}
use Rattle.gb_base.specs.declared.end.End.TheVariants as end
use Rattle.gb_base.specs.declared.end.Side.TheVariants as side
use Rattle.gb_base.specs.declared.entry.Entry.{Entry}
use Rattle.gb_formats.specs.Images.{image_of}
use Rattle.gb_formats.specs.Loader.{Awaits, Download, Loader, padded, piece}
use Rattle.gb_formats.specs.Records.{le32}
use Rattle.gb_formats.specs.Results.{success}
use Rattle.gb_formats.specs.ValidEvents.{IsTag}
use Rattle.gb_machine.specs.Bus.{Ask, Bus, Connection, Reply, Request, request_of}
use Rattle.gb_machine.specs.HostServing.{host_serves}
use Rattle.gb_machine.specs.LawsFirmware.{Follow, IsOnTrail, WasClean, ranges_of}
use Rattle.gb_machine.specs.Loading.{is_trail_at}
use Rattle.gb_machine.specs.Members.{Each, IsIn}
use Rattle.gb_machine.specs.Runs.{Moment}
use Rattle.gb_machine.specs.State.{Load, State, Trail}
use Rattle.gb_laws.proofs.firmware.FirmwareQueues.{NoAsks, NoneBehind, OnlyAsk}
use Rattle.gb_laws.proofs.firmware.ImageFacts.{LentAs}
use Rattle.gb_laws.proofs.points.PointParts.{Hand, IsServed, Point}
use Rattle.gb_laws.proofs.points.Points.{loader_in}

-- ---- the request that a download waits for

-- what it asks
abbrev pub AsksFor : Awaits → Download → Request → Type 0
AsksFor Awaits.Find d r = (r.kind ≡ 0x01) × (r.payload ≡ padded d.tag)
AsksFor (Awaits.Fetch id size) d r =
    (r.kind ≡ 0x02) × (r.payload ≡ id ∷ le32 (length d.bytes) ++ le32 (piece size d.bytes))
AsksFor Awaits.Release d r = Unit {0}

-- how far the requests of a download reach
abbrev pub reached : Awaits → Download → ℕ
reached (Awaits.Fetch id size) d = length d.bytes + piece size d.bytes
reached _ d = length d.bytes

-- nothing came before FIND is answered
abbrev pub IsFresh : Awaits → Download → Type 0
IsFresh Awaits.Find d = d.bytes ≡ []
IsFresh _ d = Unit {0}

-- ---- what waits on its connection

-- something is so of each connection of a number
abbrev pub AtNumber : ℕ → List Connection → (Connection → Type 0) → Type 0
AtNumber k cs So = (x : Connection) → IsIn x cs → x.number ≡ k → So x

-- no request waits toward the application processor on connection k
abbrev pub QuietAt : ℕ → Bus → Type 0
QuietAt k b = AtNumber k b.connections (λ x. NoAsks x.to_ap)

-- an answer of success to request w waits on connection k
abbrev pub HasReply : ℕ → ℕ → List ℕ → List Connection → Type 0
HasReply k w p cs =
    (x : Connection) × IsIn x cs × (x.number ≡ k) × IsIn (Reply w success p) x.to_far

-- it waits, or did before
abbrev pub Replied : List Connection → Bus → ℕ → ℕ → List ℕ → Type 0
Replied old b k w p = HasReply k w p b.connections ⊎ HasReply k w p old

-- ---- what it has of the image

-- what else is said of an id of a connection, and the tag of the image that is lent under it
abbrev pub Fits : Type 1
Fits = ℕ → ℕ → List ℕ → Type 0

-- A download that waits for FETCH has a front of the image, which is lent to it and none else, and
-- nothing but its request is to be served.
pub record HasPart (fits : Fits) (s : State) (w k id size : ℕ) (d : Download) : Type 0 where
  pub image : List ℕ
  pub given : image_of d.tag s.host.images ≡ Some image
  pub whole : size ≡ length image
  pub bytes : d.bytes ≡ take (length d.bytes) image
  pub less : length d.bytes < size
  pub lent : LentAs k id d.tag s.host.images
  pub suits : fits k id d.tag
  pub only : AtNumber k s.bus.connections (λ x. OnlyAsk w x.to_ap)

-- what a download has of the image
abbrev pub HasSoFar : Fits → State → ℕ → ℕ → Awaits → Download → Type 0
HasSoFar fits s w k Awaits.Find d = Unit {0}
HasSoFar fits s w k (Awaits.Fetch id size) d = HasPart fits s w k id size d
HasSoFar fits s w k Awaits.Release d = image_of d.tag s.host.images ≡ Some d.bytes

-- FIND is answered with the size of the image and an id under which it is lent.
pub record FoundIt (fits : Fits) (s : State) (k : ℕ) (d : Download) (p : List ℕ) : Type 0 where
  pub id : ℕ
  pub image : List ℕ
  pub given : image_of d.tag s.host.images ≡ Some image
  pub is : p ≡ id ∷ le32 (length image)
  pub lent : LentAs k id d.tag s.host.images
  pub suits : fits k id d.tag

-- a request is answered as it is to be
abbrev pub IsGood : Fits → State → ℕ → Awaits → Download → List ℕ → Type 0
IsGood fits s k Awaits.Find d p = FoundIt fits s k d p
IsGood fits s k (Awaits.Fetch id size) d p =
    (image : List ℕ) → image_of d.tag s.host.images ≡ Some image
    → p ≡ take (piece size d.bytes) (drop (length d.bytes) image)
IsGood fits s k Awaits.Release d p = Unit {0}

-- ---- all

-- What is known of a download on a connection on which nothing was injected.
pub record Fetches (fits : Fits) (old : List Connection) (hand : Option Hand) (s : State) (w : ℕ)
    (t : Trail) (d : Download) : Type 0 where
  pub ranges : Follow 0 (ranges_of t.requests s.bus) (reached d.awaits d)
  pub behind : AtNumber t.connection s.bus.connections (λ x. NoneBehind w x.to_ap)
  pub has : HasSoFar fits s w t.connection d.awaits d
  pub reply : (p : List ℕ) → Replied old s.bus t.connection w p
      → QuietAt t.connection s.bus × IsGood fits s t.connection d.awaits d p
  pub taken : (h : Hand) → hand ≡ Some h → h.side ≡ side.Ap → h.item ≡ Ask w
      → QuietAt t.connection s.bus

-- What is known of a download that runs, of the requests that it made and of the last of them.
pub record Running (fits : Fits) (old : List Connection) (hand : Option Hand)
    (told : List Entry) (s : State) (l : Load) (d : Download) : Type 0 where
  pub trail : Trail
  pub found : find (is_trail_at l.intf l.cport) s.past.loading ≡ Some trail
  pub made : Each (IsOnTrail told s trail) trail.requests
  pub request : Request
  pub is : request_of l.request s.bus ≡ Some request
  pub connection : request.connection ≡ trail.connection
  pub side : request.side ≡ side.Far
  pub asks : AsksFor d.awaits d request
  pub far : AtNumber trail.connection s.bus.connections (λ x. x.peer ≡ end.Module l.intf l.cport)
  pub other : trail.connection ≢ 1
  pub tag : IsTag d.tag
  pub fresh : IsFresh d.awaits d
  pub clean : WasClean trail.connection s → Fetches fits old hand s l.request trail d

-- each download that runs is so
abbrev pub AreRunning : Fits → List Connection → Option Hand → List Entry → State → Type 0
AreRunning fits old hand told s =
    (l : Load) → IsIn l s.loads → (r : Loader) → loader_in l.intf l.cport s.modules ≡ Some r
    → (d : Download) → r.running ≡ Some d → Running fits old hand told s l d

-- in a state at rest
abbrev pub Free : Fits
Free k id tag = Unit {0}

abbrev pub RunAt : List Entry → State → Type 0
RunAt told s = AreRunning Free s.bus.connections None told s

-- What a moment that serves a request on the connection lends has the tag too.
abbrev pub FitsAt : Moment → Fits
FitsAt m k id tag = (kind : ℕ) (payload : List ℕ) → IsServed m k kind payload
    → LentAs k id tag (host_serves k kind payload m.before.host).host.images

-- at a point of a moment
abbrev pub RunIn : Moment → Point → Type 0
RunIn m a = AreRunning (FitsAt m) m.before.bus.connections a.hand a.told a.state
