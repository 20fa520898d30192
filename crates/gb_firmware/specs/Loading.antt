-- How a loader begins a download and goes on with it.
use Rattle.std.specs.Prelude.{◌≡◌, ◌<◌, ◌≤◌, ℕ, true, false, Option, Some, None, IsOk, Result, Ok}
use Rattle.std.specs.Prelude.{Err, List, [], length}
use Rattle.gb_base.specs.Bytes.{AreFew}
use Rattle.gb_base.specs.declared.download.Next.{Next}
use Rattle.gb_base.specs.declared.errors.OutOfMemory.{OutOfMemory}
use Rattle.gb_base.specs.declared.outcome.Outcome.{Outcome}
use Rattle.gb_base.specs.declared.served.OwnAsk.{OwnAsk}
use Rattle.gb_firmware.specs.declared.download.Awaits as code
use Rattle.gb_firmware.specs.declared.download.Awaits.TheVariants as awaits
use Rattle.gb_firmware.specs.declared.download.Turn.{Turn}
use Rattle.gb_firmware.specs.declared.download.Turn.TheVariants as turn
use Rattle.gb_firmware.specs.declared.loader.LoadFault.{LoadFault}
use Rattle.gb_firmware.specs.declared.loader.LoadFault.TheVariants as fault
use Rattle.gb_formats.specs.Loader.{Awaits, Download, Loaded, Loader, fails, find_ask}
use Rattle.gb_formats.specs.Loader.{goes_on, is_done, is_running, loader_begun, loader_ended}

-- ---- views

-- what a download waits for
abbrev pub awaits_of : code.Awaits → Awaits
awaits_of awaits.Find = Awaits.Find
awaits_of (awaits.Fetch id size) = Awaits.Fetch id size
awaits_of awaits.Release = Awaits.Release

-- the bytes so far are no more than the image has
abbrev pub Fit : code.Awaits → List ℕ → Type 0
Fit awaits.Find bytes = bytes ≡ []
Fit (awaits.Fetch id size) bytes = (size < 4294967296) × (length bytes ≤ size)
Fit awaits.Release bytes = length bytes < 4294967296

-- ---- a load

-- It doesn't begin: a download runs, or no memory was found.
abbrev pub IsNotBegun : Loader → LoadFault → Type 0
IsNotBegun l fault.Running = is_running l ≡ true
IsNotBegun l (fault.Memory refused) = is_running l ≡ false

-- A download begins with this request, or the loader is as before.
abbrev pub BeginsAs : List ℕ → Loader → Loader → Result OwnAsk LoadFault → Type 0
BeginsAs tag old new (Ok own) =
    (is_running old ≡ false) × (own ≡ find_ask tag) × (new ≡ loader_begun tag old)
BeginsAs tag old new (Err why) = IsNotBegun old why × (new ≡ old)

-- ---- the end of a request

-- What follows the end of the request that a loader waits for. After want of memory it is
-- as before.
abbrev pub EndsAs : Outcome → Loader → Loader → Result Next OutOfMemory → Type 0
EndsAs how old new (Ok next) = loader_ended how old ≡ Some (record { after = new; next = next })
EndsAs how old new (Err refused) = new ≡ old

-- the bytes so far of a running download, none where none runs
abbrev pub bytes_in : Option Download → List ℕ
bytes_in None = []
bytes_in (Some d) = d.bytes

-- the bytes so far of the download that goes on, none where none does
abbrev pub bytes_after : Option Loaded → List ℕ
bytes_after None = []
bytes_after (Some t) = bytes_in t.after.running

-- ---- one turn

-- what the turn of a download does to its loader
abbrev pub turned : Turn → Download → Loader → Loaded
turned (turn.Asks own) d l = goes_on d own l
turned turn.IsDone d l = is_done d l
turned turn.Fails d l = fails d l

-- A download has the turn that the definition says. After want of memory it is as before.
abbrev pub TurnsAs : (Loader → Loaded) → Download → Download → Result Turn OutOfMemory → Type 0
TurnsAs loaded old new (Ok turn) = (l : Loader) → loaded l ≡ turned turn new l
TurnsAs loaded old new (Err refused) = new ≡ old

-- It takes memory only where the download goes on with more than few bytes.
abbrev pub TurnsFew : (Loader → Loaded) → Result Turn OutOfMemory → Type 0
TurnsFew loaded result = (l : Loader) → AreFew (bytes_in (loaded l).after.running) → IsOk result

-- A loader whose running download is done goes on as the definition says.
abbrev pub FinishesAs : Option Download → Loader → Loader → Next → Type 0
FinishesAs None old new next = ⊥
FinishesAs (Some d) old new next = record { after = new; next = next } ≡ is_done d old
