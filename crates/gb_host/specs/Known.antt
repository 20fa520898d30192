-- What is kept of the interfaces that are known.
use Rattle.std.specs.Prelude.{◌≡◌, ◌<◌, Bool, true, None, List, length}
use Rattle.std.specs.List.{AllByRecursion}
use Rattle.gb_base.specs.declared.interface.Interface.{Interface}
use Rattle.gb_manifest.specs.Checks.{IsAccepted}

-- The enumeration of an interface doesn't wait.
abbrev pub IsQuiet : Interface → Type 0
IsQuiet x = x.awaits ≡ None

-- No enumeration of the interfaces waits.
abbrev pub AreQuiet : List Interface → Type 0
AreQuiet xs = AllByRecursion IsQuiet xs

-- A check accepted the manifest of an interface, once it has one.
abbrev pub HasAccepted : Interface → Type 0
HasAccepted x = 0 < length x.manifest → IsAccepted x.manifest

-- All manifests were accepted, and where it is said so, no enumeration waits.
pub record AreKept (quiet : Bool) (xs : List Interface) : Type 0 where
  pub waits : quiet ≡ true → AreQuiet xs
  pub manifests : AllByRecursion HasAccepted xs
