-- The actions of firmware downloads: one begins, and at each end of the request that it waits for
-- it makes the next one, is done or fails.
use Rattle.std.specs.Prelude.{ℕ, ◌==◌, Bool, ◌&&◌, Option, Some, None, List, [], ◌∷◌, ◌++◌, find}
use Rattle.std.specs.List.{filter}
use Rattle.gb_base.specs.declared.download.Next.{Next}
use Rattle.gb_base.specs.declared.download.Next.TheVariants as next
use Rattle.gb_base.specs.declared.end.Side.TheVariants as side
use Rattle.gb_base.specs.declared.entry.Entry.TheVariants as entry
use Rattle.gb_base.specs.declared.outcome.Outcome.{Outcome}
use Rattle.gb_base.specs.declared.served.OwnAsk.{OwnAsk}
use Rattle.gb_formats.specs.Loader.{find_ask}
use Rattle.gb_formats.specs.Module.{Module}
use Rattle.gb_formats.specs.ModuleLoads.{module_ended, module_fail, module_load, tag_at}
use Rattle.gb_machine.specs.Actions.{Action, by_state, change, given, tell, ◌▸◌}
use Rattle.gb_machine.specs.Bus.{Place, next_number}
use Rattle.gb_machine.specs.Labels.{next_label}
use Rattle.gb_machine.specs.Lists.{at_first, without}
use Rattle.gb_machine.specs.Modules.{module_at, with_module}
use Rattle.gb_machine.specs.OwnAsking.{far_asks}
use Rattle.gb_machine.specs.Refusals.{module_place}
use Rattle.gb_machine.specs.State.{Load, Past, State, Trail}

-- ---- the last requests of firmware devices

-- it is of the firmware device at this CPort
abbrev pub is_load_at : ℕ → ℕ → Load → Bool
is_load_at i c l = l.intf == i && l.cport == c

-- Request n is the last one of the firmware device at a CPort.
abbrev pub last_asked : ℕ → ℕ → ℕ → List Load → List Load
last_asked i c n loads =
    without (is_load_at i c) loads ++ record { intf = i; cport = c; request = n } ∷ []

-- The firmware device of which request n is the last one.
abbrev pub load_of : ℕ → List Load → Option Load
load_of n loads = find (λ l. l.request == n) loads

-- ---- what is remembered of downloads

-- it is of the download at this CPort
abbrev pub is_trail_at : ℕ → ℕ → Trail → Bool
is_trail_at i c t = t.intf == i && t.cport == c

-- request n is the first of a download over connection k
abbrev pub first_trail : ℕ → ℕ → ℕ → ℕ → List Trail → List Trail
first_trail i c k n trails =
    without (is_trail_at i c) trails
    ++ record { intf = i; cport = c; connection = k; requests = n ∷ [] } ∷ []

-- request n is the next one of a download
abbrev pub longer_trail : ℕ → ℕ → ℕ → List Trail → List Trail
longer_trail i c n trails =
    at_first (is_trail_at i c) (λ t. record t { requests = t.requests ++ n ∷ [] }) trails

-- a download is done, by which the image came that is kept
abbrev pub with_loaded : ℕ → ℕ → Past → Past
with_loaded i c past = record past {
  loaded = without (is_trail_at i c) past.loaded ++ filter (is_trail_at i c) past.loading;
}

-- ---- a download begins

-- a download begins over connection k with request n: so is the module then
abbrev pub with_begun : ℕ → ℕ → ℕ → ℕ → Module → State → State
with_begun i c k n m s = record s {
  modules = with_module i m s.modules;
  loads = last_asked i c n s.loads;
  past = record s.past { loading = first_trail i c k n s.past.loading };
}

-- A module's firmware device asks FIND over connection k.
unfoldable pub begins : ℕ → ℕ → List ℕ → ℕ → Module → Action
begins i c tag k m = by_state (λ s.
    far_asks k (find_ask tag)
    ▸ change (with_begun i c k (next_number s.bus) (module_load m c tag)))

-- The firmware device at a CPort begins to download the image of a tag.
unfoldable pub loads : ℕ → ℕ → List ℕ → Action
loads i c tag = by_state (λ s.
    given (module_place i c s) (λ p.
    given (module_at i s.modules) (begins i c tag p.connection.number)))

-- ---- a download goes on

-- a download goes on with request n: so is the module then
abbrev pub with_next : ℕ → ℕ → ℕ → Module → State → State
with_next i c n m s = record s {
  modules = with_module i m s.modules;
  loads = last_asked i c n s.loads;
  past = record s.past { loading = longer_trail i c n s.past.loading };
}

-- it is done
abbrev pub with_done : ℕ → ℕ → Module → State → State
with_done i c m s =
    record s { modules = with_module i m s.modules; past = with_loaded i c s.past }

-- it failed
abbrev pub with_failed : ℕ → Module → State → State
with_failed i m s = record s { modules = with_module i m s.modules }

-- The download at a CPort fails, since its next request can't be made.
unfoldable pub fails_unasked : ℕ → ℕ → Module → Action
fails_unasked i c m =
    change (with_failed i (module_fail m c)) ▸ tell (entry.Download i c (tag_at m c) None)

-- the next request is made on connection k, where an identifier is left
unfoldable pub asks_next : Option ℕ → ℕ → ℕ → ℕ → OwnAsk → Module → Action
asks_next None k i c own m = fails_unasked i c m
asks_next (Some label) k i c own m = by_state (λ s.
    far_asks k own ▸ change (with_next i c (next_number s.bus) m))

-- the next request is made where the CPort is wired
unfoldable pub asks_at : Option Place → ℕ → ℕ → OwnAsk → Module → Action
asks_at None i c own m = fails_unasked i c m
asks_at (Some p) i c own m = by_state (λ s.
    asks_next (next_label p.connection.number side.Far s.bus) p.connection.number i c own m)

-- What follows in the download at a CPort, and how its module is then.
unfoldable pub goes_on : ℕ → ℕ → Next → Module → Action
goes_on i c (next.Ask own) m = by_state (λ s. asks_at (module_place i c s) i c own m)
goes_on i c (next.Done tag size) m =
    change (with_done i c m) ▸ tell (entry.Download i c tag (Some size))
goes_on i c (next.Failed tag) m =
    change (with_failed i m) ▸ tell (entry.Download i c tag None)

-- the last request of the firmware device at a CPort ended
unfoldable pub load_ended : Outcome → Load → Action
load_ended how l = by_state (λ s.
    given (module_at l.intf s.modules) (λ m.
    given (module_ended m l.cport how) (λ t. goes_on l.intf l.cport t.next t.after)))

-- Request n ended: the download that waits for it goes on.
unfoldable pub load_follows : ℕ → Outcome → Action
load_follows n how = by_state (λ s. given (load_of n s.loads) (load_ended how))
