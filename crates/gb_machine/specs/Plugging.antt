-- The actions of starting the supervisory controller, and of plugging and pulling modules.
use Rattle.std.specs.Prelude.{ℕ, ◌+◌, ◌==◌, true, if◌then◌else◌, is_some, List, [], ◌∷◌, ◌++◌}
use Rattle.std.specs.Prelude.{length, map}
use Rattle.std.specs.List.{filter}
use Rattle.gb_formats.specs.Module.{Module}
use Rattle.gb_formats.specs.SvcRecords.{SvcAsk}
use Rattle.gb_machine.specs.Actions.{Action, by_state, change, each, given, when, ◌▸◌}
use Rattle.gb_machine.specs.Bus.{Bus, next_number, request_of}
use Rattle.gb_machine.specs.Lists.{without}
use Rattle.gb_machine.specs.Modules.{interfaces_of, is_primary, part_at, plugged, unplugged}
use Rattle.gb_machine.specs.OwnAsking.{svc_asks}
use Rattle.gb_machine.specs.Ports.{powered, unpowered}
use Rattle.gb_machine.specs.State.{Plugged, State}
use Rattle.gb_machine.specs.Wires.{unwires}
use Rattle.gb_machine.specs.Wiring.{is_wired_to}

-- MODULE_INSERTED of a module by its primary interface, with the number of its interfaces
unfoldable pub tells_inserted : ℕ → ℕ → Action
tells_inserted primary count = svc_asks (SvcAsk.ModuleInserted primary count 0)

-- The supervisory controller starts: it sends its version, HELLO, and each module that is plugged.
unfoldable pub boots : Action
boots = by_state (λ s.
    change (λ t. record t { booted = true })
    ▸ svc_asks (SvcAsk.ProtocolVersion 0 1)
    ▸ svc_asks (SvcAsk.Hello 1 1)
    ▸ each (filter is_primary s.modules) (λ p. tells_inserted p.primary p.count))

-- the parts of a module from this interface on
abbrev pub parts_from : ℕ → ℕ → ℕ → List Module → List Plugged
parts_from i primary count [] = []
parts_from i primary count (m ∷ ms) =
    record { intf = i; primary = primary; count = count; body = m }
    ∷ parts_from (i + 1) primary count ms

-- the parts of a module, one for each of its interfaces
abbrev pub parts_of : ℕ → List Module → List Plugged
parts_of primary ms = parts_from primary primary (length ms) ms

-- a part of a module is plugged, and its power is off
abbrev pub with_plugged : Plugged → State → State
with_plugged p s =
    record s { modules = plugged p s.modules; ports = powered p.intf s.ports }

-- A module is plugged, and the supervisory controller tells it once it has started.
unfoldable pub plugs : ℕ → List Module → Action
plugs primary ms = by_state (λ s.
    each (parts_of primary ms) (λ p. change (with_plugged p))
    ▸ when s.booted (tells_inserted primary (length ms)))

-- the numbers of the wired connections of an interface, rising
abbrev pub wired_numbers : ℕ → Bus → List ℕ
wired_numbers i b = map (λ c. c.number) (filter (is_wired_to i) b.connections)

-- what was plugged at an interface is pulled: its power level, its device id and its downloads
-- are gone
abbrev pub with_pulled : ℕ → State → State
with_pulled i s = record s {
  modules = unplugged i s.modules;
  ports = unpowered i s.ports;
  loads = without (λ l. l.intf == i) s.loads;
  past = record s.past {
    loading = without (λ t. t.intf == i) s.past.loading;
    loaded = without (λ t. t.intf == i) s.past.loaded;
  };
}

-- One interface of a module is pulled: its connections are unwired in order of number.
unfoldable pub pulls_one : ℕ → Action
pulls_one i = by_state (λ s.
    each (wired_numbers i s.bus) unwires ▸ change (with_pulled i))

-- it is remembered that request n told that these interfaces were pulled
abbrev pub with_told : ℕ → List ℕ → State → State
with_told n is s = record s {
  past = record s.past { pulled = s.past.pulled ++ map (λ i. (n, i)) is };
}

-- the same where the request was made
abbrev pub recalled : ℕ → List ℕ → State → State
recalled n is s = if is_some (request_of n s.bus) then with_told n is s else s

-- MODULE_REMOVED of a module by its primary interface; that it told of these is remembered
unfoldable pub tells_removed : ℕ → List ℕ → Action
tells_removed primary is = by_state (λ s.
    svc_asks (SvcAsk.ModuleRemoved primary) ▸ change (recalled (next_number s.bus) is))

-- A module is pulled, of which this is a part: its interfaces one after another, and the
-- supervisory controller tells it once it has started.
unfoldable pub pulls_module : Plugged → Action
pulls_module p = by_state (λ s.
    each (interfaces_of p) pulls_one
    ▸ when s.booted (tells_removed p.primary (interfaces_of p)))

-- The module that has this interface is pulled.
unfoldable pub pulls : ℕ → Action
pulls i = by_state (λ s. given (part_at i s.modules) pulls_module)
