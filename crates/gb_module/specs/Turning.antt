-- How the state of a CPort changes.
use Rattle.std.specs.Prelude.{Bool}
use Rattle.gb_formats.specs.ControlResponder.{is_off, is_quiet, made_quiet, turned_off, turned_on}
use Rattle.gb_formats.specs.Module.{CportState, ModulePort, is_on}
use Rattle.gb_module.specs.declared.turn.Turn.{Turn}
use Rattle.gb_module.specs.declared.turn.Turn.TheVariants as turn

-- the state from which a CPort changes so
abbrev pub wants : Turn → CportState → Bool
wants turn.Connected = is_off
wants turn.Disconnecting = is_on
wants turn.Disconnected = is_quiet

-- the CPort after it
abbrev pub changes : Turn → ModulePort → ModulePort
changes turn.Connected = turned_on
changes turn.Disconnecting = made_quiet
changes turn.Disconnected = turned_off
