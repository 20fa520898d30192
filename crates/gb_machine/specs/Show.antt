-- The lines of `show`.
use Rattle.std.specs.Prelude.{ℕ, if◌then◌else◌, Option, Some, None, List, ◌∷◌, ◌++◌, map}
use Rattle.gb_base.specs.declared.entry.ConnState.{ConnState}
use Rattle.gb_base.specs.declared.entry.ConnState.TheVariants as state
use Rattle.gb_base.specs.declared.entry.Entry.{Entry}
use Rattle.gb_base.specs.declared.entry.Entry.TheVariants as entry
use Rattle.gb_base.specs.declared.name.Name.{Name}
use Rattle.gb_base.specs.declared.interface.Interface.{Interface}
use Rattle.gb_base.specs.declared.interface.Link.{Link}
use Rattle.gb_formats.specs.ShowTexts.{connection_line, interface_line, name_line, now_line}
use Rattle.gb_formats.specs.ShowTexts.{queue_line}
use Rattle.gb_machine.specs.Bus.{Bus, Connection, outcome_of}
use Rattle.gb_machine.specs.Host.{Host, link_of}
use Rattle.gb_machine.specs.Names.{names_in_order}
use Rattle.gb_machine.specs.State.{State}
use Rattle.gb_machine.specs.Waiting.{Queue, queues}

-- The device id of an interface, once the supervisory controller gave it.
abbrev pub device_shown : Interface → Option ℕ
device_shown x = if x.has_device then x.device else None

-- the line of an interface
abbrev pub interface_shown : Interface → List ℕ
interface_shown x = interface_line x.intf x.stage (device_shown x)

-- the connection of the supervisory controller is open for ever
abbrev pub state_of : Option Link → ConnState
state_of None = state.Open
state_of (Some l) = l.state

-- the line of a connection
abbrev pub connection_shown : Host → Connection → List ℕ
connection_shown h c =
    connection_line c.number c.ap c.peer c.protocol (state_of (link_of c.number h)) c.clean

-- the line of a queue
abbrev pub queue_shown : Queue → List ℕ
queue_shown q = queue_line q.at q.count

-- the line of a name
abbrev pub name_shown : Bus → Name × ℕ → List ℕ
name_shown b p = name_line p.0 p.1 (outcome_of p.1 b)

-- The lines of a state.
abbrev pub lines_shown : State → List (List ℕ)
lines_shown s =
    now_line s.now ∷ map interface_shown s.host.interfaces
    ++ (map (connection_shown s.host) s.bus.connections
    ++ (map queue_shown (queues s.bus)
    ++ map (name_shown s.bus) (names_in_order s)))

-- The entries of a state.
abbrev pub shown : State → List Entry
shown s = map entry.Shown (lines_shown s)
