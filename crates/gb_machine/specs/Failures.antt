-- What fails where a sequence of the application processor fails, and what is told of it.
use Rattle.std.specs.Prelude.{Option, Some, None, List, [], ◌∷◌, ◌++◌}
use Rattle.gb_base.specs.declared.entry.ConnState.{ConnState}
use Rattle.gb_base.specs.declared.entry.ConnState.TheVariants as state
use Rattle.gb_base.specs.declared.entry.Entry.{Entry}
use Rattle.gb_base.specs.declared.entry.Entry.TheVariants as entry
use Rattle.gb_base.specs.declared.entry.IntfStage.TheVariants as stage
use Rattle.gb_base.specs.declared.interface.Interface.{Interface}
use Rattle.gb_base.specs.declared.interface.Link.{Link}
use Rattle.gb_base.specs.declared.steps.Purpose.{Purpose}
use Rattle.gb_base.specs.declared.steps.SequenceStep.{SequenceStep}
use Rattle.gb_base.specs.declared.steps.SequenceStep.TheVariants as steps
use Rattle.gb_machine.specs.Host.{Host, in_state, link_at, staged, with_interface, with_link}
use Rattle.gb_machine.specs.Turns.{Failing, failing}

-- ---- what is told

-- a connection has a state
abbrev pub link_told : ConnState → Link → Entry
link_told to l = entry.Connection l.connection l.ap l.intf l.cport to

-- what is told of a connection, where there is one
abbrev pub told_of : ConnState → Option Link → List Entry
told_of to None = []
told_of to (Some l) = link_told to l ∷ []

-- ---- failures

-- The connection of a step fails.
abbrev pub link_fails : Purpose → Host → Failing
link_fails p h =
    failing (with_link p.intf p.cport (in_state state.Failed) h)
    (told_of state.Failed (link_at p.intf p.cport h))

-- The interface of a step fails.
abbrev pub interface_fails : Purpose → Host → Failing
interface_fails p h =
    failing (with_interface p.intf (staged stage.Failed) h)
    (entry.Interface p.intf stage.Failed ∷ [])

-- The Control connection fails, and then its interface.
abbrev pub control_fails : Purpose → Host → Failing
control_fails p h =
    let link = link_fails p h in
    let interface = interface_fails p link.host in
    failing interface.host (link.told ++ interface.told)

-- What fails where a step isn't answered as it should be: its connection in a connect or close, the
-- interface in an enumeration, and both where the Control connection was to be created.
abbrev pub step_fails : SequenceStep → Purpose → Host → Failing
step_fails steps.CreateControl p h = control_fails p h
step_fails steps.CreateConnection p h = link_fails p h
step_fails steps.TellConnected p h = link_fails p h
step_fails steps.TellDisconnecting p h = link_fails p h
step_fails steps.TellDisconnected p h = link_fails p h
step_fails steps.DestroyConnection p h = link_fails p h
step_fails _ p h = interface_fails p h

-- an interface is to have no device id
abbrev pub without_device : Interface → Interface
without_device x = record x { device = None }

-- What fails where a step's request can't be made, since no identifier is left. No connection was
-- made then, and no device id is taken.
abbrev pub unsent_fails : SequenceStep → Purpose → Host → Failing
unsent_fails steps.CreateControl p h = interface_fails p h
unsent_fails steps.CreateConnection p h = failing h []
unsent_fails steps.GiveDevice p h =
    interface_fails p (with_interface p.intf without_device h)
unsent_fails step p h = step_fails step p h

-- No identifier was left for the request of a purpose.
abbrev pub unsent : Purpose → Host → Failing
unsent p h = unsent_fails p.step p h
