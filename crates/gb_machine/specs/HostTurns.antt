-- What the application processor does at what it takes notice of.
use Rattle.std.specs.Prelude.{ℕ, ◌==◌, if◌then◌else◌, Option, Some, None, option_and_then, List}
use Rattle.std.specs.Prelude.{[], ◌∷◌, ◌++◌}
use Rattle.std.specs.List.{filter}
use Rattle.gb_base.specs.declared.entry.ConnState.TheVariants as state
use Rattle.gb_base.specs.declared.entry.Entry.TheVariants as entry
use Rattle.gb_base.specs.declared.entry.IntfStage.TheVariants as stage
use Rattle.gb_base.specs.declared.host_event.HostEvent.TheVariants as host_event
use Rattle.gb_base.specs.declared.host_event.HostEvent.{HostEvent}
use Rattle.gb_base.specs.declared.outcome.Outcome.{Outcome}
use Rattle.gb_base.specs.declared.interface.Link.{Link}
use Rattle.gb_base.specs.declared.steps.Purpose.{Purpose}
use Rattle.gb_base.specs.declared.steps.SequenceStep.TheVariants as steps
use Rattle.gb_formats.specs.Manifest.{CportView}
use Rattle.gb_machine.specs.Host.{Host, cport_of, free_cport, in_state, interface_of, interfaces_of}
use Rattle.gb_machine.specs.Host.{all_forgotten, is_draining, is_intf, link_at, link_of, with_freed}
use Rattle.gb_machine.specs.Host.{with_link, with_new_interface}
use Rattle.gb_machine.specs.Lists.{span, without}
use Rattle.gb_machine.specs.SequenceSteps.{purpose}
use Rattle.gb_machine.specs.Failures.{link_told}
use Rattle.gb_machine.specs.Sequences.{link_turn, opens, payload_in, step_answered, step_asked}
use Rattle.gb_machine.specs.Waits.{awaited, awaits_nothing}
use Rattle.gb_machine.specs.Turns.{Act, Turn, telling, turn}

-- the turns of these interfaces, one after another
abbrev pub one_by_one : (ℕ → Host → Turn) → List ℕ → Host → Turn
one_by_one one [] h = turn h []
one_by_one one (i ∷ is) h =
    let first = one i h in
    let later = one_by_one one is first.host in
    turn later.host (first.acts ++ later.acts)

-- The enumeration of an interface of a module begins.
abbrev pub host_inserted : ℕ → ℕ → Host → Turn
host_inserted p i h =
    telling (entry.Interface i stage.Enumerating)
    (step_asked (purpose i 0 steps.EnableVsys) (with_new_interface p i h))

-- the connections of an interface, by number
abbrev pub links_of : ℕ → Host → List Link
links_of i h = filter (λ l. l.intf == i) h.links

-- connections are closed and given up, one after another
abbrev pub links_left : List Link → List Act
links_left [] = []
links_left (l ∷ ls) =
    Act.Shut l.connection ∷ Act.Leave l.connection ∷ Act.Tell (link_told state.Closed l)
    ∷ links_left ls

-- the host without an interface and its connections, what their sequences wait for, and their ids
abbrev pub without_interface : ℕ → Host → Host
without_interface i h = record h {
  interfaces = without (is_intf i) h.interfaces;
  links = without (λ l. l.intf == i) h.links;
  images = all_forgotten (links_of i h) h.images;
}

-- An interface is absent: its connections are closed in order of number.
abbrev pub host_removed : ℕ → Host → Turn
host_removed i h =
    turn (without_interface i h)
    (links_left (links_of i h) ++ Act.Tell (entry.Interface i stage.Removed) ∷ [])

-- a connection with a protocol is made on a CPort of the application processor
abbrev pub connects_on : Option ℕ → ℕ → Purpose → Host → Turn
connects_on None protocol p h = turn h []
connects_on (Some ap) protocol p h = opens ap protocol p h

-- a connection to a CPort that a manifest declares is made on the least CPort that is free
abbrev pub connects : Option CportView → Purpose → Host → Turn
connects None p h = turn h []
connects (Some view) p h = connects_on (free_cport h) view.protocol p h

-- The connect sequence of a CPort begins.
abbrev pub host_connects : ℕ → ℕ → Host → Turn
host_connects i c h =
    connects (option_and_then (cport_of c) (interface_of i h))
    (purpose i c steps.CreateConnection) h

-- a connection is closing: its side is closed, its ids are free, and then its sequence begins
abbrev pub disconnects : Option Link → Purpose → Host → Turn
disconnects None p h = turn h []
disconnects (Some l) p h =
    let freed = with_freed l.connection h in
    let asked = step_asked p (with_link p.intf p.cport (in_state state.Closing) freed) in
    turn asked.host
    (Act.Shut l.connection ∷ Act.Tell (link_told state.Closing l) ∷ asked.acts)

-- The close sequence of a connection begins.
abbrev pub host_disconnects : ℕ → ℕ → Host → Turn
host_disconnects i c h =
    disconnects (link_at i c h) (purpose i c steps.TellDisconnecting) h

-- A connection drains: it closes once the requests on it have ended.
abbrev pub host_drains : ℕ → ℕ → Host → Turn
host_drains i c h =
    link_turn state.Draining (link_at i c h) (with_link i c (in_state state.Draining) h)

-- the close sequence of a connection begins where it drains
abbrev pub drained : Option Link → Host → Turn
drained None h = turn h []
drained (Some l) h =
    if is_draining l.state then host_disconnects l.intf l.cport h else turn h []

-- No request of the application processor is open on a connection.
abbrev pub host_idle : ℕ → Host → Turn
host_idle k h = drained (link_of k h) h

-- a request for this purpose ended; nothing starts where no sequence waited for it
abbrev pub ended_for : Option Purpose → Outcome → Host → Turn
ended_for None how h = turn h []
ended_for (Some p) how h = step_answered (payload_in how) p (awaits_nothing p h)

-- A request ended.
abbrev pub host_ended : ℕ → Outcome → Host → Turn
host_ended n how h = ended_for (awaited n h) how h

-- The turn of the application processor at what it takes notice of.
abbrev pub host_turn : HostEvent → Host → Turn
host_turn (host_event.Inserted p count) h = one_by_one (host_inserted p) (span p count) h
host_turn (host_event.Removed p) h = one_by_one host_removed (interfaces_of p h) h
host_turn (host_event.Connect i c) h = host_connects i c h
host_turn (host_event.Disconnect i c) h = host_disconnects i c h
host_turn (host_event.Drain i c) h = host_drains i c h
host_turn (host_event.Idle k) h = host_idle k h
host_turn (host_event.Ended n how) h = host_ended n how h
