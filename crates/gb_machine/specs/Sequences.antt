-- The sequences of the application processor: enumerating an interface, connecting a CPort and
-- closing a connection. Each step is asked when the one before was answered with success.
use Rattle.std.specs.Prelude.{ℕ, ◌==◌, true, if◌then◌else◌, Option, Some, None, unwrap_or, Result}
use Rattle.std.specs.Prelude.{Ok, Err, List, [], ◌∷◌, length}
use Rattle.gb_base.specs.declared.entry.ConnState.{ConnState}
use Rattle.gb_base.specs.declared.entry.ConnState.TheVariants as state
use Rattle.gb_base.specs.declared.entry.Entry.TheVariants as entry
use Rattle.gb_base.specs.declared.entry.IntfStage.TheVariants as stage
use Rattle.gb_base.specs.declared.outcome.Outcome.{Outcome}
use Rattle.gb_base.specs.declared.outcome.Outcome.TheVariants as outcome
use Rattle.gb_base.specs.declared.interface.Interface.{Interface}
use Rattle.gb_base.specs.declared.interface.Link.{Link}
use Rattle.gb_base.specs.declared.steps.Purpose.{Purpose}
use Rattle.gb_base.specs.declared.steps.SequenceStep.{SequenceStep}
use Rattle.gb_base.specs.declared.steps.SequenceStep.TheVariants as steps
use Rattle.gb_formats.specs.ControlRecords.{ControlReply, read_control_reply}
use Rattle.gb_formats.specs.Manifest.{Manifest, check_answer}
use Rattle.gb_formats.specs.ManifestRules.{Refused}
use Rattle.gb_formats.specs.Records.{PayloadFault}
use Rattle.gb_machine.specs.Host.{Host, control_of, free_cport, free_device, in_state, interface_of}
use Rattle.gb_machine.specs.Host.{link_at, with_interface, with_link, without_link}
use Rattle.gb_machine.specs.SequenceSteps.{Target, asks_control, at_step, is_reply, kind_of}
use Rattle.gb_machine.specs.SequenceSteps.{payload_of}
use Rattle.gb_machine.specs.Turns.{Act, Asking, Making, Turn, failed_turn, telling, turn}
use Rattle.gb_machine.specs.Failures.{interface_fails, link_told, step_fails}

-- ---- asking

-- the application processor's CPort of a connection, 0 where there is none
abbrev pub ap_in : Option Link → ℕ
ap_in None = 0
ap_in (Some l) = l.ap

-- the device id of an interface, 0 where it has none
abbrev pub device_in : Option Interface → ℕ
device_in None = 0
device_in (Some x) = unwrap_or x.device 0

-- what the request of a purpose speaks of, where the connection has this CPort of
-- the application processor
abbrev pub target : ℕ → Purpose → Host → Target
target ap p h = record {
  intf = p.intf;
  cport = p.cport;
  ap = ap;
  device = device_in (interface_of p.intf h);
}

-- the request of a purpose, on a connection
abbrev pub asking : ℕ → Purpose → Target → Asking
asking k p t = record {
  on = k;
  kind = kind_of p.step;
  payload = payload_of p.step t;
  purpose = p;
}

-- the connection on which the request of a purpose goes
abbrev pub way_of : Purpose → Host → Option ℕ
way_of p h = if asks_control p.step then control_of p.intf h else Some 1

-- the request of a purpose is made, where there is a connection for it
abbrev pub asked_on : Option ℕ → Purpose → Host → Turn
asked_on None p h = failed_turn (step_fails p.step p h)
asked_on (Some k) p h =
    turn h (Act.Ask (asking k p (target (ap_in (link_at p.intf p.cport h)) p h)) ∷ [])

-- The request of a purpose is made.
abbrev pub step_asked : Purpose → Host → Turn
step_asked p h = asked_on (way_of p h) p h

-- the same sequence goes on with another step
abbrev pub goes_on : SequenceStep → Purpose → Host → Turn
goes_on step p h = step_asked (at_step step p) h

-- A connection is made on a CPort of the application processor, and then the request for it.
abbrev pub opens : ℕ → ℕ → Purpose → Host → Turn
opens ap protocol p h =
    let making : Making = record {
      ap = ap;
      intf = p.intf;
      cport = p.cport;
      protocol = protocol;
    } in
    turn h (Act.Make making (asking 1 p (target ap p h)) ∷ [])

-- ---- the steps of an enumeration

-- An interface gets the least device id that is free.
abbrev pub begins_device : Option ℕ → Purpose → Host → Turn
begins_device None p h = failed_turn (interface_fails p h)
begins_device (Some d) p h =
    step_asked p (with_interface p.intf (λ x. record x { device = Some d }) h)

-- The Control connection is made on the least CPort that is free.
abbrev pub begins_control : Option ℕ → Purpose → Host → Turn
begins_control None p h = failed_turn (interface_fails p h)
begins_control (Some ap) p h = opens ap 0 p h

-- The supervisory controller gave an interface its device id.
abbrev pub device_given : Purpose → Host → Turn
device_given p h =
    goes_on steps.CreateRoute p
    (with_interface p.intf (λ x. record x { has_device = true }) h)

-- a connection of a purpose is open
abbrev pub opened : Purpose → Host → Host
opened p h = with_link p.intf p.cport (in_state state.Open) h

-- what is told of it, in front of a turn
abbrev pub opened_told : Option Link → Turn → Turn
opened_told None t = t
opened_told (Some l) t = telling (link_told state.Open l) t

-- The Control connection is open, and the version is asked.
abbrev pub control_opened : Purpose → Host → Turn
control_opened p h =
    opened_told (link_at p.intf p.cport h) (goes_on steps.AskVersion p (opened p h))

-- the size of a manifest that was told
abbrev pub size_in : Result ControlReply PayloadFault → ℕ
size_in (Ok (ControlReply.GetManifestSize size)) = size
size_in (Ok _) = 0
size_in (Err fault) = 0

-- The size of the manifest was told.
abbrev pub size_told : Purpose → List ℕ → Host → Turn
size_told p payload h =
    let size = size_in (read_control_reply 0x03 payload) in
    goes_on steps.AskManifest p
    (with_interface p.intf (λ x. record x { size = size }) h)

-- an interface is enumerated with this manifest
abbrev pub enumerated : List ℕ → Interface → Interface
enumerated bytes x = record x { stage = stage.Enumerated; manifest = bytes }

-- The manifest is accepted, or refused and named.
abbrev pub manifest_checked : Result Manifest Refused → Purpose → List ℕ → Host → Turn
manifest_checked (Ok m) p bytes h =
    turn (with_interface p.intf (enumerated bytes) h)
    (Act.Tell (entry.Interface p.intf stage.Enumerated) ∷ [])
manifest_checked (Err why) p bytes h =
    telling (entry.Manifest p.intf why.at why.reason) (failed_turn (interface_fails p h))

-- the size of its manifest that was told of an interface
abbrev pub size_known : Option Interface → ℕ
size_known None = 0
size_known (Some x) = x.size

-- The manifest came. It must have the length that was told.
abbrev pub manifest_told : Purpose → List ℕ → Host → Turn
manifest_told p bytes h =
    if length bytes == size_known (interface_of p.intf h)
    then manifest_checked (check_answer bytes) p bytes h
    else failed_turn (interface_fails p h)

-- ---- the steps of a connection

-- a turn that tells of a connection
abbrev pub link_turn : ConnState → Option Link → Host → Turn
link_turn to None h = turn h []
link_turn to (Some l) h = turn h (Act.Tell (link_told to l) ∷ [])

-- The connection is open.
abbrev pub link_opened : Purpose → Host → Turn
link_opened p h = link_turn state.Open (link_at p.intf p.cport h) (opened p h)

-- the connection is given up, and is told to be closed
abbrev pub link_left : Option Link → Host → Turn
link_left None h = turn h []
link_left (Some l) h =
    turn h (Act.Leave l.connection ∷ Act.Tell (link_told state.Closed l) ∷ [])

-- The connection is closed and there no more.
abbrev pub link_closed : Purpose → Host → Turn
link_closed p h = link_left (link_at p.intf p.cport h) (without_link p.intf p.cport h)

-- ---- all steps

-- What follows a step that was answered as it should be.
abbrev pub step_done : SequenceStep → Purpose → List ℕ → Host → Turn
step_done steps.EnableVsys p payload h = goes_on steps.EnableRefclk p h
step_done steps.EnableRefclk p payload h = goes_on steps.EnableUnipro p h
step_done steps.EnableUnipro p payload h = goes_on steps.Activate p h
step_done steps.Activate p payload h =
    begins_device (free_device h) (at_step steps.GiveDevice p) h
step_done steps.GiveDevice p payload h = device_given p h
step_done steps.CreateRoute p payload h =
    begins_control (free_cport h) (at_step steps.CreateControl p) h
step_done steps.CreateControl p payload h = control_opened p h
step_done steps.AskVersion p payload h = goes_on steps.AskSize p h
step_done steps.AskSize p payload h = size_told p payload h
step_done steps.AskManifest p payload h = manifest_told p payload h
step_done steps.CreateConnection p payload h = goes_on steps.TellConnected p h
step_done steps.TellConnected p payload h = link_opened p h
step_done steps.TellDisconnecting p payload h = goes_on steps.TellDisconnected p h
step_done steps.TellDisconnected p payload h = goes_on steps.DestroyConnection p h
step_done steps.DestroyConnection p payload h = link_closed p h

-- the payload of an answer of success
abbrev pub payload_in : Outcome → Option (List ℕ)
payload_in (outcome.Answered result payload) = if result == 0 then Some payload else None
payload_in _ = None

-- A step's request was answered with success and this payload, or ended otherwise.
abbrev pub step_answered : Option (List ℕ) → Purpose → Host → Turn
step_answered None p h = failed_turn (step_fails p.step p h)
step_answered (Some payload) p h =
    if is_reply p.step payload then step_done p.step p payload h
    else failed_turn (step_fails p.step p h)
