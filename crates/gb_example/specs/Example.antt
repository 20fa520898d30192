-- What the functions of the example mean.
use Rattle.std.specs.Prelude.{◌≡◌, ℕ, ◌+◌, ◌==◌, nat_le, Bool, false, ◌&&◌, Option, None}
use Rattle.std.specs.Prelude.{option_map, Result, Ok, Err, List, [], ◌∷◌, ◌++◌, length}
use Rattle.std.specs.String.{string_bytes}
use Rattle.gb_base.specs.declared.bridge.BridgeAsk.TheVariants as ask
use Rattle.gb_base.specs.declared.event.Event.{Event}
use Rattle.gb_base.specs.declared.event.Event.TheVariants as event
use Rattle.gb_base.specs.declared.reasons.WireFault.{WireFault}
use Rattle.gb_base.specs.declared.name.Name.{Name}
use Rattle.gb_example.specs.declared.rig.Rig.{Rig}
use Rattle.gb_formats.specs.Manifest.{Manifest, check_answer, cport}
use Rattle.gb_formats.specs.ManifestRules.{Refused}
use Rattle.gb_formats.specs.Message.{Message}
use Rattle.gb_formats.specs.Texts.{entries_text}
use Rattle.gb_formats.specs.Wire.{decode_answer}
use Rattle.gb_machine.specs.Events.{step}
use Rattle.gb_machine.specs.State.{State, first_state}
use Rattle.gb_system.specs.Stands.{Stands}

-- ---- a message

-- a message is a response of success to the request with this identifier
abbrev pub is_success_to : ℕ → Message → Bool
is_success_to id m = m.id == id && nat_le 128 m.kind && m.result == 0

-- the same of what bytes are read as
abbrev pub success_in : ℕ → Result (Message × ℕ) WireFault → Bool
success_in id (Ok found) = is_success_to id found.0
success_in id (Err fault) = false

-- Bytes begin with such a message.
abbrev pub begins_with_success : ℕ → List ℕ → Bool
begins_with_success id bytes = success_in id (decode_answer bytes)

-- ---- a manifest

-- the protocol of a CPort of a manifest, None where it declares none
abbrev pub protocol_of : ℕ → Manifest → Option ℕ
protocol_of c m = option_map (λ v. v.protocol) (cport m c)

-- the same by what a check answers
abbrev pub protocol_by : ℕ → Result Manifest Refused → Option ℕ
protocol_by c (Ok m) = protocol_of c m
protocol_by c (Err why) = None

-- The protocol of a CPort, None where the bytes are no manifest or declare no such CPort.
abbrev pub protocol_in : ℕ → List ℕ → Option ℕ
protocol_in c bytes = protocol_by c (check_answer bytes)

-- ---- a run, whose last event comes first

-- The state after a run of events.
unfoldable pub state_after : List Event → State
state_after [] = first_state
state_after (e ∷ es) = (step (state_after es) e).state

-- The report of a run: the entries of each event with its number.
unfoldable pub report_of : List Event → List ℕ
report_of [] = []
report_of (e ∷ es) =
    report_of es ++ entries_text (length es + 1) false (step (state_after es) e).entries

-- how many events a rig has stepped
abbrev pub counted : Rig → ℕ
counted x = x.events

-- what a rig reports
abbrev pub reported : Rig → List ℕ
reported x = string_bytes x.report

-- A rig stands for the state after a run, and has reported it.
pub record Shows (x : Rig) (es : List Event) : Type 0 where
  pub stands : Stands x.system (state_after es)
  pub report : reported x ≡ report_of es
  pub count : counted x ≡ length es

-- A rig has stepped a run, and reports it. What that means is unfolded where it is proved alone.
unfoldable pub HasRun : Rig → List Event → Type 0
HasRun x es = Shows x es

-- The run of the example: a module with this manifest comes to interface 2, its CPort 3 is
-- connected, and a request of this name asks how many lines it has.
abbrev pub session_of : Name → List ℕ → List Event
session_of name manifest =
    event.Settle 10
    ∷ event.Bridge name 2 3 (ask.Gpio 0x02 0 0)
    ∷ event.Settle 10
    ∷ event.Connect 2 3
    ∷ event.Settle 40
    ∷ event.Boot
    ∷ event.InsertRaw 2 manifest
    ∷ []
