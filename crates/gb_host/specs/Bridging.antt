-- What bridge lines become, and what answers say.
use Rattle.std.specs.Prelude.{◌≡◌, ℕ, Option, Some, None, Result, Ok, Err, List}
use Rattle.gb_base.specs.declared.bridge.BridgeAsk.{BridgeAsk}
use Rattle.gb_base.specs.declared.bridge.Bridged.{Bridged}
use Rattle.gb_base.specs.declared.bridge.Reading.{Reading}
use Rattle.gb_base.specs.declared.bridge.Reading.TheVariants as reading
use Rattle.gb_base.specs.declared.interface.Link.{Link}
use Rattle.gb_base.specs.declared.refusal.Refusal.{Refusal}
use Rattle.gb_bridge_payload.specs.Serving.{WritesBridged}
use Rattle.gb_formats.specs.Bridges.{Request, ask_request, reading_of}
use Rattle.gb_machine.specs.HostRefusals.{bridge_conditions}
use Rattle.gb_machine.specs.Lists.{first_met}

-- The request of a bridge line is written at the front of `old` exactly where nothing is refused,
-- and else comes the refusal.
abbrev pub WritesAs : Option Refusal → Request → List ℕ → List ℕ → Result Bridged Refusal → Type 0
WritesAs refusal request old new (Ok b) = (refusal ≡ None) × WritesBridged request old new b
WritesAs refusal request old new (Err why) = refusal ≡ Some why

-- a bridge line on a connection
abbrev pub BridgesOn : Link → BridgeAsk → List ℕ → List ℕ → Result Bridged Refusal → Type 0
BridgesOn l what old new result =
    WritesAs (first_met (bridge_conditions l what)) (ask_request what) old new result

-- what an answer on a connection says, nothing where there is none
abbrev pub reading_on : Option Link → ℕ → List ℕ → Reading
reading_on None kind payload = reading.Nothing
reading_on (Some l) kind payload = reading_of l.protocol kind payload
