-- The request of a bridge line, or why it isn't sent.
use Rattle.std.specs.Prelude.{◌≡◌, ℕ, Some, None, IsSome, Result, Ok, Err, List}
use Rattle.gb_base.specs.declared.bridge.BridgeAsk.{BridgeAsk}
use Rattle.gb_base.specs.declared.end.Side.TheVariants as side
use Rattle.gb_base.specs.declared.name.Name.{Name}
use Rattle.gb_base.specs.declared.interface.Link.{Link}
use Rattle.gb_base.specs.declared.refusal.Refusal.{Refusal}
use Rattle.gb_bridge_payload.specs.Serving.{WritesBridged}
use Rattle.gb_formats.specs.Bridges.{ask_request}
use Rattle.gb_machine.specs.Host.{link_at}
use Rattle.gb_machine.specs.Labels.{next_label}
use Rattle.gb_machine.specs.Lists.{first_met}
use Rattle.gb_machine.specs.Refusals.{line_conditions}
use Rattle.gb_machine.specs.State.{State}
use Rattle.gb_system.specs.declared.bridging.Bridging.{Bridging}

-- A bridge line isn't refused: its request goes on the connection to the CPort, on which an
-- identifier is left, and stands at the front of `old`.
pub record IsBridged (s : State) (name : Name) (i c : ℕ) (what : BridgeAsk) (old new : List ℕ)
    (b : Bridging) : Type 0 where
  pub allowed : first_met (line_conditions s name i c what) ≡ None
  pub link : Link
  pub there : link_at i c s.host ≡ Some link
  pub number : link.connection ≡ b.connection
  pub written : WritesBridged (ask_request what) old new b.request
  pub label : IsSome (next_label b.connection side.Ap s.bus)

-- The answer is the request exactly where no condition is met, and else the first.
abbrev pub BridgesTo : State → Name → ℕ → ℕ → BridgeAsk → List ℕ → List ℕ
    → Result Bridging Refusal → Type 0
BridgesTo s name i c what old new (Ok b) = IsBridged s name i c what old new b
BridgesTo s name i c what old new (Err why) = first_met (line_conditions s name i c what) ≡ Some why
