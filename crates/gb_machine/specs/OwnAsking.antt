-- The actions of asking on the far side: modules and the supervisory controller.
use Rattle.std.specs.Prelude.{ℕ, ◌+◌, false, List}
use Rattle.gb_base.specs.declared.end.Side.TheVariants as side
use Rattle.gb_base.specs.declared.served.OwnAsk.{OwnAsk}
use Rattle.gb_formats.specs.Grammar.{default_timeout}
use Rattle.gb_formats.specs.SvcRecords.{SvcAsk, svc_ask_kind, svc_ask_payload}
use Rattle.gb_machine.specs.Actions.{Action, by_state, each, when}
use Rattle.gb_machine.specs.Asking.{asks}
use Rattle.gb_machine.specs.Bus.{connection_of}
use Rattle.gb_machine.specs.Sending.{draft, is_wired}

-- A module or the supervisory controller asks on a connection, where that is wired and an
-- identifier is left.
unfoldable pub far_asks : ℕ → OwnAsk → Action
far_asks k own = by_state (λ s. when (is_wired (connection_of k s.bus))
    (asks (draft k side.Far own.kind own.payload (s.now + default_timeout) own.oneway)))

-- Requests of their own are made one after another, or left out.
unfoldable pub far_asks_all : ℕ → List OwnAsk → Action
far_asks_all k own = each own (far_asks k)

-- a request of the supervisory controller
abbrev pub svc_own : SvcAsk → OwnAsk
svc_own ask = record { kind = svc_ask_kind ask; payload = svc_ask_payload ask; oneway = false }

-- The supervisory controller asks.
unfoldable pub svc_asks : SvcAsk → Action
svc_asks ask = far_asks 1 (svc_own ask)
