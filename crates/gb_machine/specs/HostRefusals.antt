-- When the application processor refuses what is asked of it: refusals in their order, each with
-- its condition.
use Rattle.std.specs.Prelude.{ℕ, ◌==◌, Bool, true, false, not, ◌&&◌, ◌||◌, Option, is_some, is_none}
use Rattle.std.specs.Prelude.{option_and_then, List, [], ◌∷◌}
use Rattle.std.specs.List.{list_any}
use Rattle.gb_base.specs.declared.bridge.BridgeAsk.{BridgeAsk}
use Rattle.gb_base.specs.declared.entry.ConnState.{ConnState}
use Rattle.gb_base.specs.declared.entry.ConnState.TheVariants as state
use Rattle.gb_base.specs.declared.entry.IntfStage.{IntfStage}
use Rattle.gb_base.specs.declared.entry.IntfStage.TheVariants as stage
use Rattle.gb_base.specs.declared.refusal.Refusal.TheVariants as why
use Rattle.gb_base.specs.declared.interface.Link.{Link}
use Rattle.gb_formats.specs.Bridges.{ask_protocol, credits_taken, is_too_large}
use Rattle.gb_formats.specs.Images.{image_of}
use Rattle.gb_formats.specs.Manifest.{CportView}
use Rattle.gb_formats.specs.UartDevice.{credits_spent}
use Rattle.gb_machine.specs.Host.{Host, cport_of, free_cport, interface_of, link_at}
use Rattle.gb_machine.specs.Lists.{Condition, holds_of}

-- ---- connect

-- an enumeration isn't done
abbrev pub is_enumerating : IntfStage → Bool
is_enumerating stage.Enumerating = true
is_enumerating _ = false

-- an enumeration failed
abbrev pub is_failed_stage : IntfStage → Bool
is_failed_stage stage.Failed = true
is_failed_stage _ = false

-- the protocols that are connected: GPIO, I2C, UART, SPI, Loopback and Firmware Download
abbrev pub is_bridged : CportView → Bool
is_bridged view =
    list_any (λ p. p == view.protocol) (0x02 ∷ 0x03 ∷ 0x04 ∷ 0x0b ∷ 0x11 ∷ 0x17 ∷ [])

-- When a connect is refused, but for want of an identifier.
abbrev pub connect_conditions : ℕ → ℕ → Host → List Condition
connect_conditions i c h =
    let interface = interface_of i h in
    let cport = option_and_then (cport_of c) interface in
    (is_none interface, why.NoInterface)
    ∷ (holds_of (λ x. is_enumerating x.stage) interface, why.NotEnumerated)
    ∷ (holds_of (λ x. is_failed_stage x.stage) interface, why.Failed)
    ∷ (is_none cport, why.NoCport)
    ∷ (not (holds_of is_bridged cport), why.Unsupported)
    ∷ (is_some (link_at i c h), why.Occupied)
    ∷ (is_none (free_cport h), why.CportsSpent)
    ∷ []

-- ---- send, disconnect and drain

-- a connection wasn't opened
abbrev pub is_unopened : ConnState → Bool
is_unopened state.Opening = true
is_unopened state.Closed = true
is_unopened _ = false

-- a connection is being closed
abbrev pub is_closing : ConnState → Bool
is_closing state.Closing = true
is_closing _ = false

-- a connection is being closed, or drains
abbrev pub is_ending : ConnState → Bool
is_ending state.Draining = true
is_ending state.Closing = true
is_ending _ = false

-- a sequence of a connection failed
abbrev pub is_failed : ConnState → Bool
is_failed state.Failed = true
is_failed _ = false

-- when a connection isn't there to be used: there is none, it isn't open, it ends, or it failed
abbrev pub link_conditions : (ConnState → Bool) → Option Link → List Condition
link_conditions ends link =
    (is_none link || holds_of (λ l. is_unopened l.state) link, why.NoConnection)
    ∷ (holds_of (λ l. ends l.state) link, why.Closing)
    ∷ (holds_of (λ l. is_failed l.state) link, why.Failed)
    ∷ []

-- When a request to a CPort of a module is refused, as far as its interface and connection decide.
abbrev pub send_conditions : ℕ → ℕ → Host → List Condition
send_conditions i c h =
    (is_none (interface_of i h), why.NoInterface) ∷ link_conditions is_ending (link_at i c h)

-- when a connection isn't closed. The Control connection stays.
abbrev pub close_conditions : (ConnState → Bool) → ℕ → ℕ → Host → List Condition
close_conditions ends i c h =
    (is_none (interface_of i h), why.NoInterface)
    ∷ (c == 0, why.Unsupported)
    ∷ link_conditions ends (link_at i c h)

-- When a disconnect is refused, but for want of an identifier. One that drains is closed at once.
abbrev pub disconnect_conditions : ℕ → ℕ → Host → List Condition
disconnect_conditions i c h = close_conditions is_closing i c h

-- When a draining close is refused.
abbrev pub drain_conditions : ℕ → ℕ → Host → List Condition
drain_conditions i c h = close_conditions is_ending i c h

-- The types that the application processor keeps for itself: CONNECTED, DISCONNECTED and
-- DISCONNECTING on Control, and SEND_DATA, which takes credits, on a UART.
abbrev pub is_kept : Link → ℕ → Bool
is_kept l kind =
    l.cport == 0 && list_any (λ k. k == kind) (0x05 ∷ 0x06 ∷ 0x0c ∷ [])
    || l.protocol == 0x04 && kind == 0x02

-- ---- bridge lines

-- When a bridge line is refused on a connection, but for want of an identifier.
abbrev pub bridge_conditions : Link → BridgeAsk → List Condition
bridge_conditions l what =
    (not (ask_protocol what == l.protocol), why.Unsupported)
    ∷ (is_too_large what, why.TooLarge)
    ∷ (is_none (credits_spent l.credits (credits_taken what)), why.NoCredit)
    ∷ []

-- ---- images

-- When an image isn't given.
abbrev pub image_conditions : List ℕ → Host → List Condition
image_conditions tag h = (is_some (image_of tag h.images), why.Occupied) ∷ []
