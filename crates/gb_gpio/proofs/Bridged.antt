-- A GPIO request is never too large.
use Rattle.std.proofs.Common.{◌≡◌, ◌≤◌, ℕ, false, List, length, Ok, arith, refl, nat_lt}
use Rattle.gb_base.specs.declared.bridge.BridgeAsk.TheVariants as ask
use Rattle.gb_bridge_payload.specs.Serving.{BridgesAs}
use Rattle.gb_formats.specs.Bridges.{bridge_answer, gpio_request, of_gpio}
use Rattle.gb_formats.specs.GpioRecords.{GpioAsk, gpio_ask_kind, gpio_ask_payload}
use Rattle.gb_formats.specs.Protocols.{gpio_protocol}
use Rattle.gb_formats.specs.Results.{most_payload}
use Rattle.gb_payload.specs.Fields.{Puts}

-- its payload has at most three bytes
short : (request : GpioAsk) → length (gpio_ask_payload request) ≤ 3
short GpioAsk.LineCount = omega arith
short (GpioAsk.Activate which) = omega arith
short (GpioAsk.Deactivate which) = omega arith
short (GpioAsk.GetDirection which) = omega arith
short (GpioAsk.DirectionIn which) = omega arith
short (GpioAsk.DirectionOut which value) = omega arith
short (GpioAsk.GetValue which) = omega arith
short (GpioAsk.SetValue which value) = omega arith
short (GpioAsk.SetDebounce which microseconds) = omega arith
short (GpioAsk.IrqType which kind) = omega arith
short (GpioAsk.IrqMask which) = omega arith
short (GpioAsk.IrqUnmask which) = omega arith
short (GpioAsk.IrqEvent which) = omega arith

fits : (request : GpioAsk) → nat_lt most_payload (length (gpio_ask_payload request)) ≡ false
fits request = let few = short request in grind (arith, few)

-- the request that is written
pub bridged : (kind line value n : ℕ) (request : GpioAsk) (old new : List ℕ)
    → request ≡ gpio_request kind line value → Puts (gpio_ask_payload request) old new (Ok n)
    → BridgesAs (bridge_answer gpio_protocol (ask.Gpio kind line value)) old new
    (Ok (record { kind = gpio_ask_kind request; len = n }))
bridged kind line value n request old new is p = (
  of_gpio request,
  rw is (rw (fits (gpio_request kind line value)) refl),
  record { kind = refl; len = p.0; bytes = p.2 },
)
