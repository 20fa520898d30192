-- A payload that was written fits.
use Rattle.std.proofs.Common.{◌≡◌, ◌≤◌, ℕ, Bool, nat_lt, true, false, ◌||◌, if◌then◌else◌, Ok, Err}
use Rattle.std.proofs.Common.{List, length, refl, arith, ap, sym, ◌∙◌}
use Rattle.std.proofs.lemmas.Bool.Decides.{nat_tests}
use Rattle.gb_base.specs.declared.bridge.BridgeAsk.TheVariants as ask
use Rattle.gb_bridge_payload.specs.Serving.{WritesBridged}
use Rattle.gb_formats.specs.Bridges.{TooLarge, bridge_answer, of_uart, uart_request}
use Rattle.gb_formats.specs.Protocols.{uart_protocol}
use Rattle.gb_formats.specs.Results.{most_payload}
use Rattle.gb_formats.specs.UartRecords.{UartAsk, uart_ask_kind, uart_ask_payload}
use Rattle.gb_payload.specs.Fields.{Puts}
use Rattle.gb_uart.specs.Fitting.{fitting}

-- no more bytes than a message has room for
has_room : (bytes : List ℕ)
    → length bytes ≤ most_payload → nat_lt most_payload (length bytes) ≡ false
has_room bytes h = grind (arith, nat_tests)

-- a payload that was written to a buffer of that room is the request's
pub fits : (kind n : ℕ) (bytes old new : List ℕ) → length old ≡ most_payload
    → Puts bytes old new (Ok n)
    → (request : ℕ × List ℕ)
    × (fitting kind bytes ≡ Ok request)
    × WritesBridged request old new (record { kind = kind; len = n })
fits kind n bytes old new long puts = (
  (kind, bytes),
  ap (λ test. if test then Err TooLarge else Ok (kind, bytes)) (has_room bytes (omega arith)),
  record { kind = refl; len = puts.0; bytes = puts.2 },
)

or_false : (b : Bool) → (b || false) ≡ b
or_false true = refl
or_false false = refl

-- a request of one byte is what its bridge line becomes
pub byte_bridged : (kind value : ℕ) (request : UartAsk) → request ≡ uart_request kind value
    → fitting (uart_ask_kind request) (uart_ask_payload request)
    ≡ bridge_answer uart_protocol (ask.UartByte kind value)
byte_bridged kind value request is =
    let it = uart_request kind value in
    ap (λ r. fitting (uart_ask_kind r) (uart_ask_payload r)) is
    ∙ ap (λ (test : Bool). if test then Err TooLarge else Ok (of_uart it))
    (sym (or_false (nat_lt most_payload (length (uart_ask_payload it)))))
