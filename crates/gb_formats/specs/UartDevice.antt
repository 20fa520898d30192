-- The UART device, an echo that keeps nothing, and the credits of its peer.
use Rattle.std.specs.Prelude.{ℕ, ◌+◌, ◌-◌, ◌==◌, nat_lt, nat_le, Bool, ◌&&◌, if◌then◌else◌, Option}
use Rattle.std.specs.Prelude.{Some, None, Result, Ok, Err, List, [], ◌∷◌, length}
use Rattle.gb_base.specs.declared.served.OwnAsk.{OwnAsk}
use Rattle.gb_base.specs.declared.served.Served.{Served}
use Rattle.gb_formats.specs.Records.{PayloadFault}
use Rattle.gb_formats.specs.Results.{answer_of, refusal_of, own_ask, success, fault_result}
use Rattle.gb_formats.specs.Results.{protocol_bad, invalid, overflow}
use Rattle.gb_formats.specs.UartRecords.{UartAsk, read_uart_ask_of_ap, uart_ask_kind}
use Rattle.gb_formats.specs.UartRecords.{uart_ask_payload}

-- the most bytes that one SEND_DATA may carry
abbrev pub most_sent : ℕ
most_sent = 2037

-- a request of the device's own
abbrev pub uart_own : UartAsk → OwnAsk
uart_own ask = own_ask (uart_ask_kind ask) (uart_ask_payload ask)

-- the device sends back what it was sent, and then credits for as many bytes
abbrev pub echo_asks : List ℕ → List OwnAsk
echo_asks bytes =
    if length bytes == 0 then []
    else uart_own (UartAsk.ReceiveData 0 bytes)
    ∷ uart_own (UartAsk.ReceiveCredits (length bytes)) ∷ []

-- SEND_DATA with too many bytes is OVERFLOW
abbrev pub send_answer : List ℕ → Served
send_answer bytes =
    if nat_lt most_sent (length bytes) then refusal_of overflow
    else record { result = success; payload = []; asks = echo_asks bytes }

-- success where the values of a request are in range
abbrev pub if_in_range : Bool → Served
if_in_range ok = if ok then answer_of [] else refusal_of invalid

-- a line coding that the device has
abbrev pub is_coding : ℕ → ℕ → ℕ → ℕ → Bool
is_coding format parity bits flow =
    nat_le format 2 && nat_le parity 4 && nat_le 5 bits && nat_le bits 8 && nat_le flow 1

-- what each request does; none of the module's is read
abbrev pub uart_asked : UartAsk → Served
uart_asked (UartAsk.SendData bytes) = send_answer bytes
uart_asked (UartAsk.SetLineCoding rate format parity bits flow) =
    if_in_range (is_coding format parity bits flow)
uart_asked (UartAsk.SetControlLineState control) = if_in_range (nat_le control 3)
uart_asked (UartAsk.SendBreak state) = if_in_range (nat_le state 1)
uart_asked (UartAsk.FlushFifos flags) = if_in_range (nat_le flags 3)
uart_asked _ = refusal_of protocol_bad

-- a request by its payload
abbrev pub uart_read : Result UartAsk PayloadFault → Served
uart_read (Ok ask) = uart_asked ask
uart_read (Err fault) = refusal_of (fault_result fault)

-- The UART device's step, which changes nothing in the device.
abbrev pub uart_step : ℕ → List ℕ → Served
uart_step kind payload = uart_read (read_uart_ask_of_ap kind payload)

-- a serial state that is told
abbrev pub serial_told : ℕ → OwnAsk
serial_told control = uart_own (UartAsk.SerialState control)

-- ---- credits

-- The credits with which a connection begins, and which they never pass.
abbrev pub most_credits : ℕ
most_credits = 4096

-- the credits after so many bytes are sent, if there are as many
abbrev pub credits_spent : ℕ → ℕ → Option ℕ
credits_spent credits n = if nat_le n credits then Some (credits - n) else None

-- the credits after so many are given back, unless they would pass the most
abbrev pub credits_added : ℕ → ℕ → Option ℕ
credits_added credits n = if nat_le (credits + n) most_credits then Some (credits + n) else None
