-- Types of requests are below 128: of those of sequences, of bridge lines, of modules and of the
-- supervisory controller.
use Rattle.std.proofs.Common.{Bool, List, None, Option, Some, arith, cond, false, subst, true}
use Rattle.std.proofs.Common.{ℕ, [], ◌++◌, ◌<◌, ◌==◌, ◌||◌, ◌∷◌, ◌≡◌, ◌/◌, length, nat_le}
use Rattle.std.proofs.Common.{nat_lt, drop, refl}
use Rattle.std.specs.List.{list_any}
use Rattle.std.specs.Prelude.{Err, Ok, Result, slice_get, sum_by}
use Rattle.gb_base.specs.declared.bridge.BridgeAsk.{BridgeAsk}
use Rattle.gb_base.specs.declared.bridge.BridgeAsk.TheVariants as ask
use Rattle.gb_base.specs.declared.served.OwnAsk.{OwnAsk}
use Rattle.gb_formats.specs.Bridges.{BridgeFault, ask_protocol, ask_request, bridge_answer}
use Rattle.gb_formats.specs.Bridges.{is_too_large}
use Rattle.gb_formats.specs.ControlRecords.{ControlAsk, read_control_ask}
use Rattle.gb_formats.specs.ControlResponder.{control_asked, control_read, is_off, is_quiet}
use Rattle.gb_formats.specs.ControlResponder.{made_quiet, turn_step, turned_off, turned_on}
use Rattle.gb_formats.specs.Devices.{Device, Stir, device_step, device_stir, irq_asks}
use Rattle.gb_formats.specs.Devices as devices
use Rattle.gb_formats.specs.GpioDevice.{AtLine, GpioLine, at_line, gpio_asked, gpio_level_set}
use Rattle.gb_formats.specs.GpioDevice.{gpio_read, line_of, line_step}
use Rattle.gb_formats.specs.GpioDevice as gpio
use Rattle.gb_formats.specs.GpioRecords.{GpioAsk, read_gpio_ask_of_ap}
use Rattle.gb_formats.specs.I2cDevice.{I2cDevice, after_op, has_strange_flags, i2c_read}
use Rattle.gb_formats.specs.I2cDevice.{i2c_transfer_step, is_elsewhere, op_read_bytes, ops_run}
use Rattle.gb_formats.specs.I2cRecords.{I2cAsk, TransferOp, op_read_size, op_size, op_written_size}
use Rattle.gb_formats.specs.I2cRecords.{ops_at, read_i2c_ask}
use Rattle.gb_formats.specs.LoopbackDevice.{loopback_read}
use Rattle.gb_formats.specs.LoopbackRecords.{LoopbackAsk, read_loopback_ask}
use Rattle.gb_formats.specs.Module.{CportState, Module, ModulePort, Off, On, Quiet, if_on, is_on}
use Rattle.gb_formats.specs.Module.{port_at}
use Rattle.gb_formats.specs.ModuleSteps.{module_serve, module_stir, port_served, port_stir}
use Rattle.gb_formats.specs.ModuleSteps.{port_stirred}
use Rattle.gb_formats.specs.Records.{PayloadFault}
use Rattle.gb_formats.specs.Results.{Stirred, invalid, most_payload, nonexistent, overflow}
use Rattle.gb_formats.specs.Results.{refusal_of, refuses}
use Rattle.gb_formats.specs.SpiDevice.{entries_run, entry_read_bytes, entry_written_bytes}
use Rattle.gb_formats.specs.SpiDevice.{is_strange, last_of, spi_read, spi_transfer_step}
use Rattle.gb_formats.specs.SpiDevice.{echo}
use Rattle.gb_formats.specs.SpiRecords.{SpiAsk, TransferEntry, entries_at, entry_read_size}
use Rattle.gb_formats.specs.SpiRecords.{entry_size, entry_written_size, read_spi_ask}
use Rattle.gb_formats.specs.SpiRecords.{spi_reply_payload}
use Rattle.gb_formats.specs.SvcRecords.{SvcAsk, svc_ask_kind}
use Rattle.gb_formats.specs.UartDevice.{echo_asks, is_coding, most_sent, send_answer, uart_asked}
use Rattle.gb_formats.specs.UartDevice.{if_in_range, uart_own, uart_read}
use Rattle.gb_formats.specs.UartRecords.{UartAsk, read_uart_ask_of_ap}
use Rattle.gb_machine.specs.Members.{Each}
use Rattle.gb_machine.specs.SequenceSteps.{kind_of}
use Rattle.gb_base.specs.declared.steps.SequenceStep.{SequenceStep}
use Rattle.gb_base.specs.declared.steps.SequenceStep.TheVariants as steps
use Rattle.gb_invariants.proofs.Awaiting.{same-some}

-- ---- the supervisory controller, the application processor's sequences, and bridge lines

pub svc-low : (ask : SvcAsk) → svc_ask_kind ask < 128
svc-low (SvcAsk.IntfDeviceId intf device) = omega arith
svc-low _ = omega arith

pub step-low : (step : SequenceStep) → kind_of step < 128
step-low steps.EnableVsys = omega arith
step-low _ = omega arith

request-low : (what : BridgeAsk) → (ask_request what).0 < 128
request-low (ask.Gpio kind line value) = grind arith
request-low (ask.UartByte kind value) = grind arith
request-low (ask.LoopBytes kind bytes) = grind arith
request-low _ = omega arith

same-ok : (x y : ℕ × List ℕ) (r : Result (ℕ × List ℕ) BridgeFault) → r ≡ Ok x → r ≡ Ok y → x ≡ y
same-ok x y r e f = cc

pub bridge-low : (protocol : ℕ) (what : BridgeAsk) (request : ℕ × List ℕ)
    → bridge_answer protocol what ≡ Ok request → request.0 < 128
bridge-low protocol what request e =
    by (ask_protocol what == protocol) (is_too_large what) e
  where
    by : (t u : Bool) → cond t (cond u (Err BridgeFault.TooLarge) (Ok (ask_request what)))
        (Err BridgeFault.Unsupported) ≡ Ok request → request.0 < 128
    by true true e = absurd cc
    by true false e = subst (λ (r : ℕ × List ℕ). r.0 < 128)
        (same-ok (ask_request what) request (Ok (ask_request what)) refl e) (request-low what)
    by false u e = absurd cc

-- ---- modules

-- requests of a far side have such types
abbrev pub AreLow : List OwnAsk → Type 0
AreLow own = Each (λ q. q.kind < 128) own

-- GPIO
line-low : (lines : List GpioLine) (which : ℕ) (what : AtLine)
    → AreLow (line_step lines which what).served.asks
line-low lines which (gpio.Changes line) = tt
line-low lines which (gpio.Tells reply) = tt
line-low lines which (gpio.Refuses result) = tt

at-low : (lines : List GpioLine) (which : ℕ) (does : GpioLine → AtLine)
    → AreLow (at_line lines which does).served.asks
at-low lines which does = line-low lines which (line_of (slice_get lines which) does)

gpio-low : (lines : List GpioLine) (ask : GpioAsk) → AreLow (gpio_asked lines ask).served.asks
gpio-low lines GpioAsk.LineCount = tt
gpio-low lines (GpioAsk.Activate which) = at-low lines which _
gpio-low lines (GpioAsk.Deactivate which) = at-low lines which _
gpio-low lines (GpioAsk.GetDirection which) = at-low lines which _
gpio-low lines (GpioAsk.DirectionIn which) = at-low lines which _
gpio-low lines (GpioAsk.DirectionOut which value) = at-low lines which _
gpio-low lines (GpioAsk.GetValue which) = at-low lines which _
gpio-low lines (GpioAsk.SetValue which value) = at-low lines which _
gpio-low lines (GpioAsk.SetDebounce which microseconds) = at-low lines which _
gpio-low lines (GpioAsk.IrqType which irq) = at-low lines which _
gpio-low lines (GpioAsk.IrqMask which) = at-low lines which _
gpio-low lines (GpioAsk.IrqUnmask which) = at-low lines which _
gpio-low lines (GpioAsk.IrqEvent which) = tt

gpio_read-low : (lines : List GpioLine) (read : Result GpioAsk PayloadFault)
    → AreLow (gpio_read lines read).served.asks
gpio_read-low lines (Ok ask) = gpio-low lines ask
gpio_read-low lines (Err fault) = tt

-- I2C
ops-low : (device : I2cDevice) (bytes front : List ℕ) (ops : List TransferOp)
    → AreLow (ops_run device bytes front ops).served.asks
ops-low device bytes front [] = tt
ops-low device bytes front (op ∷ ops) =
    ops-low (after_op device bytes op) (drop (op_written_size op) bytes)
    (front ++ op_read_bytes device op) ops

i2c_transfer-low : (device : I2cDevice) (ops : List TransferOp) (bytes : List ℕ)
    → AreLow (i2c_transfer_step device ops bytes).served.asks
i2c_transfer-low device ops bytes = by (list_any has_strange_flags ops)
    (list_any is_elsewhere ops) (nat_lt most_payload (sum_by op_read_size ops))
  where
    by : (a b c : Bool) → AreLow (cond a (refuses device invalid) (cond b
        (refuses device nonexistent)
        (cond c (refuses device overflow) (ops_run device bytes [] ops)))).served.asks
    by true b c = tt
    by false true c = tt
    by false false true = tt
    by false false false = ops-low device bytes [] ops

i2c_read-low : (device : I2cDevice) (read : Result I2cAsk PayloadFault)
    → AreLow (i2c_read device read).served.asks
i2c_read-low device (Ok I2cAsk.Functionality) = tt
i2c_read-low device (Ok (I2cAsk.Transfer ops bytes)) =
    i2c_transfer-low device (ops_at (length ops / op_size) ops) bytes
i2c_read-low device (Err fault) = tt

-- SPI
entries-low : (last : ℕ) (bytes front : List ℕ) (entries : List TransferEntry)
    → AreLow (entries_run last bytes front entries).served.asks
entries-low last bytes front [] = tt
entries-low last bytes front (entry ∷ entries) =
    entries-low (last_of last (entry_written_bytes entry bytes))
    (drop (entry_written_size entry) bytes) (front ++ entry_read_bytes last entry bytes) entries

spi_transfer-low : (last select mode : ℕ) (entries : List TransferEntry) (bytes : List ℕ)
    → AreLow (spi_transfer_step last select mode entries bytes).served.asks
spi_transfer-low last select mode entries bytes =
    by (nat_lt 3 mode || list_any is_strange entries) (nat_lt 0 select)
    (nat_lt most_payload (sum_by entry_read_size entries))
  where
    by : (a b c : Bool) → AreLow (cond a (refuses last invalid) (cond b (refuses last nonexistent)
        (cond c (refuses last overflow) (entries_run last bytes [] entries)))).served.asks
    by true b c = tt
    by false true c = tt
    by false false true = tt
    by false false false = entries-low last bytes [] entries

spi_read-low : (last : ℕ) (read : Result SpiAsk PayloadFault)
    → AreLow (spi_read last read).served.asks
spi_read-low last (Ok SpiAsk.MasterConfig) = tt
spi_read-low last (Ok (SpiAsk.DeviceConfig select)) = by (select == 0)
  where
    by : (b : Bool) → AreLow (cond b (record {
      after = last;
      served = record { result = 0; payload = spi_reply_payload echo; asks = [] };
    }) (refuses last nonexistent)).served.asks
    by true = tt
    by false = tt
spi_read-low last (Ok (SpiAsk.Transfer select mode entries bytes)) =
    spi_transfer-low last select mode (entries_at (length entries / entry_size) entries) bytes
spi_read-low last (Err fault) = tt

-- UART
echo-low : (bytes : List ℕ) → AreLow (echo_asks bytes)
echo-low bytes = by (length bytes == 0)
  where
    by : (b : Bool) → AreLow (cond b [] (uart_own (UartAsk.ReceiveData 0 bytes)
        ∷ uart_own (UartAsk.ReceiveCredits (length bytes)) ∷ []))
    by true = tt
    by false = (omega arith, (omega arith, tt))

send-low : (bytes : List ℕ) → AreLow (send_answer bytes).asks
send-low bytes = by (nat_lt most_sent (length bytes))
  where
    by : (b : Bool) → AreLow (cond b (refusal_of overflow)
        (record { result = 0; payload = []; asks = echo_asks bytes })).asks
    by true = tt
    by false = echo-low bytes

range-low : (ok : Bool) → AreLow (if_in_range ok).asks
range-low true = tt
range-low false = tt

uart-low : (ask : UartAsk) → AreLow (uart_asked ask).asks
uart-low (UartAsk.SendData bytes) = send-low bytes
uart-low (UartAsk.ReceiveData flags bytes) = tt
uart-low (UartAsk.SetLineCoding rate format parity bits flow) =
    range-low (is_coding format parity bits flow)
uart-low (UartAsk.SetControlLineState control) = range-low (nat_le control 3)
uart-low (UartAsk.SendBreak state) = range-low (nat_le state 1)
uart-low (UartAsk.SerialState control) = tt
uart-low (UartAsk.ReceiveCredits count) = tt
uart-low (UartAsk.FlushFifos flags) = range-low (nat_le flags 3)

uart_read-low : (read : Result UartAsk PayloadFault) → AreLow (uart_read read).asks
uart_read-low (Ok ask) = uart-low ask
uart_read-low (Err fault) = tt

-- Loopback
loopback_read-low : (read : Result LoopbackAsk PayloadFault) → AreLow (loopback_read read).asks
loopback_read-low (Ok ask) = tt
loopback_read-low (Err fault) = tt

device-low : (device : Device) (kind : ℕ) (payload : List ℕ)
    → AreLow (device_step device kind payload).served.asks
device-low (devices.Gpio lines) kind payload =
    gpio_read-low lines (read_gpio_ask_of_ap kind payload)
device-low (devices.I2c device) kind payload = i2c_read-low device (read_i2c_ask kind payload)
device-low (devices.Spi last) kind payload = spi_read-low last (read_spi_ask kind payload)
device-low devices.Uart kind payload = uart_read-low (read_uart_ask_of_ap kind payload)
device-low devices.Loopback kind payload = loopback_read-low (read_loopback_ask kind payload)
device-low (devices.Firmware loader) kind payload = tt

-- requests are left out or not
if_on-low : (state : CportState) (asks : List OwnAsk) → AreLow asks → AreLow (if_on state asks)
if_on-low Off asks h = tt
if_on-low On asks h = h
if_on-low Quiet asks h = tt

port-low : (m : Module) (port : Option ModulePort) (kind : ℕ) (payload : List ℕ)
    → AreLow (port_served m port kind payload).served.asks
port-low m None kind payload = tt
port-low m (Some port) kind payload =
    if_on-low port.state (device_step port.device kind payload).served.asks
    (device-low port.device kind payload)

turn-low : (m : Module) (port : Option ModulePort) (wanted : CportState → Bool)
    (change : ModulePort → ModulePort) → AreLow (turn_step m port wanted change).served.asks
turn-low m None wanted change = tt
turn-low m (Some port) wanted change = by (wanted port.state)
  where
    by : (b : Bool) → AreLow (cond b (turn_step m (Some port) (λ s. true) change)
        (refuses m invalid)).served.asks
    by true = tt
    by false = tt

control-low : (m : Module) (ask : ControlAsk) → AreLow (control_asked m ask).served.asks
control-low m (ControlAsk.Version major minor) = tt
control-low m ControlAsk.GetManifestSize = tt
control-low m ControlAsk.GetManifest = tt
control-low m (ControlAsk.Connected c) = turn-low m (port_at m c) is_off turned_on
control-low m (ControlAsk.Disconnected c) = turn-low m (port_at m c) is_quiet turned_off
control-low m (ControlAsk.Disconnecting c) = turn-low m (port_at m c) is_on made_quiet

control_read-low : (m : Module) (read : Result ControlAsk PayloadFault)
    → AreLow (control_read m read).served.asks
control_read-low m (Ok ask) = control-low m ask
control_read-low m (Err fault) = tt

-- What a module asks where it serves a request.
pub module-low : (m : Module) (c kind : ℕ) (payload : List ℕ)
    → AreLow (module_serve m c kind payload).served.asks
module-low m c kind payload = by (c == 0)
  where
    by : (b : Bool) → AreLow (cond b (control_read m (read_control_ask kind payload))
        (port_served m (port_at m c) kind payload)).served.asks
    by true = control_read-low m (read_control_ask kind payload)
    by false = port-low m (port_at m c) kind payload

device_stir-low : (device : Device) (stir : Stir) (t : Stirred Device)
    → device_stir device stir ≡ Some t → AreLow t.asks
device_stir-low (devices.Gpio lines) (devices.Level which new) t is =
    subst (λ (d : Stirred Device). AreLow d.asks) (same-some _ t is)
    (irq-low (gpio_level_set lines which new).irq)
  where
    irq-low : (irq : Option ℕ) → AreLow (irq_asks irq)
    irq-low None = tt
    irq-low (Some line) = (omega arith, tt)
device_stir-low devices.Uart (devices.Serial control) t is =
    subst (λ (d : Stirred Device). AreLow d.asks) (same-some _ t is) (omega arith, tt)
device_stir-low (devices.Gpio lines) (devices.Serial control) t is = absurd cc
device_stir-low (devices.I2c device) stir t is = absurd cc
device_stir-low (devices.Spi last) stir t is = absurd cc
device_stir-low devices.Uart (devices.Level which new) t is = absurd cc
device_stir-low devices.Loopback stir t is = absurd cc
device_stir-low (devices.Firmware loader) stir t is = absurd cc

-- What a module asks where a device of it is stirred.
pub stir-low : (m : Module) (c : ℕ) (stir : Stir) (t : Stirred Module)
    → module_stir m c stir ≡ Some t → AreLow t.asks
stir-low m c stir t is = at_port (port_at m c) is
  where
    by : (port : ModulePort) (o : Option (Stirred Device)) → device_stir port.device stir ≡ o
        → port_stir m port o ≡ Some t → AreLow t.asks
    by port None there e = absurd cc
    by port (Some d) there e =
        subst (λ (x : Stirred Module). AreLow x.asks) (same-some _ t e)
        (if_on-low port.state d.asks (device_stir-low port.device stir d there))

    at_port : (o : Option ModulePort) → port_stirred m o stir ≡ Some t → AreLow t.asks
    at_port None e = absurd cc
    at_port (Some port) e = by port (device_stir port.device stir) refl e
