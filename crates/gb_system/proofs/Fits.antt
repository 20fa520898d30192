-- What modules answer and ask fits into messages.
use Rattle.std.proofs.Common.{◌≡◌, ◌≤◌, ◌+◌, ◌/◌, ℕ, zero, suc, ◌==◌, nat_le, nat_lt, Bool, true}
use Rattle.std.proofs.Common.{false, cond, ◌||◌, Option, Some, None, Result, Ok, Err, List, [], ◌∷◌}
use Rattle.std.proofs.Common.{◌++◌, length, length-append, take, drop, replicate, sum_by, refl, ap}
use Rattle.std.proofs.Common.{subst, arith}
use Rattle.std.proofs.lemmas.Bool.Decides.{nat_tests}
use Rattle.std.proofs.lemmas.List.{length-replicate, length-take}
use Rattle.std.proofs.lemmas.List.Sums.{sum_by-cons}
use Rattle.std.specs.List.{list_any}
use Rattle.std.specs.Prelude.{slice_get}
use Rattle.gb_base.specs.declared.served.OwnAsk.{OwnAsk}
use Rattle.gb_base.specs.declared.served.Served.{Served}
use Rattle.gb_formats.specs.Bytes.{le16}
use Rattle.gb_formats.specs.ControlRecords.{ControlAsk, read_control_ask}
use Rattle.gb_formats.specs.ControlResponder.{control_asked, control_read, is_off, is_quiet}
use Rattle.gb_formats.specs.ControlResponder.{made_quiet, turn_step, turned_off, turned_on}
use Rattle.gb_formats.specs.Devices.{Device, Stir, device_step, device_stir, irq_asks}
use Rattle.gb_formats.specs.Devices as devices
use Rattle.gb_formats.specs.GpioDevice.{AtLine, GpioLine, activate, at_line, deactivate}
use Rattle.gb_formats.specs.GpioDevice.{direction_of, direction_out, gpio_asked, gpio_level_set}
use Rattle.gb_formats.specs.GpioDevice.{gpio_read, if_active, line_of, line_step, set_irq}
use Rattle.gb_formats.specs.GpioDevice.{set_value, value_of}
use Rattle.gb_formats.specs.GpioDevice as gpio
use Rattle.gb_formats.specs.GpioRecords.{GpioAsk, GpioReply, gpio_reply_payload}
use Rattle.gb_formats.specs.GpioRecords.{read_gpio_ask_of_ap}
use Rattle.gb_formats.specs.I2cDevice.{I2cDevice, after_op, has_strange_flags, i2c_asked, i2c_read}
use Rattle.gb_formats.specs.I2cDevice.{i2c_transfer_step, is_elsewhere, next_place, op_read_bytes}
use Rattle.gb_formats.specs.I2cDevice.{ops_run, read_from}
use Rattle.gb_formats.specs.I2cRecords.{I2cAsk, TransferOp, op_read_size, op_size, op_written_size}
use Rattle.gb_formats.specs.I2cRecords.{ops_at, read_i2c_ask}
use Rattle.gb_formats.specs.Module.{CportState, Module, ModulePort, Off, On, Quiet, if_on, is_on}
use Rattle.gb_formats.specs.Module.{port_at}
use Rattle.gb_formats.specs.ModuleSteps.{module_serve, module_stir, port_served, port_stir}
use Rattle.gb_formats.specs.ModuleSteps.{port_stirred, served_in}
use Rattle.gb_formats.specs.Records.{PayloadFault}
use Rattle.gb_formats.specs.Results.{Step, Stirred, invalid, most_payload, nonexistent, overflow}
use Rattle.gb_formats.specs.Results.{protocol_bad, refuses}
use Rattle.gb_formats.specs.SpiDevice.{echo, entries_run, entry_read_bytes, entry_written_bytes}
use Rattle.gb_formats.specs.SpiDevice.{is_strange, last_of, master, spi_asked, spi_read}
use Rattle.gb_formats.specs.SpiDevice.{spi_transfer_step}
use Rattle.gb_formats.specs.SpiRecords.{SpiAsk, TransferEntry, entries_at, entry_read_size}
use Rattle.gb_formats.specs.SpiRecords.{entry_size, entry_writes, entry_written_size, read_spi_ask}
use Rattle.gb_formats.specs.SpiRecords.{spi_reply_payload}
use Rattle.gb_formats.specs.UartDevice.{echo_asks, is_coding, most_sent, send_answer, uart_asked}
use Rattle.gb_formats.specs.UartDevice.{uart_read}
use Rattle.gb_formats.specs.UartRecords.{UartAsk, read_uart_ask_of_ap, uart_ask_payload}
use Rattle.gb_invariants.proofs.Awaiting.{same-some}
use Rattle.gb_system.proofs.Fitting.{IsFitting, fitting, plain_fits}
use Rattle.gb_system.proofs.LoopbackFits.{loopback_fits}
use Rattle.gb_system.specs.Acting.{AreAskable}

-- What a module answers fits, and its manifest stays.
pub record StepFits (m : Module) (step : Step Module) : Type 0 where
  pub served : IsFitting step.served
  pub manifest : step.after.manifest ≡ m.manifest

-- a number that tests as at most another
at_most : (a b : ℕ) → nat_le a b ≡ true → a ≤ b
at_most a b h = grind (arith, nat_tests)

not_above : (a b : ℕ) → nat_lt a b ≡ false → b ≤ a
not_above a b h = grind (arith, nat_tests)

-- ---- GPIO

gpio_reply_fits : (reply : GpioReply) → length (gpio_reply_payload reply) ≤ most_payload
gpio_reply_fits (GpioReply.LineCount last) = omega arith
gpio_reply_fits GpioReply.Activate = omega arith
gpio_reply_fits GpioReply.Deactivate = omega arith
gpio_reply_fits (GpioReply.GetDirection direction) = omega arith
gpio_reply_fits GpioReply.DirectionIn = omega arith
gpio_reply_fits GpioReply.DirectionOut = omega arith
gpio_reply_fits (GpioReply.GetValue value) = omega arith
gpio_reply_fits GpioReply.SetValue = omega arith
gpio_reply_fits GpioReply.SetDebounce = omega arith
gpio_reply_fits GpioReply.IrqType = omega arith
gpio_reply_fits GpioReply.IrqMask = omega arith
gpio_reply_fits GpioReply.IrqUnmask = omega arith
gpio_reply_fits GpioReply.IrqEvent = omega arith

line_fits : (lines : List GpioLine) (which : ℕ) (what : AtLine)
    → IsFitting (line_step lines which what).served
line_fits lines which (gpio.Changes line) = plain_fits 0
line_fits lines which (gpio.Tells reply) =
    fitting 0 (gpio_reply_payload reply) (gpio_reply_fits reply)
line_fits lines which (gpio.Refuses result) = plain_fits result

at_fits : (lines : List GpioLine) (which : ℕ) (does : GpioLine → AtLine)
    → IsFitting (at_line lines which does).served
at_fits lines which does = line_fits lines which (line_of (slice_get lines which) does)

gpio_fits : (lines : List GpioLine) (ask : GpioAsk) → IsFitting (gpio_asked lines ask).served
gpio_fits lines GpioAsk.LineCount = fitting 0 (7 ∷ []) (omega arith)
gpio_fits lines (GpioAsk.Activate which) = at_fits lines which activate
gpio_fits lines (GpioAsk.Deactivate which) = at_fits lines which deactivate
gpio_fits lines (GpioAsk.GetDirection which) = at_fits lines which (λ line.
    if_active line (gpio.Tells (GpioReply.GetDirection (direction_of line))))
gpio_fits lines (GpioAsk.DirectionIn which) = at_fits lines which (λ line.
    if_active line (gpio.Changes (record line { input = true })))
gpio_fits lines (GpioAsk.DirectionOut which value) = at_fits lines which (direction_out value)
gpio_fits lines (GpioAsk.GetValue which) = at_fits lines which (λ line.
    if_active line (gpio.Tells (GpioReply.GetValue (value_of line))))
gpio_fits lines (GpioAsk.SetValue which value) = at_fits lines which (set_value value)
gpio_fits lines (GpioAsk.SetDebounce which microseconds) = at_fits lines which (λ line.
    if_active line (gpio.Changes (record line { debounce = microseconds })))
gpio_fits lines (GpioAsk.IrqType which irq) = at_fits lines which (set_irq irq)
gpio_fits lines (GpioAsk.IrqMask which) = at_fits lines which (λ line.
    if_active line (gpio.Changes (record line { masked = true })))
gpio_fits lines (GpioAsk.IrqUnmask which) = at_fits lines which (λ line.
    if_active line (gpio.Changes (record line { masked = false })))
gpio_fits lines (GpioAsk.IrqEvent which) = plain_fits protocol_bad

gpio_read_fits : (lines : List GpioLine) (read : Result GpioAsk PayloadFault)
    → IsFitting (gpio_read lines read).served
gpio_read_fits lines (Ok ask) = gpio_fits lines ask
gpio_read_fits lines (Err fault) = plain_fits _

-- ---- transfers

-- one that isn't refused reads no more than fits
transfer_fits : {D : Type 0} (device : D) (strange elsewhere : Bool) (size : ℕ) (run : Step D)
    → (size ≤ most_payload → IsFitting run.served)
    → IsFitting (cond strange (refuses device invalid) (cond elsewhere (refuses device nonexistent)
    (cond (nat_lt most_payload size) (refuses device overflow) run))).served
transfer_fits {D} device true elsewhere size run fits = plain_fits invalid
transfer_fits {D} device false true size run fits = plain_fits nonexistent
transfer_fits {D} device false false size run fits = by (nat_lt most_payload size) refl
  where
    by : (c : Bool) → nat_lt most_payload size ≡ c
        → IsFitting (cond c (refuses device overflow) run).served
    by true h = plain_fits overflow
    by false h = fits (not_above most_payload size h)

-- ---- I2C

read_from_length : (memory : List ℕ) (place n : ℕ) → length (read_from memory place n) ≡ n
read_from_length memory place zero = refl
read_from_length memory place (suc n) = ap suc (read_from_length memory (next_place place) n)

ops_fit : (device : I2cDevice) (bytes front : List ℕ) (ops : List TransferOp)
    → length front + sum_by op_read_size ops ≤ most_payload
    → IsFitting (ops_run device bytes front ops).served
ops_fit device bytes front [] h = fitting 0 front (omega (arith, h))
ops_fit device bytes front (op ∷ ops) h =
    let read = op_read_bytes device op in
    let all = sum_by-cons op_read_size op ops in
    let count = read_from_length device.memory device.pointer (op_read_size op) in
    let both = length-append front read in
    let room : length (front ++ read) + sum_by op_read_size ops ≤ most_payload =
    omega (arith, h, all, count, both) in
    ops_fit (after_op device bytes op) (drop (op_written_size op) bytes) (front ++ read) ops room

i2c_transfer_fits : (device : I2cDevice) (ops : List TransferOp) (bytes : List ℕ)
    → IsFitting (i2c_transfer_step device ops bytes).served
i2c_transfer_fits device ops bytes =
    transfer_fits device (list_any has_strange_flags ops) (list_any is_elsewhere ops)
    (sum_by op_read_size ops) (ops_run device bytes [] ops)
    (λ few. ops_fit device bytes [] ops (omega (arith, few)))

i2c_fits : (device : I2cDevice) (ask : I2cAsk) → IsFitting (i2c_asked device ask).served
i2c_fits device I2cAsk.Functionality = fitting 0 _ (omega arith)
i2c_fits device (I2cAsk.Transfer ops bytes) =
    i2c_transfer_fits device (ops_at (length ops / op_size) ops) bytes

i2c_read_fits : (device : I2cDevice) (read : Result I2cAsk PayloadFault)
    → IsFitting (i2c_read device read).served
i2c_read_fits device (Ok ask) = i2c_fits device ask
i2c_read_fits device (Err fault) = plain_fits _

-- ---- SPI

entry_read_length : (last : ℕ) (entry : TransferEntry) (bytes : List ℕ)
    → length (entry_read_bytes last entry bytes) ≤ entry_read_size entry
entry_read_length last entry bytes = by (entry_writes entry)
  where
    by : (b : Bool) → length (cond b (take (entry_read_size entry) bytes)
        (replicate (entry_read_size entry) last)) ≤ entry_read_size entry
    by true =
        let taken = length-take (entry_read_size entry) bytes in grind (arith, taken)
    by false =
        let same = length-replicate (entry_read_size entry) last in omega (arith, same)

entries_fit : (last : ℕ) (bytes front : List ℕ) (entries : List TransferEntry)
    → length front + sum_by entry_read_size entries ≤ most_payload
    → IsFitting (entries_run last bytes front entries).served
entries_fit last bytes front [] h = fitting 0 front (omega (arith, h))
entries_fit last bytes front (entry ∷ entries) h =
    let read = entry_read_bytes last entry bytes in
    let all = sum_by-cons entry_read_size entry entries in
    let count = entry_read_length last entry bytes in
    let both = length-append front read in
    let room : length (front ++ read) + sum_by entry_read_size entries ≤ most_payload =
    omega (arith, h, all, count, both) in
    entries_fit (last_of last (entry_written_bytes entry bytes))
    (drop (entry_written_size entry) bytes) (front ++ read) entries room

spi_transfer_fits : (last select mode : ℕ) (entries : List TransferEntry) (bytes : List ℕ)
    → IsFitting (spi_transfer_step last select mode entries bytes).served
spi_transfer_fits last select mode entries bytes =
    transfer_fits last (nat_lt 3 mode || list_any is_strange entries) (nat_lt 0 select)
    (sum_by entry_read_size entries) (entries_run last bytes [] entries)
    (λ few. entries_fit last bytes [] entries (omega (arith, few)))

spi_fits : (last : ℕ) (ask : SpiAsk) → IsFitting (spi_asked last ask).served
spi_fits last SpiAsk.MasterConfig = fitting 0 (spi_reply_payload master) (at_most _ _ refl)
spi_fits last (SpiAsk.DeviceConfig select) = by (select == 0)
  where
    by : (b : Bool) → IsFitting (cond b (record {
      after = last;
      served = record { result = 0; payload = spi_reply_payload echo; asks = [] };
    }) (refuses last nonexistent)).served
    by true = fitting 0 (spi_reply_payload echo) (at_most _ _ refl)
    by false = plain_fits nonexistent
spi_fits last (SpiAsk.Transfer select mode entries bytes) =
    spi_transfer_fits last select mode (entries_at (length entries / entry_size) entries) bytes

spi_read_fits : (last : ℕ) (read : Result SpiAsk PayloadFault)
    → IsFitting (spi_read last read).served
spi_read_fits last (Ok ask) = spi_fits last ask
spi_read_fits last (Err fault) = plain_fits _

-- ---- UART

received_fits : (bytes : List ℕ) → length bytes ≤ most_sent
    → length (uart_ask_payload (UartAsk.ReceiveData 0 bytes)) ≤ most_payload
received_fits bytes h =
    let all = length-append (le16 (length bytes)) (0 ∷ bytes) in omega (arith, all, h)

echo_fits : (bytes : List ℕ) → length bytes ≤ most_sent → AreAskable (echo_asks bytes)
echo_fits bytes h = by (length bytes == 0)
  where
    asks : List OwnAsk
    asks = record {
      kind = 3;
      payload = uart_ask_payload (UartAsk.ReceiveData 0 bytes);
      oneway = false;
    } ∷ record {
      kind = 8;
      payload = uart_ask_payload (UartAsk.ReceiveCredits (length bytes));
      oneway = false;
    } ∷ []

    by : (b : Bool) → AreAskable (cond b [] asks)
    by true = tt
    by false = ((omega arith, received_fits bytes h), ((omega arith, omega arith), tt))

send_fits : (bytes : List ℕ) → IsFitting (send_answer bytes)
send_fits bytes = by (nat_lt most_sent (length bytes)) refl
  where
    by : (b : Bool) → nat_lt most_sent (length bytes) ≡ b
        → IsFitting (cond b (record { result = overflow; payload = []; asks = [] })
        (record { result = 0; payload = []; asks = echo_asks bytes }))
    by true h = plain_fits overflow
    by false h = record {
      payload = omega arith;
      asks = echo_fits bytes (not_above most_sent (length bytes) h);
    }

range_fits : (ok : Bool) → IsFitting (cond ok (record { result = 0; payload = []; asks = [] })
    (record { result = invalid; payload = []; asks = [] }))
range_fits true = plain_fits 0
range_fits false = plain_fits invalid

uart_fits : (ask : UartAsk) → IsFitting (uart_asked ask)
uart_fits (UartAsk.SendData bytes) = send_fits bytes
uart_fits (UartAsk.ReceiveData flags bytes) = plain_fits protocol_bad
uart_fits (UartAsk.SetLineCoding rate format parity bits flow) =
    range_fits (is_coding format parity bits flow)
uart_fits (UartAsk.SetControlLineState control) = range_fits (nat_le control 3)
uart_fits (UartAsk.SendBreak state) = range_fits (nat_le state 1)
uart_fits (UartAsk.SerialState control) = plain_fits protocol_bad
uart_fits (UartAsk.ReceiveCredits count) = plain_fits protocol_bad
uart_fits (UartAsk.FlushFifos flags) = range_fits (nat_le flags 3)

uart_read_fits : (read : Result UartAsk PayloadFault) → IsFitting (uart_read read)
uart_read_fits (Ok ask) = uart_fits ask
uart_read_fits (Err fault) = plain_fits _

-- ---- modules

device_fits : (device : Device) (kind : ℕ) (payload : List ℕ) → length payload ≤ most_payload
    → IsFitting (device_step device kind payload).served
device_fits (devices.Gpio lines) kind payload short =
    gpio_read_fits lines (read_gpio_ask_of_ap kind payload)
device_fits (devices.I2c device) kind payload short =
    i2c_read_fits device (read_i2c_ask kind payload)
device_fits (devices.Spi last) kind payload short =
    spi_read_fits last (read_spi_ask kind payload)
device_fits devices.Uart kind payload short = uart_read_fits (read_uart_ask_of_ap kind payload)
device_fits devices.Loopback kind payload short = loopback_fits kind payload short
device_fits (devices.Firmware loader) kind payload short = plain_fits protocol_bad

-- requests are left out or not
left_out : (state : CportState) (served : Served) → IsFitting served
    → IsFitting (served_in state served)
left_out Off served f = record { payload = f.payload; asks = tt }
left_out On served f = record { payload = f.payload; asks = f.asks }
left_out Quiet served f = record { payload = f.payload; asks = tt }

port_fits : (m : Module) (port : Option ModulePort) (kind : ℕ) (payload : List ℕ)
    → length payload ≤ most_payload → StepFits m (port_served m port kind payload)
port_fits m None kind payload short = record { served = plain_fits protocol_bad; manifest = refl }
port_fits m (Some port) kind payload short = record {
  served = left_out port.state (device_step port.device kind payload).served
      (device_fits port.device kind payload short);
  manifest = refl;
}

turn_fits : (m : Module) (port : Option ModulePort) (wanted : CportState → Bool)
    (change : ModulePort → ModulePort) → StepFits m (turn_step m port wanted change)
turn_fits m None wanted change = record { served = plain_fits nonexistent; manifest = refl }
turn_fits m (Some port) wanted change = by (wanted port.state)
  where
    by : (b : Bool) → StepFits m (cond b (turn_step m (Some port) (λ s. true) change)
        (refuses m invalid))
    by true = record { served = plain_fits 0; manifest = refl }
    by false = record { served = plain_fits invalid; manifest = refl }

control_fits : (m : Module) (ask : ControlAsk) → length m.manifest ≤ most_payload
    → StepFits m (control_asked m ask)
control_fits m (ControlAsk.Version major minor) h =
    record { served = fitting 0 (0 ∷ 1 ∷ []) (omega arith); manifest = refl }
control_fits m ControlAsk.GetManifestSize h =
    record { served = fitting 0 (le16 (length m.manifest)) (omega arith); manifest = refl }
control_fits m ControlAsk.GetManifest h =
    record { served = fitting 0 m.manifest h; manifest = refl }
control_fits m (ControlAsk.Connected c) h = turn_fits m (port_at m c) is_off turned_on
control_fits m (ControlAsk.Disconnected c) h = turn_fits m (port_at m c) is_quiet turned_off
control_fits m (ControlAsk.Disconnecting c) h = turn_fits m (port_at m c) is_on made_quiet

control_read_fits : (m : Module) (read : Result ControlAsk PayloadFault)
    → length m.manifest ≤ most_payload → StepFits m (control_read m read)
control_read_fits m (Ok ask) h = control_fits m ask h
control_read_fits m (Err fault) h = record { served = plain_fits _; manifest = refl }

-- What a module answers and asks fits into messages where the request does, and its manifest stays.
pub module_fits : (m : Module) (c kind : ℕ) (payload : List ℕ) → length payload ≤ most_payload
    → length m.manifest ≤ most_payload → StepFits m (module_serve m c kind payload)
module_fits m c kind payload short h = by (c == 0)
  where
    by : (b : Bool) → StepFits m (cond b (control_read m (read_control_ask kind payload))
        (port_served m (port_at m c) kind payload))
    by true = control_read_fits m (read_control_ask kind payload) h
    by false = port_fits m (port_at m c) kind payload short

-- ---- what comes from outside

device-asks : (device : Device) (stir : Stir) (t : Stirred Device)
    → device_stir device stir ≡ Some t → AreAskable t.asks
device-asks (devices.Gpio lines) (devices.Level which new) t is =
    subst (λ (d : Stirred Device). AreAskable d.asks) (same-some _ t is)
    (irq-asks (gpio_level_set lines which new).irq)
  where
    irq-asks : (irq : Option ℕ) → AreAskable (irq_asks irq)
    irq-asks None = tt
    irq-asks (Some line) = ((omega arith, omega arith), tt)
device-asks devices.Uart (devices.Serial control) t is =
    subst (λ (d : Stirred Device). AreAskable d.asks) (same-some _ t is)
    ((omega arith, omega arith), tt)
device-asks (devices.Gpio lines) (devices.Serial control) t is = absurd cc
device-asks (devices.I2c device) stir t is = absurd cc
device-asks (devices.Spi last) stir t is = absurd cc
device-asks devices.Uart (devices.Level which new) t is = absurd cc
device-asks devices.Loopback stir t is = absurd cc
device-asks (devices.Firmware loader) stir t is = absurd cc

-- requests are left out or not
asks-if-on : (state : CportState) (asks : List OwnAsk) → AreAskable asks
    → AreAskable (if_on state asks)
asks-if-on Off asks h = tt
asks-if-on On asks h = h
asks-if-on Quiet asks h = tt

-- What a module asks where its device was stirred fits into messages.
pub stir-asks : (m : Module) (c : ℕ) (stir : Stir) (t : Stirred Module)
    → module_stir m c stir ≡ Some t → AreAskable t.asks
stir-asks m c stir t is = at_port (port_at m c) is
  where
    by : (port : ModulePort) (o : Option (Stirred Device)) → device_stir port.device stir ≡ o
        → port_stir m port o ≡ Some t → AreAskable t.asks
    by port None there e = absurd cc
    by port (Some d) there e =
        subst (λ (x : Stirred Module). AreAskable x.asks) (same-some _ t e)
        (asks-if-on port.state d.asks (device-asks port.device stir d there))

    at_port : (o : Option ModulePort) → port_stirred m o stir ≡ Some t → AreAskable t.asks
    at_port None e = absurd cc
    at_port (Some port) e = by port (device_stir port.device stir) refl e
