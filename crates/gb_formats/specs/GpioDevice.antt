-- The GPIO device: eight lines.
use Rattle.std.specs.Prelude.{ℕ, ◌-◌, ◌==◌, nat_le, Bool, true, false, not, ◌&&◌, ◌||◌}
use Rattle.std.specs.Prelude.{if◌then◌else◌, Option, Some, None, Result, Ok, Err, List, [], map}
use Rattle.std.specs.Prelude.{replicate, slice_get, slice_set}
use Rattle.gb_base.specs.declared.served.OwnAsk.{OwnAsk}
use Rattle.gb_formats.specs.GpioRecords.{GpioAsk, GpioReply, gpio_ask_kind, gpio_ask_payload}
use Rattle.gb_formats.specs.GpioRecords.{gpio_reply_payload, read_gpio_ask_of_ap}
use Rattle.gb_formats.specs.Records.{PayloadFault}
use Rattle.gb_formats.specs.Results.{Step, tells, refuses, answer_of, fault_result, oneway_ask}
use Rattle.gb_formats.specs.Results.{protocol_bad, invalid, nonexistent}

-- A line. `input` is true where its direction is in, `irq` is its interrupt type, and `level` is
-- what comes from outside.
pub record GpioLine : Type 0 where
  pub active : Bool
  pub input : Bool
  pub value : ℕ
  pub debounce : ℕ
  pub irq : ℕ
  pub masked : Bool
  pub level : ℕ

-- A line first is inactive, in, value 0, debounce 0, interrupt type 0 and masked.
abbrev pub first_line : ℕ → GpioLine
first_line level = record {
  active = false;
  input = true;
  value = 0;
  debounce = 0;
  irq = 0;
  masked = true;
  level = level;
}

-- how many lines the device has
abbrev pub line_count : ℕ
line_count = 8

-- the device's first state
abbrev pub first_gpio : List GpioLine
first_gpio = replicate line_count (first_line 0)

-- the first state of a line, whose level stays
abbrev pub restarted_line : GpioLine → GpioLine
restarted_line line = first_line line.level

-- the first state of all lines, whose levels stay
abbrev pub restarted_gpio : List GpioLine → List GpioLine
restarted_gpio lines = map restarted_line lines

-- What a request does at a line: it changes the line, tells what a response tells, or is refused.
pub data AtLine : Type 0 where
  Changes : GpioLine → AtLine
  Tells : GpioReply → AtLine
  Refuses : ℕ → AtLine

-- the device after a request at a line
abbrev pub line_step : List GpioLine → ℕ → AtLine → Step (List GpioLine)
line_step lines which (Changes line) =
    record { after = slice_set lines which line; served = answer_of [] }
line_step lines which (Tells reply) = tells lines (gpio_reply_payload reply)
line_step lines which (Refuses result) = refuses lines result

-- what is done at a line, which is NONEXISTENT above 7
abbrev pub line_of : Option GpioLine → (GpioLine → AtLine) → AtLine
line_of None does = Refuses nonexistent
line_of (Some line) does = does line

-- a request at a line
abbrev pub at_line : List GpioLine → ℕ → (GpioLine → AtLine) → Step (List GpioLine)
at_line lines which does = line_step lines which (line_of (slice_get lines which) does)

-- what only an active line does
abbrev pub if_active : GpioLine → AtLine → AtLine
if_active line does = if line.active then does else Refuses invalid

-- what only a value of 0 or 1 does
abbrev pub if_level : ℕ → AtLine → AtLine
if_level value does = if nat_le value 1 then does else Refuses invalid

-- the interrupt types: 0 none, 1 rising, 2 falling, 3 both, 4 high and 8 low
abbrev pub is_irq_type : ℕ → Bool
is_irq_type irq = nat_le irq 4 || irq == 8

-- direction 0 is out, 1 is in
abbrev pub direction_of : GpioLine → ℕ
direction_of line = if line.input then 1 else 0

-- the level of a line that is in, the value of a line that is out
abbrev pub value_of : GpioLine → ℕ
value_of line = if line.input then line.level else line.value

-- ACTIVATE makes a line active
abbrev pub activate : GpioLine → AtLine
activate line = Changes (record line { active = true })

-- DEACTIVATE brings back the first state, but that the level stays
abbrev pub deactivate : GpioLine → AtLine
deactivate line = Changes (restarted_line line)

-- DIRECTION_OUT makes a line out, with a value
abbrev pub direction_out : ℕ → GpioLine → AtLine
direction_out value line =
    if_active line (if_level value (Changes (record line { input = false; value = value })))

-- SET_VALUE sets the value of a line that is out
abbrev pub set_value : ℕ → GpioLine → AtLine
set_value value line =
    if_active line (if line.input then Refuses invalid
    else if_level value (Changes (record line { value = value })))

-- IRQ_TYPE sets a type that there is
abbrev pub set_irq : ℕ → GpioLine → AtLine
set_irq irq line =
    if_active line
    (if is_irq_type irq then Changes (record line { irq = irq }) else Refuses invalid)

-- what each request does; none of the module's is read
abbrev pub gpio_asked : List GpioLine → GpioAsk → Step (List GpioLine)
gpio_asked lines GpioAsk.LineCount =
    tells lines (gpio_reply_payload (GpioReply.LineCount (line_count - 1)))
gpio_asked lines (GpioAsk.Activate which) = at_line lines which activate
gpio_asked lines (GpioAsk.Deactivate which) = at_line lines which deactivate
gpio_asked lines (GpioAsk.GetDirection which) =
    at_line lines which (λ line.
    if_active line (Tells (GpioReply.GetDirection (direction_of line))))
gpio_asked lines (GpioAsk.DirectionIn which) =
    at_line lines which (λ line. if_active line (Changes (record line { input = true })))
gpio_asked lines (GpioAsk.DirectionOut which value) = at_line lines which (direction_out value)
gpio_asked lines (GpioAsk.GetValue which) =
    at_line lines which (λ line. if_active line (Tells (GpioReply.GetValue (value_of line))))
gpio_asked lines (GpioAsk.SetValue which value) = at_line lines which (set_value value)
gpio_asked lines (GpioAsk.SetDebounce which microseconds) =
    at_line lines which (λ line.
    if_active line (Changes (record line { debounce = microseconds })))
gpio_asked lines (GpioAsk.IrqType which irq) = at_line lines which (set_irq irq)
gpio_asked lines (GpioAsk.IrqMask which) =
    at_line lines which (λ line. if_active line (Changes (record line { masked = true })))
gpio_asked lines (GpioAsk.IrqUnmask which) =
    at_line lines which (λ line. if_active line (Changes (record line { masked = false })))
gpio_asked lines _ = refuses lines protocol_bad

-- a request by its payload
abbrev pub gpio_read : List GpioLine → Result GpioAsk PayloadFault → Step (List GpioLine)
gpio_read lines (Ok ask) = gpio_asked lines ask
gpio_read lines (Err fault) = refuses lines (fault_result fault)

-- The GPIO device's step.
abbrev pub gpio_step : List GpioLine → ℕ → List ℕ → Step (List GpioLine)
gpio_step lines kind payload = gpio_read lines (read_gpio_ask_of_ap kind payload)

-- an interrupt that is told
abbrev pub irq_told : ℕ → OwnAsk
irq_told which =
    let ask = GpioAsk.IrqEvent which in oneway_ask (gpio_ask_kind ask) (gpio_ask_payload ask)

-- ---- the outside level

-- An interrupt type fits: rising and both where the level rose, falling and both where it fell,
-- high where it is 1, low where it is 0.
abbrev pub irq_fits : ℕ → ℕ → ℕ → Bool
irq_fits irq old new =
    (irq == 1 || irq == 3) && (old == 0 && new == 1)
    || (irq == 2 || irq == 3) && (old == 1 && new == 0)
    || irq == 4 && new == 1
    || irq == 8 && new == 0

-- whether a new level of a line is an interrupt
abbrev pub is_irq : GpioLine → ℕ → Bool
is_irq line new = line.active && line.input && not line.masked && irq_fits line.irq line.level new

-- The lines after a level was set, and the line that had an interrupt, if it had one.
pub record Levelled : Type 0 where
  pub after : List GpioLine
  pub irq : Option ℕ

-- a level that is set at a line, if there is the line
abbrev pub level_step : List GpioLine → ℕ → ℕ → Option GpioLine → Levelled
level_step lines which new None = record { after = lines; irq = None }
level_step lines which new (Some line) = record {
  after = slice_set lines which (record line { level = new });
  irq = if is_irq line new then Some which else None;
}

-- A level that is set from outside.
abbrev pub gpio_level_set : List GpioLine → ℕ → ℕ → Levelled
gpio_level_set lines which new = level_step lines which new (slice_get lines which)
