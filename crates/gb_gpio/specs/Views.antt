-- The lines and the effects that values of the code stand for.
use Rattle.std.specs.Prelude.{ℕ, ◌<◌, ⊤, true, Result, Ok, Err, List, [], map, slice_set}
use Rattle.gb_bridge_payload.specs.Views.{gpio_reply_of}
use Rattle.gb_formats.specs.GpioDevice.{AtLine, Changes, GpioLine, Refuses, direction_out}
use Rattle.gb_formats.specs.GpioDevice.{if_active, set_irq, set_value}
use Rattle.gb_formats.specs.GpioRecords.{gpio_reply_payload}
use Rattle.gb_formats.specs.Results.{Step, answer_of, refuses, tells}
use Rattle.gb_gpio.specs.declared.change.Change.{Change}
use Rattle.gb_gpio.specs.declared.change.Change.TheVariants as change
use Rattle.gb_gpio.specs.declared.effect.Effect.{Effect}
use Rattle.gb_gpio.specs.declared.effect.Effect.TheVariants as effect
use Rattle.gb_gpio.specs.declared.irq.Irq.{Irq}
use Rattle.gb_gpio.specs.declared.irq.Irq.TheVariants as irq
use Rattle.gb_gpio.specs.declared.line.Line.{Line}

-- the number of an interrupt type
abbrev pub irq_code : Irq → ℕ
irq_code irq.None = 0
irq_code irq.Rising = 1
irq_code irq.Falling = 2
irq_code irq.Both = 3
irq_code irq.High = 4
irq_code irq.Low = 8

-- a line
abbrev pub gpio_line_of : Line → GpioLine
gpio_line_of line = record {
  active = line.active;
  input = line.input;
  value = line.value;
  debounce = line.debounce;
  irq = irq_code line.irq;
  masked = line.masked;
  level = line.level;
}

-- the lines of a device
abbrev pub lines_of : List Line → List GpioLine
lines_of lines = map gpio_line_of lines

-- a line after a request at it, or the result of the refusal
abbrev pub at_line_of : Result Line ℕ → AtLine
at_line_of (Ok line) = Changes (gpio_line_of line)
at_line_of (Err code) = Refuses code

-- what a change does at a line
abbrev pub change_of : Change → GpioLine → AtLine
change_of change.In line = if_active line (Changes (record line { input = true }))
change_of (change.Out value) line = direction_out value line
change_of (change.Value value) line = set_value value line
change_of (change.Debounce microseconds) line =
    if_active line (Changes (record line { debounce = microseconds }))
change_of (change.Irq irq) line = set_irq irq line
change_of (change.Mask masked) line = if_active line (Changes (record line { masked = masked }))

-- what a request does, or the result of its refusal
abbrev pub step_of : List GpioLine → Result Effect ℕ → Step (List GpioLine)
step_of lines (Ok (effect.Changes which line)) =
    record { after = slice_set lines which (gpio_line_of line); served = answer_of [] }
step_of lines (Ok (effect.Tells reply)) = tells lines (gpio_reply_payload (gpio_reply_of reply))
step_of lines (Err code) = refuses lines code

-- a line that changes is one of so many
abbrev pub IsWithin : Effect → ℕ → Type 0
IsWithin (effect.Changes which line) count = which < count
IsWithin (effect.Tells reply) count = ⊤
