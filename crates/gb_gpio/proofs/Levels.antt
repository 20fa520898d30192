-- A line that changes.
use Rattle.std.proofs.Common.{rules, ◌≡◌, ◌<◌, ℕ, List, [], Some, Ok, length, get_or, slice_get}
use Rattle.std.proofs.Common.{slice_set, ap, sym, ◌∙◌}
use Rattle.std.proofs.lemmas.List.{map-set}
use Rattle.std.proofs.lemmas.Option.{slice_get-map, slice_get-get_or}
use Rattle.std.specs.Option.{option_map}
use Rattle.std.specs.Bool.{then_some}
use Rattle.gb_base.specs.declared.served.Served.{Served}
use Rattle.gb_formats.specs.GpioDevice.{GpioLine, gpio_level_set, is_irq}
use Rattle.gb_formats.specs.Results.{Step, answer_of}
use Rattle.gb_gpio.specs.Views.{gpio_line_of, lines_of, step_of}
use Rattle.gb_gpio.specs.declared.effect.Effect.TheVariants as effect
use Rattle.gb_gpio.specs.declared.effect.Effect.{Effect}
use Rattle.gb_gpio.specs.declared.line.Line.{Line}

-- the line at a place
seen : (lines : List Line) (self : List GpioLine) (i : ℕ) (d : Line) → lines_of lines ≡ self
    → i < length lines → slice_get self i ≡ Some (gpio_line_of (get_or lines i d))
seen lines self i d v h =
    ap (λ (xs : List GpioLine). slice_get xs i) (sym v) ∙ slice_get-map gpio_line_of lines i
    ∙ ap (option_map gpio_line_of) (slice_get-get_or lines i d h)

-- the lines after a level was set
pub levelled : (lines : List Line) (self : List GpioLine) (i value : ℕ) (d : Line)
    → lines_of lines ≡ self → i < length lines
    → lines_of (slice_set lines i (record (get_or lines i d) { level = value }))
    ≡ (gpio_level_set self i value).after
levelled lines self i value d v h =
    rw (seen lines self i d v h)
    (map-set gpio_line_of lines i (record (get_or lines i d) { level = value })
    ∙ ap (λ (xs : List GpioLine).
    slice_set xs i (record (gpio_line_of (get_or lines i d)) { level = value })) v)

-- the line that has an interrupt
pub interrupted : (lines : List Line) (self : List GpioLine) (i value : ℕ) (d : Line)
    → lines_of lines ≡ self → i < length lines
    → then_some (is_irq (gpio_line_of (get_or lines i d)) value) i
    ≡ (gpio_level_set self i value).irq
interrupted lines self i value d v h = rw (seen lines self i d v h) (search rules)

-- a request that changed a line
pub changed : (lines : List Line) (self : List GpioLine)
    (step : List GpioLine → Step (List GpioLine)) (does : Effect) (which : ℕ) (line : Line)
    (served : Served)
    → lines_of lines ≡ self → step (lines_of lines) ≡ step_of (lines_of lines) (Ok does)
    → does ≡ effect.Changes which line → served ≡ answer_of []
    → (served ≡ (step self).served) × (lines_of (slice_set lines which line) ≡ (step self).after)
changed lines self step does which line served v h e d =
    let after : step self ≡ step_of (lines_of lines) (Ok (effect.Changes which line)) =
    ap step (sym v) ∙ h ∙ ap (λ (x : Effect). step_of (lines_of lines) (Ok x)) e in (
      d ∙ sym (ap (λ (s : Step (List GpioLine)). s.served) after),
      map-set gpio_line_of lines which line
          ∙ sym (ap (λ (s : Step (List GpioLine)). s.after) after),
    )
