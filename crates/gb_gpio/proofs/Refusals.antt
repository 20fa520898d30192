-- What is refused.
use Rattle.std.proofs.Common.{◌≡◌, ℕ, List, Option, Result, Some, ap, slice_get, ◌∙◌}
use Rattle.std.specs.Result.{IsErrAnd}
use Rattle.std.proofs.lemmas.Result.{err_from_is_err_and}
use Rattle.gb_formats.specs.GpioDevice.{AtLine, GpioLine, at_line, if_active, line_of, line_step}
use Rattle.gb_formats.specs.Results.{Step, refuses}
use Rattle.gb_gpio.specs.Views.{at_line_of, change_of, step_of}
use Rattle.gb_gpio.specs.declared.change.Change.{Change}
use Rattle.gb_gpio.specs.declared.change.Change.TheVariants as change
use Rattle.gb_gpio.specs.declared.effect.Effect.{Effect}

-- the refusal that a `?` hands on
pub refused : (step : Step (List GpioLine)) (lines : List GpioLine) (code : ℕ)
    (result : Result Effect ℕ)
    → IsErrAnd result (λ given. given ≡ code) → step ≡ refuses lines code
    → step ≡ step_of lines result
refused step lines code result e h =
    let p = err_from_is_err_and result e in rw (p.1, p.2) h

-- no change is made where the line isn't there or isn't active
pub unchanged : (c : Change) (lines : List GpioLine) (which code : ℕ)
    → ((does : GpioLine → AtLine)
    → at_line lines which (λ line. if_active line (does line)) ≡ refuses lines code)
    → at_line lines which (change_of c) ≡ refuses lines code
unchanged change.In lines which code h = h _
unchanged (change.Out value) lines which code h = h _
unchanged (change.Value value) lines which code h = h _
unchanged (change.Debounce microseconds) lines which code h = h _
unchanged (change.Irq irq) lines which code h = h _
unchanged (change.Mask masked) lines which code h = h _

-- what is done at a line that is there
pub done-there : (lines : List GpioLine) (which : ℕ) (does : GpioLine → AtLine) (line : GpioLine)
    (done : AtLine) → slice_get lines which ≡ Some line → does line ≡ done
    → at_line lines which does ≡ line_step lines which done
done-there lines which does line done there is =
    ap (λ (o : Option GpioLine). line_step lines which (line_of o does)) there
    ∙ ap (line_step lines which) is
