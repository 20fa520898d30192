-- The line that is changed is the one that was found.
use Rattle.gb_gpio.proofs.Refusals.{done-there, refused, unchanged}
use Rattle.gb_gpio.specs.Views.{change_of, gpio_line_of, lines_of}
use Rattle.gb_gpio.proofs.deciding.change_at.Goals as goal

pub returns-in_err-found-clause-step : goal.returns-in_err-found-clause-step
returns-in_err-found-clause-step c =
    refused _ _ _ _ c.from_residual.ensures.1
    (unchanged c.args.change (lines_of c.args.lines.now) c.args.which _
    c.in_err-found.ensures.err)

pub returns-in_err-line-clause-step : goal.returns-in_err-line-clause-step
returns-in_err-line-clause-step c =
    refused _ _ _ _ c.from_residual-in_err-line.ensures.1
    (done-there (lines_of c.args.lines.now) c.args.which (change_of c.args.change)
    (gpio_line_of c.in_ok-found.found) _ c.in_ok-found.ensures.line c.in_err-line.ensures)

pub returns-clause-step : goal.returns-clause-step
returns-clause-step c =
    done-there (lines_of c.args.lines.now) c.args.which (change_of c.args.change)
    (gpio_line_of c.in_ok-found.found) _ c.in_ok-found.ensures.line c.in_ok-line.ensures
