-- The lines that were looked at are restarted, and those behind them are to be.
use Rattle.std.proofs.Common.{◌≡◌, ◌++◌, drop, map, take}
use Rattle.gb_formats.specs.GpioDevice.{restarted_line}
use Rattle.gb_gpio.specs.Views.{lines_of}
use Rattle.gb_gpio.proofs.device.restart.Given as goal

abbrev pub invariant-loop-line : goal.invariant-loop-line
invariant-loop-line l =
    lines_of (take l.line-index l.lines)
    ++ map restarted_line (lines_of (drop l.line-index l.lines))
    ≡ map restarted_line (lines_of l.initial.lines)
