use Rattle.std.proofs.Common.{arith}
use Rattle.std.proofs.lemmas.Result.{on_ok_weaker}
use Rattle.gb_report.proofs.DigitsText.{digit_appended}
use Rattle.gb_report.proofs.part.append_decimal.Goals as goal

pub returns-then-number-lt10 : goal.returns-then-number-lt10
returns-then-number-lt10 c =
    on_ok_weaker c.append_ascii.result
    (digit_appended _ _ _ c.args.number (omega (arith, c.if-number-lt10.true)) (omega arith))
    c.append_ascii.ensures
