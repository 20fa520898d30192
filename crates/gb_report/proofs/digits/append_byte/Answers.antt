use Rattle.std.proofs.lemmas.Result.{on_ok_weaker}
use Rattle.gb_report.proofs.DigitsText.{byte_appended}
use Rattle.gb_report.proofs.digits.append_byte.Goals as goal

pub returns : goal.returns
returns c =
    on_ok_weaker c.append_ascii-2.result
    (byte_appended _ _ _ _ _ c.args.byte c.digit.ensures.digit c.digit-2.ensures.digit
    c.in_ok-append_ascii.ensures)
    c.append_ascii-2.ensures
