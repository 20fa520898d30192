use Rattle.std.proofs.Common.{refl}
use Rattle.std.proofs.lemmas.Result.{on_ok_weaker}
use Rattle.gb_report.proofs.DigitsText.{pair_appended}
use Rattle.gb_report.proofs.part.append_pair.Goals as goal

pub returns-in-Ok : goal.returns-in-Ok
returns-in-Ok c =
    on_ok_weaker c.append_ascii-in-Ok.result
    (pair_appended _ _ _ _ _ c.args.number c.requires.0 c.requires.1 refl refl c.in-Ok.ensures)
    c.append_ascii-in-Ok.ensures
