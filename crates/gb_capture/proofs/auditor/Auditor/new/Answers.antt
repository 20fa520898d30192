use Rattle.std.proofs.Common.{refl}
use Rattle.gb_formats.specs.Captures.{bad_from, heard_from}
use Rattle.gb_capture.proofs.auditor.Auditor.new.Goals as goal

pub returns : goal.returns
unfolding bad_from heard_from
returns c = record { stands = c.in_ok-new.ensures.stands; number = refl; good = refl }
