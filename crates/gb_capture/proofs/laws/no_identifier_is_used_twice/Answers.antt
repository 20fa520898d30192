use Rattle.gb_capture.proofs.Lawful.{answered-before}
use Rattle.gb_capture.proofs.laws.no_identifier_is_used_twice.Goals as goal

pub returns : goal.returns
returns c = answered-before
