use Rattle.gb_capture.proofs.Lawful.{pairs-apart}
use Rattle.gb_capture.proofs.laws.no_message_is_paired_twice.Goals as goal

pub returns : goal.returns
returns c = pairs-apart
