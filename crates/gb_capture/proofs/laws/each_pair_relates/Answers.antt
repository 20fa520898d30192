use Rattle.gb_capture.proofs.Lawful.{pair-relates}
use Rattle.gb_capture.proofs.laws.each_pair_relates.Goals as goal

pub returns : goal.returns
returns c = pair-relates
