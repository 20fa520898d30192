use Rattle.gb_capture.proofs.Lawful.{response-paired}
use Rattle.gb_capture.proofs.laws.each_response_is_paired.Goals as goal

pub returns : goal.returns
returns c = response-paired
