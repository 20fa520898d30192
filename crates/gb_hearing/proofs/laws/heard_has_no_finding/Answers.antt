use Rattle.gb_hearing.proofs.HearsRuns.{heard-no_finding}
use Rattle.gb_hearing.proofs.laws.heard_has_no_finding.Goals as goal

pub returns : goal.returns
returns c = heard-no_finding
