use Rattle.gb_laws.proofs.together.EveryRun.{every-end_has_its_cause}
use Rattle.gb_laws.proofs.laws.every_end_has_its_cause.Goals as goal

pub returns : goal.returns
returns c = every-end_has_its_cause
