use Rattle.gb_laws.proofs.together.EveryRun.{none-open}
use Rattle.gb_laws.proofs.laws.removal_finds_none_open.Goals as goal

pub returns : goal.returns
returns c = none-open
