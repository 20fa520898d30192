use Rattle.gb_laws.proofs.together.EveryRun.{no-foreign}
use Rattle.gb_laws.proofs.laws.no_foreign_message.Goals as goal

pub returns : goal.returns
returns c = no-foreign
