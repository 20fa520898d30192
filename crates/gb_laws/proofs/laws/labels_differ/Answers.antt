use Rattle.gb_laws.proofs.together.EveryRun.{labels-differ}
use Rattle.gb_laws.proofs.laws.labels_differ.Goals as goal

pub returns : goal.returns
returns c = labels-differ
