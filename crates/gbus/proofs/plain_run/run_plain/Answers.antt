-- A source and a sink that never fail have no fault to count.
use Rattle.gbus.proofs.Unfailing.{ends-well, no-rise}
use Rattle.gbus.proofs.plain_run.run_plain.Goals as goal

pub returns-clause-reads : goal.returns-clause-reads
returns-clause-reads g c = λ e. no-rise (c.run.ensures.read e)

pub returns-clause-writes : goal.returns-clause-writes
returns-clause-writes g c = λ e. no-rise (c.run.ensures.write e)

pub returns-clause-complete : goal.returns-clause-complete
returns-clause-complete g c = ends-well _ _ _ c.run.ensures.complete
