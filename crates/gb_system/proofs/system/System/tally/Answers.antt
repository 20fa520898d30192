-- The requests are those of the bus of each state that the system stands for.
use Rattle.std.proofs.Common.{[]}
use Rattle.gb_system.specs.Stands.{around_bus}
use Rattle.gb_system.proofs.system.System.tally.Goals as goal

pub returns : goal.returns
returns c = λ s st. c.tally.ensures (around_bus [] s) s.bus st.parts.bus
