use Rattle.std.proofs.Common.{rules}
use Rattle.gb_report.proofs.dump.DescriptorPart.append_to.Goals as goal

pub returns-in-Interface : goal.returns-in-Interface
returns-in-Interface c = rw c.in-Interface.is (search rules)
