use Rattle.std.proofs.Common.{arith}
use Rattle.gb_manifest.proofs.Marks.{met_more}
use Rattle.gb_manifest.proofs.ids.Ids.add.Goals as goal

pub returns : goal.returns
returns g c k = met_more c.args.self.now.marks c.args.id k (omega (arith, c.requires))
