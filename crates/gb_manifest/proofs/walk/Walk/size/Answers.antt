use Rattle.std.proofs.Common.{arith}
use Rattle.gb_manifest.proofs.Walks.{sizes_next}
use Rattle.gb_manifest.proofs.walk.Walk.size.Goals as goal

pub returns : goal.returns
returns c = sizes_next c.args.self.now _ (omega (arith, c.requires)) c.size_at_front.ensures
