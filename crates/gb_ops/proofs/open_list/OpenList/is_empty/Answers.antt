-- The first place isn't empty.
use Rattle.std.proofs.Common.{subst}
use Rattle.gb_ops.proofs.Placed.{tells-idle}
use Rattle.gb_ops.specs.Finding.{TellsIdle}
use Rattle.gb_ops.specs.Places.{pending_among}
use Rattle.gb_ops.proofs.open_list.OpenList.is_empty.Goals as goal

pub returns-clause-tells : goal.returns-clause-tells
returns-clause-tells c =
    subst (λ es. TellsIdle (pending_among es) c.is_empty.result) c.self.view_is
    (tells-idle c.self.inside.places.items _ c.is_empty.result c.self.invariant.starts
    c.self.inside.places.ok.0 c.is_empty.ensures)
