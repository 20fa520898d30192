-- A number that isn't where it should be is nowhere.
use Rattle.gb_ops.proofs.Placed.{nowhere-parted}
use Rattle.gb_ops.proofs.open_list.by_halves.Goals as goal

pub returns : goal.returns
returns c =
    nowhere-parted c.args.places.now.items c.first_from-at.result c.args.n c.requires
    c.first_from-at.ensures.below c.first_from-at.ensures.beyond
    (λ is. absurd (cc (c.has_number.ensures.1 is, c.if-has_number.false)))
