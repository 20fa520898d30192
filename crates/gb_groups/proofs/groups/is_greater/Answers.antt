-- A list that rises has its greatest number last.
use Rattle.std.proofs.Common.{ltb-true, sym}
use Rattle.gb_groups.proofs.Rising.{above-last}
use Rattle.gb_groups.proofs.groups.is_greater.Goals as goal

pub returns-in-Some : goal.returns-in-Some
returns-in-Some c = λ less.
    above-last c.args.list.now c.in-Some.last.now c.args.number c.requires
    (sym c.in-Some.ensures.value) (ltb-true _ _ less)
