-- The names stand in another order in their room, and in the same order by requester and word.
use Rattle.std.proofs.Common.{◌∙◌}
use Rattle.gb_system.proofs.HashedNames.{same-sorted}
use Rattle.gb_system.proofs.names.Names.make_room.Goals as goal

pub returns-then-count-capacity : goal.returns-then-count-capacity
returns-then-count-capacity c =
    same-sorted c.self.inside.bound.entries c.reserve.new.self.entries c.self.invariant
    c.reserve.ensures.unique c.reserve.ensures.entries.2
    ∙ c.self.view_is
