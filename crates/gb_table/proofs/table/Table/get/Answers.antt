-- A number before the first place has no item; one behind it has what stands at its place.
use Rattle.std.proofs.Common.{sym, ◌∙◌, arith}
use Rattle.gb_table.proofs.Looking.{seen-at, seen-below}
use Rattle.gb_table.proofs.table.Table.get.Goals as goal

pub returns-then-n-self : goal.returns-then-n-self
returns-then-n-self g c =
    sym (seen-below c.args.n c.self.inside.first c.self.inside.places.items c.args.self.now
    c.self.view_is (omega arith))

pub returns : goal.returns
returns g c =
    c.item_in.ensures
    ∙ sym (seen-at c.self.inside.first c.args.n c.self.inside.places.items c.args.self.now
    c.self.view_is (omega arith))
