-- What stands at the place of a number is replaced.
use Rattle.std.proofs.Common.{ap, is_some, sym, ◌∙◌, ◌-◌, arith}
use Rattle.gb_table.proofs.Looking.{has-place, none-from, nowhere, replaces, seen-at}
use Rattle.gb_table.proofs.Looking.{seen-below, stays}
use Rattle.gb_table.specs.Table.{item_at}
use Rattle.gb_table.proofs.table.Table.set.Goals as goal

pub returns-then-n-self : goal.returns-then-n-self
returns-then-n-self g c =
    stays (item_at c.args.self.now) c.args.n _
    (nowhere (item_at c.args.self.now c.args.n) c.args.item
    (seen-below c.args.n c.self.inside.first c.self.inside.places.items c.args.self.now
    c.self.view_is (omega arith)))

pub index_mut-requires : goal.index_mut-requires
index_mut-requires g c =
    let less = has-place c.self.inside.places.items (c.args.n - c.self.inside.first)
    (ap is_some (sym c.item_in.ensures) ∙ sym c.is_some.ensures ∙ c.if-is_some.true) in
    omega (arith, less, c.self.inside.places.ok)

pub returns-then-is_some : goal.returns-then-is_some
returns-then-is_some g c =
    replaces c.self.inside.first c.args.n c.self.inside.places.items c.args.self.now c.args.item
    c.self.view_is (omega arith)
    (ap is_some (sym c.item_in.ensures) ∙ sym c.is_some.ensures ∙ c.if-is_some.true)

pub returns-else-is_some : goal.returns-else-is_some
returns-else-is_some g c =
    stays (item_at c.args.self.now) c.args.n _
    (nowhere (item_at c.args.self.now c.args.n) c.args.item
    (seen-at c.self.inside.first c.args.n c.self.inside.places.items c.args.self.now
    c.self.view_is (omega arith)
    ∙ sym c.item_in.ensures
    ∙ none-from c.item_in.result (sym c.is_some.ensures ∙ c.if-is_some.false)))
