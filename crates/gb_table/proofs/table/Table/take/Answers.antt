-- Nothing stands at the place of a number from now on.
use Rattle.std.proofs.Common.{ap, is_some, sym, ◌∙◌, ◌-◌, None, arith}
use Rattle.gb_table.proofs.Looking.{has-place, puts-at, seen-at, seen-below, stays}
use Rattle.gb_table.specs.Table.{item_at}
use Rattle.gb_table.proofs.table.Table.take.Goals as goal

pub returns-then-n-self-clause-item : goal.returns-then-n-self-clause-item
returns-then-n-self-clause-item g c =
    sym (seen-below c.args.n c.self.inside.first c.self.inside.places.items c.args.self.now
    c.self.view_is (omega arith))

pub returns-then-n-self-clause-taken : goal.returns-then-n-self-clause-taken
returns-then-n-self-clause-taken g c =
    stays (item_at c.args.self.now) c.args.n None
    (seen-below c.args.n c.self.inside.first c.self.inside.places.items c.args.self.now
    c.self.view_is (omega arith))

pub returns-in_err-item-clause-item : goal.returns-in_err-item-clause-item
returns-in_err-item-clause-item g c =
    c.from_residual.ensures ∙ sym c.in_err-item.was ∙ c.item_in.ensures
    ∙ sym (seen-at c.self.inside.first c.args.n c.self.inside.places.items c.args.self.now
    c.self.view_is (omega arith))

pub returns-in_err-item-clause-taken : goal.returns-in_err-item-clause-taken
returns-in_err-item-clause-taken g c =
    stays (item_at c.args.self.now) c.args.n None
    (seen-at c.self.inside.first c.args.n c.self.inside.places.items c.args.self.now
    c.self.view_is (omega arith) ∙ sym c.item_in.ensures ∙ c.in_err-item.was)

pub index_mut-requires : goal.index_mut-requires
index_mut-requires g c =
    let less = has-place c.self.inside.places.items (c.args.n - c.self.inside.first)
    (ap is_some (sym c.item_in.ensures ∙ c.in_ok-item.was)) in
    omega (arith, less, c.self.inside.places.ok)

pub returns-clause-item : goal.returns-clause-item
returns-clause-item g c =
    sym c.in_ok-item.was ∙ c.item_in.ensures
    ∙ sym (seen-at c.self.inside.first c.args.n c.self.inside.places.items c.args.self.now
    c.self.view_is (omega arith))

pub returns-clause-taken : goal.returns-clause-taken
returns-clause-taken g c =
    puts-at c.self.inside.first c.args.n c.self.inside.places.items c.args.self.now None
    c.self.view_is (omega arith)
    (has-place c.self.inside.places.items (c.args.n - c.self.inside.first)
    (ap is_some (sym c.item_in.ensures ∙ c.in_ok-item.was)))
