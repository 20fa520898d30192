-- The place of a number is there once places were added, or is added last with the item.
use Rattle.std.proofs.Common.{◌∙◌, Some, arith, subst, sym}
use Rattle.gb_table.proofs.Looking.{puts-at, puts-last}
use Rattle.gb_table.proofs.table.Table.put.Goals as goal
use Rattle.gb_table.specs.Table.{Puts, entries_from, item_at}

pub returns-then-place-len-clause-put : goal.returns-then-place-len-clause-put
returns-then-place-len-clause-put g c =
    subst
    (λ places. Puts (item_at c.args.self.now) (item_at (entries_from c.lead.new.first places))
    c.args.n (Some c.args.item))
    (sym c.in_ok-push_back.ensures.items)
    (puts-last c.lead.new.first c.args.n c.lead.new.places.items c.args.self.now
    (Some c.args.item) (c.lead.ensures.same ∙ c.self.view_is) c.in_ok-lead.ensures.led
    (omega (arith, c.if-place-len.true, c.len.ensures, c.lead.new.places.ok)))

pub returns-clause-put : goal.returns-clause-put
returns-clause-put g c =
    puts-at c.lead.new.first c.args.n c.extend.new.places.items c.args.self.now
    (Some c.args.item)
    (c.extend.ensures.same c.lead.new.first ∙ c.lead.ensures.same ∙ c.self.view_is)
    c.in_ok-lead.ensures.led c.in_ok-extend.ensures.there
