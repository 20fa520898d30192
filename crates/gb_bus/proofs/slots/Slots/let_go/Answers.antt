-- The number has no place, and the slot is gone.
use Rattle.std.proofs.Common.{None, ap, subst, sym, ◌∙◌}
use Rattle.gb_bus.proofs.SlotKept.{gone-kept, gone-moves}
use Rattle.gb_bus.proofs.slots.Slots.let_go.Goals as goal
use Rattle.gb_bus.specs.Keeping.{Places}
use Rattle.gb_bus.specs.Slots.{is_open_slot, key_at, slot_at}
use Rattle.gb_table.specs.Table.{Puts, item_at}

pub invariant_of-self : goal.invariant_of-self
invariant_of-self c =
    gone-kept c.self.inside.slots c.try_remove.new.self c.self.inside.places c.trim.new.self
    c.self.inside.deadlines c.self.inside.tally c.args.n c.args.key c.self.invariant
    (ap (λ x. key_at x c.args.n) c.self.view_is ∙ c.requires.key) c.try_remove.ensures.updates
    (subst (λ (p : Places). Puts (item_at c.self.inside.places) (item_at p) c.args.n None)
    (sym c.trim.ensures) c.take.ensures.taken)
    (ap (λ x. is_open_slot (slot_at x c.args.n)) c.self.view_is ∙ c.requires.over)

pub returns : goal.returns
returns c =
    gone-moves c.self.inside.slots c.try_remove.new.self c.self.inside.places c.trim.new.self
    c.self.inside.deadlines c.self.inside.tally c.args.n c.args.key c.self.invariant
    (ap (λ x. key_at x c.args.n) c.self.view_is ∙ c.requires.key) c.try_remove.ensures.updates
    (subst (λ (p : Places). Puts (item_at c.self.inside.places) (item_at p) c.args.n None)
    (sym c.trim.ensures) c.take.ensures.taken) c.args.self.now c.self.view_is
