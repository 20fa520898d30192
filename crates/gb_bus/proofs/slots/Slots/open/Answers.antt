-- A slot comes with its place and its deadline, or none of them.
use Rattle.std.proofs.Common.{◌+◌, Some, ap, refl, subst, sym, ◌∙◌}
use Rattle.gb_bus.proofs.SlotNew.{opened-kept, restored, same-kept}
use Rattle.gb_bus.proofs.SlotTimes.{stays-same}
use Rattle.gb_bus.proofs.slots.Slots.open.Goals as goal
use Rattle.gb_table.specs.Table.{item_at}
use Rattle.slab.specs.Slab.{Updates}

pub invariant_of-self : goal.invariant_of-self
invariant_of-self c =
    same-kept c.self.inside.slots c.reserve.new.self c.self.inside.places c.self.inside.places
    c.self.inside.deadlines c.self.inside.deadlines c.self.inside.tally
    (ap (λ x. x.slots) c.reserve.ensures.rest_kept) (λ n. refl)
    (stays-same c.self.inside.deadlines) c.self.invariant

pub invariant_of-self-in_err-put : goal.invariant_of-self-in_err-put
invariant_of-self-in_err-put c =
    same-kept c.self.inside.slots c.reserve.new.self c.self.inside.places c.put.new.self
    c.self.inside.deadlines c.self.inside.deadlines c.self.inside.tally
    (ap (λ x. x.slots) c.reserve.ensures.rest_kept)
    (λ n. ap (λ p. item_at p n) c.in_err-put.ensures.unchanged)
    (stays-same c.self.inside.deadlines) c.self.invariant

pub invariant_of-self-in-Err : goal.invariant_of-self-in-Err
invariant_of-self-in-Err c =
    restored c.self.inside.slots c.self.inside.places c.self.inside.deadlines c.self.inside.tally
    c.args.slot c.self.invariant
    (c.requires.number ∙ ap (λ x. x.tally.requests + 1) (sym c.self.view_is))
    c.reserve.new.self c.put.new.self c.take.new.self c.add.new.self
    (Some c.vacant_key-key.result) (ap (λ x. x.slots) c.reserve.ensures.rest_kept)
    c.in_ok-put.ensures.put c.take.ensures.taken c.in-Err.ensures.err

pub invariant_of-self-2 : goal.invariant_of-self-2
invariant_of-self-2 c =
    opened-kept c.reserve.new.self c.self.inside.places c.self.inside.deadlines
    c.self.inside.tally c.args.slot
    (same-kept c.self.inside.slots c.reserve.new.self c.self.inside.places c.self.inside.places
    c.self.inside.deadlines c.self.inside.deadlines c.self.inside.tally
    (ap (λ x. x.slots) c.reserve.ensures.rest_kept) (λ n. refl)
    (stays-same c.self.inside.deadlines) c.self.invariant)
    (c.requires.number ∙ ap (λ x. x.tally.requests + 1) (sym c.self.view_is))
    c.insert_reserved.new.self c.put.new.self c.vacant_key-key.result
    c.vacant_key-key.ensures.vacant
    (subst (λ k. Updates c.reserve.new.self c.insert_reserved.new.self k (Some c.args.slot))
    (c.insert_reserved.ensures.key ∙ sym c.vacant_key-key.ensures.value)
    c.insert_reserved.ensures.updates)
    c.in_ok-put.ensures.put c.add.new.self _ c.add-2.new.self
    c.requires.unended c.requires.awaited refl c.in_default.ensures.adds
    c.add-2.ensures
