use Rattle.std.proofs.Common.{◌≡◌, List, length, subst, sym, ◌∙◌}
use Rattle.std.specs.Arc.{arc_value}
use Rattle.gb_base.specs.declared.parts.Asked.{Asked}
use Rattle.gb_share.specs.Picks.{AreBelow, picked}
use Rattle.gb_share.proofs.Picking.{is_picked, none_picked, place_low}
use Rattle.gb_share.proofs.lines.Lines.get.Goals as goal

pub returns-in_err-place : goal.returns-in_err-place
returns-in_err-place c =
    rw c.from_residual.ensures
    (none_picked (arc_value c.self.inside.script) c.self.inside.places.items c.deref.result.now
    c.args.self.now c.args.at c.self.view_is c.self.invariant c.deref.ensures.value
    c.in_err-place.ensures.lookup.3)

pub bounds-items-place : goal.bounds-items-place
bounds-items-place c =
    place_low c.items.result.now c.self.inside.places.items c.deref.result.now c.args.at
    c.in_ok-place.place.now
    (subst (λ (s : List Asked). AreBelow (length s) c.self.inside.places.items)
    (sym (c.items.ensures ∙ c.deref-2.ensures)) c.self.invariant)
    c.deref.ensures.value c.in_ok-place.ensures.lookup.3.0 c.in_ok-place.ensures.lookup.1

pub returns : goal.returns
returns c =
    is_picked c.items.result.now c.self.inside.places.items c.deref.result.now c.args.self.now
    c.args.at c.in_ok-place.place.now c.index-items-place.result
    (subst (λ (s : List Asked). picked s c.self.inside.places.items ≡ c.args.self.now)
    (sym (c.items.ensures ∙ c.deref-2.ensures)) c.self.view_is)
    (subst (λ (s : List Asked). AreBelow (length s) c.self.inside.places.items)
    (sym (c.items.ensures ∙ c.deref-2.ensures)) c.self.invariant)
    c.deref.ensures.value c.in_ok-place.ensures.lookup.3.0 c.in_ok-place.ensures.lookup.1
    c.index-items-place.is
