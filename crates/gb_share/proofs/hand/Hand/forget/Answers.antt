use Rattle.std.proofs.Common.{◌∙◌, ap, subst, sym}
use Rattle.gb_share.proofs.HandSteps.{forgets_none, forgets_some, renames_undone}
use Rattle.gb_share.proofs.hand.Hand.forget.Goals as goal
use Rattle.gb_share.proofs.hand.Hand.forget.Goals.{else-is_done, then-is_done+in-Some}
use Rattle.gb_share.proofs.hand.Hand.forget.Goals.{then-is_done+in_default}
use Rattle.gb_share.specs.Hands.{knows}
use Rattle.gb_share.specs.Names.{Renames, without_name}
use Rattle.gb_share.specs.declared.hand.Hand.{Hand}

pub returns-clause-forgets : goal.returns-clause-forgets
returns-clause-forgets c =
    elim c.if-is_done.branch [
      | then-is_done+in-Some w ↦
          subst
          (λ (h : Hand). Renames (without_name c.args.name.now) (knows c.args.self.now)
          c.args.self.now.held.items c.args.by c.args.e.now c.in_ok-entries.entries (knows h)
          h.held.items)
          (sym w.self-is)
          (forgets_some _ _ _ _ _ _ _ _ _ _ _ c.in_ok-entries.ensures.calls
          (ap (λ h. h.items) c.call.ensures.held) w.if-is_done.ensures
          (sym w.find.ensures.place ∙ w.in-Some.is) w.give_back.ensures.stays
          w.give_back.ensures.held)
      | then-is_done+in_default w ↦
          subst
          (λ (h : Hand). Renames (without_name c.args.name.now) (knows c.args.self.now)
          c.args.self.now.held.items c.args.by c.args.e.now c.in_ok-entries.entries (knows h)
          h.held.items)
          (sym w.self-is)
          (forgets_none _ _ _ _ _ _ _ _ c.in_ok-entries.ensures.calls
          (ap (λ h. h.items) c.call.ensures.held) w.if-is_done.ensures
          (sym w.find.ensures.place ∙ w.in_default.is))
      | else-is_done w ↦
          subst
          (λ (h : Hand). Renames (without_name c.args.name.now) (knows c.args.self.now)
          c.args.self.now.held.items c.args.by c.args.e.now c.in_ok-entries.entries (knows h)
          h.held.items)
          (sym w.self-is)
          (renames_undone _ _ _ _ _ _ _ _ c.in_ok-entries.ensures.calls
          (sym w.if-is_done.ensures) (ap (λ h. h.items) c.call.ensures.held))
    ]
