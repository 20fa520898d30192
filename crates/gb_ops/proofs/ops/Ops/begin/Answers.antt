-- The identifier that came next is in use, by an open request.
use Rattle.std.proofs.Common.{sym, subst, ◌∙◌}
use Rattle.gb_labels.specs.Drawing.{Takes}
use Rattle.gb_ops.proofs.Changing.{begins, begins_anew, begun_anew_kept, begun_kept, view}
use Rattle.gb_ops.specs.Calls.{Begins}
use Rattle.gb_ops.specs.Tables.{Kept}
use Rattle.gb_ops.specs.declared.ops.Ops.TheInside.{Inside}
use Rattle.gb_ops.proofs.ops.Ops.begin.Goals.{in-Some, in_default-former}
use Rattle.gb_ops.proofs.ops.Ops.begin.Goals as goal

pub invariant_of-self-2 : goal.invariant_of-self-2
invariant_of-self-2 c =
    elim c.match-former.branch [
      | in-Some w ↦
          subst (λ (i : Inside). Kept c.take.new.self i.tables) (sym w.self-inside-is)
          (begun_anew_kept c.self.inside.labels w.free.new.self c.take.new.self
          c.self.inside.tables c.enter.new.self w.release.new.self c.in-Ok.label c.args.n
          c.args.deadline w.in-Some.former w.release.result c.self.invariant c.in-Ok.ensures.step
          (sym c.in-Ok-enter.ensures.former ∙ w.in-Some.is) c.in-Ok-enter.ensures.entered
          w.release.ensures w.free.ensures
          (subst (λ (i : Inside). Takes i.labels c.take.new.self c.in-Ok.label) w.self-inside-is
          c.take.ensures))
      | in_default-former w ↦
          subst (λ (i : Inside). Kept c.take.new.self i.tables) (sym w.self-inside-is)
          (begun_kept c.self.inside.labels c.take.new.self c.self.inside.tables c.enter.new.self
          c.in-Ok.label c.args.n c.args.deadline c.self.invariant c.in-Ok.ensures.step
          (sym c.in-Ok-enter.ensures.former ∙ w.in_default-former.is)
          c.in-Ok-enter.ensures.entered
          (subst (λ (i : Inside). Takes i.labels c.take.new.self c.in-Ok.label) w.self-inside-is
          c.take.ensures))
    ]

pub returns : goal.returns
returns c =
    elim c.match-former.branch [
      | in-Some w ↦
          subst
          (λ (i : Inside).
          Begins c.args.self.now (view c.take.new.self i.tables) c.args.n c.args.deadline
          c.in-Ok.label)
          (sym w.self-inside-is)
          (begins_anew c.self.inside.labels w.free.new.self c.take.new.self
          c.self.inside.tables c.enter.new.self w.release.new.self c.args.self.now c.in-Ok.label
          c.args.n c.args.deadline w.in-Some.former w.release.result c.self.invariant
          c.self.view_is c.in-Ok.ensures.step
          (sym c.in-Ok-enter.ensures.former ∙ w.in-Some.is) c.in-Ok-enter.ensures.entered
          w.release.ensures
          (subst (λ (i : Inside). Takes i.labels c.take.new.self c.in-Ok.label) w.self-inside-is
          c.take.ensures))
      | in_default-former w ↦
          subst
          (λ (i : Inside).
          Begins c.args.self.now (view c.take.new.self i.tables) c.args.n c.args.deadline
          c.in-Ok.label)
          (sym w.self-inside-is)
          (begins c.self.inside.labels c.take.new.self c.self.inside.tables c.enter.new.self
          c.args.self.now c.in-Ok.label c.args.n c.args.deadline c.self.invariant c.self.view_is
          c.in-Ok.ensures.step (sym c.in-Ok-enter.ensures.former ∙ w.in_default-former.is)
          c.in-Ok-enter.ensures.entered
          (subst (λ (i : Inside). Takes i.labels c.take.new.self c.in-Ok.label) w.self-inside-is
          c.take.ensures))
    ]
