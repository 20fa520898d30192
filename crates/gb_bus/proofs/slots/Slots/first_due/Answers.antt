-- The least so far is the least of all where no deadline is left that came.
use Rattle.std.proofs.Common.{◌≡◌, None, Some, ap, rules, sym, ◌∙◌}
use Rattle.gb_bus.proofs.SlotDeadlines.{first-came, first-is, first-late, none-first}
use Rattle.gb_bus.proofs.SlotDues.{earliest-first, least-ends, least-from, least-goes, least-stops}
use Rattle.gb_bus.proofs.slots.Slots.first_due.Goals as goal
use Rattle.gb_bus.specs.Keeping.{time_of}

pub returns-in_default : goal.returns-in_default
returns-in_default c =
    none-first c.self.inside.slots c.self.inside.places c.self.inside.deadlines
    c.self.inside.tally c.args.now c.args.self.now c.self.invariant c.self.view_is
    (sym c.deadline_at.ensures ∙ c.in_default.is)

pub returns-then-earliest-now : goal.returns-then-earliest-now
returns-then-earliest-now c =
    first-is c.self.inside.slots c.self.inside.places c.self.inside.deadlines c.self.inside.tally
    c.args.now c.args.self.now c.self.invariant c.self.view_is
    (Some c.self.inside.deadlines.first)
    (first-came (time_of c.self.inside.slots c.self.inside.places) c.self.inside.deadlines
    c.self.inside.tally c.args.now c.self.invariant.timed c.in-Some.earliest
    (sym c.deadline_at.ensures ∙ c.in-Some.is) c.if-earliest-now.true)

pub loop-deadline-preserved : goal.loop-deadline-preserved
loop-deadline-preserved c = (
  tt,
  tt,
  ap (λ least. least-from c.args.now least (earliest-first c.next.new.self.iter))
      c.lesser-least.ensures
      ∙ least-goes c.args.now c.loop-deadline.least c.loop-deadline.deadline-iterator.iter
      c.next.new.self.iter c.in-Some-2.field-0.now c.in-Some-2.ensures.steps
      c.if-deadline-now.false
      ∙ c.loop-deadline.invariant.2,
)

pub returns-in-None : goal.returns-in-None
returns-in-None c =
    let start : c.into_iter-deadline-iterator.result.iter ≡ c.self.inside.deadlines.early.keys =
    search rules in
    first-is c.self.inside.slots c.self.inside.places c.self.inside.deadlines c.self.inside.tally
    c.args.now c.args.self.now c.self.invariant c.self.view_is c.loop-deadline.least
    (first-late (time_of c.self.inside.slots c.self.inside.places) c.self.inside.deadlines
    c.self.inside.tally c.args.now c.self.invariant.timed c.in-Some.earliest
    c.loop-deadline.least c.iter.ensures.ordered (sym c.deadline_at.ensures ∙ c.in-Some.is)
    c.if-earliest-now.false
    (least-ends c.args.now c.loop-deadline.least c.loop-deadline.deadline-iterator.iter
    c.in-None.ensures.steps.0
    ∙ c.loop-deadline.invariant.2
    ∙ ap (λ rs. least-from c.args.now None (earliest-first rs)) start))

pub returns-then-deadline-now : goal.returns-then-deadline-now
returns-then-deadline-now c =
    let start : c.into_iter-deadline-iterator.result.iter ≡ c.self.inside.deadlines.early.keys =
    search rules in
    first-is c.self.inside.slots c.self.inside.places c.self.inside.deadlines c.self.inside.tally
    c.args.now c.args.self.now c.self.invariant c.self.view_is c.loop-deadline.least
    (first-late (time_of c.self.inside.slots c.self.inside.places) c.self.inside.deadlines
    c.self.inside.tally c.args.now c.self.invariant.timed c.in-Some.earliest
    c.loop-deadline.least c.iter.ensures.ordered (sym c.deadline_at.ensures ∙ c.in-Some.is)
    c.if-earliest-now.false
    (least-stops c.args.now c.loop-deadline.least c.loop-deadline.deadline-iterator.iter
    c.next.new.self.iter c.in-Some-2.field-0.now c.in-Some-2.ensures.steps
    c.if-deadline-now.true
    ∙ c.loop-deadline.invariant.2
    ∙ ap (λ rs. least-from c.args.now None (earliest-first rs)) start))
