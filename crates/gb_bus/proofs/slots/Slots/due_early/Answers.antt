-- The numbers found are all where no deadline is left that came.
use Rattle.std.proofs.Common.{◌≡◌, ◌+◌, ℕ, [], ap, rules, subst, sym, ◌∙◌, arith}
use Rattle.gb_bus.proofs.SlotDeadlines.{Walked, comes, due-are, walk-begins, walk-finds}
use Rattle.gb_bus.proofs.SlotDeadlines.{walk-over, walk-passes, walk-stops}
use Rattle.gb_bus.proofs.SlotDues.{due-ends, due-goes, due-keys, due-stops, earliest-first}
use Rattle.gb_bus.proofs.slots.Slots.due_early.Goals as goal
use Rattle.gb_bus.proofs.slots.Slots.due_early.Goals.{in-None, in-Some+then-deadline-now}
use Rattle.std.specs.BTreeSet.{insert_key}
use Rattle.std.specs.Ordering.{nat_cmp}
use Rattle.gb_bus.specs.Keeping.{time_of}
use Rattle.gb_bus.specs.Slots.{is_due, slot_at}
use Rattle.gb_bus.specs.Listing.{AreThose, stands_in}
use Rattle.gb_ops.proofs.Listing.{rising}

pub loop-deadline-preserved : goal.loop-deadline-preserved
loop-deadline-preserved c = (
  tt,
  tt,
  ap (λ ns. due-keys c.args.now ns (earliest-first c.next.new.self.iter))
      c.in_ok-insert.ensures.keys
      ∙ due-goes c.args.now c.loop-deadline.found.keys c.loop-deadline.deadline-iterator.iter
      c.next.new.self.iter c.in-Some.field-0.now c.in-Some.ensures.steps c.if-deadline-now.false
      ∙ c.loop-deadline.invariant.2,
)

pub loop-n-init : goal.loop-n-init
loop-n-init c =
    let start : c.into_iter-deadline-iterator.result.iter ≡ c.self.inside.deadlines.early.keys =
    search rules in
    let found = c.loop-deadline.found.keys in
    let left = c.loop-deadline.deadline-iterator.iter in
    let ended : found ≡ due-keys c.args.now found (earliest-first left) =
    elim c.match-next.branch [
      | in-None w ↦ due-ends c.args.now found left w.in-None.ensures.steps.0
      | in-Some+then-deadline-now w ↦
          due-stops c.args.now found left c.next.new.self.iter w.in-Some.field-0.now
          w.in-Some.ensures.steps w.if-deadline-now.true
    ] in
    walk-begins (time_of c.self.inside.slots c.self.inside.places) c.self.inside.deadlines
    c.self.inside.tally c.args.now c.self.invariant.timed found c.iter.ensures.ordered
    (ended ∙ c.loop-deadline.invariant.2
    ∙ ap (λ rs. due-keys c.args.now [] (earliest-first rs)) start)

pub loop-n-preserved-in_default : goal.loop-n-preserved-in_default
loop-n-preserved-in_default c =
    walk-passes (time_of c.self.inside.slots c.self.inside.places) c.self.inside.deadlines
    c.self.inside.tally c.args.now c.self.invariant.timed c.loop-n.n
    c.loop-n.found.keys (sym c.deadline_at.ensures ∙ c.in_default.is) c.loop-n.invariant

pub loop-n-preserved : goal.loop-n-preserved
loop-n-preserved c =
    subst (Walked (time_of c.self.inside.slots c.self.inside.places) c.self.inside.deadlines
    c.args.now (c.loop-n.n + 1)) (sym c.in_ok-insert-2.ensures.keys)
    (walk-finds (time_of c.self.inside.slots c.self.inside.places) c.self.inside.deadlines
    c.self.inside.tally c.args.now c.self.invariant.timed c.loop-n.n
    c.in-Some-deadline_at.time c.loop-n.found.keys
    (sym c.deadline_at.ensures ∙ c.in-Some-deadline_at.is) c.if-time-now.false
    c.loop-n.invariant)

pub returns : goal.returns
returns c =
    let times = time_of c.self.inside.slots c.self.inside.places in
    let i = c.loop-n.n in
    let all : (n : ℕ) → stands_in n c.loop-n-test.found.keys ≡ comes c.args.now (times n) =
    elim c.loop-n-test.branch [
      | goal.else-loop-n-test w ↦
          λ n. ap (λ f. stands_in n f.keys) w.found-is
          ∙ walk-over c.self.inside.slots c.self.inside.places c.self.inside.deadlines
          c.self.inside.tally c.args.now c.args.self.now c.self.invariant c.self.view_is i
          c.loop-n.found.keys (let past = w.loop-n-test.false in omega (arith, past))
          c.loop-n.invariant n
      | goal.then-loop-n-test+in_default+else-n-n-end w ↦
          λ n. ap (λ f. stands_in n f.keys) w.found-is
          ∙ walk-over c.self.inside.slots c.self.inside.places c.self.inside.deadlines
          c.self.inside.tally c.args.now c.args.self.now c.self.invariant c.self.view_is (i + 1)
          c.loop-n.found.keys (omega arith)
          (walk-passes times c.self.inside.deadlines c.self.inside.tally c.args.now
          c.self.invariant.timed i c.loop-n.found.keys
          (sym w.deadline_at.ensures ∙ w.in_default.is) c.loop-n.invariant) n
      | goal.then-loop-n-test+in-Some-deadline_at+then-time-now w ↦
          λ n. ap (λ f. stands_in n f.keys) w.found-is
          ∙ walk-stops times c.self.inside.deadlines c.self.inside.tally c.args.now
          c.self.invariant.timed i w.in-Some-deadline_at.time c.loop-n.found.keys
          (sym w.deadline_at.ensures ∙ w.in-Some-deadline_at.is) w.if-time-now.true
          c.loop-n.invariant n
      | goal.then-loop-n-test+in-Some-deadline_at+else-time-now+in_ok-insert-2+else-n-n-end-2 w ↦
          λ n. ap (λ f. stands_in n f.keys) w.found-is
          ∙ ap (stands_in n) w.in_ok-insert-2.ensures.keys
          ∙ walk-over c.self.inside.slots c.self.inside.places c.self.inside.deadlines
          c.self.inside.tally c.args.now c.args.self.now c.self.invariant c.self.view_is (i + 1)
          (insert_key nat_cmp c.loop-n.found.keys i)
          (omega arith)
          (walk-finds times c.self.inside.deadlines c.self.inside.tally c.args.now
          c.self.invariant.timed i w.in-Some-deadline_at.time c.loop-n.found.keys
          (sym w.deadline_at.ensures ∙ w.in-Some-deadline_at.is) w.if-time-now.false
          c.loop-n.invariant) n
    ] in
    subst (AreThose (λ n. is_due c.args.now (slot_at c.args.self.now n)))
    (sym c.in_ok-due.ensures.numbers)
    (due-are c.self.inside.slots c.self.inside.places c.self.inside.deadlines
    c.self.inside.tally c.args.now c.args.self.now c.self.invariant c.self.view_is
    c.loop-n-test.found.keys (rising c.loop-n-test.found.keys c.in_ok-due.ensures.sorted) all)
