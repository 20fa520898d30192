-- Those found are all where a deadline didn't come, or past the last number.
use Rattle.std.proofs.Common.{◌≡◌, ◌+◌, ◌++◌, ◌∷◌, ℕ, List, [], refl, subst, sym, ◌∙◌}
use Rattle.std.proofs.Common.{arith}
use Rattle.gb_bus.proofs.SlotDeadlines.{InOrder, order-begins, order-finds, order-over}
use Rattle.gb_bus.proofs.SlotDeadlines.{order-passes, order-stops}
use Rattle.gb_bus.proofs.slots.due_in_order.Goals as goal
use Rattle.gb_bus.specs.Keeping.{kept_in, time_of}
use Rattle.gb_bus.specs.Listing.{AreThose}
use Rattle.gb_bus.specs.Slots.{is_due, slot_at}

pub loop-n-init : goal.loop-n-init
loop-n-init c =
    subst (InOrder (time_of c.args.slots.now c.args.places.now) c.args.deadlines.now c.args.now
    c.args.deadlines.now.first) (sym c.new-due.ensures)
    (order-begins (time_of c.args.slots.now c.args.places.now) c.args.deadlines.now
    c.args.tally.now c.args.now c.requires.kept.timed c.requires.none_early)

pub loop-n-preserved-in_default : goal.loop-n-preserved-in_default
loop-n-preserved-in_default c =
    order-passes (time_of c.args.slots.now c.args.places.now) c.args.deadlines.now
    c.args.tally.now c.args.now c.requires.kept.timed c.loop-n.n c.loop-n.due
    (sym c.deadline_at.ensures ∙ c.in_default.is) c.loop-n.invariant

pub loop-n-preserved : goal.loop-n-preserved
loop-n-preserved c =
    subst (InOrder (time_of c.args.slots.now c.args.places.now) c.args.deadlines.now c.args.now
    (c.loop-n.n + 1)) (sym c.in_ok-push.ensures.ok)
    (order-finds (time_of c.args.slots.now c.args.places.now) c.args.deadlines.now
    c.args.tally.now c.args.now c.requires.kept.timed c.loop-n.n c.in-Some.time c.loop-n.due
    (sym c.deadline_at.ensures ∙ c.in-Some.is) c.if-time-now.false c.loop-n.invariant)

pub returns : goal.returns
returns c =
    let slots = c.args.slots.now in
    let places = c.args.places.now in
    let deadlines = c.args.deadlines.now in
    let tally = c.args.tally.now in
    let times = time_of slots places in
    let all = kept_in slots places tally in
    let kept = c.requires.kept in
    let i = c.loop-n.n in
    let found = c.loop-n.due in
    let are : (ns : List ℕ) → c.loop-n-test.due ≡ ns
    → AreThose (λ n. is_due c.args.now (slot_at all n)) ns
    → AreThose (λ n. is_due c.args.now (slot_at all n)) c.loop-n-test.due =
    λ ns e h. subst (AreThose (λ n. is_due c.args.now (slot_at all n))) (sym e) h in
    elim c.loop-n-test.branch [
      | goal.else-loop-n-test w ↦
          are found w.due-is
          (order-over slots places deadlines tally c.args.now all kept refl i found
          (let past = w.loop-n-test.false in omega (arith, past)) c.loop-n.invariant)
      | goal.then-loop-n-test+in_default+else-n-n-end w ↦
          are found w.due-is
          (order-over slots places deadlines tally c.args.now all kept refl (i + 1) found
          (omega arith)
          (order-passes times deadlines tally c.args.now kept.timed i found
          (sym w.deadline_at.ensures ∙ w.in_default.is) c.loop-n.invariant))
      | goal.then-loop-n-test+in-Some+then-time-now w ↦
          are found w.due-is
          (order-stops slots places deadlines tally c.args.now all kept refl i w.in-Some.time
          found (sym w.deadline_at.ensures ∙ w.in-Some.is) w.if-time-now.true
          c.loop-n.invariant)
      | goal.then-loop-n-test+in-Some+else-time-now+in_ok-push+else-n-n-end-2 w ↦
          are (found ++ i ∷ []) (w.due-is ∙ w.in_ok-push.ensures.ok)
          (order-over slots places deadlines tally c.args.now all kept refl (i + 1)
          (found ++ i ∷ []) (omega arith)
          (order-finds times deadlines tally c.args.now kept.timed i w.in-Some.time found
          (sym w.deadline_at.ensures ∙ w.in-Some.is) w.if-time-now.false c.loop-n.invariant))
    ]
