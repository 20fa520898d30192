use Rattle.std.proofs.Common.{◌++◌, Err, refl, ap}
use Rattle.gb_wire.specs.MessageOf.{messages_of}
use Rattle.gb_wire.specs.Streams.{held}
use Rattle.gb_wire.specs.declared.feeder.FeedFault.TheVariants as feed
use Rattle.gb_wire.proofs.Feeding.{held-some, held-none, stays_stopped, stopped-due, stops-first}
use Rattle.gb_wire.proofs.Feeding.{due-first, begins-same, hands_out}
use Rattle.gb_wire.proofs.feeder.Feeder.feed.Goals as goal

-- the fault was answered before

pub returns-in-Some-clause-stream : goal.returns-in-Some-clause-stream
returns-in-Some-clause-stream c =
    let at = held-some _ _ _ _ c.self.view_is c.in-Some.is in
    rw at (λ came out h. (stays_stopped came c.args.piece.now out c.in-Some.fault h, refl))

pub returns-in-Some-clause-due : goal.returns-in-Some-clause-due
returns-in-Some-clause-due c =
    let at = held-some _ _ _ _ c.self.view_is c.in-Some.is in
    rw at (λ came rest out fault h s b.
    ap (λ f. Err (feed.Wire f))
    (stopped-due came c.args.piece.now rest out c.in-Some.fault fault h s b))

-- the fault stands in front

pub returns-in-Some-first_fault-clause-stream : goal.returns-in-Some-first_fault-clause-stream
returns-in-Some-first_fault-clause-stream c =
    let left = c.deref.result.now in
    let at = held-none _ _ _ left c.self.view_is c.in_default.is c.deref.ensures.value in
    rw at (λ came out h. (
      stops-first came left c.args.piece.now out c.in-Some-first_fault.fault h
          c.in-Some-first_fault.ensures,
      refl,
    ))

pub returns-in-Some-first_fault-clause-due : goal.returns-in-Some-first_fault-clause-due
returns-in-Some-first_fault-clause-due c =
    let left = c.deref.result.now in
    let at = held-none _ _ _ left c.self.view_is c.in_default.is c.deref.ensures.value in
    rw at (λ came rest out fault h s b.
    ap (λ f. Err (feed.Wire f))
    (begins-same c.in-Some-first_fault.fault fault (left ++ c.args.piece.now)
    c.in-Some-first_fault.ensures (due-first came left c.args.piece.now rest out fault h s b)))

-- no fault stands in front

pub returns-in_err-messages-clause-due : goal.returns-in_err-messages-clause-due
returns-in_err-messages-clause-due c =
    let left = c.deref.result.now in
    let at = held-none _ _ _ left c.self.view_is c.in_default.is c.deref.ensures.value in
    rw at (λ came rest out fault h s b.
    absurd (c.in_default-first_fault.ensures fault
    (due-first came left c.args.piece.now rest out fault h s b)))

pub returns-clause-stream : goal.returns-clause-stream
returns-clause-stream c =
    let left = c.self.inside.left.items in
    let at = held-none _ _ _ left c.self.view_is c.in_default.is refl in
    rw at (λ came out h.
    hands_out came left c.args.piece.now out (messages_of c.in_ok-messages.messages)
    (held c.in_ok-messages.fault c.take_whole.new.left.items) h c.in_ok-messages.ensures.ok)

pub returns-clause-due : goal.returns-clause-due
returns-clause-due c =
    let left = c.deref.result.now in
    let at = held-none _ _ _ left c.self.view_is c.in_default.is c.deref.ensures.value in
    rw at (λ came rest out fault h s b.
    absurd (c.in_default-first_fault.ensures fault
    (due-first came left c.args.piece.now rest out fault h s b)))
