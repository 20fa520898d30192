use Rattle.std.proofs.Common.{arith}
use Rattle.gb_desk.proofs.SlotLists.{first_noted}
use Rattle.gb_desk.proofs.slots.note_all.Goals as goal

pub returns : goal.returns
returns c =
    let end = c.loop-at-test.false in
    first_noted c.args.entries.now c.args.slots.now c.loop-at.slots c.loop-at.at
    (λ i high. c.requires.unused i (omega arith)) c.loop-at.invariant.done
    c.loop-at.invariant.rest
