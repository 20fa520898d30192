-- The side of the application processor is closed in the machine's state, and its requests ended.
use Rattle.std.proofs.Common.{ap, subst}
use Rattle.gb_base.specs.declared.end.Side.TheVariants as side
use Rattle.gb_bus.proofs.Quiet.{none-listed}
use Rattle.gb_bus.proofs.Wires.{shuts}
use Rattle.gb_bus.specs.Slots.{Closes}
use Rattle.gb_bus.proofs.bus.Bus.shut.Goals as goal

pub returns-in_err-note-clause-few : goal.returns-in_err-note-clause-few
returns-in_err-note-clause-few c = λ around b s quiet.
    let never = c.in_err-note.ensures.few
    (none-listed around c.args.self.now b c.args.k side.Ap c.in_ok-unended.unended s
    (c.in_ok-unended.ensures.lists around b s) quiet) in
    absurd (cc never)

pub returns-clause-step : goal.returns-clause-step
returns-clause-step c = λ around b s.
    shuts around c.args.self.now _ b c.args.k c.args.ended.now c.note.new.ended
    c.in_ok-unended.unended c.in_ok-late.late s
    (ap (λ cs. record c.args.self.now { connections = cs; slots = c.close.new.self })
    c.shut.ensures) (c.in_ok-unended.ensures.lists around b s)
    (c.in_ok-late.ensures.lists around b s)
    (subst (λ ns. Closes ns c.in_ok-late.late c.args.self.now.slots c.close.new.self)
    c.items.ensures
    (subst (λ ns. Closes c.items.result.now ns c.args.self.now.slots c.close.new.self)
    c.items-2.ensures c.close.ensures))
    c.in_ok-note.ensures.noted
