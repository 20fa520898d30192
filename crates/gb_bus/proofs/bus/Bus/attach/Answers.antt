-- The connection is made in the machine's state.
use Rattle.std.proofs.Common.{ap, sym, ◌∙◌}
use Rattle.gb_base.specs.declared.end.End.TheVariants as end
use Rattle.gb_bus.proofs.EndsTaken.{untaken}
use Rattle.gb_bus.proofs.Wires.{attaches, next-last}
use Rattle.gb_bus.specs.Parts.{is_taken, new_connection}
use Rattle.gb_invariants.proofs.Awaiting.{not-both}
use Rattle.gb_bus.proofs.bus.Bus.attach.Goals as goal

pub returns-then-is_taken-clause-step : goal.returns-then-is_taken-clause-step
returns-then-is_taken-clause-step c = λ around b s may.
    not-both
    (is_taken c.in_ok-number.number c.args.ap (end.Module c.args.intf c.args.cport)
    c.args.self.now.connections)
    (sym c.is_taken.ensures ∙ c.if-is_taken.true)
    (ap (λ n. is_taken n c.args.ap (end.Module c.args.intf c.args.cport)
    c.args.self.now.connections) c.in_ok-number.ensures.sum
    ∙ untaken around c.args.self.now b c.args.ap c.args.intf c.args.cport s may)

pub returns-clause-step : goal.returns-clause-step
returns-clause-step c = λ around b s may.
    attaches around c.args.self.now _ b c.args.ap c.args.intf c.args.cport c.args.protocol
    c.in_ok-number.number s may c.in_ok-number.ensures.sum
    (ap (λ cs. record c.args.self.now { made = c.in_ok-number.number; connections = cs })
    (c.in_ok-add.ensures.added
    ∙ next-last around c.args.self.now b (new_connection c.in_ok-number.number c.args.ap
    (end.Module c.args.intf c.args.cport) c.args.protocol) s c.in_ok-number.ensures.sum))
