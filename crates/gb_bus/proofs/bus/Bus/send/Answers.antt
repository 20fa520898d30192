-- A send stands for the machine's.
use Rattle.std.proofs.Common.{Err, None, true, ap, refl, subst, sym, ◌+◌, ◌∙◌}
use Rattle.std.proofs.lemmas.Result.{err_from_is_err_and}
use Rattle.gb_bus.proofs.Sends.{made-where, sends, sends_none}
use Rattle.gb_bus.proofs.SlotNew.{placed}
use Rattle.gb_bus.specs.Sending.{MadeWhere, SendsAs}
use Rattle.gb_bus.specs.Stands.{kept}
use Rattle.gb_machine.specs.Sending.{draft, requested}
use Rattle.gb_bus.proofs.bus.Bus.send.Goals as goal

pub returns-in_err-label-clause-step : goal.returns-in_err-label-clause-step
returns-in_err-label-clause-step c = λ around b s.
    let p = err_from_is_err_and c.from_residual-in_err-label.result
    c.from_residual-in_err-label.ensures.1 in
    subst (SendsAs around (record c.args.self.now { connections = c.ask.new.self })
    (draft c.args.k c.args.side c.args.kind c.args.payload.now c.args.deadline c.args.oneway) b)
    (sym (p.1 ∙ ap Err p.2))
    (sends_none around c.args.self.now c.ask.new.self b c.args.k c.args.side c.in_ok-number.number
    c.args.kind c.args.payload.now c.args.deadline c.args.oneway
    c.in_err-label.field-0.0 s c.in_err-label.ensures)

pub returns-in_err-label-clause-live : goal.returns-in_err-label-clause-live
returns-in_err-label-clause-live c =
    let p = err_from_is_err_and c.from_residual-in_err-label.result
    c.from_residual-in_err-label.ensures.1 in
    subst (MadeWhere c.args.self.now c.args.k c.args.side c.args.oneway) (sym (p.1 ∙ ap Err p.2))
    (made-where c.args.self.now c.ask.new.self c.args.k c.args.side c.in_ok-number.number
    c.args.kind c.args.payload.now c.args.deadline c.args.oneway c.in_err-label.field-0.0
    c.in_err-label.ensures)

pub returns-clause-step : goal.returns-clause-step
returns-clause-step c = λ around b s.
    sends around c.args.self.now b c.args.k c.args.side c.args.kind c.args.payload.now
    c.args.deadline c.args.oneway c.in_ok-label.label c.in_ok-number.number
    c.in_ok-label.lost
    (kept c.in_ok-number.number true 0 None (requested (draft c.args.k c.args.side
    c.args.kind c.args.payload.now c.args.deadline c.args.oneway) c.in_ok-label.label)) _ _ s
    (c.in_ok-number.ensures.sum ∙ ap (λ n. n + 1) c.count.ensures) c.in_ok-label.ensures refl
    c.in_ok-add.ensures

pub returns-clause-placed : goal.returns-clause-placed
returns-clause-placed c = λ once. placed c.args.oneway _ _ _ c.in_ok-add.ensures once
