use Rattle.std.proofs.Common.{rules}
use Rattle.std.proofs.lemmas.Result.{err_from_is_err_and}
use Rattle.gb_bridge_payload.proofs.I2cLaws.{has_ops, transfer_has_form, transfer_refused}
use Rattle.gb_bridge_payload.proofs.I2cLaws.{transfer_taken}
use Rattle.gb_bridge_payload.proofs.i2c_ask.transfer.Goals as goal

pub returns-in_err-of-clause-answer : goal.returns-in_err-of-clause-answer
returns-in_err-of-clause-answer c =
    let t = has_ops c.args.payload.now c.in_ok-front.field-0.now c.in_ok-ops.field-0.now
    c.read_u16-count.result c.written_by_ops.result c.in_ok-front.ensures.ok.1
    c.read_u16-count.ensures c.in_ok-ops.ensures.ok.0 c.in_ok-ops.ensures.ok.1
    c.written_by_ops.ensures.written in
    let p =
    err_from_is_err_and c.from_residual-in_err-of.result c.from_residual-in_err-of.ensures.1 in
    rw (p.1, p.2) (transfer_refused _ _ _ _ c.in_err-of.field-0.0 t c.in_err-of.ensures)

pub returns-clause-answer : goal.returns-clause-answer
returns-clause-answer c =
    let t = has_ops c.args.payload.now c.in_ok-front.field-0.now c.in_ok-ops.field-0.now
    c.read_u16-count.result c.written_by_ops.result c.in_ok-front.ensures.ok.1
    c.read_u16-count.ensures c.in_ok-ops.ensures.ok.0 c.in_ok-ops.ensures.ok.1
    c.written_by_ops.ensures.written in
    transfer_taken _ _ _ _ t c.in_ok-of.ensures.0

pub returns-clause-form : goal.returns-clause-form
returns-clause-form c =
    transfer_has_form c.args.payload.now c.in_ok-ops.field-0.now c.read_u16-count.result
    c.written_by_ops.result (search rules) c.in_ok-ops.ensures.ok.0 c.in_ok-ops.ensures.ok.1
    c.written_by_ops.ensures.written c.in_ok-of.ensures.0
