use Rattle.std.proofs.lemmas.Result.{err_from_is_err_and}
use Rattle.gb_bridge_payload.proofs.SpiLaws.{has_entries, transfer_refused, transfer_taken}
use Rattle.gb_bridge_payload.proofs.spi_ask.transfer.Goals as goal

pub returns-in_err-of : goal.returns-in_err-of
returns-in_err-of c =
    let t = has_entries c.args.payload.now c.in_ok-front.field-0.now c.in_ok-entries.field-0.now
    c.read_u16-count.result c.written_by_entries.result c.in_ok-front.ensures.ok.1
    c.read_u16-count.ensures c.in_ok-entries.ensures.ok.0 c.in_ok-entries.ensures.ok.1
    c.written_by_entries.ensures.written in
    let p =
    err_from_is_err_and c.from_residual-in_err-of.result c.from_residual-in_err-of.ensures.1 in
    rw (p.1, p.2) (transfer_refused _ _ _ _ c.in_err-of.field-0.0 t c.in_err-of.ensures)

pub returns : goal.returns
returns c =
    let t = has_entries c.args.payload.now c.in_ok-front.field-0.now c.in_ok-entries.field-0.now
    c.read_u16-count.result c.written_by_entries.result c.in_ok-front.ensures.ok.1
    c.read_u16-count.ensures c.in_ok-entries.ensures.ok.0 c.in_ok-entries.ensures.ok.1
    c.written_by_entries.ensures.written in
    transfer_taken _ _ _ _ t c.in_ok-of.ensures.0
