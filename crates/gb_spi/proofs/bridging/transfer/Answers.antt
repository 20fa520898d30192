use Rattle.std.proofs.Common.{◌≡◌, ℕ, List, ◌∷◌, ◌++◌, length, map, arith, ap, append-nil}
use Rattle.std.proofs.Common.{drop_of_length-le}
use Rattle.std.specs.List.{concat}
use Rattle.gb_bridge_payload.proofs.Putting.{next_before, next_piece, putting_all, putting_more}
use Rattle.gb_bridge_payload.proofs.Putting.{putting_none, putting_room}
use Rattle.gb_formats.specs.Bridges.{spi_op_bytes, spi_transfer, spi_written}
use Rattle.gb_formats.specs.SpiRecords.{spi_ask_payload}
use Rattle.gb_base.specs.declared.bridge.SpiOp.{SpiOp}
use Rattle.gb_formats.specs.Bytes.{le16}
use Rattle.gb_spi.proofs.Bridged.{bridged, counted, entries_counted, payload_fits_in, written_fits}
use Rattle.gb_spi.proofs.bridging.transfer.Goals as goal

pub overflow_cast-ops : goal.overflow_cast-ops
overflow_cast-ops c =
    let count = counted c.args.ops.now c.if-not-payload_fits.ensures in omega (arith, count)

-- the payload begins with chip select, mode and the number of entries
counts : (select mode : ℕ) (ops : List SpiOp) → spi_ask_payload (spi_transfer select mode ops)
    ≡ select ∷ mode ∷ le16 (length ops)
    ++ (concat (map spi_op_bytes ops) ++ concat (map spi_written ops))
counts select mode ops =
    ap (λ n.
    select ∷ mode ∷ le16 n ++ (concat (map spi_op_bytes ops) ++ concat (map spi_written ops)))
    (entries_counted ops)

pub loop-op-init : goal.loop-op-init
loop-op-init c =
    let whole = spi_ask_payload (spi_transfer c.args.select c.args.mode c.args.ops.now) in
    putting_more whole whole _ _ c.args.out.now c.args.out.now c.put_behind-at.new.out 0
    c.put_behind-at.result (counts c.args.select c.args.mode c.args.ops.now)
    c.put_behind-at.ensures.place c.put_behind-at.ensures.bytes (putting_none whole c.args.out.now)

pub fields-requires : goal.fields-requires
fields-requires c =
    written_fits c.args.ops.now c.op-item.result c.loop-op.op-index c.loop-op-test.true c.op-item.is
    c.if-not-payload_fits.ensures

pub put_behind-at-requires-in-loop-op : goal.put_behind-at-requires-in-loop-op
put_behind-at-requires-in-loop-op c =
    let ops = c.args.ops.now in
    let room = payload_fits_in c.args.select c.args.mode ops c.args.out.now c.requires
    c.if-not-payload_fits.ensures in
    let next = next_before spi_op_bytes ops c.op-item.result c.loop-op.op-index
    (concat (map spi_written ops)) c.loop-op-test.true c.op-item.is in
    rw c.fields.ensures
    (putting_room _ _ (spi_op_bytes c.op-item.result) _ _ _ c.loop-op.at next room
    c.loop-op.invariant)

pub put_behind-at-requires-in-loop-op-2 : goal.put_behind-at-requires-in-loop-op-2
put_behind-at-requires-in-loop-op-2 c =
    let ops = c.args.ops.now in
    let room = payload_fits_in c.args.select c.args.mode ops c.args.out.now c.requires
    c.if-not-payload_fits.ensures in
    let next = next_piece spi_written ops c.op-item-in-loop-op-2.result c.loop-op-2.op-index
    c.loop-op-2-test.true c.op-item-in-loop-op-2.is in
    rw (append-nil, c.written.ensures)
    (putting_room _ _ (spi_written c.op-item-in-loop-op-2.result) _ _ _ c.loop-op-2.at next room
    c.loop-op-2.invariant)

pub returns : goal.returns
returns c =
    let ops = c.args.ops.now in
    let none =
    ap (λ left. concat (map spi_written left)) (drop_of_length-le ops c.loop-op-2-test.false) in
    bridged c.args.select c.args.mode c.loop-op-2.at ops c.args.out.now c.loop-op-2.out
    c.if-not-payload_fits.ensures c.if-not-reads_fit.ensures
    (putting_all _ _ _ _ _ none c.loop-op-2.invariant)
