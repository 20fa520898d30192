use Rattle.std.proofs.Common.{◌≡◌, List, ◌++◌, length, map, arith, refl, ap, append-nil}
use Rattle.std.proofs.Common.{drop_of_length-le}
use Rattle.std.specs.List.{concat}
use Rattle.gb_bridge_payload.proofs.Putting.{next_before, next_piece, putting_all, putting_more}
use Rattle.gb_bridge_payload.proofs.Putting.{putting_none, putting_room}
use Rattle.gb_formats.specs.Bridges.{i2c_op_bytes, i2c_transfer, i2c_written}
use Rattle.gb_formats.specs.I2cRecords.{i2c_ask_payload}
use Rattle.gb_base.specs.declared.bridge.I2cOp.{I2cOp}
use Rattle.gb_formats.specs.Bytes.{le16}
use Rattle.gb_i2c.proofs.Sizes.{is_small, ops_counted, written_fits}
use Rattle.gb_i2c.proofs.bridging.transfer.Goals as goal

pub overflow_cast-ops : goal.overflow_cast-ops
overflow_cast-ops c =
    let small = is_small c.args.ops.now c.if-not-fits.ensures in omega (arith, small.count)

-- the payload begins with the number of ops
counted : (ops : List I2cOp) → i2c_ask_payload (i2c_transfer ops)
    ≡ le16 (length ops) ++ (concat (map i2c_op_bytes ops) ++ concat (map i2c_written ops))
counted ops =
    ap (λ n. le16 n ++ (concat (map i2c_op_bytes ops) ++ concat (map i2c_written ops)))
    (ops_counted ops)

pub loop-op-init : goal.loop-op-init
loop-op-init c =
    let whole = i2c_ask_payload (i2c_transfer c.args.ops.now) in
    putting_more whole whole _ _ c.args.out.now c.args.out.now c.put_behind-at.new.out 0
    c.put_behind-at.result (counted c.args.ops.now) c.put_behind-at.ensures.place
    c.put_behind-at.ensures.bytes (putting_none whole c.args.out.now)

pub fields-requires : goal.fields-requires
fields-requires c =
    written_fits c.args.ops.now c.op-item.result c.loop-op.op-index c.loop-op-test.true c.op-item.is
    (is_small c.args.ops.now c.if-not-fits.ensures)

pub put_behind-at-requires-in-loop-op : goal.put_behind-at-requires-in-loop-op
put_behind-at-requires-in-loop-op c =
    let ops = c.args.ops.now in
    let small = is_small ops c.if-not-fits.ensures in
    let next = next_before i2c_op_bytes ops c.op-item.result c.loop-op.op-index
    (concat (map i2c_written ops)) c.loop-op-test.true c.op-item.is in
    rw c.fields.ensures
    (putting_room _ _ (i2c_op_bytes c.op-item.result) _ _ _ c.loop-op.at next
    (omega (arith, small.size)) c.loop-op.invariant)

pub put_behind-at-requires-in-loop-op-2 : goal.put_behind-at-requires-in-loop-op-2
put_behind-at-requires-in-loop-op-2 c =
    let ops = c.args.ops.now in
    let small = is_small ops c.if-not-fits.ensures in
    let next = next_piece i2c_written ops c.op-item-in-loop-op-2.result c.loop-op-2.op-index
    c.loop-op-2-test.true c.op-item-in-loop-op-2.is in
    rw (append-nil, c.written.ensures)
    (putting_room _ _ (i2c_written c.op-item-in-loop-op-2.result) _ _ _ c.loop-op-2.at next
    (omega (arith, small.size)) c.loop-op-2.invariant)

pub returns : goal.returns
returns c =
    let ops = c.args.ops.now in
    let small = is_small ops c.if-not-fits.ensures in
    let none =
    ap (λ left. concat (map i2c_written left)) (drop_of_length-le ops c.loop-op-2-test.false) in
    let written =
    putting_all (i2c_ask_payload (i2c_transfer ops)) _ _ _ _ none c.loop-op-2.invariant in (
      (5, i2c_ask_payload (i2c_transfer ops)),
      rw small.large refl,
      record { kind = refl; len = written.0; bytes = written.1 },
    )
