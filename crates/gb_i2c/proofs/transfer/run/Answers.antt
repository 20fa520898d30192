use Rattle.std.proofs.Common.{arith, rules}
use Rattle.gb_bridge_payload.specs.Views.{op_of}
use Rattle.gb_i2c.proofs.Running.{enough, next_few, runs_all, runs_more}
use Rattle.gb_i2c.proofs.transfer.run.Goals as goal

pub first-requires : goal.first-requires
first-requires c =
    let counted = c.loop.invariant.counted.whole in omega (arith, counted, c.loop-test.true)

pub split_at-requires : goal.split_at-requires
split_at-requires c =
    let room = enough c.args.count c.loop.counter c.loop.ops.now c.loop.bytes.now
    (op_of c.first.result.0) c.loop-test.true c.first.ensures.op c.loop.invariant.counted in
    omega (arith, room, c.written_size.ensures)

pub apply-requires : goal.apply-requires
apply-requires c = omega (arith, c.split_at.ensures.front_len, c.written_size.ensures)

pub returns-clause-step : goal.returns-clause-step
returns-clause-step c =
    runs_all c.args.count c.loop.counter c.args.memory.now c.loop.memory c.args.ops.now
    c.args.bytes.now c.args.answer.now c.loop.ops.now c.loop.bytes.now c.loop.answer
    c.loop-test.false c.loop.invariant

pub returns-in_err-apply-clause-few : goal.returns-in_err-apply-clause-few
returns-in_err-apply-clause-few c few =
    let fails = c.in_err-apply.ensures.few
    (next_few c.args.count c.loop.counter c.args.memory.now c.loop.memory c.args.ops.now
    c.args.bytes.now c.args.answer.now c.loop.ops.now c.loop.bytes.now c.loop.answer
    (op_of c.first.result.0) c.loop-test.true c.first.ensures.op c.loop.invariant few) in
    cc

pub loop-preserved : goal.loop-preserved
loop-preserved c =
    runs_more c.args.count c.loop.counter c.args.memory.now c.loop.memory c.apply.new.memory
    c.args.ops.now c.args.bytes.now c.args.answer.now c.loop.ops.now c.loop.bytes.now c.loop.answer
    c.first.result.1.now c.split_at.result.1.now c.apply.new.answer c.split_at.result.0.now
    (op_of c.first.result.0) c.loop-test.true c.first.ensures.op c.first.ensures.rest (search rules)
    (search rules) c.in_ok-apply.ensures.memory c.in_ok-apply.ensures.answer c.loop.invariant
