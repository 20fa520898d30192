use Rattle.std.proofs.Common.{arith, refl}
use Rattle.gb_i2c.proofs.Places.{midway_bytes, midway_memory, midway_more, midway_none}
use Rattle.gb_i2c.proofs.memory.Memory.read.Goals as goal

pub loop-init : goal.loop-init
loop-init c =
    midway_none c.args.count c.self.inside.bytes c.self.inside.pointer c.args.answer.now
    c.self.invariant

pub loop-preserved : goal.loop-preserved
loop-preserved c =
    midway_more c.args.count c.loop.counter c.self.inside.bytes c.self.inside.pointer c.loop.place _
    c.args.answer.now c.loop.answer c.push.new.self c.loop-test.true refl c.in_ok-push.ensures.ok
    c.loop.invariant

pub returns-clause-bytes : goal.returns-clause-bytes
returns-clause-bytes c =
    midway_bytes c.args.count c.loop.counter _ c.self.inside.bytes c.self.inside.pointer
    c.loop.place c.args.answer.now c.loop.answer (omega arith) c.self.view_is c.loop.invariant

pub returns-clause-memory : goal.returns-clause-memory
returns-clause-memory c =
    midway_memory c.args.count c.loop.counter _ c.self.inside.bytes c.self.inside.pointer
    c.loop.place c.args.answer.now c.loop.answer (omega arith) c.self.view_is c.loop.invariant
