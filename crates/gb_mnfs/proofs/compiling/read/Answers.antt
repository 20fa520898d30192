use Rattle.std.proofs.Common.{arith}
use Rattle.gb_mnfs.proofs.Sources.{all_read, finish_told, read_on, stop_told}
use Rattle.gb_mnfs.proofs.compiling.read.Goals as goal

pub returns-in-Err : goal.returns-in-Err
returns-in-Err c =
    let h = c.loop-line.invariant.read in
    rw c.stopped.ensures
    (stop_told c.args.text.now c.loop-line.at c.loop-line.draft c.take.new.self c.loop-line.left.now
    c.in-Some.line.now c.in-Some.rest.now c.in-Err.stop h c.in-Some.ensures.cut
    (c.in-Err.ensures h.front h.stands))

pub loop-line-preserved : goal.loop-line-preserved
loop-line-preserved c =
    let h = c.loop-line.invariant.read in
    record {
      read =
          read_on c.args.text.now c.loop-line.at c.loop-line.draft c.take.new.self
          c.loop-line.left.now c.in-Some.line.now c.in-Some.rest.now h c.in-Some.ensures.cut
          (c.in_default-take.ensures h.front h.stands);
      few = omega (arith, c.loop-line.invariant.few, c.in-Some.ensures.shorter);
    }

pub returns : goal.returns
returns c =
    let h = c.loop-line.invariant.read in
    finish_told c.args.text.now _ c.finish.result
    (all_read c.args.text.now c.loop-line.at c.loop-line.draft c.loop-line.left.now h
    c.in_default.ensures.cut)
    (c.finish.ensures h.front h.stands)
