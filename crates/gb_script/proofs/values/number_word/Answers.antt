use Rattle.std.proofs.Common.{sym, arith}
use Rattle.gb_script.proofs.Numbers.{too_great}
use Rattle.gb_script.proofs.values.number_word.Goals as goal

pub returns-then-number-from-clause-value : goal.returns-then-number-from-clause-value
returns-then-number-from-clause-value c =
    sym (too_great c.args.least c.args.greatest c.loop-b.number c.loop-b.b-index c.args.word.now
    c.loop-b-test.true c.loop-b.invariant.read (omega arith))
