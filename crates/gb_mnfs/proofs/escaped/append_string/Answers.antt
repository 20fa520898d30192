use Rattle.gb_mnfs.proofs.Escapes.{byte_more, bytes_done}
use Rattle.gb_mnfs.proofs.escaped.append_string.Goals as goal

pub loop-i-preserved : goal.loop-i-preserved
loop-i-preserved c =
    byte_more _ _ _ c.args.bytes.now c.loop-i.i c.is_end.result c.loop-i-test.true c.is_end.ensures
    c.in_ok-append_byte.ensures c.loop-i.invariant

pub returns : goal.returns
returns c = bytes_done _ _ c.args.bytes.now c.loop-i.i c.loop-i-test.false c.loop-i.invariant
