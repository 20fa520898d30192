use Rattle.std.proofs.Common.{arith}
use Rattle.gb_report.proofs.DigitsText.{byte_more, bytes_done}
use Rattle.gb_report.proofs.digits.append_bytes.Goals as goal

pub loop-byte-preserved : goal.loop-byte-preserved
loop-byte-preserved c =
    byte_more _ _ _ _ _ c.loop-byte-test.true c.in_ok-append_byte.ensures c.loop-byte.invariant

pub returns : goal.returns
returns c = bytes_done _ _ _ c.loop-byte.byte-index (omega arith) c.loop-byte.invariant
