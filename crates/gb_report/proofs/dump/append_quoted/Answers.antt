use Rattle.std.proofs.Common.{refl, append_assoc}
use Rattle.gb_report.proofs.DumpText.{string_text-more}
use Rattle.gb_report.proofs.dump.append_quoted.Goals as goal

pub loop-byte-preserved : goal.loop-byte-preserved
loop-byte-preserved c =
    rw (
      c.in_ok-append_byte.ensures,
      c.loop-byte.invariant,
      append_assoc,
      string_text-more c.args.bytes.now c.loop-byte.byte-index c.loop-byte-test.true,
    ) refl
