use Rattle.std.specs.String.{string_bytes}
use Rattle.gb_mnfs.specs.Answers.{fault_of}
use Rattle.gb_mnfs.proofs.SourceAscii.{fault_line}
use Rattle.gb_mnfs.proofs.fault_text.put_fault.Goals as goal

pub put_line-requires : goal.put_line-requires
put_line-requires c =
    fault_line (fault_of c.args.fault.now) (string_bytes c.in_ok-line.line) c.in_ok-line.ensures
