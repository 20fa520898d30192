use Rattle.std.proofs.Common.{◌+◌, ◌<◌, arith}
use Rattle.gb_base.proofs.Calls.{none_past}
use Rattle.gb_base.proofs.failing_io.counted_fails.Goals as goal

pub returns-in-None-clause-fails : goal.returns-in-None-clause-fails
returns-in-None-clause-fails c =
    let past : c.args.calls.now + 1 < 18_446_744_073_709_551_616 → ⊥ = c.in-None.ensures in
    none_past c.args.failing.now (c.args.calls.now + 1) c.type_inv.failing (omega arith)
