use Rattle.std.proofs.Common.{◌+◌, arith}
use Rattle.gb_capture.proofs.Unpaired.{unpaired-left}
use Rattle.gb_capture.proofs.audit.Audit.verdict.Goals as goal

pub returns : goal.returns
returns c past s =
    let left = unpaired-left past (c.args.self.now.line + 1) _ _ _ (s.below _ (omega arith)) s.asked
    s.pairs_are c.saturating_sub.ensures in
    cc (s.faults, s.pairs_are, left)
