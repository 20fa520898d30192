use Rattle.std.proofs.Common.{arith, ap}
use Rattle.gb_base.proofs.Prefixes.{read_consumes}
use Rattle.gb_base.specs.Memory.{MemInput}
use Rattle.gb_base.proofs.failing_io.MemSourceSource.read.Goals as goal

pub returns-clause-bytes : goal.returns-clause-bytes
returns-clause-bytes c =
    let s = c.self.inside in
    let counted = c.copy_prefix-count.ensures in
    let left = ap (λ (i : MemInput). i.left) c.self.view_is in
    let some = c.self.invariant in
    read_consumes _ s.bytes c.args.buf.now _ _ s.at _ _ c.items-2.ensures left
    (λ _. omega (arith, some.1)) counted.count counted.copied
