use Rattle.gb_base.proofs.Prefixes.{read_consumes}
use Rattle.gb_base.proofs.plain_io.PlainSourceSource.read.Goals as goal

pub returns-clause-bytes : goal.returns-clause-bytes
returns-clause-bytes c =
    let s = c.self.inside in
    read_consumes _ s.bytes c.args.buf.now _ _ s.at _ _ c.items.ensures c.self.view_is (λ h. h)
    c.copy_prefix-count.ensures.count c.copy_prefix-count.ensures.copied
