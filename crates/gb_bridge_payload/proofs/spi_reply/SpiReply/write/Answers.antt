use Rattle.std.proofs.Common.{IfOk, rules, sym, subst, take}
use Rattle.gb_formats.specs.SpiRecords as formats
use Rattle.gb_payload.specs.Meaning.{IsRead}
use Rattle.gb_bridge_payload.specs.Protocols.{spi_replies}
use Rattle.gb_bridge_payload.specs.Views.{spi_reply_of}
use Rattle.gb_bridge_payload.proofs.Again.{is_read}
use Rattle.gb_bridge_payload.proofs.SpiLaws.{master_again}
use Rattle.gb_bridge_payload.proofs.spi_reply.SpiReply.write.Goals as goal

pub returns-in-MasterConfig-clause-again : goal.returns-in-MasterConfig-clause-again
returns-in-MasterConfig-clause-again c =
    let i = c.in-MasterConfig in
    subst (λ made.
    IfOk c.put.result (λ n. IsRead spi_replies (spi_reply_of made) (take n c.put.new.out)))
    (sym i.is)
    (is_read spi_replies
    (formats.SpiReply.MasterConfig i.mask i.least i.greatest i.mode i.flags i.selects) _ _
    c.put.result
    (master_again i.mask i.least i.greatest i.mode i.flags i.selects (search rules) (search rules)
    (search rules) (search rules) (search rules)) c.put.ensures)
