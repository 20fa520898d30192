use Rattle.std.proofs.Common.{arith, refl}
use Rattle.gb_formats.specs.UartRecords as formats
use Rattle.gb_bridge_payload.specs.Protocols.{uart_replies}
use Rattle.gb_bridge_payload.specs.Views.{uart_reply_of}
use Rattle.gb_payload.proofs.Tables.{means_by_table}
use Rattle.gb_bridge_payload.proofs.UartLaws.{uart_replies_listed, uart_replies_spelt}
use Rattle.gb_bridge_payload.proofs.uart_reply.UartReply.read.Goals as goal

pub returns-clause-means : goal.returns-clause-means
returns-clause-means c =
    means_by_table uart_replies formats.uart_replies uart_reply_of c.args.kind c.args.payload.now
    (λ bytes. refl) uart_replies_spelt (λ made h. uart_replies_listed made)
    (λ i. omega (arith, c.type_inv.payload i)) c.row.result c.row.ensures
