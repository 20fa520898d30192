use Rattle.std.proofs.Common.{arith, refl}
use Rattle.gb_formats.specs.GpioRecords as formats
use Rattle.gb_bridge_payload.specs.Protocols.{gpio_replies}
use Rattle.gb_bridge_payload.specs.Views.{gpio_reply_of}
use Rattle.gb_payload.proofs.Tables.{means_by_table}
use Rattle.gb_bridge_payload.proofs.GpioLaws.{gpio_replies_listed, gpio_replies_spelt}
use Rattle.gb_bridge_payload.proofs.gpio_reply.GpioReply.read.Goals as goal

pub returns-clause-means : goal.returns-clause-means
returns-clause-means c =
    means_by_table gpio_replies formats.gpio_replies gpio_reply_of c.args.kind c.args.payload.now
    (λ bytes. refl) gpio_replies_spelt (λ made h. gpio_replies_listed made)
    (λ i. omega (arith, c.type_inv.payload i)) c.row.result c.row.ensures
