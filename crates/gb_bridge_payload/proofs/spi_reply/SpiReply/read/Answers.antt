use Rattle.std.proofs.Common.{arith, refl}
use Rattle.gb_bridge_payload.specs.Views.{spi_reply_of}
use Rattle.gb_bridge_payload.proofs.SpiLaws.{spi_reply_means}
use Rattle.gb_bridge_payload.proofs.spi_reply.SpiReply.read.Goals as goal

pub returns-clause-means : goal.returns-clause-means
returns-clause-means c =
    spi_reply_means spi_reply_of c.args.kind c.args.payload.now
    (λ i. omega (arith, c.type_inv.payload i)) (λ bytes. refl) c.row.result c.row.ensures
