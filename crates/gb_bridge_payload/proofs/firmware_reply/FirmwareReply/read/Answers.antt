use Rattle.std.proofs.Common.{arith, refl}
use Rattle.gb_bridge_payload.specs.Views.{firmware_reply_of}
use Rattle.gb_bridge_payload.proofs.FirmwareLaws.{firmware_reply_means}
use Rattle.gb_bridge_payload.proofs.firmware_reply.FirmwareReply.read.Goals as goal

pub returns-clause-means : goal.returns-clause-means
returns-clause-means c =
    firmware_reply_means firmware_reply_of c.args.kind c.args.payload.now
    (λ i. omega (arith, c.type_inv.payload i)) (λ bytes. refl) c.row.result c.row.ensures
