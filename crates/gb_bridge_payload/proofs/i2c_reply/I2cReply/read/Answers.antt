use Rattle.std.proofs.Common.{arith, refl}
use Rattle.gb_bridge_payload.specs.Views.{i2c_reply_of}
use Rattle.gb_bridge_payload.proofs.I2cLaws.{i2c_reply_means}
use Rattle.gb_bridge_payload.proofs.i2c_reply.I2cReply.read.Goals as goal

pub returns-clause-means : goal.returns-clause-means
returns-clause-means c =
    i2c_reply_means i2c_reply_of c.args.kind c.args.payload.now
    (λ i. omega (arith, c.type_inv.payload i)) (λ bytes. refl) c.row.result c.row.ensures
