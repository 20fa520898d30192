use Rattle.std.proofs.Common.{arith}
use Rattle.gb_payload.specs.Views.{control_reply_of}
use Rattle.gb_payload.proofs.ControlLaws.{control_reply_means}
use Rattle.gb_payload.proofs.control_reply.ControlReply.read.Goals as goal

pub returns-clause-means : goal.returns-clause-means
returns-clause-means c =
    control_reply_means control_reply_of c.args.kind c.args.payload.now
    (λ i. omega (arith, c.type_inv.payload i)) c.row.result c.row.ensures
