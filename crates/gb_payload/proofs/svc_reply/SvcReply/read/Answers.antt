use Rattle.std.proofs.Common.{arith, refl}
use Rattle.gb_formats.specs.SvcRecords as formats
use Rattle.gb_payload.specs.Protocols.{svc_replies}
use Rattle.gb_payload.specs.Views.{svc_reply_of}
use Rattle.gb_payload.proofs.SvcLaws.{svc_replies_listed, svc_replies_spelt}
use Rattle.gb_payload.proofs.Tables.{means_by_table}
use Rattle.gb_payload.proofs.svc_reply.SvcReply.read.Goals as goal

pub returns-clause-means : goal.returns-clause-means
returns-clause-means c =
    means_by_table svc_replies formats.svc_replies svc_reply_of c.args.kind c.args.payload.now
    (λ bytes. refl) svc_replies_spelt (λ made h. svc_replies_listed made)
    (λ i. omega (arith, c.type_inv.payload i)) c.row.result c.row.ensures
