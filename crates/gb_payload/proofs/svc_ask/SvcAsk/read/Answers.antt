use Rattle.std.proofs.Common.{arith, refl}
use Rattle.gb_formats.specs.SvcRecords as formats
use Rattle.gb_payload.specs.Protocols.{svc_asks}
use Rattle.gb_payload.specs.Views.{svc_ask_of}
use Rattle.gb_payload.proofs.SvcLaws.{svc_asks_listed, svc_asks_spelt}
use Rattle.gb_payload.proofs.Tables.{means_by_table}
use Rattle.gb_payload.proofs.svc_ask.SvcAsk.read.Goals as goal

pub returns-clause-means : goal.returns-clause-means
returns-clause-means c =
    means_by_table svc_asks formats.svc_asks svc_ask_of c.args.kind c.args.payload.now
    (λ bytes. refl) svc_asks_spelt (λ made h. svc_asks_listed made)
    (λ i. omega (arith, c.type_inv.payload i)) c.row.result c.row.ensures
