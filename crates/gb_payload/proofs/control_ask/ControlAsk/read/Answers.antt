use Rattle.std.proofs.Common.{arith, refl}
use Rattle.gb_formats.specs.ControlRecords as formats
use Rattle.gb_payload.specs.Protocols.{control_asks}
use Rattle.gb_payload.specs.Views.{control_ask_of}
use Rattle.gb_payload.proofs.ControlLaws.{control_asks_listed, control_asks_spelt}
use Rattle.gb_payload.proofs.Tables.{means_by_table}
use Rattle.gb_payload.proofs.control_ask.ControlAsk.read.Goals as goal

pub returns-clause-means : goal.returns-clause-means
returns-clause-means c =
    means_by_table control_asks formats.control_asks control_ask_of c.args.kind c.args.payload.now
    (λ bytes. refl) control_asks_spelt (λ made h. control_asks_listed made)
    (λ i. omega (arith, c.type_inv.payload i)) c.row.result c.row.ensures
