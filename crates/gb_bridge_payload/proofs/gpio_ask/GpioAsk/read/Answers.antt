use Rattle.std.proofs.Common.{arith, refl}
use Rattle.gb_formats.specs.GpioRecords as formats
use Rattle.gb_bridge_payload.specs.Protocols.{gpio_asks}
use Rattle.gb_bridge_payload.specs.Views.{gpio_ask_of}
use Rattle.gb_payload.proofs.Tables.{means_by_table}
use Rattle.gb_bridge_payload.proofs.GpioLaws.{gpio_asks_listed, gpio_asks_spelt}
use Rattle.gb_bridge_payload.proofs.gpio_ask.GpioAsk.read.Goals as goal

pub returns-clause-means : goal.returns-clause-means
returns-clause-means c =
    means_by_table gpio_asks formats.gpio_asks gpio_ask_of c.args.kind c.args.payload.now
    (λ bytes. refl) gpio_asks_spelt (λ made h. gpio_asks_listed made)
    (λ i. omega (arith, c.type_inv.payload i)) c.row.result c.row.ensures
