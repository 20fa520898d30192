use Rattle.std.proofs.Common.{rules}
use Rattle.gb_bridge_payload.specs.Protocols.{spi_asks}
use Rattle.gb_bridge_payload.specs.Views.{spi_ask_of}
use Rattle.gb_bridge_payload.proofs.Again.{is_read}
use Rattle.gb_bridge_payload.proofs.SpiLaws.{spi_ask_again}
use Rattle.gb_bridge_payload.proofs.spi_ask.SpiAsk.write.Goals as goal

pub returns-in-Transfer-clause-again : goal.returns-in-Transfer-clause-again
returns-in-Transfer-clause-again c =
    is_read spi_asks (spi_ask_of c.args.self.now) c.args.out.now c.put-in-Transfer.new.out
    c.put-in-Transfer.result (spi_ask_again (spi_ask_of c.args.self.now) c.requires) (search rules)
