use Rattle.std.proofs.Common.{rules}
use Rattle.gb_bridge_payload.specs.Protocols.{i2c_asks}
use Rattle.gb_bridge_payload.specs.Views.{i2c_ask_of}
use Rattle.gb_bridge_payload.proofs.Again.{is_read}
use Rattle.gb_bridge_payload.proofs.I2cLaws.{i2c_ask_again}
use Rattle.gb_bridge_payload.proofs.i2c_ask.I2cAsk.write.Goals as goal

pub returns-in-Transfer-clause-again : goal.returns-in-Transfer-clause-again
returns-in-Transfer-clause-again c =
    is_read i2c_asks (i2c_ask_of c.args.self.now) c.args.out.now c.put-in-Transfer.new.out
    c.put-in-Transfer.result (i2c_ask_again (i2c_ask_of c.args.self.now) c.requires) (search rules)
