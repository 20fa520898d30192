use Rattle.std.proofs.Common.{refl, []}
use Rattle.gb_i2c.proofs.bridging.bridge.Goals as goal

pub returns-in-I2cFunctionality : goal.returns-in-I2cFunctionality
returns-in-I2cFunctionality c =
    rw c.in-I2cFunctionality.is ((2, []), refl, record { kind = refl; len = refl; bytes = refl })
