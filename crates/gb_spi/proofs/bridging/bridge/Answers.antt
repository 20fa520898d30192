use Rattle.std.proofs.Common.{[], ◌∷◌, refl}
use Rattle.gb_spi.proofs.bridging.bridge.Goals as goal

pub returns-in-SpiConfig : goal.returns-in-SpiConfig
returns-in-SpiConfig c =
    rw c.in-SpiConfig.is ((2, []), refl, record { kind = refl; len = refl; bytes = refl })

pub returns-in_ok-put-in-SpiDevice : goal.returns-in_ok-put-in-SpiDevice
returns-in_ok-put-in-SpiDevice c =
    let i = c.in-SpiDevice in
    let puts = c.in_ok-put-in-SpiDevice.ensures in
    rw i.is ((3, i.select ∷ []), refl, record { kind = refl; len = puts.0; bytes = puts.2 })
