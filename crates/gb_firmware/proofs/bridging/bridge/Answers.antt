use Rattle.std.proofs.Common.{[], refl}
use Rattle.gb_firmware.proofs.bridging.bridge.Goals as goal

pub returns-in-LoopPing : goal.returns-in-LoopPing
returns-in-LoopPing c =
    rw c.in-LoopPing.is ((2, []), refl, record { kind = refl; len = refl; bytes = refl })
