use Rattle.gb_spi.proofs.Asks.{is_written}
use Rattle.gb_spi.proofs.device.Device.serve.Goals as goal

pub transfer-requires : goal.transfer-requires
transfer-requires c =
    let i = c.in-Ok-Transfer in
    let means = rw i.field-0-is at i.ensures.means in
    let answer = rw i.field-0-is at i.ensures.answer in
    is_written c.args.kind i.select i.mode c.args.payload.now i.entries.now i.bytes.now means.0
    answer
