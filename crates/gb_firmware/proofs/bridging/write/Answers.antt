use Rattle.std.proofs.Common.{arith}
use Rattle.gb_bridge_payload.specs.Views.{loopback_ask_of}
use Rattle.gb_firmware.proofs.Bridged.{bridged}
use Rattle.gb_firmware.proofs.bridging.write.Goals as goal

pub returns : goal.returns
returns c =
    rw c.kind.ensures
    (bridged c.args.kind c.in_ok-len.len c.args.bytes.now _ _ (loopback_ask_of c.request-ask.result)
    c.request-ask.ensures (omega (arith, c.if-bytes-gt-MOST_BYTES.false)) c.in_ok-len.ensures.bytes)
