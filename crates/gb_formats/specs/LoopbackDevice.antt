-- The Loopback device, which keeps nothing: it answers TRANSFER with what it was sent.
use Rattle.std.specs.Prelude.{ℕ, List, Result, Ok, Err}
use Rattle.gb_base.specs.declared.served.Served.{Served}
use Rattle.gb_formats.specs.LoopbackRecords.{LoopbackAsk, LoopbackReply, loopback_reply_payload}
use Rattle.gb_formats.specs.LoopbackRecords.{read_loopback_ask}
use Rattle.gb_formats.specs.Records.{PayloadFault}
use Rattle.gb_formats.specs.Results.{answer_of, fault_result, refusal_of}

-- the response of success
abbrev pub loopback_reply : LoopbackAsk → LoopbackReply
loopback_reply LoopbackAsk.Ping = LoopbackReply.Ping
loopback_reply (LoopbackAsk.Transfer first second bytes) =
    LoopbackReply.Transfer first second bytes
loopback_reply (LoopbackAsk.Sink first second bytes) = LoopbackReply.Sink

-- a request by its payload
abbrev pub loopback_read : Result LoopbackAsk PayloadFault → Served
loopback_read (Ok ask) = answer_of (loopback_reply_payload (loopback_reply ask))
loopback_read (Err fault) = refusal_of (fault_result fault)

-- The Loopback device's step, which changes nothing in the device.
abbrev pub loopback_step : ℕ → List ℕ → Served
loopback_step kind payload = loopback_read (read_loopback_ask kind payload)
