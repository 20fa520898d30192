-- The lines of the report: one for each entry, each refusal and each reason.
use Rattle.std.proofs.Common.{◌≡◌, ℕ, true, false, List, [], ◌∷◌, refl}
use Rattle.std.specs.Prelude.{Some, None, ◌++◌, map, codes}
use Rattle.std.specs.Fmt.{digits}
use Rattle.hex.specs.Hex.{encode_with}
use Rattle.gb_base.specs.declared.bridge.Reading.TheVariants as reading
use Rattle.gb_base.specs.declared.end.End.TheVariants as end
use Rattle.gb_base.specs.declared.entry.ConnState.TheVariants as state
use Rattle.gb_base.specs.declared.entry.Entry.{Entry}
use Rattle.gb_base.specs.declared.entry.Entry.TheVariants as entry
use Rattle.gb_base.specs.declared.entry.IntfStage.TheVariants as stage
use Rattle.gb_base.specs.declared.reasons.LineReason.TheVariants as bad
use Rattle.gb_base.specs.declared.reasons.RawFault.TheVariants as raw
use Rattle.gb_base.specs.declared.reasons.Reason.TheVariants as reason
use Rattle.gb_base.specs.declared.reasons.WireFault.TheVariants as wire
use Rattle.gb_base.specs.declared.outcome.Outcome.TheVariants as outcome
use Rattle.gb_base.specs.declared.refusal.Refusal.TheVariants as refusal
use Rattle.gb_formats.specs.Reasons.{refusal_text, reason_text}
use Rattle.gb_formats.specs.Texts.{entry_line, entries_text, bad_line}
use Rattle.gb_formats.proofs.Samples.{ping_bytes}

-- the answer to a ping
abbrev pub answer_bytes : List ℕ
answer_bytes = 0x08 ∷ 0x00 ∷ 0x01 ∷ 0x00 ∷ 0x93 ∷ 0x00 ∷ 0x00 ∷ 0x00 ∷ []

-- entries on line 7 and their lines, without the bytes of messages
abbrev pub entry_lines : List (Entry × List ℕ)
entry_lines =
    (entry.Done, codes "line 7 ok")
    ∷ (entry.Refused refusal.NoLabel, codes "line 7 refused NoLabel")
    ∷ (
      entry.Asked 1 (end.Ap 0) end.Svc 0x13 8 ping_bytes false,
      codes "ask #1 ap 0 > svc type 13 size 8",
    )
    ∷ (
      entry.Asked 26 (end.Ap 4095) (end.Module 31 4095) 0x0e 9 [] true,
      codes "ask #26 ap 4095 > 31 4095 type 0e size 9 lost",
    )
    ∷ (
      entry.Replied (Some 1) end.Svc (end.Ap 0) 0x00 8 answer_bytes,
      codes "reply #1 svc > ap 0 result 00 size 8",
    )
    ∷ (
      entry.Replied None (end.Ap 2) (end.Module 2 1) 0xfe 8 [],
      codes "reply raw ap 2 > 2 1 result fe size 8",
    )
    ∷ (entry.Held (Some 16), codes "held #16")
    ∷ (entry.Held None, codes "held raw")
    ∷ (
      entry.Ended 1 (outcome.Answered 0x00 []) reading.Nothing,
      codes "end #1 answered 00 -",
    )
    ∷ (
      entry.Ended 16 (outcome.Answered 0x00 (0xfe ∷ 0xff ∷ 0x00 ∷ [])) reading.Nothing,
      codes "end #16 answered 00 feff00",
    )
    ∷ (
      entry.Ended 17 (outcome.Answered 0x08 (0x01 ∷ [])) reading.Nothing,
      codes "end #17 answered 08 -",
    )
    ∷ (
      entry.Ended 20 (outcome.Answered 0x00 (0x07 ∷ [])) (reading.Number 8),
      codes "end #20 answered 00 07 = 8",
    )
    ∷ (
      entry.Ended 2 (outcome.Answered 0x00 (0x00 ∷ [])) reading.Out,
      codes "end #2 answered 00 00 = out",
    )
    ∷ (
      entry.Ended 2 (outcome.Answered 0x00 (0x01 ∷ [])) reading.In,
      codes "end #2 answered 00 01 = in",
    )
    ∷ (
      entry.Ended 2 (outcome.Answered 0x00 []) reading.Bad,
      codes "end #2 answered 00 - = bad",
    )
    ∷ (entry.Ended 2 outcome.Cancelled reading.Nothing, codes "end #2 cancelled")
    ∷ (entry.Ended 2 outcome.Timeout reading.Nothing, codes "end #2 timeout")
    ∷ (entry.Ended 2 outcome.Disconnected reading.Nothing, codes "end #2 disconnected")
    ∷ (entry.Ended 2 outcome.Sent reading.Nothing, codes "end #2 sent")
    ∷ (entry.Late 1, codes "late #1")
    ∷ (entry.LateLabel 1, codes "late label 1")
    ∷ (entry.UnknownLabel 65535, codes "unknown label 65535")
    ∷ (entry.Dropped (Some 3) false, codes "drop #3 ask")
    ∷ (entry.Dropped (Some 3) true, codes "drop #3 reply")
    ∷ (entry.Dropped None false, codes "drop raw")
    ∷ (entry.Dropped None true, codes "drop raw")
    ∷ (entry.Raw (end.Module 2 1) (end.Ap 2) 3 (0x08 ∷ []), codes "raw 2 1 > ap 2 size 3")
    ∷ (entry.BadRaw (raw.Wire (wire.Short 8)), codes "bad raw short 8")
    ∷ (entry.BadRaw (raw.Wire (wire.SizeBelowEight 7)), codes "bad raw size 7")
    ∷ (entry.BadRaw (raw.Wire (wire.RequestResult 0x0b)), codes "bad raw result 0b")
    ∷ (entry.BadRaw (raw.Extra 12), codes "bad raw extra 12")
    ∷ (entry.Ignored 0x0e, codes "ignored type 0e")
    ∷ (entry.Interface 2 stage.Enumerating, codes "interface 2 enumerating")
    ∷ (entry.Interface 2 stage.Enumerated, codes "interface 2 enumerated")
    ∷ (entry.Interface 2 stage.Failed, codes "interface 2 failed")
    ∷ (entry.Interface 31 stage.Removed, codes "interface 31 removed")
    ∷ (entry.Manifest 3 2 reason.ShortHeader, codes "manifest 3 refused 2 short header")
    ∷ (entry.Connection 3 2 2 1 state.Opening, codes "connection 3 ap 2 2 1 opening")
    ∷ (entry.Connection 3 2 2 1 state.Open, codes "connection 3 ap 2 2 1 open")
    ∷ (entry.Connection 3 2 2 1 state.Draining, codes "connection 3 ap 2 2 1 draining")
    ∷ (entry.Connection 3 2 2 1 state.Closing, codes "connection 3 ap 2 2 1 closing")
    ∷ (entry.Connection 3 2 2 1 state.Closed, codes "connection 3 ap 2 2 1 closed")
    ∷ (entry.Connection 3 2 2 1 state.Failed, codes "connection 3 ap 2 2 1 failed")
    ∷ (entry.Irq 2 1 3, codes "irq 2 1 3")
    ∷ (entry.Received 2 4 (0xab ∷ 0x0c ∷ []), codes "uart 2 4 received ab0c")
    ∷ (entry.Received 2 4 [], codes "uart 2 4 received -")
    ∷ (entry.Serial 2 4 255, codes "serial 2 4 255")
    ∷ (entry.Credits 2 4 4096, codes "credits 2 4 4096")
    ∷ (entry.Download 2 1 (codes "boot") (Some 3), codes "download 2 1 boot done 3")
    ∷ (
      entry.Download 31 4095 (codes "abcdefgh9") None,
      codes "download 31 4095 abcdefgh9 failed",
    )
    ∷ (entry.Settled 26, codes "settled 26")
    ∷ (entry.Shown (codes "now 0"), codes "now 0")
    ∷ []

pub entry_lines-told : map (λ row. entry_line 7 false row.0) entry_lines
    ≡ map (λ row. row.1) entry_lines
unfolding digits encode_with
entry_lines-told = refl

-- the same with the bytes of messages
abbrev pub hex_lines : List (Entry × List ℕ)
hex_lines =
    (entry.Done, codes "line 3 ok")
    ∷ (
      entry.Asked 1 (end.Ap 0) end.Svc 0x13 8 ping_bytes false,
      codes "ask #1 ap 0 > svc type 13 size 8 0800010013000000",
    )
    ∷ (
      entry.Asked 1 (end.Ap 0) end.Svc 0x13 8 ping_bytes true,
      codes "ask #1 ap 0 > svc type 13 size 8 0800010013000000 lost",
    )
    ∷ (
      entry.Replied (Some 1) end.Svc (end.Ap 0) 0x00 8 answer_bytes,
      codes "reply #1 svc > ap 0 result 00 size 8 0800010093000000",
    )
    ∷ (
      entry.Raw (end.Module 2 1) (end.Ap 2) 3 (0x08 ∷ 0x00 ∷ 0x01 ∷ []),
      codes "raw 2 1 > ap 2 size 3 080001",
    )
    ∷ (entry.Raw (end.Module 2 1) (end.Ap 2) 0 [], codes "raw 2 1 > ap 2 size 0 -")
    ∷ []

pub hex_lines-told : map (λ row. entry_line 3 true row.0) hex_lines
    ≡ map (λ row. row.1) hex_lines
unfolding digits encode_with
hex_lines-told = refl

-- each entry's line is ended by LF
pub entries-ended : entries_text 1 false (entry.Done ∷ entry.Settled 0 ∷ [])
    ≡ codes "line 1 ok" ++ 10 ∷ codes "settled 0" ++ 10 ∷ []
unfolding digits
entries-ended = refl

pub bad_lines-told : map (bad_line 5)
    (bad.Long ∷ bad.BadByte 6 ∷ bad.BadWord 1 ∷ bad.MissingWord 2 ∷ bad.ExtraWord 4 ∷ [])
    ≡ codes "line 5: too long"
    ∷ codes "line 5: bad byte 6"
    ∷ codes "line 5: bad word 1"
    ∷ codes "line 5: missing word 2"
    ∷ codes "line 5: extra word 4"
    ∷ []
unfolding digits
bad_lines-told = refl

pub refusals-told : map refusal_text
    (refusal.NoInterface ∷ refusal.Occupied ∷ refusal.NotEnumerated ∷ refusal.NoConnection
    ∷ refusal.Closing ∷ refusal.Failed ∷ refusal.Unsupported ∷ refusal.NoLabel ∷ refusal.NoCport
    ∷ refusal.CportsSpent ∷ refusal.TooLarge ∷ refusal.NoName ∷ refusal.AlreadyEnded
    ∷ refusal.QueueEmpty ∷ refusal.NotHeld ∷ refusal.NoCredit ∷ refusal.Full
    ∷ refusal.OutOfRange ∷ [])
    ≡ codes "NoInterface" ∷ codes "Occupied" ∷ codes "NotEnumerated" ∷ codes "NoConnection"
    ∷ codes "Closing" ∷ codes "Failed" ∷ codes "Unsupported" ∷ codes "NoLabel" ∷ codes "NoCport"
    ∷ codes "CportsSpent" ∷ codes "TooLarge" ∷ codes "NoName" ∷ codes "AlreadyEnded"
    ∷ codes "QueueEmpty" ∷ codes "NotHeld" ∷ codes "NoCredit" ∷ codes "Full"
    ∷ codes "OutOfRange" ∷ []
refusals-told = refl

pub reasons-told : map reason_text
    (reason.ShortHeader ∷ reason.Size ∷ reason.Version ∷ reason.ShortDescriptor
    ∷ reason.DescriptorSize ∷ reason.DescriptorType ∷ reason.DescriptorShort
    ∷ reason.NoInterface ∷ reason.SecondInterface ∷ reason.StringId ∷ reason.StringTwice
    ∷ reason.BundleTwice ∷ reason.CportId ∷ reason.CportTwice ∷ reason.CportBundle
    ∷ reason.ControlCport ∷ reason.VendorString ∷ reason.ProductString ∷ [])
    ≡ codes "short header" ∷ codes "size" ∷ codes "version" ∷ codes "short descriptor"
    ∷ codes "descriptor size" ∷ codes "descriptor type" ∷ codes "descriptor short"
    ∷ codes "no interface" ∷ codes "second interface" ∷ codes "string id" ∷ codes "string twice"
    ∷ codes "bundle twice" ∷ codes "cport id" ∷ codes "cport twice" ∷ codes "cport bundle"
    ∷ codes "control cport" ∷ codes "vendor string" ∷ codes "product string" ∷ []
reasons-told = refl
