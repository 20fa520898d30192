-- Values whose copy takes no memory.
use Rattle.std.specs.Prelude.{◌≡◌, [], ⊤}
use Rattle.gb_base.specs.Bytes.{AreFew}
use Rattle.gb_base.specs.declared.bridge.BridgeAsk.{BridgeAsk}
use Rattle.gb_base.specs.declared.bridge.BridgeAsk.TheVariants as ask
use Rattle.gb_base.specs.declared.bridge.I2cOp.{I2cOp}
use Rattle.gb_base.specs.declared.bridge.I2cOp.TheVariants as i2c
use Rattle.gb_base.specs.declared.bridge.SpiOp.{SpiOp}
use Rattle.gb_base.specs.declared.bridge.SpiOp.TheVariants as spi
use Rattle.gb_base.specs.declared.entry.Entry.{Entry}
use Rattle.gb_base.specs.declared.entry.Entry.TheVariants as entry
use Rattle.gb_base.specs.declared.event.Event.{Event}
use Rattle.gb_base.specs.declared.event.Event.TheVariants as event
use Rattle.gb_base.specs.declared.outcome.Outcome.{Outcome}
use Rattle.gb_base.specs.declared.outcome.Outcome.TheVariants as outcome

abbrev pub IsSmallOutcome : Outcome → Type 0
IsSmallOutcome (outcome.Answered result payload) = AreFew payload
IsSmallOutcome how = ⊤

abbrev pub IsSmallI2cOp : I2cOp → Type 0
IsSmallI2cOp (i2c.Get addr len) = ⊤
IsSmallI2cOp (i2c.Put addr bytes) = AreFew bytes

abbrev pub IsSmallSpiOp : SpiOp → Type 0
IsSmallSpiOp (spi.Get len) = ⊤
IsSmallSpiOp (spi.Put bytes) = AreFew bytes
IsSmallSpiOp (spi.Both bytes) = AreFew bytes

abbrev pub IsSmallAsk : BridgeAsk → Type 0
IsSmallAsk (ask.I2cTransfer ops) = ops ≡ []
IsSmallAsk (ask.SpiTransfer select mode ops) = ops ≡ []
IsSmallAsk (ask.UartSend bytes) = AreFew bytes
IsSmallAsk (ask.LoopBytes kind bytes) = AreFew bytes
IsSmallAsk a = ⊤

abbrev pub IsSmallEntry : Entry → Type 0
IsSmallEntry (entry.Asked n from to kind size bytes lost) = AreFew bytes
IsSmallEntry (entry.Replied item from to result size bytes) = AreFew bytes
IsSmallEntry (entry.Ended n how read) = IsSmallOutcome how
IsSmallEntry (entry.Raw from to size bytes) = AreFew bytes
IsSmallEntry (entry.Received i c bytes) = AreFew bytes
IsSmallEntry (entry.Shown text) = ⊥
IsSmallEntry e = ⊤

abbrev pub IsSmallEvent : Event → Type 0
IsSmallEvent (event.InsertRaw i manifest) = AreFew manifest
IsSmallEvent (event.Send name to kind payload timeout) = AreFew payload
IsSmallEvent (event.Bridge name i c ask) = IsSmallAsk ask
IsSmallEvent (event.Inject i c bytes) = AreFew bytes
IsSmallEvent (event.Image tag bytes) = AreFew bytes
IsSmallEvent e = ⊤
