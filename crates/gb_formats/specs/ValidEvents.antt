-- The events that the machine may be given: their numbers are in the ranges of the grammar, their
-- names can be names, and what a bridge line asks has a form.
use Rattle.std.specs.Prelude.{◌≡◌, ◌≤◌, ◌⊎◌, ℕ, IsTrue, ⊤, List, [], ◌∷◌, length}
use Rattle.gb_base.specs.Kinds.{most_kinds}
use Rattle.gb_base.specs.Name.{is_name}
use Rattle.gb_base.specs.Tag.{is_tag}
use Rattle.gb_base.specs.declared.bridge.BridgeAsk.{BridgeAsk}
use Rattle.gb_base.specs.declared.bridge.BridgeAsk.TheVariants as ask
use Rattle.gb_base.specs.declared.bridge.I2cOp.{I2cOp}
use Rattle.gb_base.specs.declared.bridge.I2cOp.TheVariants as i2c
use Rattle.gb_base.specs.declared.bridge.SpiOp.{SpiOp}
use Rattle.gb_base.specs.declared.bridge.SpiOp.TheVariants as spi
use Rattle.gb_base.specs.declared.end.End.{End}
use Rattle.gb_base.specs.declared.end.End.TheVariants as end
use Rattle.gb_base.specs.declared.event.Event.{Event}
use Rattle.gb_base.specs.declared.event.Event.TheVariants as event
use Rattle.gb_base.specs.declared.event.Kind.{Kind}
use Rattle.gb_base.specs.declared.name.Name.{Name}

-- an interface that a module can have
abbrev pub IsIntf : ℕ → Type 0
IsIntf i = (2 ≤ i) × (i ≤ 31)

-- the kinds of a module's interfaces: one to four
abbrev pub HasKinds : List Kind → Type 0
HasKinds kinds = (1 ≤ length kinds) × (length kinds ≤ most_kinds)

-- a CPort of a module or of the application processor
abbrev pub IsCport : ℕ → Type 0
IsCport c = c ≤ 4095

-- a number of one byte
abbrev pub IsU8 : ℕ → Type 0
IsU8 n = n ≤ 255

-- a number of two bytes
abbrev pub IsU16 : ℕ → Type 0
IsU16 n = n ≤ 65535

-- a number of four bytes
abbrev pub IsU32 : ℕ → Type 0
IsU32 n = n ≤ 4294967295

-- a number of four bytes, but not 0
abbrev pub IsFromOne : ℕ → Type 0
IsFromOne n = (1 ≤ n) × (n ≤ 4294967295)

-- the type of a request
abbrev pub IsRequestType : ℕ → Type 0
IsRequestType kind = kind ≤ 127

-- 1 to 16 of `a` to `z` and `0` to `9`
abbrev pub IsName : Name → Type 0
IsName name = IsTrue (is_name name.word)

-- the tag of an image: 1 to 9 of `a` to `z` and `0` to `9`
abbrev pub IsTag : List ℕ → Type 0
IsTag tag = IsTrue (is_tag tag)

-- an end to which a `send` goes: the SVC or a CPort of a module
abbrev pub IsFar : End → Type 0
IsFar (end.Ap a) = ⊥
IsFar end.Svc = ⊤
IsFar (end.Module i c) = IsIntf i × IsCport c

-- an end at which a message is delivered
abbrev pub IsEnd : End → Type 0
IsEnd (end.Ap a) = IsCport a
IsEnd end.Svc = ⊤
IsEnd (end.Module i c) = IsIntf i × IsCport c

-- ---- what bridge lines ask

-- COUNT has no line
abbrev pub IsGpioCount : ℕ → ℕ → ℕ → Type 0
IsGpioCount kind line value = (kind ≡ 0x02) × (line ≡ 0) × (value ≡ 0)

-- requests with a line alone: activate, deactivate, direction, in, get, mask and unmask
abbrev pub IsGpioLine : ℕ → ℕ → ℕ → Type 0
IsGpioLine kind line value =
    ((kind ≡ 0x03) ⊎ (kind ≡ 0x04) ⊎ (kind ≡ 0x05) ⊎ (kind ≡ 0x06) ⊎ (kind ≡ 0x08)
    ⊎ (kind ≡ 0x0c) ⊎ (kind ≡ 0x0d))
    × IsU8 line × (value ≡ 0)

-- requests with a line and a byte: out, set and irq
abbrev pub IsGpioByte : ℕ → ℕ → ℕ → Type 0
IsGpioByte kind line value =
    ((kind ≡ 0x07) ⊎ (kind ≡ 0x09) ⊎ (kind ≡ 0x0b)) × IsU8 line × IsU8 value

-- debounce has a line and a time
abbrev pub IsGpioTime : ℕ → ℕ → ℕ → Type 0
IsGpioTime kind line value = (kind ≡ 0x0a) × IsU8 line × IsU16 value

-- an op of an I2C transfer has an address of seven bits
abbrev pub IsI2cOp : I2cOp → Type 0
IsI2cOp (i2c.Get addr len) = (addr ≤ 127) × IsU16 len
IsI2cOp (i2c.Put addr bytes) = addr ≤ 127

-- the ops of an I2C transfer
abbrev pub AreI2cOps : List I2cOp → Type 0
AreI2cOps [] = ⊤
AreI2cOps (op ∷ ops) = IsI2cOp op × AreI2cOps ops

-- an entry of an SPI transfer
abbrev pub IsSpiOp : SpiOp → Type 0
IsSpiOp (spi.Get len) = IsU16 len
IsSpiOp (spi.Put bytes) = ⊤
IsSpiOp (spi.Both bytes) = ⊤

-- the entries of an SPI transfer
abbrev pub AreSpiOps : List SpiOp → Type 0
AreSpiOps [] = ⊤
AreSpiOps (op ∷ ops) = IsSpiOp op × AreSpiOps ops

-- What a bridge line can ask, of any length.
abbrev pub HasForm : BridgeAsk → Type 0
HasForm (ask.Gpio kind line value) =
    IsGpioCount kind line value ⊎ IsGpioLine kind line value ⊎ IsGpioByte kind line value
    ⊎ IsGpioTime kind line value
HasForm ask.I2cFunctionality = ⊤
HasForm (ask.I2cTransfer ops) = AreI2cOps ops
HasForm ask.SpiConfig = ⊤
HasForm (ask.SpiDevice select) = IsU8 select
HasForm (ask.SpiTransfer select mode ops) = IsU8 select × IsU8 mode × AreSpiOps ops
HasForm (ask.UartSend bytes) = ⊤
HasForm (ask.UartCoding rate format parity bits flow) =
    IsU32 rate × IsU8 format × IsU8 parity × IsU8 bits × IsU8 flow
HasForm (ask.UartByte kind value) = ((kind ≡ 0x05) ⊎ (kind ≡ 0x06) ⊎ (kind ≡ 0x09)) × IsU8 value
HasForm ask.LoopPing = ⊤
HasForm (ask.LoopBytes kind bytes) = (kind ≡ 0x03) ⊎ (kind ≡ 0x04)

-- ---- events

-- An event that the machine may be given.
abbrev pub IsValid : Event → Type 0
IsValid event.Boot = ⊤
IsValid (event.Insert i kinds) = IsIntf i × HasKinds kinds
IsValid (event.InsertRaw i bytes) = IsIntf i
IsValid (event.Pull i) = IsIntf i
IsValid (event.Connect i c) = IsIntf i × IsCport c
IsValid (event.Disconnect i c) = IsIntf i × IsCport c
IsValid (event.Drain i c) = IsIntf i × IsCport c
IsValid (event.Send name to kind payload timeout) =
    IsName name × IsFar to × IsRequestType kind × IsFromOne timeout
IsValid (event.Bridge name i c what) = IsName name × IsIntf i × IsCport c × HasForm what
IsValid (event.Level i c line value) = IsIntf i × IsCport c × (line ≤ 7) × (value ≤ 1)
IsValid (event.SerialState i c control) = IsIntf i × IsCport c × IsU8 control
IsValid (event.Deliver at) = IsEnd at
IsValid (event.Settle most) = (1 ≤ most) × (most ≤ 65535)
IsValid (event.Hold i c) = IsIntf i × IsCport c
IsValid (event.Answer i c place) = IsIntf i × IsCport c × IsFromOne place
IsValid (event.Cancel name) = IsName name
IsValid (event.Copy x y) = IsName x × IsName y
IsValid (event.Forget name) = IsName name
IsValid (event.Tick ms) = IsFromOne ms
IsValid (event.Inject i c bytes) = IsIntf i × IsCport c
IsValid (event.Image tag bytes) = IsTag tag × IsU32 (length bytes)
IsValid (event.Load i c tag) = IsIntf i × IsCport c × IsTag tag
IsValid event.Show = ⊤
