-- Lines of a script, and what they say: one for each form.
use Rattle.std.proofs.Common.{◌≡◌, ℕ, List, [], ◌∷◌, refl}
use Rattle.std.specs.Prelude.{Some, Ok, map, codes}
use Rattle.hex.specs.Hex.{decode_pairs}
use Rattle.gb_base.specs.declared.bridge.BridgeAsk.TheVariants as ask
use Rattle.gb_base.specs.declared.bridge.I2cOp.TheVariants as i2c
use Rattle.gb_base.specs.declared.bridge.SpiOp.TheVariants as spi
use Rattle.gb_base.specs.declared.end.End.TheVariants as end
use Rattle.gb_base.specs.declared.event.Event.TheVariants as event
use Rattle.gb_base.specs.declared.event.Kind.TheVariants as kind
use Rattle.gb_formats.specs.Grammar.{Said}
use Rattle.gb_formats.specs.Script.{judged}
use Rattle.gb_formats.proofs.Samples.{named, named_of}

-- the forms of the bus
abbrev pub form_lines : List (List ℕ × Said)
form_lines =
    (codes "boot", Ok (Some event.Boot))
    ∷ (codes "insert 2 gpio", Ok (Some (event.Insert 2 (kind.Gpio ∷ []))))
    ∷ (codes "insert 31 i2c", Ok (Some (event.Insert 31 (kind.I2c ∷ []))))
    ∷ (codes "insert 2 spi", Ok (Some (event.Insert 2 (kind.Spi ∷ []))))
    ∷ (codes "insert 2 uart", Ok (Some (event.Insert 2 (kind.Uart ∷ []))))
    ∷ (codes "insert 2 loopback", Ok (Some (event.Insert 2 (kind.Loopback ∷ []))))
    ∷ (codes "insert 2 firmware", Ok (Some (event.Insert 2 (kind.Firmware ∷ []))))
    ∷ (codes "insert 2 bridge", Ok (Some (event.Insert 2 (kind.Bridge ∷ []))))
    ∷ (codes "insert 2 gpio uart", Ok (Some (event.Insert 2 (kind.Gpio ∷ kind.Uart ∷ []))))
    ∷ (
      codes "insert 30 spi spi i2c",
      Ok (Some (event.Insert 30 (kind.Spi ∷ kind.Spi ∷ kind.I2c ∷ []))),
    )
    ∷ (
      codes "insert 31 bridge loopback gpio uart",
      Ok (Some (event.Insert 31 (kind.Bridge ∷ kind.Loopback ∷ kind.Gpio ∷ kind.Uart ∷ []))),
    )
    ∷ (codes "insert 3 raw 03Ff", Ok (Some (event.InsertRaw 3 (3 ∷ 255 ∷ []))))
    ∷ (codes "insert 3 raw -", Ok (Some (event.InsertRaw 3 [])))
    ∷ (codes "pull 2", Ok (Some (event.Pull 2)))
    ∷ (codes "connect 2 0", Ok (Some (event.Connect 2 0)))
    ∷ (codes "disconnect 2 4095", Ok (Some (event.Disconnect 2 4095)))
    ∷ (codes "disconnect 31 0 drain", Ok (Some (event.Drain 31 0)))
    ∷ (codes "send @x svc ping", Ok (Some (event.Send (named (codes "x")) end.Svc 0x13 [] 1000)))
    ∷ (
      codes "send @x svc ping timeout 10",
      Ok (Some (event.Send (named (codes "x")) end.Svc 0x13 [] 10)),
    )
    ∷ (
      codes "send @ab09 svc 7F 00aB",
      Ok (Some (event.Send (named (codes "ab09")) end.Svc 0x7f (0 ∷ 171 ∷ []) 1000)),
    )
    ∷ (
      codes "send @x svc 13 - timeout 4294967295",
      Ok (Some (event.Send (named (codes "x")) end.Svc 0x13 [] 4294967295)),
    )
    ∷ (
      codes "send @x 2 1 02 -",
      Ok (Some (event.Send (named (codes "x")) (end.Module 2 1) 0x02 [] 1000)),
    )
    ∷ (
      codes "send @x 2 1 02 ff timeout 1",
      Ok (Some (event.Send (named (codes "x")) (end.Module 2 1) 0x02 (255 ∷ []) 1)),
    )
    ∷ (codes "deliver ap 4095", Ok (Some (event.Deliver (end.Ap 4095))))
    ∷ (codes "deliver svc", Ok (Some (event.Deliver end.Svc)))
    ∷ (codes "deliver 2 1", Ok (Some (event.Deliver (end.Module 2 1))))
    ∷ (codes "settle 65535", Ok (Some (event.Settle 65535)))
    ∷ (codes "hold 2 1", Ok (Some (event.Hold 2 1)))
    ∷ (codes "answer 2 1 4294967295", Ok (Some (event.Answer 2 1 4294967295)))
    ∷ (codes "cancel @x", Ok (Some (event.Cancel (named (codes "x")))))
    ∷ (codes "copy @x @y", Ok (Some (event.Copy (named (codes "x")) (named (codes "y")))))
    ∷ (
      codes "drop @abcdefghij012345",
      Ok (Some (event.Forget (named (codes "abcdefghij012345")))),
    )
    ∷ (codes "tick 1", Ok (Some (event.Tick 1)))
    ∷ (codes "inject 2 1 0800", Ok (Some (event.Inject 2 1 (8 ∷ 0 ∷ []))))
    ∷ (codes "image boot 000aFf", Ok (Some (event.Image (codes "boot") (0 ∷ 10 ∷ 255 ∷ []))))
    ∷ (codes "image 0 -", Ok (Some (event.Image (codes "0") [])))
    ∷ (codes "load 31 4095 abcdefgh9", Ok (Some (event.Load 31 4095 (codes "abcdefgh9"))))
    ∷ (codes "show", Ok (Some event.Show))
    ∷ (codes "  show  ", Ok (Some event.Show))
    ∷ []

pub form_lines-said : map (λ row. judged 0 row.0) form_lines ≡ map (λ row. row.1) form_lines
unfolding decode_pairs
form_lines-said = refl

-- the forms of the bridged protocols
abbrev pub bridge_lines : List (List ℕ × Said)
bridge_lines = (
  codes "gpio @x 2 1 count",
  Ok (Some (event.Bridge (named (codes "x")) 2 1 (ask.Gpio 0x02 0 0))),
)
    ∷ (
      codes "gpio @x 2 1 activate 255",
      Ok (Some (event.Bridge (named (codes "x")) 2 1 (ask.Gpio 0x03 255 0))),
    )
    ∷ (
      codes "gpio @x 2 1 deactivate 255",
      Ok (Some (event.Bridge (named (codes "x")) 2 1 (ask.Gpio 0x04 255 0))),
    )
    ∷ (
      codes "gpio @x 2 1 direction 255",
      Ok (Some (event.Bridge (named (codes "x")) 2 1 (ask.Gpio 0x05 255 0))),
    )
    ∷ (
      codes "gpio @x 2 1 in 255",
      Ok (Some (event.Bridge (named (codes "x")) 2 1 (ask.Gpio 0x06 255 0))),
    )
    ∷ (
      codes "gpio @x 2 1 get 255",
      Ok (Some (event.Bridge (named (codes "x")) 2 1 (ask.Gpio 0x08 255 0))),
    )
    ∷ (
      codes "gpio @x 2 1 mask 255",
      Ok (Some (event.Bridge (named (codes "x")) 2 1 (ask.Gpio 0x0c 255 0))),
    )
    ∷ (
      codes "gpio @x 2 1 unmask 255",
      Ok (Some (event.Bridge (named (codes "x")) 2 1 (ask.Gpio 0x0d 255 0))),
    )
    ∷ (
      codes "gpio @x 2 1 out 3 1",
      Ok (Some (event.Bridge (named (codes "x")) 2 1 (ask.Gpio 0x07 3 1))),
    )
    ∷ (
      codes "gpio @x 2 1 set 3 255",
      Ok (Some (event.Bridge (named (codes "x")) 2 1 (ask.Gpio 0x09 3 255))),
    )
    ∷ (
      codes "gpio @x 2 1 debounce 3 65535",
      Ok (Some (event.Bridge (named (codes "x")) 2 1 (ask.Gpio 0x0a 3 65535))),
    )
    ∷ (
      codes "gpio @x 2 1 irq 3 8",
      Ok (Some (event.Bridge (named (codes "x")) 2 1 (ask.Gpio 0x0b 3 8))),
    )
    ∷ (codes "gpio 2 1 level 7 1", Ok (Some (event.Level 2 1 7 1)))
    ∷ (
      codes "i2c @x 2 1 functionality",
      Ok (Some (event.Bridge (named (codes "x")) 2 1 ask.I2cFunctionality)),
    )
    ∷ (
      codes "i2c @x 2 1 transfer",
      Ok (Some (event.Bridge (named (codes "x")) 2 1 (ask.I2cTransfer []))),
    )
    ∷ (
      codes "i2c @x 2 1 transfer w:50:fe r:7F:65535 w:00:-",
      Ok (Some (event.Bridge (named (codes "x")) 2 1
          (ask.I2cTransfer (i2c.Put 0x50 (254 ∷ []) ∷ i2c.Get 0x7f 65535 ∷ i2c.Put 0 [] ∷ [])))),
    )
    ∷ (
      codes "spi @x 2 1 config",
      Ok (Some (event.Bridge (named (codes "x")) 2 1 ask.SpiConfig)),
    )
    ∷ (
      codes "spi @x 2 1 device 255",
      Ok (Some (event.Bridge (named (codes "x")) 2 1 (ask.SpiDevice 255))),
    )
    ∷ (
      codes "spi @x 2 1 transfer 0 3",
      Ok (Some (event.Bridge (named (codes "x")) 2 1 (ask.SpiTransfer 0 3 []))),
    )
    ∷ (
      codes "spi @x 2 1 transfer 0 255 x:0102 r:2 w:-",
      Ok (Some (event.Bridge (named (codes "x")) 2 1
          (ask.SpiTransfer 0 255 (spi.Both (1 ∷ 2 ∷ []) ∷ spi.Get 2 ∷ spi.Put [] ∷ [])))),
    )
    ∷ (
      codes "uart @x 2 1 send 00",
      Ok (Some (event.Bridge (named (codes "x")) 2 1 (ask.UartSend (0 ∷ [])))),
    )
    ∷ (
      codes "uart @x 2 1 send -",
      Ok (Some (event.Bridge (named (codes "x")) 2 1 (ask.UartSend []))),
    )
    ∷ (
      codes "uart @x 2 1 coding 4294967295 1 2 8 255",
      Ok (Some (event.Bridge (named (codes "x")) 2 1 (ask.UartCoding 4294967295 1 2 8 255))),
    )
    ∷ (
      codes "uart @x 2 1 control 3",
      Ok (Some (event.Bridge (named (codes "x")) 2 1 (ask.UartByte 0x05 3))),
    )
    ∷ (
      codes "uart @x 2 1 break 1",
      Ok (Some (event.Bridge (named (codes "x")) 2 1 (ask.UartByte 0x06 1))),
    )
    ∷ (
      codes "uart @x 2 1 flush 255",
      Ok (Some (event.Bridge (named (codes "x")) 2 1 (ask.UartByte 0x09 255))),
    )
    ∷ (codes "uart 2 1 state 255", Ok (Some (event.SerialState 2 1 255)))
    ∷ (
      codes "loopback @x 2 1 ping",
      Ok (Some (event.Bridge (named (codes "x")) 2 1 ask.LoopPing)),
    )
    ∷ (
      codes "loopback @x 2 1 transfer 0aFF",
      Ok (Some (event.Bridge (named (codes "x")) 2 1 (ask.LoopBytes 0x03 (10 ∷ 255 ∷ [])))),
    )
    ∷ (
      codes "loopback @x 2 1 sink -",
      Ok (Some (event.Bridge (named (codes "x")) 2 1 (ask.LoopBytes 0x04 []))),
    )
    ∷ []

pub bridge_lines-said : map (λ row. judged 0 row.0) bridge_lines ≡ map (λ row. row.1) bridge_lines
unfolding decode_pairs
bridge_lines-said = refl

-- names are of the requester whose line it is
pub requester-said : judged 3 (codes "copy @x @y")
    ≡ Ok (Some (event.Copy (named_of 3 (codes "x")) (named_of 3 (codes "y"))))
requester-said = refl
