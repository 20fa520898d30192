-- Worked scripts with what they report: devices of modules.
use Rattle.std.proofs.Common.{◌≡◌, [], ◌∷◌, ◌++◌, codes, refl}
use Rattle.gb_machine.proofs.Scripts.{hex_behind, report_opened, setup, text}

-- an I2C memory is written and read, and another address isn't there
pub i2c_transfer : hex_behind (setup (codes "insert 2 i2c"))
    (codes "i2c @a 2 1 transfer w:50:fe r:50:4"
    ∷ codes "settle 9"
    ∷ codes "i2c @b 2 1 transfer w:51:fe r:51:4"
    ∷ codes "settle 9" ∷ [])
    ≡ text (codes "line 6 ok"
    ∷ codes "ask #16 ap 2 > 2 1 type 05 size 23 17000100050000000200500000000100500001000400fe"
    ∷ codes "line 7 ok"
    ∷ codes "reply #16 2 1 > ap 2 result 00 size 12 0c00010085000000feff0001"
    ∷ codes "end #16 answered 00 feff0001"
    ∷ codes "settled 2"
    ∷ codes "line 8 ok"
    ∷ codes "ask #17 ap 2 > 2 1 type 05 size 23 17000200050000000200510000000100510001000400fe"
    ∷ codes "line 9 ok"
    ∷ codes "reply #17 2 1 > ap 2 result 08 size 8 0800020085080000"
    ∷ codes "end #17 answered 08 -"
    ∷ codes "settled 2" ∷ [])
unfolding report_opened
i2c_transfer = refl

-- a GPIO line has an interrupt
pub gpio_interrupt : hex_behind (setup (codes "insert 2 gpio")
    ++ (codes "gpio @a 2 1 activate 3"
    ∷ codes "gpio @b 2 1 irq 3 1"
    ∷ codes "gpio @c 2 1 unmask 3" ∷ []))
    (codes "settle 9"
    ∷ codes "gpio 2 1 level 3 1"
    ∷ codes "deliver ap 2"
    ∷ codes "gpio @d 2 1 count"
    ∷ codes "settle 9" ∷ [])
    ≡ text (codes "line 9 ok"
    ∷ codes "reply #16 2 1 > ap 2 result 00 size 8 0800010083000000"
    ∷ codes "end #16 answered 00 -"
    ∷ codes "reply #17 2 1 > ap 2 result 00 size 8 080002008b000000"
    ∷ codes "end #17 answered 00 -"
    ∷ codes "reply #18 2 1 > ap 2 result 00 size 8 080003008d000000"
    ∷ codes "end #18 answered 00 -"
    ∷ codes "settled 6"
    ∷ codes "line 10 ok"
    ∷ codes "ask #19 2 1 > ap 2 type 0e size 9 090000000e00000003"
    ∷ codes "end #19 sent"
    ∷ codes "line 11 ok"
    ∷ codes "irq 2 1 3"
    ∷ codes "line 12 ok"
    ∷ codes "ask #20 ap 2 > 2 1 type 02 size 8 0800040002000000"
    ∷ codes "line 13 ok"
    ∷ codes "reply #20 2 1 > ap 2 result 00 size 9 090004008200000007"
    ∷ codes "end #20 answered 00 07 = 8"
    ∷ codes "settled 2" ∷ [])
unfolding report_opened
gpio_interrupt = refl

-- an SPI echoes
pub spi_transfer : hex_behind (setup (codes "insert 2 spi"))
    (codes "spi @a 2 1 transfer 0 0 x:0102 r:2"
    ∷ codes "settle 9" ∷ [])
    ≡ text (codes "line 6 ok"
    ∷ (codes "ask #16 ap 2 > 2 1 type 04 size 40 "
    ++ codes "28000100040000000000020040420f0002000000000000080340420f000200000000000008010102")
    ∷ codes "line 7 ok"
    ∷ codes "reply #16 2 1 > ap 2 result 00 size 12 0c0001008400000001020202"
    ∷ codes "end #16 answered 00 01020202"
    ∷ codes "settled 2" ∷ [])
unfolding report_opened
spi_transfer = refl

-- a loopback device sends back what it was sent, but for what it only takes
pub loopback : hex_behind (setup (codes "insert 2 loopback"))
    (codes "loopback @a 2 1 transfer 0a0b"
    ∷ codes "settle 9"
    ∷ codes "loopback @b 2 1 sink 0a"
    ∷ codes "settle 9"
    ∷ codes "loopback @c 2 1 ping"
    ∷ codes "gpio @d 2 1 count" ∷ [])
    ≡ text (codes "line 6 ok"
    ∷ codes "ask #16 ap 2 > 2 1 type 03 size 22 16000100030000000200000000000000000000000a0b"
    ∷ codes "line 7 ok"
    ∷ codes "reply #16 2 1 > ap 2 result 00 size 22 16000100830000000200000000000000000000000a0b"
    ∷ codes "end #16 answered 00 0200000000000000000000000a0b"
    ∷ codes "settled 2"
    ∷ codes "line 8 ok"
    ∷ codes "ask #17 ap 2 > 2 1 type 04 size 21 15000200040000000100000000000000000000000a"
    ∷ codes "line 9 ok"
    ∷ codes "reply #17 2 1 > ap 2 result 00 size 8 0800020084000000"
    ∷ codes "end #17 answered 00 -"
    ∷ codes "settled 2"
    ∷ codes "line 10 ok"
    ∷ codes "ask #18 ap 2 > 2 1 type 02 size 8 0800030002000000"
    ∷ codes "line 11 refused Unsupported" ∷ [])
unfolding report_opened
loopback = refl
