-- Worked scripts with what they report: requests and replies of connections that close.
use Rattle.std.proofs.Common.{◌≡◌, [], ◌∷◌, ◌++◌, codes, refl}
use Rattle.gb_machine.proofs.Scripts.{plain_behind, report_opened, setup, text}

-- what waits toward a closing connection is dropped, and the module's requests end once
-- it is unwired
pub closing_drops : plain_behind (setup (codes "insert 2 uart")
    ++ (codes "uart @a 2 1 send 41"
    ∷ codes "deliver 2 1" ∷ []))
    (codes "disconnect 2 1"
    ∷ codes "deliver 2 0"
    ∷ codes "deliver ap 1"
    ∷ codes "deliver ap 2"
    ∷ codes "deliver ap 2"
    ∷ codes "deliver 2 0"
    ∷ codes "deliver ap 1"
    ∷ codes "deliver svc"
    ∷ codes "deliver ap 0" ∷ [])
    ≡ text (codes "line 8 ok"
    ∷ codes "end #16 disconnected"
    ∷ codes "connection 3 ap 2 2 1 closing"
    ∷ codes "ask #19 ap 1 > 2 0 type 0c size 10"
    ∷ codes "line 9 ok"
    ∷ codes "reply #19 2 0 > ap 1 result 00 size 8"
    ∷ codes "line 10 ok"
    ∷ codes "end #19 answered 00 -"
    ∷ codes "ask #20 ap 1 > 2 0 type 06 size 10"
    ∷ codes "line 11 ok"
    ∷ codes "drop #16 reply"
    ∷ codes "line 12 ok"
    ∷ codes "drop #17 ask"
    ∷ codes "line 13 ok"
    ∷ codes "reply #20 2 0 > ap 1 result 00 size 8"
    ∷ codes "line 14 ok"
    ∷ codes "end #20 answered 00 -"
    ∷ codes "ask #21 ap 0 > svc type 08 size 14"
    ∷ codes "line 15 ok"
    ∷ codes "reply #21 svc > ap 0 result 00 size 8"
    ∷ codes "end #17 disconnected"
    ∷ codes "end #18 disconnected"
    ∷ codes "line 16 ok"
    ∷ codes "end #21 answered 00 -"
    ∷ codes "connection 3 ap 2 2 1 closed" ∷ [])
unfolding report_opened
closing_drops = refl

-- requests are dropped at a CPort that is off, held ones too
pub off_drops : plain_behind (setup (codes "insert 2 gpio")
    ++ (codes "hold 2 1"
    ∷ codes "gpio @a 2 1 activate 0"
    ∷ codes "gpio @b 2 1 activate 1"
    ∷ codes "deliver 2 1" ∷ []))
    (codes "disconnect 2 1"
    ∷ codes "deliver 2 0"
    ∷ codes "deliver ap 1"
    ∷ codes "deliver 2 0"
    ∷ codes "deliver 2 1"
    ∷ codes "answer 2 1 1"
    ∷ codes "answer 2 1 1" ∷ [])
    ≡ text (codes "line 10 ok"
    ∷ codes "end #16 disconnected"
    ∷ codes "end #17 disconnected"
    ∷ codes "connection 3 ap 2 2 1 closing"
    ∷ codes "ask #18 ap 1 > 2 0 type 0c size 10"
    ∷ codes "line 11 ok"
    ∷ codes "reply #18 2 0 > ap 1 result 00 size 8"
    ∷ codes "line 12 ok"
    ∷ codes "end #18 answered 00 -"
    ∷ codes "ask #19 ap 1 > 2 0 type 06 size 10"
    ∷ codes "line 13 ok"
    ∷ codes "reply #19 2 0 > ap 1 result 00 size 8"
    ∷ codes "line 14 ok"
    ∷ codes "drop #17 ask"
    ∷ codes "line 15 ok"
    ∷ codes "drop #16 ask"
    ∷ codes "line 16 refused NotHeld" ∷ [])
unfolding report_opened
off_drops = refl
