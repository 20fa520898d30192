-- Worked scripts with what they report: firmware downloads.
use Rattle.std.proofs.Common.{◌≡◌, [], ◌∷◌, ◌++◌, codes, refl}
use Rattle.gb_machine.proofs.Scripts.{plain_behind, report_opened, setup, text}

-- an image is found, fetched and released; one that isn't there fails; none is given twice
pub downloads : plain_behind (setup (codes "insert 2 firmware") ++ codes "image boot 000102" ∷ [])
    (codes "load 2 1 boot"
    ∷ codes "settle 20"
    ∷ codes "load 2 1 none"
    ∷ codes "settle 20"
    ∷ codes "image boot 00" ∷ [])
    ≡ text (codes "line 7 ok"
    ∷ codes "ask #16 2 1 > ap 2 type 01 size 18"
    ∷ codes "line 8 ok"
    ∷ codes "reply #16 ap 2 > 2 1 result 00 size 13"
    ∷ codes "end #16 answered 00 0103000000"
    ∷ codes "ask #17 2 1 > ap 2 type 02 size 17"
    ∷ codes "reply #17 ap 2 > 2 1 result 00 size 11"
    ∷ codes "end #17 answered 00 000102"
    ∷ codes "ask #18 2 1 > ap 2 type 03 size 9"
    ∷ codes "reply #18 ap 2 > 2 1 result 00 size 8"
    ∷ codes "end #18 answered 00 -"
    ∷ codes "download 2 1 boot done 3"
    ∷ codes "settled 6"
    ∷ codes "line 9 ok"
    ∷ codes "ask #19 2 1 > ap 2 type 01 size 18"
    ∷ codes "line 10 ok"
    ∷ codes "reply #19 ap 2 > 2 1 result 08 size 8"
    ∷ codes "end #19 answered 08 -"
    ∷ codes "download 2 1 none failed"
    ∷ codes "settled 2"
    ∷ codes "line 11 refused Occupied" ∷ [])
unfolding report_opened
downloads = refl

-- a download that a deadline breaks off fails; one that a pull breaks off ends without a word
pub broken_off : plain_behind (setup (codes "insert 2 firmware") ++ codes "image boot 000102" ∷ [])
    (codes "load 2 1 boot"
    ∷ codes "load 2 1 boot"
    ∷ codes "load 2 2 boot"
    ∷ codes "load 3 1 boot"
    ∷ codes "tick 1000"
    ∷ codes "load 2 1 boot"
    ∷ codes "deliver ap 2"
    ∷ codes "deliver ap 2"
    ∷ codes "pull 2" ∷ [])
    ≡ text (codes "line 7 ok"
    ∷ codes "ask #16 2 1 > ap 2 type 01 size 18"
    ∷ codes "line 8 refused Occupied"
    ∷ codes "line 9 refused NoCport"
    ∷ codes "line 10 refused NoInterface"
    ∷ codes "line 11 ok"
    ∷ codes "end #16 timeout"
    ∷ codes "download 2 1 boot failed"
    ∷ codes "line 12 ok"
    ∷ codes "ask #17 2 1 > ap 2 type 01 size 18"
    ∷ codes "line 13 ok"
    ∷ codes "reply #16 ap 2 > 2 1 result 00 size 13"
    ∷ codes "line 14 ok"
    ∷ codes "reply #17 ap 2 > 2 1 result 00 size 13"
    ∷ codes "line 15 ok"
    ∷ codes "end #17 disconnected"
    ∷ codes "ask #18 svc > ap 0 type 20 size 9" ∷ [])
unfolding report_opened
broken_off = refl

-- a module that is quiet asks no more, and its download fails
pub quiet : plain_behind (setup (codes "insert 2 firmware")
    ++ (codes "image boot 000102" ∷ codes "load 2 1 boot" ∷ codes "deliver ap 2" ∷ []))
    (codes "disconnect 2 1"
    ∷ codes "deliver 2 0"
    ∷ codes "deliver 2 1" ∷ [])
    ≡ text (codes "line 9 ok"
    ∷ codes "connection 3 ap 2 2 1 closing"
    ∷ codes "ask #17 ap 1 > 2 0 type 0c size 10"
    ∷ codes "line 10 ok"
    ∷ codes "reply #17 2 0 > ap 1 result 00 size 8"
    ∷ codes "line 11 ok"
    ∷ codes "end #16 answered 00 0103000000"
    ∷ codes "download 2 1 boot failed" ∷ [])
unfolding report_opened
quiet = refl

-- a connection that is destroyed ends the request that a download waits for
pub destroyed : plain_behind (setup (codes "insert 2 firmware")
    ++ (codes "image boot 000102" ∷ codes "load 2 1 boot" ∷ []))
    (codes "disconnect 2 1"
    ∷ codes "settle 20" ∷ [])
    ≡ text (codes "line 8 ok"
    ∷ codes "connection 3 ap 2 2 1 closing"
    ∷ codes "ask #17 ap 1 > 2 0 type 0c size 10"
    ∷ codes "line 9 ok"
    ∷ codes "drop #16 ask"
    ∷ codes "reply #17 2 0 > ap 1 result 00 size 8"
    ∷ codes "end #17 answered 00 -"
    ∷ codes "ask #18 ap 1 > 2 0 type 06 size 10"
    ∷ codes "reply #18 2 0 > ap 1 result 00 size 8"
    ∷ codes "end #18 answered 00 -"
    ∷ codes "ask #19 ap 0 > svc type 08 size 14"
    ∷ codes "reply #19 svc > ap 0 result 00 size 8"
    ∷ codes "end #16 disconnected"
    ∷ codes "download 2 1 boot failed"
    ∷ codes "end #19 answered 00 -"
    ∷ codes "connection 3 ap 2 2 1 closed"
    ∷ codes "settled 7" ∷ [])
unfolding report_opened
destroyed = refl
