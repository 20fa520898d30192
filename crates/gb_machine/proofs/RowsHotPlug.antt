-- Worked scripts with what they report: modules are pulled.
use Rattle.std.proofs.Common.{◌≡◌, [], ◌∷◌, codes, refl}
use Rattle.gb_machine.proofs.Scripts.{hex_report, plain_behind, report_opened, setup, text}

-- a removal closes each connection of the interface
pub removal_closes : plain_behind (setup (codes "insert 2 gpio"))
    (codes "gpio @a 2 1 activate 0"
    ∷ codes "pull 2"
    ∷ codes "deliver ap 0" ∷ [])
    ≡ text (codes "line 6 ok"
    ∷ codes "ask #16 ap 2 > 2 1 type 03 size 9"
    ∷ codes "line 7 ok"
    ∷ codes "ask #17 svc > ap 0 type 20 size 9"
    ∷ codes "line 8 ok"
    ∷ codes "reply #17 ap 0 > svc result 00 size 8"
    ∷ codes "connection 2 ap 1 2 0 closed"
    ∷ codes "end #16 disconnected"
    ∷ codes "connection 3 ap 2 2 1 closed"
    ∷ codes "interface 2 removed" ∷ [])
unfolding report_opened
removal_closes = refl

-- a close fails once the module is pulled
pub close_of_a_pulled_module : plain_behind (setup (codes "insert 2 gpio"))
    (codes "pull 2"
    ∷ codes "disconnect 2 1"
    ∷ codes "tick 1000"
    ∷ codes "deliver ap 0"
    ∷ codes "deliver svc" ∷ [])
    ≡ text (codes "line 6 ok"
    ∷ codes "ask #16 svc > ap 0 type 20 size 9"
    ∷ codes "line 7 ok"
    ∷ codes "connection 3 ap 2 2 1 closing"
    ∷ codes "ask #17 ap 1 > 2 0 type 0c size 10 lost"
    ∷ codes "line 8 ok"
    ∷ codes "end #16 timeout"
    ∷ codes "end #17 timeout"
    ∷ codes "connection 3 ap 2 2 1 failed"
    ∷ codes "line 9 ok"
    ∷ codes "reply #16 ap 0 > svc result 00 size 8"
    ∷ codes "connection 2 ap 1 2 0 closed"
    ∷ codes "connection 3 ap 2 2 1 closed"
    ∷ codes "interface 2 removed"
    ∷ codes "line 10 ok"
    ∷ codes "late #16" ∷ [])
unfolding report_opened
close_of_a_pulled_module = refl

-- the module's own requests end at its pull
pub pull_ends_requests : plain_behind (setup (codes "insert 2 uart"))
    (codes "uart @a 2 1 send 41"
    ∷ codes "deliver 2 1"
    ∷ codes "pull 2"
    ∷ codes "deliver ap 0" ∷ [])
    ≡ text (codes "line 6 ok"
    ∷ codes "ask #16 ap 2 > 2 1 type 02 size 11"
    ∷ codes "line 7 ok"
    ∷ codes "reply #16 2 1 > ap 2 result 00 size 8"
    ∷ codes "ask #17 2 1 > ap 2 type 03 size 12"
    ∷ codes "ask #18 2 1 > ap 2 type 08 size 10"
    ∷ codes "line 8 ok"
    ∷ codes "end #17 disconnected"
    ∷ codes "end #18 disconnected"
    ∷ codes "ask #19 svc > ap 0 type 20 size 9"
    ∷ codes "line 9 ok"
    ∷ codes "reply #19 ap 0 > svc result 00 size 8"
    ∷ codes "connection 2 ap 1 2 0 closed"
    ∷ codes "end #16 disconnected"
    ∷ codes "connection 3 ap 2 2 1 closed"
    ∷ codes "interface 2 removed" ∷ [])
unfolding report_opened
pull_ends_requests = refl

-- an enumeration fails where time is over
pub enumeration_times_out : plain_behind (codes "insert 2 gpio"
    ∷ codes "boot"
    ∷ codes "deliver ap 0"
    ∷ codes "deliver ap 0"
    ∷ codes "deliver ap 0" ∷ [])
    (codes "tick 1000"
    ∷ codes "connect 2 1"
    ∷ codes "settle 9" ∷ [])
    ≡ text (codes "line 6 ok"
    ∷ codes "end #1 timeout"
    ∷ codes "end #2 timeout"
    ∷ codes "end #3 timeout"
    ∷ codes "end #4 timeout"
    ∷ codes "interface 2 failed"
    ∷ codes "line 7 refused Failed"
    ∷ codes "line 8 ok"
    ∷ codes "late #1"
    ∷ codes "late #2"
    ∷ codes "late #3"
    ∷ codes "reply #4 svc > ap 0 result 00 size 9"
    ∷ codes "late #4"
    ∷ codes "settled 5" ∷ [])
unfolding report_opened
enumeration_times_out = refl

-- modules that are plugged before the start are told in rising order
pub starts_with_two : hex_report (codes "insert 3 gpio"
    ∷ codes "insert 2 spi"
    ∷ codes "boot" ∷ [])
    ≡ text (codes "line 1 ok"
    ∷ codes "line 2 ok"
    ∷ codes "line 3 ok"
    ∷ codes "ask #1 svc > ap 0 type 01 size 10 0a000100010000000001"
    ∷ codes "ask #2 svc > ap 0 type 02 size 11 0b00020002000000010001"
    ∷ codes "ask #3 svc > ap 0 type 1f size 12 0c0003001f00000002010000"
    ∷ codes "ask #4 svc > ap 0 type 1f size 12 0c0004001f00000003010000" ∷ [])
unfolding report_opened
starts_with_two = refl
