-- Worked scripts with what they report: pings.
use Rattle.std.proofs.Common.{◌≡◌, [], ◌∷◌, codes, refl}
use Rattle.gb_machine.proofs.Scripts.{hex_report, plain_report, report_opened, text}

-- a ping, its delivery and the delivery of its answer
pub one_ping : hex_report (codes "send @x svc ping"
    ∷ codes "deliver svc"
    ∷ codes "deliver ap 0" ∷ [])
    ≡ text (codes "line 1 ok"
    ∷ codes "ask #1 ap 0 > svc type 13 size 8 0800010013000000"
    ∷ codes "line 2 ok"
    ∷ codes "reply #1 svc > ap 0 result 00 size 8 0800010093000000"
    ∷ codes "line 3 ok"
    ∷ codes "end #1 answered 00 -" ∷ [])
unfolding report_opened
one_ping = refl

-- an answer comes to a ping that was cancelled
pub late_answer : hex_report (codes "send @x svc ping"
    ∷ codes "cancel @x"
    ∷ codes "send @y svc ping"
    ∷ codes "deliver svc"
    ∷ codes "deliver ap 0"
    ∷ codes "send @z svc ping"
    ∷ codes "cancel @y" ∷ [])
    ≡ text (codes "line 1 ok"
    ∷ codes "ask #1 ap 0 > svc type 13 size 8 0800010013000000"
    ∷ codes "line 2 ok"
    ∷ codes "end #1 cancelled"
    ∷ codes "line 3 ok"
    ∷ codes "ask #2 ap 0 > svc type 13 size 8 0800020013000000"
    ∷ codes "line 4 ok"
    ∷ codes "reply #1 svc > ap 0 result 00 size 8 0800010093000000"
    ∷ codes "line 5 ok"
    ∷ codes "late #1"
    ∷ codes "line 6 ok"
    ∷ codes "ask #3 ap 0 > svc type 13 size 8 0800030013000000"
    ∷ codes "line 7 ok"
    ∷ codes "end #2 cancelled" ∷ [])
unfolding report_opened
late_answer = refl

-- a ping that was answered is cancelled
pub cancelled_too_late : plain_report (codes "send @x svc ping"
    ∷ codes "deliver svc"
    ∷ codes "deliver ap 0"
    ∷ codes "cancel @x" ∷ [])
    ≡ text (codes "line 1 ok"
    ∷ codes "ask #1 ap 0 > svc type 13 size 8"
    ∷ codes "line 2 ok"
    ∷ codes "reply #1 svc > ap 0 result 00 size 8"
    ∷ codes "line 3 ok"
    ∷ codes "end #1 answered 00 -"
    ∷ codes "line 4 refused AlreadyEnded" ∷ [])
unfolding report_opened
cancelled_too_late = refl

-- a ping with a payload, and a type that no request has
pub bad_requests : plain_report (codes "send @x svc 13 00"
    ∷ codes "send @y svc 44 -"
    ∷ codes "settle 5" ∷ [])
    ≡ text (codes "line 1 ok"
    ∷ codes "ask #1 ap 0 > svc type 13 size 9"
    ∷ codes "line 2 ok"
    ∷ codes "ask #2 ap 0 > svc type 44 size 8"
    ∷ codes "line 3 ok"
    ∷ codes "reply #1 svc > ap 0 result 06 size 8"
    ∷ codes "reply #2 svc > ap 0 result 04 size 8"
    ∷ codes "end #1 answered 06 -"
    ∷ codes "end #2 answered 04 -"
    ∷ codes "settled 4" ∷ [])
unfolding report_opened
bad_requests = refl

-- a ping times out
pub times_out : plain_report (codes "send @x svc ping timeout 10"
    ∷ codes "tick 9"
    ∷ codes "tick 1" ∷ [])
    ≡ text (codes "line 1 ok"
    ∷ codes "ask #1 ap 0 > svc type 13 size 8"
    ∷ codes "line 2 ok"
    ∷ codes "line 3 ok"
    ∷ codes "end #1 timeout" ∷ [])
unfolding report_opened
times_out = refl
