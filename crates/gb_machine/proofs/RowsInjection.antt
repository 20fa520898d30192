-- Worked scripts with what they report: requests and responses that came as raw bytes.
use Rattle.std.proofs.Common.{◌≡◌, [], ◌∷◌, ◌++◌, codes, refl}
use Rattle.gb_machine.proofs.Scripts.{plain_behind, report_opened, setup, text}

-- an answer to a request that was cancelled came as raw bytes
pub injected_late : plain_behind (setup (codes "insert 2 gpio")
    ++ (codes "hold 2 1"
    ∷ codes "gpio @a 2 1 activate 0"
    ∷ codes "deliver 2 1"
    ∷ codes "cancel @a" ∷ []))
    (codes "inject 2 1 0800010083000000"
    ∷ codes "deliver ap 2"
    ∷ codes "answer 2 1 1"
    ∷ codes "deliver ap 2" ∷ [])
    ≡ text (codes "line 10 ok"
    ∷ codes "raw 2 1 > ap 2 size 8"
    ∷ codes "line 11 ok"
    ∷ codes "late label 1"
    ∷ codes "line 12 ok"
    ∷ codes "reply #16 2 1 > ap 2 result 00 size 8"
    ∷ codes "line 13 ok"
    ∷ codes "unknown label 1" ∷ [])
unfolding report_opened
injected_late = refl

-- requests that came as raw bytes are served
pub injected_requests : plain_behind (setup (codes "insert 2 uart"))
    (codes "inject 2 1 0a000500080000000100"
    ∷ codes "deliver ap 2"
    ∷ codes "deliver 2 1"
    ∷ codes "inject 2 1 0a000000080000000100"
    ∷ codes "deliver ap 2"
    ∷ codes "inject 2 1 090000000700000003"
    ∷ codes "deliver ap 2"
    ∷ codes "inject 2 1 0c0009000300000001000041"
    ∷ codes "deliver ap 2"
    ∷ codes "show" ∷ [])
    ≡ text (codes "line 6 ok"
    ∷ codes "raw 2 1 > ap 2 size 10"
    ∷ codes "line 7 ok"
    ∷ codes "reply raw ap 2 > 2 1 result 06 size 8"
    ∷ codes "line 8 ok"
    ∷ codes "unknown label 5"
    ∷ codes "line 9 ok"
    ∷ codes "raw 2 1 > ap 2 size 10"
    ∷ codes "line 10 ok"
    ∷ codes "ignored type 08"
    ∷ codes "line 11 ok"
    ∷ codes "raw 2 1 > ap 2 size 9"
    ∷ codes "line 12 ok"
    ∷ codes "serial 2 1 3"
    ∷ codes "line 13 ok"
    ∷ codes "raw 2 1 > ap 2 size 12"
    ∷ codes "line 14 ok"
    ∷ codes "reply raw ap 2 > 2 1 result 00 size 8"
    ∷ codes "uart 2 1 received 41"
    ∷ codes "line 15 ok"
    ∷ codes "now 0"
    ∷ codes "interface 2 enumerated device 2"
    ∷ codes "connection 1 ap 0 svc protocol 14 open"
    ∷ codes "connection 2 ap 1 2 0 protocol 00 open"
    ∷ codes "connection 3 ap 2 2 1 protocol 04 open unclean"
    ∷ codes "queue 2 1 1" ∷ [])
unfolding report_opened
injected_requests = refl
