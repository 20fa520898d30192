-- Worked scripts with what they report: names, and the state as it is shown.
use Rattle.std.proofs.Common.{◌≡◌, [], ◌∷◌, ◌++◌, codes, refl}
use Rattle.gb_machine.proofs.Scripts.{plain_behind, plain_report, report_opened, setup, text}

-- the state after a ping is shown
pub shown_state : plain_report (codes "send @x svc ping"
    ∷ codes "deliver svc"
    ∷ codes "deliver ap 0"
    ∷ codes "show" ∷ [])
    ≡ text (codes "line 1 ok"
    ∷ codes "ask #1 ap 0 > svc type 13 size 8"
    ∷ codes "line 2 ok"
    ∷ codes "reply #1 svc > ap 0 result 00 size 8"
    ∷ codes "line 3 ok"
    ∷ codes "end #1 answered 00 -"
    ∷ codes "line 4 ok"
    ∷ codes "now 0"
    ∷ codes "connection 1 ap 0 svc protocol 14 open"
    ∷ codes "name @x #1 answered 00" ∷ [])
unfolding report_opened
shown_state = refl

-- a second name for a request
pub second_name : plain_report (codes "send @x svc ping"
    ∷ codes "copy @x @y"
    ∷ codes "drop @x"
    ∷ codes "cancel @y"
    ∷ codes "cancel @x" ∷ [])
    ≡ text (codes "line 1 ok"
    ∷ codes "ask #1 ap 0 > svc type 13 size 8"
    ∷ codes "line 2 ok"
    ∷ codes "line 3 ok"
    ∷ codes "line 4 ok"
    ∷ codes "end #1 cancelled"
    ∷ codes "line 5 refused NoName" ∷ [])
unfolding report_opened
second_name = refl

-- interfaces, connections, queues and names are shown
pub shown_parts : plain_behind (setup (codes "insert 2 gpio")
    ++ (codes "gpio @b 2 1 activate 0"
    ∷ codes "send @a svc ping" ∷ []))
    (codes "show" ∷ [])
    ≡ text (codes "line 8 ok"
    ∷ codes "now 0"
    ∷ codes "interface 2 enumerated device 2"
    ∷ codes "connection 1 ap 0 svc protocol 14 open"
    ∷ codes "connection 2 ap 1 2 0 protocol 00 open"
    ∷ codes "connection 3 ap 2 2 1 protocol 02 open"
    ∷ codes "queue svc 1"
    ∷ codes "queue 2 1 1"
    ∷ codes "name @a #17 open"
    ∷ codes "name @b #16 open" ∷ [])
unfolding report_opened
shown_parts = refl
