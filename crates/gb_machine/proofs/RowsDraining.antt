-- Worked scripts with what they report: connections that drain.
use Rattle.std.proofs.Common.{◌≡◌, [], ◌∷◌, ◌++◌, List, ℕ, codes, refl}
use Rattle.gb_machine.proofs.Scripts.{plain_behind, report_opened, setup, text}

-- a request is held at its module, and the connection drains
abbrev held : List (List ℕ)
held =
    setup (codes "insert 2 gpio")
    ++ (codes "hold 2 1"
    ∷ codes "gpio @a 2 1 activate 0"
    ∷ codes "deliver 2 1" ∷ [])

-- it closes once its request is answered, and takes none before
pub drain_answered : plain_behind held
    (codes "disconnect 2 1 drain"
    ∷ codes "gpio @b 2 1 count"
    ∷ codes "disconnect 2 1 drain"
    ∷ codes "answer 2 1 1"
    ∷ codes "deliver ap 2"
    ∷ codes "settle 10" ∷ [])
    ≡ text (codes "line 9 ok"
    ∷ codes "connection 3 ap 2 2 1 draining"
    ∷ codes "line 10 refused Closing"
    ∷ codes "line 11 refused Closing"
    ∷ codes "line 12 ok"
    ∷ codes "reply #16 2 1 > ap 2 result 00 size 8"
    ∷ codes "line 13 ok"
    ∷ codes "end #16 answered 00 -"
    ∷ codes "connection 3 ap 2 2 1 closing"
    ∷ codes "ask #17 ap 1 > 2 0 type 0c size 10"
    ∷ codes "line 14 ok"
    ∷ codes "reply #17 2 0 > ap 1 result 00 size 8"
    ∷ codes "end #17 answered 00 -"
    ∷ codes "ask #18 ap 1 > 2 0 type 06 size 10"
    ∷ codes "reply #18 2 0 > ap 1 result 00 size 8"
    ∷ codes "end #18 answered 00 -"
    ∷ codes "ask #19 ap 0 > svc type 08 size 14"
    ∷ codes "reply #19 svc > ap 0 result 00 size 8"
    ∷ codes "end #19 answered 00 -"
    ∷ codes "connection 3 ap 2 2 1 closed"
    ∷ codes "settled 6" ∷ [])
unfolding report_opened
drain_answered = refl

-- it closes once its request times out
pub drain_timed_out : plain_behind held
    (codes "disconnect 2 1 drain"
    ∷ codes "tick 1000" ∷ [])
    ≡ text (codes "line 9 ok"
    ∷ codes "connection 3 ap 2 2 1 draining"
    ∷ codes "line 10 ok"
    ∷ codes "end #16 timeout"
    ∷ codes "connection 3 ap 2 2 1 closing"
    ∷ codes "ask #17 ap 1 > 2 0 type 0c size 10" ∷ [])
unfolding report_opened
drain_timed_out = refl

-- it closes at once where nothing is open, and is closed at once by a plain disconnect
pub drain_at_once : plain_behind (setup (codes "insert 2 gpio"))
    (codes "disconnect 2 1 drain" ∷ [])
    ≡ text (codes "line 6 ok"
    ∷ codes "connection 3 ap 2 2 1 draining"
    ∷ codes "connection 3 ap 2 2 1 closing"
    ∷ codes "ask #16 ap 1 > 2 0 type 0c size 10" ∷ [])
unfolding report_opened
drain_at_once = refl

pub drain_broken_off : plain_behind held
    (codes "disconnect 2 1 drain"
    ∷ codes "show"
    ∷ codes "disconnect 2 1" ∷ [])
    ≡ text (codes "line 9 ok"
    ∷ codes "connection 3 ap 2 2 1 draining"
    ∷ codes "line 10 ok"
    ∷ codes "now 0"
    ∷ codes "interface 2 enumerated device 2"
    ∷ codes "connection 1 ap 0 svc protocol 14 open"
    ∷ codes "connection 2 ap 1 2 0 protocol 00 open"
    ∷ codes "connection 3 ap 2 2 1 protocol 02 draining"
    ∷ codes "name @a #16 open"
    ∷ codes "line 11 ok"
    ∷ codes "end #16 disconnected"
    ∷ codes "connection 3 ap 2 2 1 closing"
    ∷ codes "ask #17 ap 1 > 2 0 type 0c size 10" ∷ [])
unfolding report_opened
drain_broken_off = refl
