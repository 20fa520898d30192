-- Worked scripts with what they report: what is refused.
use Rattle.std.proofs.Common.{◌≡◌, [], ◌∷◌, codes, refl}
use Rattle.gb_machine.proofs.Scripts.{plain_behind, plain_report, report_opened, setup, text}

-- nothing is plugged
pub pulls_nothing : plain_report (codes "pull 2" ∷ [])
    ≡ text (codes "line 1 refused NoInterface" ∷ [])
unfolding report_opened
pulls_nothing = refl

-- a module is plugged already
pub plugs_twice : plain_report (codes "insert 2 gpio"
    ∷ codes "insert 2 gpio" ∷ [])
    ≡ text (codes "line 1 ok"
    ∷ codes "line 2 refused Occupied" ∷ [])
unfolding report_opened
plugs_twice = refl

-- no request has the name
pub drops_nothing : plain_report (codes "drop @q" ∷ [])
    ≡ text (codes "line 1 refused NoName" ∷ [])
unfolding report_opened
drops_nothing = refl

-- an interface is being enumerated
pub connects_early : plain_behind (codes "insert 2 gpio"
    ∷ codes "boot"
    ∷ codes "deliver ap 0"
    ∷ codes "deliver ap 0"
    ∷ codes "deliver ap 0" ∷ [])
    (codes "connect 2 1" ∷ [])
    ≡ text (codes "line 6 refused NotEnumerated" ∷ [])
unfolding report_opened
connects_early = refl

-- a module is enumerated and connected
pub refused_behind_setup : plain_behind (setup (codes "insert 2 gpio"))
    (codes "connect 2 1"
    ∷ codes "connect 2 9"
    ∷ codes "disconnect 2 0"
    ∷ codes "send @x 2 9 02 -"
    ∷ codes "drop @q"
    ∷ codes "send @x svc 07 -" ∷ [])
    ≡ text (codes "line 6 refused Occupied"
    ∷ codes "line 7 refused NoCport"
    ∷ codes "line 8 refused Unsupported"
    ∷ codes "line 9 refused NoConnection"
    ∷ codes "line 10 refused NoName"
    ∷ codes "line 11 refused Unsupported" ∷ [])
unfolding report_opened
refused_behind_setup = refl
