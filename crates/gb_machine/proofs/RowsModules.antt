-- Worked scripts with what they report: modules of several interfaces.
use Rattle.std.proofs.Common.{◌≡◌, [], ◌∷◌, List, ℕ, codes, refl}
use Rattle.gb_machine.proofs.Scripts.{hex_report, plain_behind, plain_report}
use Rattle.gb_machine.proofs.Scripts.{report_opened, text}

-- the first messages of a module of two interfaces
pub tells_two : hex_report (codes "insert 2 gpio uart"
    ∷ codes "boot"
    ∷ codes "deliver ap 0"
    ∷ codes "deliver ap 0"
    ∷ codes "deliver ap 0" ∷ [])
    ≡ text (codes "line 1 ok"
    ∷ codes "line 2 ok"
    ∷ codes "ask #1 svc > ap 0 type 01 size 10 0a000100010000000001"
    ∷ codes "ask #2 svc > ap 0 type 02 size 11 0b00020002000000010001"
    ∷ codes "ask #3 svc > ap 0 type 1f size 12 0c0003001f00000002020000"
    ∷ codes "line 3 ok"
    ∷ codes "reply #1 ap 0 > svc result 00 size 10 0a000100810000000001"
    ∷ codes "line 4 ok"
    ∷ codes "reply #2 ap 0 > svc result 00 size 8 0800020082000000"
    ∷ codes "line 5 ok"
    ∷ codes "reply #3 ap 0 > svc result 00 size 8 080003009f000000"
    ∷ codes "interface 2 enumerating"
    ∷ codes "ask #4 ap 0 > svc type 21 size 9 090001002100000002"
    ∷ codes "interface 3 enumerating"
    ∷ codes "ask #5 ap 0 > svc type 21 size 9 090002002100000003" ∷ [])
unfolding report_opened
tells_two = refl

-- a module of two interfaces is plugged and enumerated, and the second is connected
abbrev two_connected : List (List ℕ)
two_connected =
    codes "insert 2 gpio uart"
    ∷ codes "boot"
    ∷ codes "settle 80"
    ∷ codes "connect 3 1"
    ∷ codes "settle 10" ∷ []

-- its second interface is pulled, and the whole module goes
pub pulled_by_the_second : plain_behind two_connected
    (codes "uart @a 3 1 send 41"
    ∷ codes "pull 3"
    ∷ codes "deliver ap 0"
    ∷ codes "deliver svc"
    ∷ codes "pull 2" ∷ [])
    ≡ text (codes "line 6 ok"
    ∷ codes "ask #26 ap 3 > 3 1 type 02 size 11"
    ∷ codes "line 7 ok"
    ∷ codes "ask #27 svc > ap 0 type 20 size 9"
    ∷ codes "line 8 ok"
    ∷ codes "reply #27 ap 0 > svc result 00 size 8"
    ∷ codes "connection 2 ap 1 2 0 closed"
    ∷ codes "interface 2 removed"
    ∷ codes "connection 3 ap 2 3 0 closed"
    ∷ codes "end #26 disconnected"
    ∷ codes "connection 4 ap 3 3 1 closed"
    ∷ codes "interface 3 removed"
    ∷ codes "line 9 ok"
    ∷ codes "end #27 answered 00 -"
    ∷ codes "line 10 refused NoInterface" ∷ [])
unfolding report_opened
pulled_by_the_second = refl

-- modules must end at interface 31, and find each of their interfaces free
pub refuses_modules : plain_report (codes "insert 31 gpio gpio"
    ∷ codes "insert 28 gpio gpio gpio gpio"
    ∷ codes "insert 30 gpio gpio gpio"
    ∷ codes "insert 3 gpio"
    ∷ codes "insert 2 gpio uart"
    ∷ codes "insert 2 gpio" ∷ [])
    ≡ text (codes "line 1 refused OutOfRange"
    ∷ codes "line 2 ok"
    ∷ codes "line 3 refused OutOfRange"
    ∷ codes "line 4 ok"
    ∷ codes "line 5 refused Occupied"
    ∷ codes "line 6 ok" ∷ [])
unfolding report_opened
refuses_modules = refl

-- modules that are plugged before the start are told module by module
pub starts_with_modules : hex_report (codes "insert 5 gpio"
    ∷ codes "insert 2 spi uart gpio"
    ∷ codes "boot" ∷ [])
    ≡ text (codes "line 1 ok"
    ∷ codes "line 2 ok"
    ∷ codes "line 3 ok"
    ∷ codes "ask #1 svc > ap 0 type 01 size 10 0a000100010000000001"
    ∷ codes "ask #2 svc > ap 0 type 02 size 11 0b00020002000000010001"
    ∷ codes "ask #3 svc > ap 0 type 1f size 12 0c0003001f00000002030000"
    ∷ codes "ask #4 svc > ap 0 type 1f size 12 0c0004001f00000005010000" ∷ [])
unfolding report_opened
starts_with_modules = refl

-- a module is pulled before its insertion is handled, and another stands at its second interface
pub pulled_and_plugged : plain_report (codes "insert 2 gpio uart"
    ∷ codes "boot"
    ∷ codes "pull 2"
    ∷ codes "insert 3 spi"
    ∷ codes "deliver ap 0"
    ∷ codes "deliver ap 0"
    ∷ codes "deliver ap 0"
    ∷ codes "deliver ap 0"
    ∷ codes "deliver ap 0" ∷ [])
    ≡ text (codes "line 1 ok"
    ∷ codes "line 2 ok"
    ∷ codes "ask #1 svc > ap 0 type 01 size 10"
    ∷ codes "ask #2 svc > ap 0 type 02 size 11"
    ∷ codes "ask #3 svc > ap 0 type 1f size 12"
    ∷ codes "line 3 ok"
    ∷ codes "ask #4 svc > ap 0 type 20 size 9"
    ∷ codes "line 4 ok"
    ∷ codes "ask #5 svc > ap 0 type 1f size 12"
    ∷ codes "line 5 ok"
    ∷ codes "reply #1 ap 0 > svc result 00 size 10"
    ∷ codes "line 6 ok"
    ∷ codes "reply #2 ap 0 > svc result 00 size 8"
    ∷ codes "line 7 ok"
    ∷ codes "reply #3 ap 0 > svc result 00 size 8"
    ∷ codes "interface 2 enumerating"
    ∷ codes "ask #6 ap 0 > svc type 21 size 9"
    ∷ codes "interface 3 enumerating"
    ∷ codes "ask #7 ap 0 > svc type 21 size 9"
    ∷ codes "line 8 ok"
    ∷ codes "reply #4 ap 0 > svc result 00 size 8"
    ∷ codes "interface 2 removed"
    ∷ codes "interface 3 removed"
    ∷ codes "line 9 ok"
    ∷ codes "reply #5 ap 0 > svc result 00 size 8"
    ∷ codes "interface 3 enumerating"
    ∷ codes "ask #8 ap 0 > svc type 21 size 9" ∷ [])
unfolding report_opened
pulled_and_plugged = refl
