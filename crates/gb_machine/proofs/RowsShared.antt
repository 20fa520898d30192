-- Worked scripts with requesters, with what is written of them.
use Rattle.std.proofs.Common.{◌≡◌, ℕ, ◌+◌, true, false, List, [], ◌∷◌, ◌++◌, codes, length}
use Rattle.std.proofs.Common.{refl}
use Rattle.gb_formats.specs.Orders.{Merged, Place, merge}
use Rattle.gb_formats.specs.Parts.{parts, parts_from}
use Rattle.gb_machine.proofs.Scripts.{after, report_opened, setup, text}
use Rattle.gb_machine.specs.Journal as journal
use Rattle.gb_machine.specs.Shared.{done_in, report_merged, shared, tickets_of}
use Rattle.gb_machine.specs.State.{State, first_state}

-- what is written of a script whose lines are done in an order
abbrev plain_shared : List (List ℕ) → List Place → List ℕ
plain_shared script order = shared false (parts (text script)).asked order

-- what is written behind the order, from a state on
abbrev merged_from : State → List Merged → List ℕ
merged_from s ms = report_merged false s ms ++ tickets_of (journal.after s (done_in ms))

-- what is written behind the order of the lines that follow a first part
abbrev shared_behind : List (List ℕ) → List (List ℕ) → List Place → List ℕ
shared_behind front script order =
    merged_from (after first_state front)
    (merge (parts_from (length front + 1) 0 script).asked order)

-- a ping of requester 0
pub one_ping : plain_shared (codes "send @x svc ping" ∷ codes "deliver svc" ∷ [])
    ((0, false) ∷ (0, false) ∷ [])
    ≡ text (codes "order 0 0"
    ∷ codes "line 1 ok"
    ∷ codes "ask #1 ap 0 > svc type 13 size 8"
    ∷ codes "line 2 ok"
    ∷ codes "reply #1 svc > ap 0 result 00 size 8"
    ∷ codes "ticket 0 @x #1 open" ∷ [])
unfolding report_opened
one_ping = refl

-- no line at all
pub nothing_shared : plain_shared [] [] ≡ text (codes "order" ∷ [])
unfolding report_opened
nothing_shared = refl

-- one requester asks a module, and another pulls it
abbrev pulled_script : List (List ℕ)
pulled_script =
    codes "requester 1" ∷ codes "gpio @a 2 1 activate 0"
    ∷ codes "requester 2" ∷ codes "pull 2" ∷ codes "deliver ap 0" ∷ []

-- the request comes first
pub asked_then_pulled : shared_behind (setup (codes "insert 2 gpio")) pulled_script
    ((1, false) ∷ (2, false) ∷ (2, false) ∷ [])
    ≡ text (codes "line 7 ok"
    ∷ codes "ask #16 ap 2 > 2 1 type 03 size 9"
    ∷ codes "line 9 ok"
    ∷ codes "ask #17 svc > ap 0 type 20 size 9"
    ∷ codes "line 10 ok"
    ∷ codes "reply #17 ap 0 > svc result 00 size 8"
    ∷ codes "connection 2 ap 1 2 0 closed"
    ∷ codes "end #16 disconnected"
    ∷ codes "connection 3 ap 2 2 1 closed"
    ∷ codes "interface 2 removed"
    ∷ codes "ticket 1 @a #16 disconnected" ∷ [])
unfolding report_opened
asked_then_pulled = refl

-- the module is pulled first
pub pulled_then_asked : shared_behind (setup (codes "insert 2 gpio")) pulled_script
    ((2, false) ∷ (2, false) ∷ (1, false) ∷ [])
    ≡ text (codes "line 9 ok"
    ∷ codes "ask #16 svc > ap 0 type 20 size 9"
    ∷ codes "line 10 ok"
    ∷ codes "reply #16 ap 0 > svc result 00 size 8"
    ∷ codes "connection 2 ap 1 2 0 closed"
    ∷ codes "connection 3 ap 2 2 1 closed"
    ∷ codes "interface 2 removed"
    ∷ codes "line 7 refused NoInterface" ∷ [])
unfolding report_opened
pulled_then_asked = refl

-- a line that is full is refused alone, and the names of each requester are its own
pub a_full_line : plain_shared (codes "send @a svc ping"
    ∷ codes "requester 1"
    ∷ codes "send @a svc ping"
    ∷ codes "send @b svc ping"
    ∷ codes "send @a svc ping" ∷ [])
    ((0, false) ∷ (1, true) ∷ (1, false) ∷ (1, false) ∷ [])
    ≡ text (codes "order 0 1f 1 1"
    ∷ codes "line 1 ok"
    ∷ codes "ask #1 ap 0 > svc type 13 size 8"
    ∷ codes "line 3 refused Full"
    ∷ codes "line 4 ok"
    ∷ codes "ask #2 ap 0 > svc type 13 size 8"
    ∷ codes "line 5 ok"
    ∷ codes "ask #3 ap 0 > svc type 13 size 8"
    ∷ codes "ticket 0 @a #1 open"
    ∷ codes "ticket 1 @a #3 open"
    ∷ codes "ticket 1 @b #2 open" ∷ [])
unfolding report_opened
a_full_line = refl
