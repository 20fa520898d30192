-- What `AbsentHasNoOpen` of gb_machine says of the two sides of a connection.
use Rattle.std.specs.Prelude.{◌≡◌, ℕ, true, false, Some, None, List}
use Rattle.gb_base.specs.declared.end.Side.TheVariants as side
use Rattle.gb_base.specs.declared.entry.ConnState.{ConnState}
use Rattle.gb_base.specs.declared.entry.Entry.{Entry}
use Rattle.gb_base.specs.declared.entry.Entry.TheVariants as entry
use Rattle.gb_machine.specs.Bus.{Connection, Request, connection_of, is_open, request_of}
use Rattle.gb_machine.specs.Host.{interface_of}
use Rattle.gb_machine.specs.Members.{IsIn}
use Rattle.gb_machine.specs.Runs.{Moment}
use Rattle.gb_machine.specs.State.{State}
use Rattle.gb_machine.specs.SvcQueues.{HandlesRemoval}
use Rattle.gb_machine.specs.Wiring.{is_at}

-- Nothing that the application processor asked on a connection that named an absent
-- interface is open.
abbrev pub AbsentHasNoOpenOfAp : List Entry → State → Type 0
AbsentHasNoOpenOfAp told s =
    (i k own c n : ℕ) (state : ConnState) (r : Request) → interface_of i s.host ≡ None
    → IsIn (entry.Connection k own i c state) told → request_of n s.bus ≡ Some r
    → r.connection ≡ k → r.side ≡ side.Ap → is_open n s.bus ≡ false

-- Where a far side has an open request on a connection that is live, that is wired.
abbrev pub UnwiredHasNoOpenOfFar : List Entry → State → Type 0
UnwiredHasNoOpenOfFar told s =
    (n : ℕ) (r : Request) (c : Connection) → request_of n s.bus ≡ Some r → r.side ≡ side.Far
    → connection_of r.connection s.bus ≡ Some c → c.wired ≡ false → is_open n s.bus ≡ false

-- Nothing that a module asked on a connection that named an absent interface is open.
abbrev pub AbsentHasNoOpenOfModule : List Entry → State → Type 0
AbsentHasNoOpenOfModule told s =
    (i k own c n : ℕ) (state : ConnState) (r : Request) → interface_of i s.host ≡ None
    → IsIn (entry.Connection k own i c state) told → request_of n s.bus ≡ Some r
    → r.connection ≡ k → r.side ≡ side.Far → is_open n s.bus ≡ false

-- A removal that the application processor handles finds nothing open that the module asked on a
-- connection which is live.
abbrev pub FindsNoneOpen : Moment → Type 0
FindsNoneOpen m =
    (i n : ℕ) (r : Request) (c : Connection) → HandlesRemoval i m
    → request_of n m.before.bus ≡ Some r → r.side ≡ side.Far
    → connection_of r.connection m.before.bus ≡ Some c → is_at i c.peer ≡ true
    → is_open n m.before.bus ≡ false
