-- What `WiredOnce` of gb_machine says of connections that are wired.
use Rattle.std.specs.Prelude.{◌≡◌, ◌≢◌, true, List}
use Rattle.gb_base.specs.declared.entry.Entry.{Entry}
use Rattle.gb_machine.specs.Members.{Each, IsIn}
use Rattle.gb_machine.specs.State.{State}

-- Each connection that is wired, but for that of the supervisory controller, is remembered
-- to have been.
abbrev pub WiredIsRemembered : List Entry → State → Type 0
WiredIsRemembered told s =
    Each (λ c. c.wired ≡ true → c.number ≢ 1 → IsIn c.number s.past.wired) s.bus.connections
