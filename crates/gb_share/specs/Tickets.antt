-- The names that a pass has for its tickets.
use Rattle.std.specs.Prelude.{◌≡◌, ◌==◌, ◌&&◌, Bool, List, [], ◌∷◌, ◌++◌, Option, Some, None}
use Rattle.gb_base.specs.declared.name.Name.{Name}
use Rattle.gb_desk.specs.declared.ticket.Ticket.{Ticket}
use Rattle.gb_machine.specs.Members.{times}
use Rattle.gb_share.specs.declared.hand.Held.{Held}

-- whether two tickets are of the same slot and request
abbrev pub is_ticket : Ticket → Ticket → Bool
is_ticket t u = u.slot == t.slot && u.number == t.number

-- whether a name has such a ticket
abbrev pub is_held : Ticket → Held → Bool
is_held t h = is_ticket t h.ticket

-- Names have each ticket as often as a pass does.
abbrev pub AreHeld : List Held → List Ticket → Type 0
AreHeld hs ts = (t : Ticket) → times (is_held t) hs ≡ times (is_ticket t) ts

-- names with one more, where it has a ticket
abbrev pub with_held : Name → Option Ticket → List Held → List Held
with_held name None hs = hs
with_held name (Some t) hs = hs ++ record { name = name; ticket = t } ∷ []
