-- Tickets of requests.
use Rattle.std.specs.Prelude.{◌≡◌, ◌+◌, ℕ, ◌==◌, ◌&&◌, if◌then◌else◌, List, [], ◌∷◌}
use Rattle.gb_desk.specs.Slots.{hit}
use Rattle.gb_desk.specs.declared.ticket.Ticket.{Ticket}
use Rattle.gb_machine.specs.Members.{IsIn}

-- a ticket of a slot
abbrev pub ticket : ℕ → ℕ → Ticket
ticket i n = record { slot = i; number = n }

-- how many of these tickets are of a slot
abbrev pub held : ℕ → List Ticket → ℕ
held i [] = 0
held i (t ∷ ts) = hit i t.slot + held i ts

-- a request has one of these tickets
abbrev pub HasTicket : List Ticket → ℕ → Type 0
HasTicket ts n = (t : Ticket) × IsIn t ts × (t.number ≡ n)

-- these tickets without this one
abbrev pub fewer : Ticket → List Ticket → List Ticket
fewer t [] = []
fewer t (u ∷ us) = if u.slot == t.slot && u.number == t.number then us else u ∷ fewer t us
