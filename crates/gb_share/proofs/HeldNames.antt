-- The tickets that names have, once a request got its own.
use Rattle.std.proofs.Common.{◌≡◌, Option, Some, None, List, sym, subst}
use Rattle.gb_base.specs.declared.name.Name.{Name}
use Rattle.gb_desk.specs.Calls.{with_ticket}
use Rattle.gb_desk.specs.declared.ticket.Ticket.{Ticket}
use Rattle.gb_share.proofs.HeldTickets.{held_more}
use Rattle.gb_share.specs.Tickets.{AreHeld, with_held}
use Rattle.gb_share.specs.declared.hand.Held.{Held}

held_with : (hs : List Held) (ts : List Ticket) (name : Name) (o : Option Ticket) → AreHeld hs ts
    → AreHeld (with_held name o hs) (with_ticket o ts)
held_with hs ts name None held = held
held_with hs ts name (Some t) held =
    held_more hs ts (record { name = name; ticket = t }) held

pub held_put : (hs hs' : List Held) (ts ts' : List Ticket) (name : Name) (o : Option Ticket)
    → AreHeld hs ts → hs' ≡ with_held name o hs → ts' ≡ with_ticket o ts → AreHeld hs' ts'
held_put hs hs' ts ts' name o held names tickets =
    subst (λ us. AreHeld hs' us) (sym tickets)
    (subst (λ xs. AreHeld xs (with_ticket o ts)) (sym names) (held_with hs ts name o held))
