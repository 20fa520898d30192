-- One more name is told.
use Rattle.std.proofs.Common.{◌≡◌, ◌∷◌, option_copied, rules}
use Rattle.std.specs.String.{string_bytes}
use Rattle.gb_system.proofs.TicketLines.{ticket-told}
use Rattle.gb_system.proofs.tickets.append_names.Goals as goal

pub loop-name-preserved : goal.loop-name-preserved
loop-name-preserved c =
    let split : c.loop-name.name-iterator
    ≡ (c.in-Some.name.now, c.in-Some.number.now) ∷ c.next.new.self
    = search rules in (
      tt,
      tt,
      λ around b st told.
          let before = c.loop-name.invariant.2 around b st told in
          ticket-told around.names b c.in-Some.name.now c.name.result.now c.in-Some.number.now
          c.loop-name.name-iterator c.next.new.self (option_copied c.outcome.result)
          (string_bytes c.loop-name.out) (string_bytes c.append_ticket.new.out) _ split before.0
          c.name.ensures (c.outcome.ensures around b st) c.in_ok-append_ticket.ensures before.1,
    )
