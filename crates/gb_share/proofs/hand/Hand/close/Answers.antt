use Rattle.std.proofs.Common.{subst}
use Rattle.gb_desk.specs.Passes.{known}
use Rattle.gb_share.proofs.HeldTickets.{held_none}
use Rattle.gb_share.proofs.hand.Hand.close.Goals as goal
use Rattle.gb_share.specs.Tickets.{AreHeld}

pub close-requires-clause-none : goal.close-requires-clause-none
close-requires-clause-none c =
    held_none (known c.give_all_back.new.self.pass).tickets
    (subst (λ hs. AreHeld hs (known c.give_all_back.new.self.pass).tickets)
    c.give_all_back.ensures.none c.give_all_back.new.self.tickets)
