use Rattle.std.proofs.Common.{subst, sym}
use Rattle.gb_share.proofs.Views.{calls_does, calls_grow, calls_within}
use Rattle.gb_share.proofs.hand.Hand.call.Goals as goal
use Rattle.gb_share.specs.Tickets.{AreHeld}

pub invariant_of-self : goal.invariant_of-self
invariant_of-self c = record {
  within = calls_within _ _ _ _ _ c.args.self.now.within c.call.ensures.calls;
  tickets = subst (λ ts. AreHeld c.args.self.now.held.items ts) (sym c.call.ensures.tickets)
      c.args.self.now.tickets;
}

pub returns-clause-does : goal.returns-clause-does
returns-clause-does c = calls_does _ _ _ _ _ c.args.self.now.within c.call.ensures.calls

pub returns-clause-grows : goal.returns-clause-grows
returns-clause-grows c = calls_grow _ _ _ _ _ c.call.ensures.calls
