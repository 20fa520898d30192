use Rattle.std.proofs.Common.{subst, sym, ap, ◌∙◌, arith}
use Rattle.gb_share.proofs.HeldTickets.{held_grown, held_in, parted}
use Rattle.gb_share.proofs.HandSteps.{second_none, second_some}
use Rattle.gb_share.proofs.hand.Hand.retain.Goals as goal
use Rattle.gb_share.specs.Doing.{IsWithin}

pub retain-requires-clause-held : goal.retain-requires-clause-held
retain-requires-clause-held c =
    held_in c.args.self.now.held.items _ _ _ c.index-held.result.now c.args.self.now.tickets
    (parted c.args.self.now.held.items c.in-Some.at c.index-held.result.now
    (let low = c.in-Some.ensures.within in omega arith) c.index-held.ensures)

pub invariant_of-self : goal.invariant_of-self
invariant_of-self c = record {
  within = subst (λ v. IsWithin v) (sym c.in-Ok.ensures.retains.1) c.args.self.now.within;
  tickets = held_grown c.args.self.now.held.items _ _ _ _ c.index-held.result.now.ticket
      c.args.self.now.tickets c.push_reserved.ensures.items c.in-Ok.ensures.retains.0
      (ap (λ v. v.tickets) c.in-Ok.ensures.retains.1);
}

pub returns-in-Ok-clause-held : goal.returns-in-Ok-clause-held
returns-in-Ok-clause-held c room =
    second_some c.args.from.now c.args.to c.args.self.now.held.items c.push_reserved.new.self.items
    c.in-Some.at c.index-held.result.now (record { name = c.args.to; ticket = c.in-Ok.ticket })
    c.in-Ok.ticket (sym c.in-Some.ensures.place) c.index-held.ensures c.in-Ok.ensures.retains.0
    c.push_reserved.ensures.items

pub returns-in_default-clause-held : goal.returns-in_default-clause-held
returns-in_default-clause-held c room =
    second_none c.args.from.now c.args.to c.args.self.now.held.items
    (sym c.find.ensures.place ∙ c.in_default.is)
