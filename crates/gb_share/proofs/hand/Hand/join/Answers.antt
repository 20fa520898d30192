use Rattle.std.proofs.Common.{[], List, ap, arith, length, subst, sym, ◌∙◌}
use Rattle.std.proofs.lemmas.List.{append-nil, length-append}
use Rattle.gb_desk.specs.Passes.{known}
use Rattle.gb_desk.specs.declared.ticket.Ticket.{Ticket}
use Rattle.gb_share.proofs.HeldTickets.{held_joined, held_none}
use Rattle.gb_share.proofs.Views.{joined_to, joined_within}
use Rattle.gb_share.proofs.hand.Hand.join.Goals as goal
use Rattle.gb_share.specs.Tickets.{AreHeld}

pub invariant_of-self : goal.invariant_of-self
invariant_of-self c = record {
  within = joined_within _ _ _ (joined_to _ _ _ c.glue.ensures.joined) c.args.self.now.within
      c.args.other.within;
  tickets = held_joined _ _ _ _ _ _ c.args.self.now.tickets c.args.other.tickets
      c.in-Ok.ensures.items c.glue.ensures.tickets;
}

pub invariant_of-self-in-Err : goal.invariant_of-self-in-Err
invariant_of-self-in-Err c = record {
  within = joined_within _ _ _ (joined_to _ _ _ c.glue-in-Err.ensures.joined)
      c.args.self.now.within c.give_all_back.new.self.within;
  tickets = held_joined c.args.self.now.held.items [] _ _ _ _ c.args.self.now.tickets
      (subst (λ hs. AreHeld hs (known c.give_all_back.new.self.pass).tickets)
      c.give_all_back.ensures.none c.give_all_back.new.self.tickets)
      (c.in-Err.ensures.items ∙ sym (append-nil c.args.self.now.held.items))
      c.glue-in-Err.ensures.tickets;
}

pub returns-in-Ok-clause-few : goal.returns-in-Ok-clause-few
returns-in-Ok-clause-few c =
    let long = ap (λ (ts : List Ticket). length ts) c.glue.ensures.tickets in
    omega (
      arith,
      length-append (known c.args.self.now.pass).tickets
          (known c.args.other.pass).tickets,
    )

pub returns-in-Err-clause-few : goal.returns-in-Err-clause-few
returns-in-Err-clause-few c =
    let long = ap (λ (ts : List Ticket). length ts) c.glue-in-Err.ensures.tickets in
    let none = ap (λ (ts : List Ticket). length ts)
    (held_none (known c.give_all_back.new.self.pass).tickets
    (subst (λ hs. AreHeld hs (known c.give_all_back.new.self.pass).tickets)
    c.give_all_back.ensures.none c.give_all_back.new.self.tickets)) in
    omega (
      arith,
      length-append (known c.args.self.now.pass).tickets
          (known c.give_all_back.new.self.pass).tickets,
    )
