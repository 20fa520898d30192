use Rattle.std.proofs.Common.{Err, Ok, ap, subst, sym}
use Rattle.gb_desk.specs.Passes.{known}
use Rattle.gb_desk.specs.declared.pass.Pass.{Pass}
use Rattle.gb_share.proofs.HandSteps.{opens_done, opens_failed}
use Rattle.gb_share.proofs.HeldNames.{held_put}
use Rattle.gb_share.proofs.Using.{grows_same}
use Rattle.gb_share.proofs.Views.{asks_does, asks_grow, asks_tickets, asks_within}
use Rattle.gb_share.proofs.hand.Hand.open.Goals as goal
use Rattle.gb_share.specs.Doing.{DoesAs}
use Rattle.gb_share.specs.Uses.{Grows}

pub invariant_of-self : goal.invariant_of-self
invariant_of-self c = record {
  within = asks_within _ _ _ (Ok c.in-Ok-open_request.opened) _ c.named.new.self.within
      c.in-Ok-open_request.ensures.opens;
  tickets = held_put _ _ _ _ _ _ c.named.new.self.tickets c.put.ensures
      (asks_tickets _ _ _ (Ok c.in-Ok-open_request.opened) _ c.in-Ok-open_request.ensures.opens);
}

pub returns-in-Ok-open_request-clause-does : goal.returns-in-Ok-open_request-clause-does
returns-in-Ok-open_request-clause-does c =
    rw (sym c.named.ensures.pass)
    (asks_does _ _ _ (Ok c.in-Ok-open_request.opened) _ c.named.new.self.within c.requires.asking
    c.in-Ok-open_request.ensures.opens)

pub returns-in-Err-open_request-clause-does : goal.returns-in-Err-open_request-clause-does
returns-in-Err-open_request-clause-does c =
    subst
    (λ (p : Pass). DoesAs (known p) c.args.by c.args.e.now (Err c.in-Err-open_request.fault)
    (known c.open_request.new.pass))
    c.named.ensures.pass
    (asks_does (known c.named.new.self.pass) c.args.by c.args.e.now
    (Err c.in-Err-open_request.fault) (known c.open_request.new.pass) c.named.new.self.within
    c.requires.asking
    c.in-Err-open_request.ensures.opens)

pub returns-in-Ok-open_request-clause-opens : goal.returns-in-Ok-open_request-clause-opens
returns-in-Ok-open_request-clause-opens c =
    opens_done (known c.args.self.now.pass) (known c.named.new.self.pass)
    c.args.self.now.held.items c.named.new.self.held.items c.args.by c.args.e.now c.args.name.now
    c.in-Ok.name _ _ _ _ (ap known c.named.ensures.pass) c.named.ensures.items
    c.in-Ok.ensures.name c.in-Ok-open_request.ensures.opens c.put.ensures

pub returns-in-Err-open_request-clause-opens : goal.returns-in-Err-open_request-clause-opens
returns-in-Err-open_request-clause-opens c =
    opens_failed (known c.args.self.now.pass) (known c.named.new.self.pass)
    c.args.self.now.held.items c.named.new.self.held.items c.args.by c.args.e.now c.args.name.now
    c.in-Err-open_request.fault (known c.open_request.new.pass) (ap known c.named.ensures.pass)
    c.named.ensures.items c.in-Err-open_request.ensures.opens

pub returns-in-Err-clause-grows : goal.returns-in-Err-clause-grows
returns-in-Err-clause-grows c = grows_same _ _ (ap known c.named.ensures.pass)

pub returns-in-Ok-open_request-clause-grows : goal.returns-in-Ok-open_request-clause-grows
returns-in-Ok-open_request-clause-grows c =
    subst (λ (p : Pass). Grows 1 (known p) (known c.open_request.new.pass))
    c.named.ensures.pass
    (asks_grow (known c.named.new.self.pass) c.args.by c.args.e.now
    (Ok c.in-Ok-open_request.opened) _ c.in-Ok-open_request.ensures.opens)

pub returns-in-Err-open_request-clause-grows : goal.returns-in-Err-open_request-clause-grows
returns-in-Err-open_request-clause-grows c =
    subst (λ (p : Pass). Grows 0 (known p) (known c.open_request.new.pass))
    c.named.ensures.pass
    (asks_grow (known c.named.new.self.pass) c.args.by c.args.e.now
    (Err c.in-Err-open_request.fault) (known c.open_request.new.pass)
    c.in-Err-open_request.ensures.opens)
