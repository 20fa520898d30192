use Rattle.std.proofs.Common.{subst, sym, ap, arith}
use Rattle.gb_share.proofs.HeldTickets.{held_in, held_shrunk, parted}
use Rattle.gb_share.proofs.hand.Hand.give_back.Goals as goal
use Rattle.gb_share.specs.Doing.{IsWithin}

pub release-requires-clause-held : goal.release-requires-clause-held
release-requires-clause-held c =
    held_in c.args.self.now.held.items _ _ _ c.remove.result c.args.self.now.tickets
    (parted c.args.self.now.held.items c.args.at c.remove.result
    (let low = c.requires.there in omega arith) c.remove.ensures.value)

pub invariant_of-self : goal.invariant_of-self
invariant_of-self c = record {
  within = subst (λ v. IsWithin v) (sym c.release.ensures.released) c.args.self.now.within;
  tickets = held_shrunk c.args.self.now.held.items _ _ _ c.args.at c.remove.result
      c.args.self.now.tickets (let low = c.requires.there in omega arith) c.remove.ensures.value
      c.remove.ensures.by_index.2 (ap (λ v. v.tickets) c.release.ensures.released);
}
