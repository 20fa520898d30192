use Rattle.gb_share.proofs.Placings.{not_ready, took}
use Rattle.gb_desk.specs.Journals.{past_of}
use Rattle.gb_share.proofs.merging.Merging.take.Goals as goal

pub returns-then-next-clause-takes : goal.returns-then-next-clause-takes
returns-then-next-clause-takes c asked entries last h =
    not_ready c.args.self.now c.args.done.now.by c.in-Some.next c.in-Some.ensures
    c.if-next.true _ (h.ready c.args.done.now.by)

pub returns-clause-takes : goal.returns-clause-takes
returns-clause-takes c asked entries last h =
    took asked c.args.self.now c.place_done.new.self c.skip.new.self (past_of c.args.done.now)
    entries last h (c.in_ok-place_done.ensures.stands asked entries last)
    c.in_ok-place_done.ensures.order c.in_ok-place_done.ensures.others
    (c.in_ok-skip.ensures.stands asked entries last) c.in_ok-skip.ensures.ready
    c.in_ok-skip.ensures.others c.in_ok-skip.ensures.order
