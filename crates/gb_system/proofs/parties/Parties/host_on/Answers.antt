-- The end is noticed, and a connection that drains may begin to close.
use Rattle.gb_system.proofs.Endings.{follows-then}
use Rattle.gb_system.proofs.parties.Parties.host_on.Goals as goal

pub returns : goal.returns
returns c = record {
  step = λ s st is may.
      let noticed = c.in_ok-notice.ensures.step s st may.turn in
      follows-then c.args.over c.args.outcome is noticed
      (c.in_ok-idle_behind.ensures.step _ s noticed.stand may.idle is);
}
