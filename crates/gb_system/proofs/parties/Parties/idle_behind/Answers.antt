-- A connection that drains may begin to close behind a request of the application processor.
use Rattle.gb_system.proofs.Endings.{behind-ap, behind-far}
use Rattle.gb_system.proofs.parties.Parties.idle_behind.Goals as goal

pub returns-in-Far : goal.returns-in-Far
returns-in-Far c = record {
  step = λ s t st may is. behind-far is c.in-Far.is st;
}

pub returns-in_ok-close_drained-in-Ap : goal.returns-in_ok-close_drained-in-Ap
returns-in_ok-close_drained-in-Ap c = record {
  step = λ s t st may is.
      behind-ap is c.in-Ap.is
      (c.in_ok-close_drained-in-Ap.ensures.step s st (may c.args.over.connection));
}
