-- The next request is made, or the end is told.
use Rattle.gb_system.proofs.LoadEnds.{follows-ask, follows-done, follows-failed}
use Rattle.gb_system.proofs.parties.Parties.load_next.Goals as goal

pub returns-in_ok-load_ask-in-Ask : goal.returns-in_ok-load_ask-in-Ask
returns-in_ok-load_ask-in-Ask c = record {
  step = λ s st fit.
      follows-ask c.args.intf c.args.cport c.args.way c.args.next c.in-Ask.own c.in-Ask.is fit
      (c.in_ok-load_ask-in-Ask.ensures.step s st);
}

pub returns-in_ok-push-in-Done : goal.returns-in_ok-push-in-Done
returns-in_ok-push-in-Done c = record {
  step = λ s st fit.
      follows-done c.args.intf c.args.cport c.args.way c.args.next c.in-Done.tag c.in-Done.size
      c.in-Done.is st c.in_ok-push-in-Done.ensures.ok;
}

pub returns-in_ok-push-in-Failed : goal.returns-in_ok-push-in-Failed
returns-in_ok-push-in-Failed c = record {
  step = λ s st fit.
      follows-failed c.args.intf c.args.cport c.args.way c.args.next c.in-Failed.tag c.in-Failed.is
      st c.in_ok-push-in-Failed.ensures.ok;
}
