-- What came with a request is told and noticed.
use Rattle.gb_machine.specs.HostActs.{notices}
use Rattle.gb_system.proofs.ApServes.{does-tell_any, may-then}
use Rattle.gb_system.proofs.Doings.{does-given, does-given_none, does-then}
use Rattle.gb_system.proofs.parties.Parties.go_on.Goals as goal

pub returns-in_ok-notice : goal.returns-in_ok-notice
returns-in_ok-notice c = record {
  step = λ s st may.
      let told = does-tell_any c.args.entry st c.in_ok-tell_any.ensures in
      let is = c.in-Some.is in
      does-then told (does-given notices (c.in-Some.event) is
      (c.in_ok-notice.ensures.step _ told.stand
      (may-then c.args.entry c.args.event (c.in-Some.event) s is
      may)));
}

pub returns-in_default : goal.returns-in_default
returns-in_default c = record {
  step = λ s st may.
      let told = does-tell_any c.args.entry st c.in_ok-tell_any.ensures in
      does-then told (does-given_none notices c.in_default.is
      told.stand);
}
