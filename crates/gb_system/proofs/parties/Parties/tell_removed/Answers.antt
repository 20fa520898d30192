-- It is what the supervisory controller asks once it has started.
use Rattle.std.proofs.Common.{◌∙◌}
use Rattle.gb_machine.specs.Plugging.{tells_removed}
use Rattle.gb_system.proofs.Doings.{does-unless, does-when}
use Rattle.gb_system.proofs.Pulls.{does-removed, removed-askable}
use Rattle.gb_system.proofs.parties.Parties.tell_removed.Goals as goal

pub returns-in_ok-svc_ask : goal.returns-in_ok-svc_ask
returns-in_ok-svc_ask c = record {
  step = λ s all st.
      does-when (tells_removed c.args.primary all) (st.rest.booted ∙ c.if-self.true)
      (does-removed c.args.primary all
      (c.in_ok-svc_ask.ensures.step s st (removed-askable c.args.primary)));
}

pub returns-else-self : goal.returns-else-self
returns-else-self c = record {
  step = λ s all st.
      does-unless (tells_removed c.args.primary all) (st.rest.booted ∙ c.if-self.false) st;
}
