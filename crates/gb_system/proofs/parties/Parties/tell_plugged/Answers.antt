-- It is what the supervisory controller asks once it has started.
use Rattle.std.proofs.Common.{◌∙◌}
use Rattle.gb_machine.specs.Plugging.{tells_inserted}
use Rattle.gb_system.proofs.Doings.{does-unless, does-when}
use Rattle.gb_system.proofs.parties.Parties.tell_plugged.Goals as goal

pub returns-in_ok-tell_inserted : goal.returns-in_ok-tell_inserted
returns-in_ok-tell_inserted c = record {
  step = λ s st.
      does-when (tells_inserted c.args.primary c.args.count) (st.rest.booted ∙ c.if-self.true)
      (c.in_ok-tell_inserted.ensures.step s st);
}

pub returns-else-self : goal.returns-else-self
returns-else-self c = record {
  step = λ s st.
      does-unless (tells_inserted c.args.primary c.args.count)
      (st.rest.booted ∙ c.if-self.false) st;
}
