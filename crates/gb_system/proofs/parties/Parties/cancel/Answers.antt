-- A cancel is refused or done as the machine does.
use Rattle.std.proofs.Common.{[]}
use Rattle.gb_base.specs.declared.outcome.Outcome.TheVariants as outcome
use Rattle.gb_system.proofs.NamedRequests.{cancel-done, cancel-ended, cancel-unnamed, named-as}
use Rattle.gb_system.specs.Stands.{around_bus}
use Rattle.gb_system.specs.Ticking.{given_up}
use Rattle.gb_system.proofs.parties.Parties.cancel.Goals as goal

pub returns-in_default : goal.returns-in_default
returns-in_default c = record {
  step = λ s st.
      cancel-unnamed c.args.self.now s c.args.name.now st
      (named-as c.args.self.now.names c.in_ok-name.ensures c.in_default.ensures);
}

pub returns-in_ok-lose-in-Ok : goal.returns-in_ok-lose-in-Ok
returns-in_ok-lose-in-Ok c = record {
  step = λ s st.
      cancel-done c.args.self.now c.lose.new.self c.cancel.new.self s c.args.name.now
      c.in-Some.number c.args.told.now c.lose.new.told st
      (named-as c.args.self.now.names c.in_ok-name.ensures c.in-Some.ensures)
      (c.in-Ok.ensures.step (around_bus [] s) s.bus st.parts.bus)
      (c.in_ok-lose-in-Ok.ensures.step (given_up c.in-Some.number outcome.Cancelled s));
}

pub returns-in-Err : goal.returns-in-Err
returns-in-Err c = record {
  step = λ s st.
      cancel-ended c.args.self.now c.cancel.new.self s c.args.name.now c.in-Some.number st
      (named-as c.args.self.now.names c.in_ok-name.ensures c.in-Some.ensures)
      (c.in-Err.ensures.step (around_bus [] s) s.bus st.parts.bus);
}
