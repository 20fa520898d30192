-- What comes after a reply is done.
use Rattle.std.proofs.Common.{[], sym, subst}
use Rattle.gb_system.proofs.Doings.{does-nothing}
use Rattle.gb_system.proofs.SvcServes.{wire-done}
use Rattle.gb_system.specs.Deciding.{action_of}
use Rattle.gb_system.specs.Doing.{Does}
use Rattle.gb_system.specs.Stands.{around_bus}
use Rattle.gb_system.specs.declared.deciding.Behind.{Behind}
use Rattle.gb_system.proofs.parties.Parties.follow.Goals as goal

pub returns-in-Nothing : goal.returns-in-Nothing
returns-in-Nothing c = record {
  step = λ s st.
      subst (λ (w : Behind). Does c.args.self.now (action_of w) s c.args.told.now c.args.told.now)
      (sym c.in-Nothing.is) (does-nothing st);
}

pub returns-in-Wire : goal.returns-in-Wire
returns-in-Wire c = record {
  step = λ s st.
      subst (λ (w : Behind). Does (record c.args.self.now { bus = c.wire.new.self }) (action_of w) s
      c.args.told.now c.args.told.now) (sym c.in-Wire.is)
      (wire-done c.wire.new.self c.in-Wire.connection st
      (c.wire.ensures.step (around_bus [] s) s.bus st.bus));
}
