-- A request that was given up is told with its connection.
use Rattle.std.proofs.Common.{[]}
use Rattle.gb_system.proofs.Endings.{about-is, unasked}
use Rattle.gb_system.specs.Stands.{around_bus}
use Rattle.gb_system.proofs.parties.Parties.lose.Goals as goal

pub returns-in_default : goal.returns-in_default
returns-in_default c = record {
  step = λ s st is may.
      absurd (unasked c.args.number c.about.result s is
      (c.about.ensures (around_bus [] s) s.bus st.bus) c.in_default.is);
}

pub returns : goal.returns
returns c = record {
  step = λ s st is may.
      c.in_ok-end.ensures.step s st
      (about-is c.args.number c.about.result c.in-Some.about s is
      (c.about.ensures (around_bus [] s) s.bus st.bus) c.in-Some.is) may;
}
