-- Each act is done by its function.
use Rattle.std.proofs.Common.{[], false, refl, sym, subst}
use Rattle.gb_host.specs.declared.acts.Act.{Act}
use Rattle.gb_system.proofs.Acts.{leave-done}
use Rattle.gb_system.proofs.Doings.{does-tell}
use Rattle.gb_system.specs.Acting.{ActsAs}
use Rattle.gb_system.specs.Stands.{around_bus}
use Rattle.gb_system.proofs.parties.Parties.act.Goals as goal

pub returns-in_ok-shut-in-Shut : goal.returns-in_ok-shut-in-Shut
returns-in_ok-shut-in-Shut c = record {
  step = λ s st.
      subst (λ (a : Act). ActsAs c.args.self.now.host c.shut.new.self a s false c.args.told.now
      c.shut.new.told) (sym c.in-Shut.is)
      (refl, c.in_ok-shut-in-Shut.ensures.step s st, c.shut.ensures.host);
}

pub returns-in-Leave : goal.returns-in-Leave
returns-in-Leave c = record {
  step = λ s st.
      let done = leave-done c.detach.new.self c.in-Leave.connection st
      (c.detach.ensures.step (around_bus [] s) s.bus st.bus) in
      subst (λ (a : Act). ActsAs c.args.self.now.host
      (record c.args.self.now { bus = c.detach.new.self }) a s false c.args.told.now
      c.args.told.now) (sym c.in-Leave.is) (refl, done, refl);
}

pub returns-in_ok-push-in-Tell : goal.returns-in_ok-push-in-Tell
returns-in_ok-push-in-Tell c = record {
  step = λ s st.
      let told = does-tell c.in-Tell.entry st c.in_ok-push-in-Tell.ensures.ok in
      subst (λ (a : Act). ActsAs c.args.self.now.host c.args.self.now a s false c.args.told.now
      c.push.new.self) (sym c.in-Tell.is) (refl, told, refl);
}
