-- A device is stirred, or that is refused.
use Rattle.std.proofs.Common.{[], Ok, Err, sym, subst}
use Rattle.gb_machine.specs.Modules.{module_at}
use Rattle.gb_machine.specs.OwnAsking.{far_asks_all}
use Rattle.gb_module.specs.Views.{stir_of}
use Rattle.gb_system.proofs.Landing.{done-as}
use Rattle.gb_system.proofs.Stirs.{stir-nowhere, stir-unfit, stir-unwired, stir-wired}
use Rattle.gb_system.specs.Acting.{AreAskable}
use Rattle.gb_system.specs.Doing.{Does}
use Rattle.gb_system.specs.Plugging.{StirsThere}
use Rattle.gb_system.specs.Stands.{around_bus}
use Rattle.gb_system.proofs.parties.Parties.stir.Goals.{in-Some+in_ok-far_ask_all, in_default}
use Rattle.gb_system.proofs.parties.Parties.stir.Goals as goal

pub returns-in-Ok-None : goal.returns-in-Ok-None
returns-in-Ok-None c = record {
  step = λ s st.
      stir-nowhere c.args.self.now s c.args.intf c.args.cport c.args.what c.stir.new.self st
      (subst (λ o. StirsThere c.args.intf c.args.cport (stir_of c.args.what)
      (module_at c.args.intf c.args.self.now.modules) c.args.self.now.modules c.stir.new.self
      (Ok o)) c.in-Ok-None.field-0-is c.in-Ok-None.ensures);
}

pub returns-in-Err-NoCport : goal.returns-in-Err-NoCport
returns-in-Err-NoCport c = record {
  step = λ s st.
      stir-unfit c.args.self.now s c.args.intf c.args.cport c.args.what c.stir.new.self st
      (subst (λ why. StirsThere c.args.intf c.args.cport (stir_of c.args.what)
      (module_at c.args.intf c.args.self.now.modules) c.args.self.now.modules c.stir.new.self
      (Err why)) c.in-Err-NoCport.field-0-is c.in-Err-NoCport.ensures);
}

pub returns : goal.returns
returns c = record {
  step = λ s st.
      let stirred = subst (λ o. StirsThere c.args.intf c.args.cport (stir_of c.args.what)
      (module_at c.args.intf c.args.self.now.modules) c.args.self.now.modules c.stir.new.self
      (Ok o)) c.in-Ok-Some.field-0-is c.in-Ok-Some.ensures in
      elim c.match-named.branch [
        | in-Some+in_ok-far_ask_all w ↦
            done-as w.self-is w.told-is
            (stir-wired c.args.self.now w.far_ask_all.new.self s c.args.intf c.args.cport
            c.args.what c.stir.new.self c.in-Ok-Some.own c.named.result w.in-Some.connection
            c.args.told.now w.far_ask_all.new.told st stirred
            (λ t stand. c.named.ensures (around_bus [] t) t.bus stand.bus) w.in-Some.is
            (λ t stand askable.
            subst (λ own. Does w.far_ask_all.new.self (far_asks_all w.in-Some.connection own) t
            c.args.told.now w.far_ask_all.new.told) w.items.ensures
            (w.in_ok-far_ask_all.ensures.step t stand
            (subst AreAskable (sym w.items.ensures) askable))))
        | in_default w ↦
            done-as w.self-is w.told-is
            (stir-unwired c.args.self.now s c.args.intf c.args.cport c.args.what c.stir.new.self
            c.in-Ok-Some.own c.named.result c.args.told.now st stirred
            (λ t stand. c.named.ensures (around_bus [] t) t.bus stand.bus)
            w.in_default.not-Some)
      ];
}
