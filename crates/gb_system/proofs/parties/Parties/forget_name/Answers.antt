-- A name is freed, or not, as the machine does.
use Rattle.std.proofs.Common.{refl, sym, ap, subst, ◌∙◌}
use Rattle.gb_base.specs.declared.event.Event.TheVariants as event
use Rattle.gb_base.specs.declared.refusal.Refusal.TheVariants as why
use Rattle.gb_machine.specs.Lists.{without}
use Rattle.gb_machine.specs.Names.{same_name}
use Rattle.gb_system.proofs.NamedRequests.{forget-done, forget-unnamed, named-as}
use Rattle.gb_system.specs.Doing.{IsRefused}
use Rattle.gb_system.proofs.parties.Parties.forget_name.Goals as goal

pub returns-in_default : goal.returns-in_default
returns-in_default c = record {
  step = λ s told st.
      subst (λ names. IsRefused (record c.args.self.now { names = names }) s
      (event.Forget c.args.name.now) why.NoName) (sym (c.in_default.ensures.none refl))
      (forget-unnamed c.args.self.now s c.args.name.now st
      (named-as c.args.self.now.names c.in_ok-name.ensures c.in_default.ensures.number));
}

pub returns : goal.returns
returns c = record {
  step = λ s told st.
      forget-done c.args.self.now c.loose.new.self c.free.new.self s
      c.args.name.now c.in-Some.number told st
      (named-as c.args.self.now.names c.in_ok-name.ensures c.in-Some.ensures.number)
      (c.in-Some.ensures.freed
      ∙ ap (λ n. without (λ p. same_name p.0 n) c.args.self.now.names) c.in_ok-name.ensures)
      c.loose.ensures;
}
