-- What tells nothing leaves what was told, whatever that is.
use Rattle.std.proofs.Common.{subst}
use Rattle.gb_base.specs.declared.event.Event.TheVariants as event
use Rattle.gb_system.specs.Doing.{EventAs}
use Rattle.gb_system.proofs.parties.Parties.does.Goals as goal

pub returns-in-Hold : goal.returns-in-Hold
returns-in-Hold c = record {
  step = λ s st. rw c.in-Hold.is (c.hold.ensures.step s c.args.told.now st);
}

pub returns-in-Copy : goal.returns-in-Copy
returns-in-Copy c = record {
  step = λ s st. rw c.in-Copy.is (c.copy_name.ensures.step s c.args.told.now st);
}

pub returns-in-Forget : goal.returns-in-Forget
returns-in-Forget c = record {
  step = λ s st. rw c.in-Forget.is (c.forget_name.ensures.step s c.args.told.now st);
}

pub returns-in-Image : goal.returns-in-Image
returns-in-Image c = record {
  step = λ s st.
      rw c.in-Image.is
      (subst (λ bytes. EventAs c.image.new.self s (event.Image c.in-Image.tag bytes)
      c.args.told.now c.args.told.now c.image.result) c.items-in-Image.ensures
      (c.image.ensures.step s c.args.told.now st));
}
