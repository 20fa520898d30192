-- A name is copied, or not, as the machine does.
use Rattle.std.proofs.Common.{subst}
use Rattle.gb_system.proofs.NamedRequests.{Binds, copy-done, copy-occupied, copy-unnamed, named-as}
use Rattle.gb_system.proofs.parties.Parties.copy_name.Goals as goal

pub returns-in_default : goal.returns-in_default
returns-in_default c = record {
  step = λ s told st.
      copy-unnamed c.args.self.now s c.args.from.now c.args.to.now st
      (named-as c.args.self.now.names c.in_ok-from.ensures c.in_default.ensures);
}

pub returns-then-is_some : goal.returns-then-is_some
returns-then-is_some c = record {
  step = λ s told st.
      copy-occupied c.args.self.now s c.args.from.now c.args.to.now c.in-Some.number st
      (named-as c.args.self.now.names c.in_ok-from.ensures c.in-Some.ensures)
      (cc (c.is_some.ensures, c.get-2.ensures, c.in_ok-to.ensures, c.if-is_some.true));
}

pub returns : goal.returns
returns c = record {
  step = λ s told st.
      copy-done c.args.self.now c.keep.new.self c.bind.new.self s
      c.args.from.now c.args.to.now c.in-Some.number told st
      (named-as c.args.self.now.names c.in_ok-from.ensures c.in-Some.ensures)
      (cc (c.is_some.ensures, c.get-2.ensures, c.in_ok-to.ensures, c.if-is_some.false))
      (subst (λ to. Binds c.args.self.now.names c.bind.new.self to c.in-Some.number)
      c.in_ok-to.ensures
      (record { bound = c.in_ok-bind.ensures.ok; room = c.in_ok-bind.ensures.room }))
      c.keep.ensures;
}
