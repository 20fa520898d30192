-- A connection is made and told, or its request fails.
use Rattle.std.proofs.Common.{[], sym, ◌∙◌}
use Rattle.gb_system.proofs.Acts.{made-done, none-left, some-left}
use Rattle.gb_system.specs.Acting.{making_of}
use Rattle.gb_system.specs.Stands.{around_bus}
use Rattle.gb_system.proofs.parties.Parties.make.Goals as goal

pub returns-then-spent : goal.returns-then-spent
returns-then-spent c = record {
  step = λ s st. (
    none-left _ (sym c.if-spent.true ∙ c.spent.ensures (around_bus [] s) s.bus st.bus),
    c.in_ok-fail.ensures.step s st,
  );
}

pub returns-in-Err-Taken : goal.returns-in-Err-Taken
returns-in-Err-Taken c = record {
  step = λ s st. (
    some-left _ (sym c.if-spent.false ∙ c.spent.ensures (around_bus [] s) s.bus st.bus),
    λ pending attach intf cport.
        absurd (rw c.in-Err-Taken.field-0-is at
        (c.in-Err-Taken.ensures.step (around_bus [] s) s.bus st.bus attach)),
  );
}

pub returns : goal.returns
returns c = record {
  step = λ s st. (
    some-left _ (sym c.if-spent.false ∙ c.spent.ensures (around_bus [] s) s.bus st.bus),
    λ pending attach intf cport.
        made-done c.attach.new.self c.made.new.self
        (making_of c.args.ap c.args.intf c.args.cport c.args.protocol) c.args.purpose
        c.in-Ok.connection st
        (c.in-Ok.ensures.step (around_bus [] s) s.bus st.bus attach)
        (c.made.ensures.step s.host c.args.ap c.args.protocol st.host pending) intf cport
        c.in_ok-push.ensures.ok,
  );
}
