-- A pull is refused or done as the machine does.
use Rattle.std.proofs.Common.{[], sym, ◌∙◌}
use Rattle.gb_system.proofs.Pulls.{part-is, pull-done, pull-nothing, pull-spent, pulling-first}
use Rattle.gb_system.proofs.Pulls.{pulling-next}
use Rattle.gb_system.specs.Stands.{around_bus}
use Rattle.gb_system.proofs.parties.Parties.pull.Goals as goal

pub returns-in_default : goal.returns-in_default
returns-in_default c = record {
  step = λ s st.
      pull-nothing s c.args.intf c.span.result st c.span.ensures.is c.in_default.is;
}

pub returns-then-spent : goal.returns-then-spent
returns-then-spent c = record {
  step = λ s st.
      pull-spent s c.args.intf c.in-Some.span st
      (part-is s c.args.intf c.span.result c.in-Some.span st.parts c.span.ensures.is c.in-Some.is)
      (sym (c.spent.ensures (around_bus [] s) s.bus st.parts.bus) ∙ c.if-spent.true);
}

pub loop-i-init : goal.loop-i-init
loop-i-init c = λ s st. pulling-first c.in-Some.span.primary c.in-Some.span.count st.parts

pub loop-i-preserved : goal.loop-i-preserved
loop-i-preserved c = λ s st.
    pulling-next c.in-Some.span.primary c.in-Some.span.count c.loop-i.i c.loop-i-test.true
    (c.loop-i.invariant s st) c.in_ok-pull_one.ensures.step

pub returns : goal.returns
returns c = record {
  step = λ s st.
      pull-done c.loop-i.self c.tell_removed.new.self s c.args.intf c.in-Some.span c.loop-i.i
      c.args.told.now c.loop-i.told c.tell_removed.new.told
      (part-is s c.args.intf c.span.result c.in-Some.span st.parts c.span.ensures.is c.in-Some.is)
      (sym (c.spent.ensures (around_bus [] s) s.bus st.parts.bus) ∙ c.if-spent.false)
      c.loop-i-test.false (c.loop-i.invariant s st) c.in_ok-tell_removed.ensures.step;
}
