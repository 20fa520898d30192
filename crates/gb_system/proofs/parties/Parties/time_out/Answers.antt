-- A request that times out is given up and told.
use Rattle.std.proofs.Common.{[], sym, ◌∙◌}
use Rattle.gb_system.proofs.Ticks.{time-out, time-kept}
use Rattle.gb_system.specs.Stands.{around_bus}
use Rattle.gb_system.proofs.parties.Parties.time_out.Goals as goal

pub returns-in_ok-lose : goal.returns-in_ok-lose
returns-in_ok-lose c = record {
  step = λ s st may.
      time-out c.lose.new.self c.expire.new.self s c.args.number c.expire.result st may
      (c.expire.ensures.step (around_bus [] s) s.bus st.bus)
      (sym c.is_ok.ensures.value ∙ c.if-is_ok.true) c.in_ok-lose.ensures.step;
}

pub returns-else-is_ok : goal.returns-else-is_ok
returns-else-is_ok c = record {
  step = λ s st may.
      time-kept s c.args.number c.expire.result c.expire.new.self may
      (c.expire.ensures.step (around_bus [] s) s.bus st.bus)
      (sym c.is_ok.ensures.value ∙ c.if-is_ok.false);
}
