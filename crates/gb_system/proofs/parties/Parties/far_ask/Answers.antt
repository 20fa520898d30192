-- A far side asks where its connection is wired.
use Rattle.std.proofs.Common.{[], ◌+◌, ap, sym, ◌∙◌}
use Rattle.gb_system.proofs.Asks.{far-asked, far-unasked}
use Rattle.gb_system.specs.Stands.{around_bus}
use Rattle.gb_system.proofs.parties.Parties.far_ask.Goals as goal

pub returns-in_ok-ask : goal.returns-in_ok-ask
returns-in_ok-ask c = record {
  step = λ s st askable.
      far-asked c.args.connection c.args.kind c.args.payload.now c.args.oneway
      c.in_ok-deadline.deadline
      (ap (λ m. m + 1000) st.rest.time ∙ sym c.in_ok-deadline.ensures.time)
      (sym c.if-is_wired.true ∙ c.is_wired.ensures (around_bus [] s) s.bus st.bus)
      (c.in_ok-ask.ensures.step s st askable (λ e. absurd cc));
}

pub returns-else-is_wired : goal.returns-else-is_wired
returns-else-is_wired c = record {
  step = λ s st askable.
      far-unasked c.args.connection c.args.kind c.args.payload.now c.args.oneway
      (sym c.if-is_wired.false ∙ c.is_wired.ensures (around_bus [] s) s.bus st.bus) st;
}
