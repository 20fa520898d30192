-- A request is made and awaited, or its sequence fails.
use Rattle.std.proofs.Common.{◌+◌, ap, refl, sym, ◌∙◌}
use Rattle.gb_system.proofs.Acts.{host-asked, host-unasked}
use Rattle.gb_system.specs.Acting.{asking_of}
use Rattle.gb_system.proofs.parties.Parties.host_ask.Goals as goal

pub returns-in-Some : goal.returns-in-Some
returns-in-Some c = record {
  step = λ s st askable.
      host-asked c.awaits.new.self
      (asking_of c.args.on c.args.kind c.args.payload.now c.args.purpose) c.in_ok-deadline.deadline
      c.in-Some.number (ap (λ m. m + 1000) st.rest.time ∙ sym c.in_ok-deadline.ensures.time)
      (sym c.in-Some.is ∙ c.in_ok-number.ensures.number s st)
      (c.in_ok-number.ensures.step s st askable (λ e. refl)) c.awaits.ensures.step;
}

pub returns-in_ok-fail-in-None : goal.returns-in_ok-fail-in-None
returns-in_ok-fail-in-None c = record {
  step = λ s st askable.
      host-unasked (asking_of c.args.on c.args.kind c.args.payload.now c.args.purpose)
      c.in_ok-deadline.deadline
      (sym c.in-None.is ∙ c.in_ok-number.ensures.number s st)
      (c.in_ok-number.ensures.step s st askable (λ e. refl))
      (c.in_ok-fail-in-None.ensures.step s);
}
