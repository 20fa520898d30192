-- The table decides, the reply goes back, and what comes after it is done.
use Rattle.std.proofs.Common.{List, ℕ, arith, subst}
use Rattle.gb_base.specs.declared.end.Side.TheVariants as side
use Rattle.gb_machine.specs.Responding.{replies}
use Rattle.gb_machine.specs.Serving.{answer}
use Rattle.gb_system.proofs.SvcServes.{svc-served}
use Rattle.gb_system.specs.Doing.{Does}
use Rattle.gb_system.specs.Serving.{only}
use Rattle.gb_system.specs.Stands.{around_bus}
use Rattle.gb_system.proofs.parties.Parties.serve_at_svc.Goals as goal

pub returns : goal.returns
returns c = record {
  step = λ s x item d st.
      svc-served c.decide-decision.new.ladder c.args.connection c.args.asked.now c.args.payload.now
      x item c.decide-decision.result d st
      (c.decide-decision.ensures.step
      (around_bus (only c.args.connection side.Far item) s)
      s (record { bus = st.bus; ports = st.ports }))
      (λ t stand live may. subst (λ (p : List ℕ). Does c.answer.new.self
      (replies side.Far x may.request (answer c.decide-decision.result.result p)) t
      c.args.told.now c.answer.new.told) c.as_slice-answer.ensures.value
      (c.in_ok-answer.ensures.step t x item stand live may
      (omega (arith, c.as_slice-answer.ensures.fits))))
      c.in_ok-follow.ensures.step;
}
