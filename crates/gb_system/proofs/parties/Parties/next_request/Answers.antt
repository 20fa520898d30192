-- One more request than were made so far.
use Rattle.std.proofs.Common.{◌≡◌, ◌<◌, ◌+◌, ℕ, [], ap, subst, ◌∙◌, Result, Ok, Err}
use Rattle.std.specs.Prelude.{IfOk, OnErr}
use Rattle.gb_base.specs.declared.errors.OutOfMemory.{OutOfMemory}
use Rattle.gb_machine.specs.Bus.{next_number}
use Rattle.gb_machine.specs.State.{State}
use Rattle.gb_system.specs.Stands.{PartsStand, around_bus}
use Rattle.gb_system.proofs.parties.Parties.next_request.Goals as goal

pub returns-clause-number : goal.returns-clause-number
returns-clause-number c = by c.sum.result c.sum.ensures.sum
  where
    by : (r : Result ℕ OutOfMemory) → IfOk r (λ n. n ≡ c.tally.result.requests + 1)
        → IfOk r (λ n. (s : State) → PartsStand [] c.args.self.now s → n ≡ next_number s.bus)
    by (Ok n) is = λ s st.
        is ∙ ap (λ m. m + 1) (c.tally.ensures (around_bus [] s) s.bus st.bus).requests
    by (Err refused) is = tt

pub returns-clause-cause : goal.returns-clause-cause
returns-clause-cause c = by c.sum.result c.sum.ensures.cause
  where
    by : (r : Result ℕ OutOfMemory)
        → OnErr r (18446744073709551615 < c.tally.result.requests + 1)
        → OnErr r ((s : State) → PartsStand [] c.args.self.now s
        → 18446744073709551615 < next_number s.bus)
    by (Ok n) above = tt
    by (Err refused) above = λ s st.
        subst (λ m. 18446744073709551615 < m + 1)
        (c.tally.ensures (around_bus [] s) s.bus st.bus).requests above
