use Rattle.gb_gpio.proofs.Refusals.{refused}
use Rattle.gb_gpio.proofs.deciding.decide.Goals as goal

pub returns-in_err-active_at-in-GetDirection-clause-step :
    goal.returns-in_err-active_at-in-GetDirection-clause-step
returns-in_err-active_at-in-GetDirection-clause-step c =
    refused _ _ _ _ c.from_residual-in_err-active_at-in-GetDirection.ensures.1
    (rw c.in-GetDirection.is (c.in_err-active_at-in-GetDirection.ensures.err _))

pub returns-in_err-active_at-in-GetValue-clause-step :
    goal.returns-in_err-active_at-in-GetValue-clause-step
returns-in_err-active_at-in-GetValue-clause-step c =
    refused _ _ _ _ c.from_residual-in_err-active_at-in-GetValue.ensures.1
    (rw c.in-GetValue.is (c.in_err-active_at-in-GetValue.ensures.err _))
