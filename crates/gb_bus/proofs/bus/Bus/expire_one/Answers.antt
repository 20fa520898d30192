-- The least request that is due is given up.
use Rattle.std.proofs.Common.{subst}
use Rattle.gb_bus.proofs.Expiring.{expires, expires-none}
use Rattle.gb_bus.specs.Listing.{FindsLeast}
use Rattle.gb_bus.specs.Slots.{is_due, slot_at}
use Rattle.gb_bus.proofs.bus.Bus.expire_one.Goals as goal

pub returns-in_err-n-clause-step : goal.returns-in_err-n-clause-step
returns-in_err-n-clause-step c = λ around b s.
    expires-none around c.args.self.now b c.args.now c.from_residual.result s
    (subst (FindsLeast (λ m. is_due c.args.now (slot_at c.args.self.now.slots m))) c.in_err-n.was
    c.first_due.ensures) c.from_residual.ensures

pub returns-clause-step : goal.returns-clause-step
returns-clause-step c = λ around b s.
    expires around c.args.self.now c.expire.new.self b c.args.now c.in_ok-n.n c.expire.result s
    (subst (FindsLeast (λ m. is_due c.args.now (slot_at c.args.self.now.slots m))) c.in_ok-n.was
    c.first_due.ensures) (c.expire.ensures.step around b s)
