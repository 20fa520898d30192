-- An id is free, or the next is tried.
use Rattle.std.proofs.Common.{◌-◌, ◌+◌, sym, arith, rules, ◌∙◌, refl}
use Rattle.std.specs.List.{list_any}
use Rattle.gb_formats.specs.Images.{is_loan}
use Rattle.gb_formats.proofs.FirstFree.{free-here, free-next, free-none}
use Rattle.gb_firmware.proofs.loans.Loans.free_id.Goals as goal

pub loop-id-init : goal.loop-id-init
loop-id-init c = refl

pub returns-then-not-is_lent-clause-least : goal.returns-then-not-is_lent-clause-least
returns-then-not-is_lent-clause-least c =
    sym (free-here (λ id. list_any (is_loan c.args.connection id) c.args.self.now)
    (256 - c.loop-id.id) (255 - c.loop-id.id) c.loop-id.id (omega (arith, c.loop-id-test.true))
    (sym c.is_lent.ensures ∙ c.if-not-is_lent.true))
    ∙ c.loop-id.invariant

pub loop-id-preserved : goal.loop-id-preserved
loop-id-preserved c =
    sym (free-next (λ id. list_any (is_loan c.args.connection id) c.args.self.now)
    (256 - c.loop-id.id) (256 - (c.loop-id.id + 1)) c.loop-id.id
    (omega (arith, c.loop-id-test.true))
    (sym c.is_lent.ensures ∙ c.if-not-is_lent.false))
    ∙ c.loop-id.invariant

pub returns-else-not-is_lent-clause-least : goal.returns-else-not-is_lent-clause-least
returns-else-not-is_lent-clause-least c =
    sym (free-next (λ id. list_any (is_loan c.args.connection id) c.args.self.now)
    (256 - c.loop-id.id) (256 - (c.loop-id.id + 1)) c.loop-id.id
    (omega (arith, c.loop-id-test.true))
    (sym c.is_lent.ensures ∙ c.if-not-is_lent.false)
    ∙ free-none (λ id. list_any (is_loan c.args.connection id) c.args.self.now)
    (256 - (c.loop-id.id + 1)) (c.loop-id.id + 1) (search rules))
    ∙ c.loop-id.invariant
