-- Each turn frees one id of the connection.
use Rattle.std.proofs.Common.{◌==◌, ◌<◌, ap, arith, length, sym, subst, ◌∙◌}
use Rattle.std.proofs.lemmas.Bool.Decides.{nat_tests}
use Rattle.gb_formats.specs.Images.{is_loan}
use Rattle.gb_formats.specs.Lists.{without}
use Rattle.gb_firmware.proofs.Kept.{fewer, none-without, without-both}
use Rattle.gb_firmware.proofs.loans.Loans.forget.Goals as goal

pub loop-id-smaller : goal.loop-id-smaller
loop-id-smaller c =
    subst (λ ls. length ls < length c.loop-id.self) (sym c.free.ensures.freed)
    (fewer (is_loan c.args.connection c.in-Some.id) c.loop-id.self c.in-Some.ensures)

pub loop-id-preserved : goal.loop-id-preserved
loop-id-preserved c =
    ap (without (λ l. l.connection == c.args.connection)) c.free.ensures.freed
    ∙ without-both (is_loan c.args.connection c.in-Some.id)
    (λ l. l.connection == c.args.connection) (λ l h. grind (arith, nat_tests, h)) c.loop-id.self
    ∙ c.loop-id.invariant

pub returns : goal.returns
returns c =
    sym (none-without (λ l. l.connection == c.args.connection) c.loop-id.self
    c.in_default.ensures)
    ∙ c.loop-id.invariant
