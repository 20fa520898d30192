-- The place is that of the first zero.
use Rattle.std.proofs.Common.{rules, ap, sym, ◌∙◌, take, option_map}
use Rattle.std.proofs.lemmas.Iterator.{YieldsList-from_slice}
use Rattle.std.proofs.lemmas.Iterator.Search.{position_from_yields_List}
use Rattle.gb_firmware.proofs.Lent.{is_zero, matched, spelled_by}
use Rattle.gb_firmware.proofs.images.spelled.Goals as goal

pub returns-in_err-len : goal.returns-in_err-len
returns-in_err-len c =
    matched (λ y. y.now) c.from_residual.result _
    (ap (option_map (λ y. y.now)) c.from_residual.ensures
    ∙ sym (spelled_by c.args.field.now c.position.result
    (position_from_yields_List is_zero _ _ c.position.result c.position.ensures.ran
    (YieldsList-from_slice c.args.field.now cc) (λ x b q k. search rules))
    ∙ ap (option_map (λ n. take n c.args.field.now)) c.in_err-len.was))

pub returns : goal.returns
returns c =
    spelled_by c.args.field.now c.position.result
    (position_from_yields_List is_zero _ _ c.position.result c.position.ensures.ran
    (YieldsList-from_slice c.args.field.now cc) (λ x b q k. search rules))
    ∙ ap (option_map (λ n. take n c.args.field.now)) c.in_ok-len.was
