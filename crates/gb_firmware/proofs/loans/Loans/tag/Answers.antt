-- A look-up finds the tag.
use Rattle.std.proofs.Common.{ap, sym, ◌∙◌, find, option_copied, option_map}
use Rattle.gb_formats.specs.Images.{is_loan}
use Rattle.gb_firmware.proofs.InTurn.{once, tag-lent}
use Rattle.gb_firmware.proofs.loans.Loans.tag.Goals as goal

pub returns-in_err-lent : goal.returns-in_err-lent
returns-in_err-lent c =
    ap option_copied c.from_residual.ensures
    ∙ ap (option_map (λ v. v.tag)) (sym (ap option_copied c.in_err-lent.was) ∙ c.get.ensures.value)
    ∙ sym (tag-lent c.args.connection c.args.id c.self.inside.count c.self.inside.lent.entries
    (once c.self.inside.count c.self.inside.lent c.self.invariant) c.self.invariant.below)
    ∙ ap (λ ls. option_map (λ l. l.tag) (find (is_loan c.args.connection c.args.id) ls))
    c.self.view_is

pub returns : goal.returns
returns c =
    ap (option_map (λ v. v.tag)) (sym (ap option_copied c.in_ok-lent.was) ∙ c.get.ensures.value)
    ∙ sym (tag-lent c.args.connection c.args.id c.self.inside.count c.self.inside.lent.entries
    (once c.self.inside.count c.self.inside.lent c.self.invariant) c.self.invariant.below)
    ∙ ap (λ ls. option_map (λ l. l.tag) (find (is_loan c.args.connection c.args.id) ls))
    c.self.view_is
