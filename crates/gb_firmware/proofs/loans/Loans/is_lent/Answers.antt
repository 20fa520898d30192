-- A look-up tells whether the id is in use.
use Rattle.std.proofs.Common.{ap, sym, ◌∙◌}
use Rattle.std.specs.List.{list_any}
use Rattle.gb_formats.specs.Images.{is_loan}
use Rattle.gb_firmware.proofs.InTurn.{any-lent, once}
use Rattle.gb_firmware.proofs.loans.Loans.is_lent.Goals as goal

pub returns : goal.returns
returns c =
    c.contains_key.ensures
    ∙ sym (any-lent c.args.connection c.args.id c.self.inside.count c.self.inside.lent.entries
    (once c.self.inside.count c.self.inside.lent c.self.invariant) c.self.invariant.below)
    ∙ ap (list_any (is_loan c.args.connection c.args.id)) c.self.view_is
